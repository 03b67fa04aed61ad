use Rattle.differs.proofs.Lines.{none_noted, first_noted, second_noted, both_noted}
use Rattle.differs.proofs.Books.note_line.Goals as goal

pub returns-in-None-None : goal.returns-in-None-None
returns-in-None-None c = none_noted c.args.page c.args.line c.args.tally.now c.in-None-None.ensures.line c.in-None-None.ensures'.line

pub returns-in-None-Some : goal.returns-in-None-Some
returns-in-None-Some c = second_noted c.args.page c.args.line c.args.tally.now c.in-None-Some.ys.now c.note.ensures c.in-None-Some.ensures.line c.in-None-Some.ensures'.line

pub returns-in-Some-None : goal.returns-in-Some-None
returns-in-Some-None c = first_noted c.args.page c.args.line c.args.tally.now c.in-Some-None.xs.now c.note-in-Some-None.ensures c.in-Some-None.ensures.line c.in-Some-None.ensures'.line

pub returns-in-Some-Some : goal.returns-in-Some-Some
returns-in-Some-Some c = both_noted c.args.page c.args.line c.args.tally.now c.in-Some-Some.ensures.line c.in-Some-Some.ensures'.line c.note_runs.ensures
