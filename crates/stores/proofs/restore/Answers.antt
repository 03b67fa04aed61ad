use Rattle.stores.proofs.Blanks.{kept_whole, kept_beyond, kept_here, came_back_lem}
use borrow.Author.Tests.{not-true, not-false}
use mathlib.Core.Path.{sym, ◌∙◌}
use Rattle.stores.proofs.restore.Goals as goal
use Rattle.stores.proofs.restore.Goals.{then-not-run-via-then-not-run, then-not-run-via-else-not-run+then-is_before, then-not-run-via-else-not-run+else-is_before+then-not-goes_back}

pub returns-then-not-run : goal.returns-then-not-run
returns-then-not-run c = elim c.then-not-run.branch [
  | then-not-run-via-then-not-run w ↦ kept_whole c.args.run.file.shape c.args.run.file.rights c.args.run.end c.args.x _ (not-true _ w.if-not-run.true)
  | then-not-run-via-else-not-run+then-is_before w ↦ kept_beyond c.args.run.file.shape c.args.run.file.rights c.args.run.end c.args.x _ (sym w.is_before.ensures ∙ w.if-is_before.true)
  | then-not-run-via-else-not-run+else-is_before+then-not-goes_back w ↦ kept_here c.args.run.file.shape c.args.run.file.rights c.args.run.end c.args.x _ (sym w.is_before.ensures ∙ w.if-is_before.false) (sym w.goes_back.ensures ∙ w.if-not-goes_back.true)
]

pub returns : goal.returns
returns c = came_back_lem c.args.run.file.shape c.args.run.file.rights c.args.run.end c.args.x _ (not-false _ c.if-not-run.false) (sym c.is_before.ensures ∙ c.if-is_before.false) (sym c.goes_back.ensures ∙ c.if-not-goes_back.false) c.line_index-i.ensures.0 c.all_from.ensures c.all_from-2.ensures
