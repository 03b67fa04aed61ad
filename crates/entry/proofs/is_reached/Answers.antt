use native.Mathlib.Omega.{arith}
use Rattle.rules.specs.Book.{lengths}
use Rattle.entry.proofs.Tests.{within_places, reached_low, reached_same, reached_line, reached_page, earlier_line, earlier_page, reached_other}
use Rattle.entry.proofs.is_reached.Goals as goal
use Rattle.entry.proofs.is_reached.Goals.{then-position-end+else-position-end-2+else-end-position, else-position-end+else-end-position-2}

pub returns-then-position-lt1 : goal.returns-then-position-lt1
returns-then-position-lt1 c = reached_low c.args.shape (lengths c.args.lines.now c.args.pages.now) c.args.position c.args.end c.if-position-lt1.true

pub returns-then-position-end-2 : goal.returns-then-position-end-2
returns-then-position-end-2 c = reached_same c.args.shape (lengths c.args.lines.now c.args.pages.now) c.args.position c.args.end c.requires.end_in_bounds (omega (arith, c.if-position-lt1.false)) c.if-position-end.true c.if-position-end-2.true

pub returns-then-end-position : goal.returns-then-end-position
returns-then-end-position c = reached_line c.args.shape (lengths c.args.lines.now c.args.pages.now) c.args.position c.args.end c.if-position-end.true c.if-end-position.true

pub returns-then-end-position-2 : goal.returns-then-end-position-2
returns-then-end-position-2 c = reached_page c.args.shape (lengths c.args.lines.now c.args.pages.now) c.args.position c.args.end c.if-end-position-2.true

pub places_on-requires : goal.places_on-requires
places_on-requires c = c.requires.lent

pub returns : goal.returns
returns c = reached_other c.args.shape (lengths c.args.lines.now c.args.pages.now) c.args.position c.args.end (elim c.if-position-end.branch [ then-position-end+else-position-end-2+else-end-position w ↦ earlier_line c.args.shape (lengths c.args.lines.now c.args.pages.now) c.args.position c.args.end w.if-position-end.true w.if-position-end-2.false w.if-end-position.false | else-position-end+else-end-position-2 w ↦ earlier_page c.args.shape (lengths c.args.lines.now c.args.pages.now) c.args.position c.args.end w.if-position-end.false w.if-end-position-2.false ]) (within_places c.args.shape (lengths c.args.lines.now c.args.pages.now) c.args.position (omega (arith, c.if-position-lt1.false)) c.places_on.ensures.0)
