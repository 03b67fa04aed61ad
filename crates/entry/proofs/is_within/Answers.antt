use Rattle.rules.specs.Book.{lengths}
use Rattle.entry.proofs.Tests.{within_places, below_places}
use Rattle.entry.proofs.is_within.Goals as goal

pub returns-then-to-lt1 : goal.returns-then-to-lt1
returns-then-to-lt1 c = below_places c.args.shape (lengths c.args.lines.now c.args.pages.now) c.args.to c.if-to-lt1.true

pub places_on-requires : goal.places_on-requires
places_on-requires c = c.requires

pub returns : goal.returns
returns c = within_places c.args.shape (lengths c.args.lines.now c.args.pages.now) c.args.to c.if-to-lt1.false c.places_on.ensures.0
