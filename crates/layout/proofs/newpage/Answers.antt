use lib.ListN.{length}
use mathlib.Core.Path.{◌≡◌}
use Rattle.places.proofs.Shared.{back}
use Rattle.rules.specs.Book.{state}
use Rattle.begins.specs.Begin.{in_mood_by}
use mathlib.Core.Path.{sym, ◌∙◌}
use mathlib.Core.Bool.{Bool}
use Rattle.rules.specs.Steps.{Action, newpage, execute}
use Rattle.layout.proofs.Moods.{mood_ready, mood_refused, mood_worked, newpage_is}
use Rattle.layout.proofs.newpage.Goals as goal

pub newpage-requires : goal.newpage-requires
newpage-requires c = mood_ready c.args.row.now c.args.file c.args.end c.args.book.now.text.now c.args.book.now.lines.now c.args.book.now.pages.now c.start-start.ensures (back (λ t l p. c.in_mood.result ≡ in_mood_by c.args.row.now (length t) (state c.start-start.result l p)) c.shared.ensures c.in_mood.ensures) c.in-Ok.is (Action.newpage c.args.file.reading)

pub returns-in-Ok-clause-answer : goal.returns-in-Ok-clause-answer
returns-in-Ok-clause-answer c = mood_worked c.args.row.now c.args.file c.args.end c.args.book.now.text.now c.args.book.now.lines.now c.args.book.now.pages.now c.start-start.ensures (back (λ t l p. c.in_mood.result ≡ in_mood_by c.args.row.now (length t) (state c.start-start.result l p)) c.shared.ensures c.in_mood.ensures) (λ (reading : Bool). execute c.args.row.now (newpage reading)) c.in-Ok.is c.newpage.result _ _ _ c.newpage.ensures.outcome c.ended.ensures ∙ sym (newpage_is c.args.row.now c.args.file c.args.end c.args.book.now.text.now c.args.book.now.lines.now c.args.book.now.pages.now)

pub returns-in-Err-clause-answer : goal.returns-in-Err-clause-answer
returns-in-Err-clause-answer c = mood_refused c.args.row.now c.args.file c.args.end c.args.book.now.text.now c.args.book.now.lines.now c.args.book.now.pages.now c.start-start.ensures (back (λ t l p. c.in_mood.result ≡ in_mood_by c.args.row.now (length t) (state c.start-start.result l p)) c.shared.ensures c.in_mood.ensures) (λ (reading : Bool). execute c.args.row.now (newpage reading)) c.in-Err.is c.ended-in-Err.ensures ∙ sym (newpage_is c.args.row.now c.args.file c.args.end c.args.book.now.text.now c.args.book.now.lines.now c.args.book.now.pages.now)
