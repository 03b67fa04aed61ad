use lib.ListN.{length}
use mathlib.Core.Path.{◌≡◌}
use Rattle.places.proofs.Shared.{back}
use Rattle.rules.specs.Book.{state}
use Rattle.begins.specs.Begin.{in_mood_by}
use mathlib.Core.Path.{sym, ◌∙◌}
use mathlib.Core.Bool.{Bool}
use Rattle.rules.specs.Steps.{Action, set_character_number, execute}
use Rattle.layout.proofs.Moods.{mood_ready, mood_refused, mood_worked, number_is}
use Rattle.layout.proofs.set_character_number.Goals as goal

pub set_character_number-requires : goal.set_character_number-requires
set_character_number-requires c = mood_ready c.args.row.now c.args.file c.args.end c.args.book.now.text.now c.args.book.now.lines.now c.args.book.now.pages.now c.start-start.ensures (back (λ t l p. c.in_mood.result ≡ in_mood_by c.args.row.now (length t) (state c.start-start.result l p)) c.shared.ensures c.in_mood.ensures) c.in-Ok.is (Action.set_character_number c.args.file.reading c.args.n)

pub returns-in-Ok-clause-answer : goal.returns-in-Ok-clause-answer
returns-in-Ok-clause-answer c = mood_worked c.args.row.now c.args.file c.args.end c.args.book.now.text.now c.args.book.now.lines.now c.args.book.now.pages.now c.start-start.ensures (back (λ t l p. c.in_mood.result ≡ in_mood_by c.args.row.now (length t) (state c.start-start.result l p)) c.shared.ensures c.in_mood.ensures) (λ (reading : Bool). execute c.args.row.now (set_character_number reading c.args.n)) c.in-Ok.is c.set_character_number.result _ _ _ c.set_character_number.ensures.outcome c.ended.ensures ∙ sym (number_is c.args.row.now c.args.file c.args.end c.args.book.now.text.now c.args.book.now.lines.now c.args.book.now.pages.now c.args.n)

pub returns-in-Err-clause-answer : goal.returns-in-Err-clause-answer
returns-in-Err-clause-answer c = mood_refused c.args.row.now c.args.file c.args.end c.args.book.now.text.now c.args.book.now.lines.now c.args.book.now.pages.now c.start-start.ensures (back (λ t l p. c.in_mood.result ≡ in_mood_by c.args.row.now (length t) (state c.start-start.result l p)) c.shared.ensures c.in_mood.ensures) (λ (reading : Bool). execute c.args.row.now (set_character_number reading c.args.n)) c.in-Err.is c.ended-in-Err.ensures ∙ sym (number_is c.args.row.now c.args.file c.args.end c.args.book.now.text.now c.args.book.now.lines.now c.args.book.now.pages.now c.args.n)
