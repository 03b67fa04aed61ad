use Rattle.std.proofs.Common.{◌==◌, length, ap, sym, ◌∙◌}
use Rattle.std.proofs.lemmas.List.Splits.{length-slice_split}
use Rattle.console.specs.Words.{words_of}
use Rattle.console.proofs.Words.count_left.Goals as goal

pub returns-in-Some : goal.returns-in-Some
returns-in-Some c = c.word_count.ensures ∙ sym (length-slice_split (λ b. b == 32) c.in-Some.rest.now) ∙ sym (ap (λ o. length (words_of o)) c.in-Some.is)
