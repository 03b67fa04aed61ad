use Rattle.std.proofs.Common.{◌==◌, length, ap, sym, ◌∙◌, arith}
use Rattle.console.specs.Words.{words_of}
use Rattle.console.proofs.WordLemmas.{split_found, split_not_found}
use Rattle.console.proofs.WordsIterator.next.Goals as goal

pub returns-in-Some-clause-steps : goal.returns-in-Some-clause-steps
returns-in-Some-clause-steps c = ap words_of c.in_ok-rest.was ∙ split_found (λ b. b == 32) c.in_ok-rest.rest.now c.in-Some.end (sym c.in-Some.ensures)

pub returns-in-Some-clause-goes : goal.returns-in-Some-clause-goes
returns-in-Some-clause-goes c = record {
  on = λ h. (tt, tt, omega (arith, ap length (returns-in-Some-clause-steps c)));
  keeps = tt;
  rests = λ h. tt;
}

pub returns-in-None-clause-steps : goal.returns-in-None-clause-steps
returns-in-None-clause-steps c = ap words_of c.in_ok-rest.was ∙ split_not_found (λ b. b == 32) c.in_ok-rest.rest.now (sym c.in-None.ensures)

pub returns-in-None-clause-goes : goal.returns-in-None-clause-goes
returns-in-None-clause-goes c = record {
  on = λ h. (tt, tt, omega (arith, ap length (returns-in-None-clause-steps c)));
  keeps = tt;
  rests = λ h. tt;
}
