-- What a call hands back in numbers, and leaves in a book that is lent to it.
use Rattle.std.specs.Prelude.{ℕ, List}
use Rattle.rules.specs.declared.File.{File}
use Rattle.rules.specs.Calls.{After}
use Rattle.places.specs.declared.BookRef.{BookRef}
use Rattle.places.specs.declared.BookMut.{BookMut}
use Rattle.numbers.specs.declared.CallResult.{CallResult}
use Rattle.numbers.specs.Numbers.{after_numbers}

abbrev pub numbers_over : File → CallResult → List ℕ → BookMut → After
numbers_over f r output b = after_numbers f r output b.text.now b.lines.now b.pages.now

-- the same of a book that is lent to be read
abbrev pub numbers_shared : File → CallResult → List ℕ → BookRef → After
numbers_shared f r output b = after_numbers f r output b.text.now b.lines.now b.pages.now
