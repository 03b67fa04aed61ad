-- Backspace and reset as the code has them: what each leaves of a running call.
use Rattle.std.specs.Prelude.{ltb, Err}
use Rattle.rules.specs.declared.Run.{Run}
use Rattle.rules.specs.declared.Refusal.TheVariants.{RightMissing, OutOfRange}
use Rattle.rules.specs.Book.{choose, previous_character, moved_to, with_file, rewound}
use Rattle.rules.specs.Step.{Outcome, done_by, refused_by}

abbrev pub backspaced_by : Run → Outcome
backspaced_by r = choose (ltb 1 r.file.position.character) (done_by (moved_to r (previous_character r.file.position))) (Err (refused_by r OutOfRange))

abbrev pub reset_by : Run → Outcome
reset_by r = choose r.file.rights.reset (done_by (with_file r (rewound r.file))) (Err (refused_by r RightMissing))
