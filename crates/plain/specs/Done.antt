-- The reply of a call that is done and signalled nothing.
use Rattle.rules.specs.declared.Position.{Position}
use Rattle.rules.specs.declared.File.{File}
use Rattle.rules.specs.Calls.{Reply}
use Rattle.rules.specs.Book.{run_with}
use Rattle.rules.specs.Step.{done_by}
use Rattle.entry.specs.Before.{ended_reply}

abbrev pub done_reply : File → Position → Reply
done_reply f x = ended_reply (done_by (run_with f x 0 0))
