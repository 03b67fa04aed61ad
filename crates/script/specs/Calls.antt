use Rattle.std.specs.Prelude.{ℕ, ◌*◌, min}
use Rattle.script.specs.declared.Get.{Get}
use Rattle.script.specs.declared.Get.TheVariants.{String}
use Rattle.script.specs.declared.Call.{Call}
use Rattle.script.specs.declared.Call.TheVariants.{Get as GetCall, Whole, Differ}

-- how large an output a get lends: only that of a string has one
abbrev pub output_of_get : Get → ℕ
output_of_get (String size terminators) = min size 4096
output_of_get _ = 0

-- how large an output a call lends, and shows: four bytes for each entry of a comparison's list, and none for other calls
abbrev pub output_of : Call → ℕ
output_of (GetCall get) = output_of_get get
output_of (Whole value width size) = min size 4096
output_of (Differ entries) = 4 * min entries 4096
output_of _ = 0
