-- Bytes of a host file behind the end of a file: by the words of the command.
use Rattle.std.proofs.Common.{◌≡◌, ℕ, List, Bor, Some, Result, Ok, Err}
use Rattle.std.specs.Prelude.{OnOk, slice_get}
use Rattle.ods_filing.specs.Filed.{Filed}
use Rattle.f11fs.specs.Changed.{AppendsTo, AppendsToFirst}
use Rattle.f11fs.specs.Given.{Bytes, HostGives}

-- the words say the path and the host file
pub to_first : {A E : Type 0} (G : HostGives) (words : List (Bor (List ℕ))) (path host : Bor (List ℕ)) (old new : Filed) (result : Result A E) → slice_get words 0 ≡ Some path → slice_get words 1 ≡ Some host
    → OnOk result (AppendsTo G path.now host.now old new) → OnOk result (AppendsToFirst G words old new)
to_first G words path host old new (Ok a) first second done = (path, (host, first, second, done))
to_first G words path host old new (Err e) first second done = tt
