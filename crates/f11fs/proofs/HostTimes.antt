-- The times of host files.
use Rattle.std.proofs.Common.{◌⊎◌, ℕ, List, Option, Some, None, false, inr}
use Rattle.std.specs.Prelude.{IfSome}
use Rattle.fs_host.specs.Times.{IsStampAt}
use Rattle.f11fs.specs.Dated.{IsHostTime}

-- the local time at a second is one of a host file
pub time_of_host : (run : List ℕ) (r : Option (List ℕ)) → IfSome r (λ stamp. (second : ℕ) × IsStampAt second stamp) → IfSome r (IsHostTime false run)
time_of_host run None is = tt
time_of_host run (Some stamp) is = inr is

-- the local time at this second is one at some second
pub at_some_second : (second : ℕ) (r : Option (List ℕ)) → IfSome r (IsStampAt second) → IfSome r (λ stamp. (n : ℕ) × IsStampAt n stamp)
at_some_second second None is = tt
at_some_second second (Some stamp) is = (second, is)
