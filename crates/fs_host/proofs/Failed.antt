-- What holds of a call that fails, or does not.
use Rattle.std.proofs.Common.{Result, Ok, Err, OnErr}
use Rattle.std.specs.Prelude.{OnOk}

-- what holds is promised for Err
pub on_err : {A E P : Type 0} (result : Result A E) → P → OnErr result P
on_err (Ok x) holds = tt
on_err (Err fault) holds = holds

-- what holds is promised for Ok
pub on_ok : {A E P : Type 0} (result : Result A E) → P → OnOk result P
on_ok (Ok x) holds = holds
on_ok (Err fault) holds = tt
