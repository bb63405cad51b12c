use Rattle.std.proofs.Common.{◌⊎◌, ℕ, List, inr}
use Rattle.std.specs.Prelude.{⊤}
use Rattle.f11fs.specs.Stores.{ImageStays}
use Rattle.f11fs.proofs.Storing.{on_err_holds}
use Rattle.f11fs.proofs.store.OnHostStore.save.Goals as goal

pub returns-clause-kept : goal.returns-clause-kept
returns-clause-kept g c = on_err_holds (ImageStays (λ blocks. ⊤) (λ blocks. ⊤) ⊎ ⊤) c.save.result (inr tt)
