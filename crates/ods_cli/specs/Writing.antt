-- The writing of a text part by part.
use Rattle.std.specs.Prelude.{◌≡◌, ℕ, List, Option}
use Rattle.ods_base.specs.Image.{TookBytes}
use Rattle.ods_cli.specs.declared.fault.ServeFault.{ServeFault}
use Rattle.ods_cli.specs.declared.fault.ServeFault.TheVariants.{Write}

-- a write failed: a writer whose contents were `old` and are `new` took a first part of these bytes, and no more
abbrev pub IsCut : Option (List ℕ) → Option (List ℕ) → List ℕ → ServeFault → Type 0
IsCut old new bytes fault = (fault ≡ Write) × ((count : ℕ) × TookBytes old new bytes count)
