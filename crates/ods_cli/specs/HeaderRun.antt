-- The end of a run that prints one header.
use Rattle.std.specs.Prelude.{ℕ, Bool, List, Option, Result}
use Rattle.ods_cli.specs.declared.fault.ServeFault.{ServeFault}
use Rattle.ods_cli.specs.HeaderReply.{IsImageReply}
use Rattle.ods_cli.specs.Run.{EndsRun}

-- the end of a run that prints header n
abbrev pub EndsHeaderRun : List ℕ → Option (List ℕ) → ℕ → Option (List ℕ) → Option (List ℕ) → Result Bool ServeFault → Type 0
EndsHeaderRun bytes rest n old new result = EndsRun (IsImageReply n) bytes rest old new result
