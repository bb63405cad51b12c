-- Whether a path names a file.
use Rattle.std.proofs.Common.{◌≡◌, ◌≢◌, true, refl, Option, Some, None, MatchOption, is_some}
use Rattle.ods_base.specs.declared.file_id.FileId.{FileId}
use Rattle.ods_shell.specs.declared.facts.Facts.{Facts}

-- the path names a file, or there is none
pub named_or_not : (Are : Facts → Type 0) (file : FileId) (found : Option Facts) → MatchOption found ((facts : Facts) → Are facts → facts.file ≢ file) (λ facts. Are facts × (facts.file ≡ file))
    → ((facts : Facts) × (Are facts × (facts.file ≡ file))) → is_some found ≡ true
named_or_not Are file (Some facts) is named = refl
named_or_not Are file None none named = absurd (none named.0 named.1.0 named.1.1)
