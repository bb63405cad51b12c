-- Lines of findings.
use Rattle.std.proofs.Common.{◌≡◌, ℕ, zero, suc, List, [], ◌∷◌, ◌++◌, refl}
use Rattle.std.specs.Prelude.{codes}
use Rattle.std.specs.Fmt.{decimal}
use Rattle.fs_reads.specs.Shown.{findings_line}

pub many_findings : (n : ℕ) → ¬ (n ≡ 0) → ¬ (n ≡ 1) → decimal n ++ (codes " findings that a mount does not refuse; check --all lists them" ++ 10 ∷ []) ≡ findings_line n
many_findings zero a b = absurd (a refl)
many_findings (suc zero) a b = absurd (b refl)
many_findings (suc (suc n)) a b = refl
