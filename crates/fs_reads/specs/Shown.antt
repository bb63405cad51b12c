-- The texts that commands show.
use Rattle.std.specs.Prelude.{◌≡◌, ℕ, zero, suc, List, [], ◌∷◌, ◌++◌, Bool, true, None, codes}
use Rattle.fs_reads.specs.declared.progress.Progress.{Progress}
use Rattle.std.specs.Fmt.{decimal}

-- the text has its earlier contents, and then more
abbrev pub Extends : List ℕ → List ℕ → Type 0
Extends old new = (more : List ℕ) × (new ≡ old ++ more)

-- the text for this number of findings on an image that a mount accepts
abbrev pub findings_line : ℕ → List ℕ
findings_line zero = []
findings_line (suc zero) = codes "1 finding that a mount does not refuse; check --all lists it" ++ 10 ∷ []
findings_line (suc (suc n)) = decimal (suc (suc n)) ++ (codes " findings that a mount does not refuse; check --all lists them" ++ 10 ∷ [])

-- if no line was printed, none was printed before
abbrev pub StaysSaid : Bool → Bool → Type 0
StaysSaid old new = new ≡ true → old ≡ true

-- nobody sees the progress
abbrev pub IsUnseen : Progress → Type 0
IsUnseen progress = progress.start ≡ None
