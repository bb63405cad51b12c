-- Chains of headers that are still present. The index of a header is an LBN or a number.
use Rattle.std.specs.Prelude.{◌≡◌, ℕ, Bool, not, ◌==◌, List, [], ◌∷◌}
use Rattle.std.specs.List.{flat_map}
use Rattle.ods_header.specs.Header.{next_number_of, blocks_of}

-- The chain continues from the header at this index to the headers at these indices. Each is the next one of the header before it, and the last has
-- no next one. The chain is cut if the last header names a header nevertheless.
abbrev pub GoesAlong : (ℕ → List ℕ) → (ℕ → ℕ → Type 0) → (ℕ → ℕ → Type 0) → ℕ → List ℕ → Bool → Type 0
GoesAlong block Leads IsNext at [] cut = ((c : ℕ) → ¬ Leads at c) × (cut ≡ not (next_number_of (block at) == 0))
GoesAlong block Leads IsNext at (next ∷ rest) cut = IsNext at next × GoesAlong block Leads IsNext next rest cut

-- the LBNs that the headers at these indices name, in the order of the headers
abbrev pub named_at : (ℕ → List ℕ) → List ℕ → List ℕ
named_at block headers = flat_map (λ at. blocks_of (block at)) headers
