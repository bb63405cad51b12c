-- Parts of lists: what a list of headers or of runs names, seen at one of them.
use Rattle.std.proofs.Common.{◌≡◌, ℕ, ◌+◌, ◌-◌, ◌<◌, ◌≤◌, List, ◌∷◌, ◌++◌, length, take, drop, slice_get, Some, inl, inr, sym, ap, ◌∙◌, subst, arith}
use Rattle.std.specs.List.{Contains, flat_map}
use Rattle.std.proofs.lemmas.List.{drop_more, take-append-drop}
use Rattle.std.proofs.lemmas.List.Concat.{flat_map-append}
use Rattle.std.proofs.lemmas.List.Elements.{Contains-append_cases}
use Rattle.std.proofs.lemmas.List.FromFn.{length-range_with_len, get_or-range_with_len}
use Rattle.std.proofs.lemmas.Option.{slice_get_within, get_or_from_slice_get}
use Rattle.ods_header.specs.declared.header.Run.{Run}
use Rattle.ods_header.specs.Header.{run_blocks, runs_of, blocks_of}
use Rattle.ods_space.proofs.Surveys.{slice_get-append_left, first_blocks, first_blocks_more, slice_get-append_right, slice_get-run_blocks}

-- an element of a part
pub part_at : (whole front xs rest : List ℕ) (j b : ℕ) → whole ≡ front ++ (xs ++ rest) → slice_get xs j ≡ Some b → slice_get whole (length front + j) ≡ Some b
part_at whole front xs rest j b parts at =
    let within = slice_get_within xs j b at in
    ap (λ l. slice_get l (length front + j)) parts ∙ slice_get-append_right front (xs ++ rest) j ∙ slice_get-append_left xs rest j within ∙ at

-- a list has the elements that it has at a place
pub contains_at : (xs : List ℕ) (i x : ℕ) → slice_get xs i ≡ Some x → Contains xs x
contains_at xs i x at = (i, slice_get_within xs i x at, get_or_from_slice_get xs i x x at)

-- what a list of parts makes is what those before a part make, that part, and the rest
pub split_at : {A : Type 0} (f : A → List ℕ) (xs : List A) (i : ℕ) (x : A) → slice_get xs i ≡ Some x → (rest : List ℕ) × (flat_map f xs ≡ flat_map f (take i xs) ++ (f x ++ rest))
split_at f xs i x at =
    let within = slice_get_within xs i x at in
    let cut : xs ≡ take i xs ++ x ∷ drop (i + 1) xs =
    sym (take-append-drop i xs) ∙ ap (λ l. take i xs ++ l) (drop_more xs i x within ∙ ap (λ y. y ∷ drop (i + 1) xs) (get_or_from_slice_get xs i x x at)) in
    (flat_map f (drop (i + 1) xs), ap (flat_map f) cut ∙ flat_map-append f (take i xs) (x ∷ drop (i + 1) xs))

-- a header names the blocks of its runs
pub named_in_run : (b : List ℕ) (k lbn : ℕ) (r : Run) → slice_get (runs_of b) k ≡ Some r → r.lbn ≤ lbn → lbn < r.lbn + r.count → Contains (blocks_of b) lbn
named_in_run b k lbn r is low high =
    let j : ℕ = lbn - r.lbn in
    let e : r.lbn + j ≡ lbn = omega arith in
    let at : slice_get (run_blocks r) j ≡ Some lbn = slice_get-run_blocks r j (omega arith) ∙ ap Some e in
    let parts = split_at run_blocks (runs_of b) k r is in
    contains_at (blocks_of b) (length (first_blocks b k) + j) lbn (part_at (blocks_of b) (first_blocks b k) (run_blocks r) parts.0 j lbn parts.1 at)

-- and with one run more no others
pub not_in_run : (b : List ℕ) (k lbn : ℕ) (r : Run) → slice_get (runs_of b) k ≡ Some r → ¬ Contains (first_blocks b k) lbn → ¬ ((r.lbn ≤ lbn) × (lbn < r.lbn + r.count)) → ¬ Contains (first_blocks b (k + 1)) lbn
not_in_run b k lbn r is before out named =
    let P : List ℕ → Type 0 = λ l. Contains l lbn in
    elim (Contains-append_cases (first_blocks b k) (run_blocks r) lbn (subst P (first_blocks_more b k r is) named)) [
      | inl x ↦ before x
      | inr (j, within, found) ↦
          let size = length-range_with_len r.lbn r.count in
          let few : j < r.count = omega arith in
          let place = get_or-range_with_len r.lbn r.count j lbn few in
          let e : r.lbn + j ≡ lbn = sym place ∙ found in
          out (omega arith, omega arith)
    ]
