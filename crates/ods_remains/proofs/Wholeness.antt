-- Which deleted files are whole.
use Rattle.std.proofs.Common.{◌≡◌, ◌≢◌, ◌⊎◌, inl, inr, ℕ, ◌<◌, Bool, true, false, not, refl, sym, ap, List, length, get_or, Option, Some, None, arith, ◌∙◌}
use Rattle.std.specs.Prelude.{nat_eq, MatchBool}
use Rattle.std.specs.List.{All, Contains, IsDistinct, filter}
use Rattle.std.proofs.lemmas.Bool.{cases_lt}
use Rattle.std.proofs.lemmas.List.Elements.{All-filter, Contains-get_or, filter_passes}
use Rattle.ods_base.proofs.Filters.{contains_filter}
use Rattle.ods_space.specs.Free.{is_free_block}
use Rattle.ods_space.specs.Layout.{VolumeLayout}
use Rattle.ods_remains.specs.Deleted.{counted, used_again}
use Rattle.ods_remains.specs.Shared.{IsSharer, IsWhole}
use Rattle.ods_remains.specs.Summary.{IsSharerOrSelf}

-- none fails a test where the list of those that fail it is empty
none_fails : (p : ℕ → Bool) (xs : List ℕ) → length (filter (λ x. not (p x)) xs) ≡ 0 → (k d : ℕ) → k < length xs → (b : Bool) → p (get_or xs k d) ≡ b → p (get_or xs k d) ≡ true
none_fails p xs none k d below true is = is
none_fails p xs none k d below false is =
    let has : Contains (filter (λ x. not (p x)) xs) (get_or xs k d) = contains_filter (λ x. not (p x)) xs (get_or xs k d) (Contains-get_or xs k d below) (ap not is) in
    let some = has.1 in
    absurd (omega (arith, some, none))

-- and it is empty where none fails
all_pass : (p : ℕ → Bool) (xs : List ℕ) → All (λ x. p x ≡ true) xs → length (filter (λ x. not (p x)) xs) ≡ 0
all_pass p xs all = elim (cases_lt 0 (length (filter (λ x. not (p x)) xs))) [
  | inl some ↦
      let passes = All-filter (λ x. not (p x)) (λ x. p x ≡ true) xs all 0 0 some in
      let fails = filter_passes (λ x. not (p x)) xs 0 0 some in
      let clash : false ≡ true = sym (ap not passes) ∙ fails in
      absurd (cc)
  | inr none ↦ omega (arith, none)
]

-- a test that answers for one thing answers for another that is so just where it is
pub answers_for : (b : Bool) (P Q : Type 0) → (P → Q) → (Q → P) → MatchBool b P (¬ P) → MatchBool b Q (¬ Q)
answers_for true P Q to from it = to it
answers_for false P Q to from it = λ q. it (from q)

module _ (I : List (List ℕ)) (L : VolumeLayout) (n : ℕ) (blocks : List ℕ) (cut : Bool) where
  -- no header is missing, no block is used again, and no file names a block, too
  abbrev pub has_all : ℕ → Option ℕ → Type 0
  has_all used sharer = (cut ≡ false) × (used ≡ 0) × (sharer ≡ None)

  none_shared : (sharer : Option ℕ) → sharer ≡ None → IsSharerOrSelf I L n blocks sharer → IsSharer I L n blocks None × IsDistinct nat_eq blocks
  none_shared None is so = so
  none_shared (Some m) is so = absurd (cc)

  pub whole_from : (used : ℕ) (sharer : Option ℕ) → used ≡ counted (used_again I L blocks) → IsSharerOrSelf I L n blocks sharer → has_all used sharer → IsWhole I L n blocks cut
  whole_from used sharer total shared all =
      let alone = none_shared sharer all.2 shared in
      let none : used_again I L blocks ≡ 0 = let zero = all.1 in omega (arith, total, zero) in
      record {
        complete = all.0;
        free = λ k d below. none_fails (is_free_block I L) blocks none k d below (is_free_block I L (get_or blocks k d)) refl;
        once = alone.1;
        alone = alone.0;
      }

  none_shares : (sharer : Option ℕ) → IsWhole I L n blocks cut → IsSharerOrSelf I L n blocks sharer → sharer ≡ None
  none_shares None whole shared = refl
  none_shares (Some m) whole (inl other) = absurd (other.0 (whole.alone m other.1 other.2 other.3))
  none_shares (Some m) whole (inr twice) = absurd (twice.2 whole.once)

  pub whole_to : (used : ℕ) (sharer : Option ℕ) → used ≡ counted (used_again I L blocks) → IsSharerOrSelf I L n blocks sharer → IsWhole I L n blocks cut → has_all used sharer
  whole_to used sharer total shared whole =
      let none : used_again I L blocks ≡ 0 = all_pass (is_free_block I L) blocks whole.free in
      (whole.complete, omega (arith, total, none), none_shares sharer whole shared)
