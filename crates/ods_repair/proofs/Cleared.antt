-- Bits of the storage bitmap that are cleared one after another.
use Rattle.std.proofs.Common.{◌≡◌, ℕ, ◌+◌, ◌/◌, ◌%◌, ◌<◌, Bool, true, false, cond, ◌||◌, nat_eq, IsTrue, List, [], ◌∷◌, ◌++◌, length, take, get_or, Some, refl, sym, ap, ◌∙◌, subst, arith, inl, inr}
use Rattle.std.specs.Prelude.{◌⊎◌, slice_set}
use Rattle.std.proofs.Math.Bool.{or-false}
use Rattle.std.proofs.lemmas.Bool.{cases_eq, eq-eqb, ne_eqb, ltb-true, or_right}
use Rattle.std.proofs.lemmas.List.{get_or-set_other, get_or-set_same, length-set, take_more}
use Rattle.std.proofs.lemmas.List.Folds.{list_any-append, list_any_none}
use Rattle.std.proofs.lemmas.List.Elements.{All-cons, All-nil}
use Rattle.std.proofs.lemmas.Option.{slice_get-get_or}
use Rattle.ods_base.specs.Bits.{HasBit}
use Rattle.ods_base.specs.Block.{has_bit}
use Rattle.ods_base.specs.Image.{block_at}
use Rattle.ods_space.specs.Layout.{VolumeLayout}
use Rattle.ods_space.specs.Free.{is_covered}
use Rattle.ods_alloc.specs.Extend.{IsStorageBitmap, is_one_of}
use Rattle.ods_alloc.specs.Marks.{MarksBlocks, PutsBit, block_bit}
use Rattle.ods_alloc.proofs.ManyBits.{none_marked, one_is}
use Rattle.ods_alloc.proofs.Places.{stands_in_storage}
use Rattle.ods_repair.specs.Spare.{AreOnce}

-- a block of the image whose bit is put
pub put_in : (I : List (List ℕ)) (lbn i : ℕ) (value : Bool) (b : List ℕ) → lbn < length I → HasBit (block_at I lbn) i value b → PutsBit I lbn i value (slice_set I lbn b)
put_in I lbn i value b inside bit = record {
  size = length-set I lbn b;
  bit = subst (HasBit (block_at I lbn) i value) (sym (get_or-set_same I lbn b [] inside)) bit;
  others = λ k other. get_or-set_other I lbn k b [] other;
}

is_last : (xs : List ℕ) (x y : ℕ) → y ≡ x → is_one_of (xs ++ x ∷ []) y ≡ true
is_last xs x y same = list_any-append (λ z. nat_eq z y) xs (x ∷ []) ∙ or_right (is_one_of xs y) _ (one_is x y same)

not_last : (xs : List ℕ) (x y : ℕ) → (y ≡ x → ⊥) → is_one_of (xs ++ x ∷ []) y ≡ is_one_of xs y
not_last xs x y other =
    let none : is_one_of (x ∷ []) y ≡ false = list_any_none (λ z. nat_eq z y) (x ∷ []) (All-cons (λ z. nat_eq z y ≡ false) x [] (ne_eqb x y (λ e. other (sym e))) (All-nil (λ z. nat_eq z y ≡ false))) in
    list_any-append (λ z. nat_eq z y) xs (x ∷ []) ∙ ap (λ t. is_one_of xs y || t) none ∙ or-false (is_one_of xs y)

-- the bit of this block is cleared, where the bitmap covers it
abbrev pub ClearsOne : List (List ℕ) → VolumeLayout → ℕ → List (List ℕ) → Type 0
ClearsOne I L x J = (IsTrue (is_covered L x) × PutsBit I (block_bit L x).0 (block_bit L x).1 false J) ⊎ ((¬ IsTrue (is_covered L x)) × (J ≡ I))

module _ (I : List (List ℕ)) (L : VolumeLayout) (once : AreOnce L.bitmap) where
  pub none_cleared : MarksBlocks I L [] false I
  none_cleared = none_marked (λ x. IsTrue (is_covered L x)) (IsStorageBitmap L) (block_bit L) I false

  -- two blocks do not share a bit
  one_bit : (y x : ℕ) → IsTrue (is_covered L y) → IsTrue (is_covered L x) → block_bit L y ≡ block_bit L x → y ≡ x
  one_bit y x a b same =
      let low : 1 + y / 4096 < length L.bitmap = ltb-true (1 + y / 4096) (length L.bitmap) a in
      let too : 1 + x / 4096 < length L.bitmap = ltb-true (1 + x / 4096) (length L.bitmap) b in
      let block : 1 + y / 4096 ≡ 1 + x / 4096 = once (1 + y / 4096) (1 + x / 4096) (block_bit L x).0 (slice_get-get_or L.bitmap (1 + y / 4096) 0 low ∙ ap (λ p. Some p.0) same) (slice_get-get_or L.bitmap (1 + x / 4096) 0 too) in
      let within : y % 4096 ≡ x % 4096 = ap (λ p. p.1) same in
      omega (arith, block, within)

  module _ (J K : List (List ℕ)) (xs : List ℕ) (x : ℕ) (before : MarksBlocks I L xs false J) where
    abbrev was : Bool → ℕ → Bool
    was t y = cond t false (has_bit (block_at I (block_bit L y).0) (block_bit L y).1)

    pub one_cleared : ClearsOne J L x K → MarksBlocks I L (xs ++ x ∷ []) false K
    one_cleared (inr (past, same)) = record {
      size = ap length same ∙ before.size;
      bits = λ y covered. ap (λ M. has_bit (block_at M (block_bit L y).0) (block_bit L y).1) same ∙ before.bits y covered
          ∙ ap (λ t. was t y) (sym (not_last xs x y (λ e. past (subst (λ z. IsTrue (is_covered L z)) e covered))));
      others = λ lbn away. ap (λ M. block_at M lbn) same ∙ before.others lbn away;
    }
    one_cleared (inl (here, put)) = record {
      size = put.size ∙ before.size;
      bits = λ y covered. elim (cases_eq y x) [
        | inl same ↦
            ap (λ z. has_bit (block_at K (block_bit L z).0) (block_bit L z).1) same ∙ put.bit (block_bit L x).1
            ∙ ap (λ t. cond t false (has_bit (block_at J (block_bit L x).0) (block_bit L x).1)) (eq-eqb (block_bit L x).1 (block_bit L x).1 refl)
            ∙ ap (λ t. was t y) (sym (is_last xs x y same))
        | inr other ↦ stays y covered other ∙ before.bits y covered ∙ ap (λ t. was t y) (sym (not_last xs x y other))
      ];
      others = λ lbn away. put.others lbn (λ e. away (subst (IsStorageBitmap L) (sym e) (stands_in_storage L x (ltb-true (1 + x / 4096) (length L.bitmap) here)))) ∙ before.others lbn away;
    }
      where
        stays : (y : ℕ) → IsTrue (is_covered L y) → (y ≡ x → ⊥) → has_bit (block_at K (block_bit L y).0) (block_bit L y).1 ≡ has_bit (block_at J (block_bit L y).0) (block_bit L y).1
        stays y covered other = elim (cases_eq (block_bit L y).0 (block_bit L x).0) [
          | inl there ↦
              let apart : (block_bit L y).1 ≡ (block_bit L x).1 → ⊥ = λ e. other (one_bit y x covered here (λ i. (there i, e i))) in
              ap (λ l. has_bit (block_at K l) (block_bit L y).1) there ∙ put.bit (block_bit L y).1
              ∙ ap (λ t. cond t false (has_bit (block_at J (block_bit L x).0) (block_bit L y).1)) (ne_eqb (block_bit L y).1 (block_bit L x).1 apart)
              ∙ ap (λ l. has_bit (block_at J l) (block_bit L y).1) (sym there)
          | inr away ↦ ap (λ b. has_bit b (block_bit L y).1) (put.others (block_bit L y).0 away)
        ]

  -- one more of a list
  pub one_more : (J K : List (List ℕ)) (xs : List ℕ) (k : ℕ) → k < length xs → MarksBlocks I L (take k xs) false J → ClearsOne J L (get_or xs k 0) K → MarksBlocks I L (take (k + 1) xs) false K
  one_more J K xs k within before one =
      let P : List ℕ → Type 0 = λ l. MarksBlocks I L l false K in
      subst P (sym (take_more xs k 0 within)) (one_cleared J K (take k xs) (get_or xs k 0) before one)
