-- Many bits of a bitmap, one after another.
use Rattle.std.proofs.Common.{◌≡◌, ℕ, ◌+◌, ◌-◌, ◌/◌, ◌%◌, ◌<◌, Bool, true, false, cond, not, ◌&&◌, ◌||◌, nat_eq, IsTrue, List, [], ◌∷◌, ◌++◌, length, take, get_or, Option, Some, None, refl, sym, ap, ◌∙◌, subst, arith, inl, inr}
use Rattle.std.specs.Prelude.{IfSome}
use Rattle.std.proofs.Math.Bool.{or-false}
use Rattle.std.proofs.lemmas.Bool.{cases_eq, eq-eqb, ne_eqb, ltb-true, or_right}
use Rattle.std.proofs.lemmas.List.{take_more}
use Rattle.std.proofs.lemmas.List.Folds.{list_any-append, list_any_at, list_any_none}
use Rattle.std.proofs.lemmas.List.Elements.{All-cons, All-nil}
use Rattle.std.proofs.lemmas.Option.{slice_get-get_or, slice_get_within, get_or_from_slice_get}
use Rattle.ods_base.specs.Block.{has_bit}
use Rattle.ods_base.specs.Image.{block_at}
use Rattle.ods_space.specs.Layout.{VolumeLayout, is_in_use}
use Rattle.ods_space.specs.Free.{is_covered}
use Rattle.ods_alloc.specs.Extend.{IsIndexBitmap, IsStorageBitmap, is_one_of}
use Rattle.ods_alloc.proofs.Places.{stands_in_storage, in_use_is}
use Rattle.ods_alloc.specs.Marks.{HasPlaces, Puts, IsBitOf, IsIndexed, Marks, MarksBlocks, MarksNumbers, block_bit, number_bit}

pub one_is : (x y : ℕ) → y ≡ x → is_one_of (x ∷ []) y ≡ true
one_is x y e = list_any_at (λ z. nat_eq z y) (x ∷ []) 0 0 (omega arith) (eq-eqb x y (sym e))

none_of : (y : ℕ) → is_one_of [] y ≡ false
none_of y = list_any_none (λ z. nat_eq z y) [] (All-nil (λ z. nat_eq z y ≡ false))

is_last : (xs : List ℕ) (x y : ℕ) → y ≡ x → is_one_of (xs ++ x ∷ []) y ≡ true
is_last xs x y same = list_any-append (λ z. nat_eq z y) xs (x ∷ []) ∙ or_right (is_one_of xs y) _ (one_is x y same)

not_last : (xs : List ℕ) (x y : ℕ) → (y ≡ x → ⊥) → is_one_of (xs ++ x ∷ []) y ≡ is_one_of xs y
not_last xs x y other =
    let none : is_one_of (x ∷ []) y ≡ false = list_any_none (λ z. nat_eq z y) (x ∷ []) (All-cons (λ z. nat_eq z y ≡ false) x [] (ne_eqb x y (λ e. other (sym e))) (All-nil (λ z. nat_eq z y ≡ false))) in
    list_any-append (λ z. nat_eq z y) xs (x ∷ []) ∙ ap (λ t. is_one_of xs y || t) none ∙ or-false (is_one_of xs y)

-- a bitmap: what it covers, where it stands, and the bit of each
module _ (Covers Stands : ℕ → Type 0) (bit : ℕ → ℕ × ℕ) (I : List (List ℕ)) (value : Bool) where
  pub none_marked : Marks Covers Stands bit I [] value I
  none_marked = record { size = refl; bits = λ x covered. sym (ap (λ t. cond t value (has_bit (block_at I (bit x).0) (bit x).1)) (none_of x)); others = λ lbn away. refl }

  module _ (J K : List (List ℕ)) (xs : List ℕ) (before : Marks Covers Stands bit I xs value J) (x : ℕ) where
    abbrev was : Bool → ℕ → Bool
    was t y = cond t value (has_bit (block_at I (bit y).0) (bit y).1)

    -- one more, which the bitmap covers or not
    one_marked : (found : Option (ℕ × ℕ)) → IsBitOf (Covers x) (bit x) found → (Covers x → Stands (bit x).0) → ((y : ℕ) → Covers y → Covers x → bit y ≡ bit x → y ≡ x)
        → Puts J found value K → Marks Covers Stands bit I (xs ++ x ∷ []) value K
    one_marked None past stands once same = record {
      size = ap length same ∙ before.size;
      bits = λ y covered. ap (λ M. has_bit (block_at M (bit y).0) (bit y).1) same ∙ before.bits y covered ∙ ap (λ t. was t y) (sym (not_last xs x y (λ e. past (subst Covers e covered))));
      others = λ lbn away. ap (λ M. block_at M lbn) same ∙ before.others lbn away;
    }
    one_marked (Some found) is stands once put = record {
      size = put.size ∙ before.size;
      bits = λ y covered. elim (cases_eq y x) [
        | inl same ↦
            let here : bit y ≡ found = ap bit same ∙ sym is.1 in
            ap (λ p. has_bit (block_at K p.0) p.1) here ∙ put.bit found.1 ∙ ap (λ t. cond t value (has_bit (block_at J found.0) found.1)) (eq-eqb found.1 found.1 refl)
            ∙ ap (λ t. was t y) (sym (is_last xs x y same))
        | inr other ↦ stays y covered other ∙ before.bits y covered ∙ ap (λ t. was t y) (sym (not_last xs x y other))
      ];
      others = λ lbn away. put.others lbn (λ e. away (subst Stands (sym (e ∙ ap (λ p. p.0) is.1)) (stands is.0))) ∙ before.others lbn away;
    }
      where
        stays : (y : ℕ) → Covers y → (y ≡ x → ⊥) → has_bit (block_at K (bit y).0) (bit y).1 ≡ has_bit (block_at J (bit y).0) (bit y).1
        stays y covered other = elim (cases_eq (bit y).0 found.0) [
          | inl here ↦
              let apart : (bit y).1 ≡ found.1 → ⊥ = λ e. other (once y covered is.0 ((λ k. (here k, e k)) ∙ is.1)) in
              ap (λ l. has_bit (block_at K l) (bit y).1) here ∙ put.bit (bit y).1 ∙ ap (λ t. cond t value (has_bit (block_at J found.0) (bit y).1)) (ne_eqb (bit y).1 found.1 apart)
              ∙ ap (λ l. has_bit (block_at J l) (bit y).1) (sym here)
          | inr away ↦ ap (λ b. has_bit b (bit y).1) (put.others (bit y).0 away)
        ]

-- a bit that is found stands inside the image
pub found_inside : (size : ℕ) (Covered : Type 0) (bit : ℕ × ℕ) → (Covered → (bit.0 < size) × (bit.1 < 4096)) → (found : Option (ℕ × ℕ)) → IsBitOf Covered bit found → IfSome found (λ p. (p.0 < size) × (p.1 < 4096))
found_inside size Covered bit inside None past = tt
found_inside size Covered bit inside (Some found) is = let P : ℕ × ℕ → Type 0 = λ p. (p.0 < size) × (p.1 < 4096) in subst P (sym is.1) (inside is.0)

module _ (size : ℕ) (L : VolumeLayout) (places : HasPlaces size L) where
  pub block_bit_inside : (x : ℕ) → IsTrue (is_covered L x) → ((block_bit L x).0 < size) × ((block_bit L x).1 < 4096)
  block_bit_inside x covered = (places.bitmap (1 + x / 4096) 0 (ltb-true (1 + x / 4096) (length L.bitmap) covered), omega arith)

  -- INDEXF.SYS maps the index bitmap
  pub index_inside : (k : ℕ) → k < L.home.index_bitmap_size + 16 → L.home.index_bitmap_lbn + k < size
  index_inside k small =
      let found = places.places.index_place k small in
      let at : get_or L.index (2 + k) 0 ≡ L.home.index_bitmap_lbn + k = get_or_from_slice_get L.index (2 + k) (L.home.index_bitmap_lbn + k) 0 found in
      let inside = places.index (2 + k) 0 (slice_get_within L.index (2 + k) (L.home.index_bitmap_lbn + k) found) in
      omega (arith, at, inside)

  pub number_bit_inside : (n : ℕ) → IsIndexed L n → ((number_bit L n).0 < size) × ((number_bit L n).1 < 4096)
  number_bit_inside n covered = let some = covered.0 in let few = covered.1 in (index_inside ((n - 1) / 4096) (omega arith), omega arith)

  -- one more of a list, in the storage bitmap
  pub one_block_marked : (I J K : List (List ℕ)) (xs : List ℕ) (k : ℕ) (value : Bool) (found : Option (ℕ × ℕ)) → k < length xs → MarksBlocks I L (take k xs) value J
      → IsBitOf (IsTrue (is_covered L (get_or xs k 0))) (block_bit L (get_or xs k 0)) found → Puts J found value K → MarksBlocks I L (take (k + 1) xs) value K
  one_block_marked I J K xs k value found within before is put =
      let x : ℕ = get_or xs k 0 in
      let P : List ℕ → Type 0 = λ l. MarksBlocks I L l value K in
      subst P (sym (take_more xs k 0 within)) (one_marked (λ y. IsTrue (is_covered L y)) (IsStorageBitmap L) (block_bit L) I value J K (take k xs) before x found is
      (λ covered. stands_in_storage L x (ltb-true (1 + x / 4096) (length L.bitmap) covered)) (λ y a b same. once y x (ltb-true (1 + y / 4096) (length L.bitmap) a) (ltb-true (1 + x / 4096) (length L.bitmap) b) same) put)
    where
      once : (y x : ℕ) → 1 + y / 4096 < length L.bitmap → 1 + x / 4096 < length L.bitmap → block_bit L y ≡ block_bit L x → y ≡ x
      once y x a b same =
          let block = places.places.bitmap_once (1 + y / 4096) (1 + x / 4096) (block_bit L x).0 (slice_get-get_or L.bitmap (1 + y / 4096) 0 a ∙ ap (λ p. Some p.0) same) (slice_get-get_or L.bitmap (1 + x / 4096) 0 b) in
          let within : y % 4096 ≡ x % 4096 = ap (λ p. p.1) same in
          omega arith

  -- one more of a list, in the index bitmap
  pub one_number_marked : (I J K : List (List ℕ)) (xs : List ℕ) (k : ℕ) (value : Bool) (found : Option (ℕ × ℕ)) → k < length xs → MarksNumbers I L (take k xs) value J
      → IsBitOf (IsIndexed L (get_or xs k 0)) (number_bit L (get_or xs k 0)) found → Puts J found value K → MarksNumbers I L (take (k + 1) xs) value K
  one_number_marked I J K xs k value found within before is put =
      let P : List ℕ → Type 0 = λ l. MarksNumbers I L l value K in
      subst P (sym (take_more xs k 0 within)) (one_marked (IsIndexed L) (IsIndexBitmap L) (number_bit L) I value J K (take k xs) before (get_or xs k 0) found is
      (λ covered. let some = covered.0 in let few = covered.1 in (omega arith, omega arith)) (λ y a b same. once y (get_or xs k 0) a b same) put)
    where
      once : (y x : ℕ) → IsIndexed L y → IsIndexed L x → number_bit L y ≡ number_bit L x → y ≡ x
      once y x a b same =
          let some = a.0 in let too = b.0 in
          let block : L.home.index_bitmap_lbn + (y - 1) / 4096 ≡ L.home.index_bitmap_lbn + (x - 1) / 4096 = ap (λ p. p.0) same in
          let within : (y - 1) % 4096 ≡ (x - 1) % 4096 = ap (λ p. p.1) same in
          omega arith

-- which numbers are in use
pub numbers_marked : (I J : List (List ℕ)) (L : VolumeLayout) (xs : List ℕ) (value : Bool) → MarksNumbers I L xs value J → (n : ℕ) → IsIndexed L n → is_in_use J L.home n ≡ cond (is_one_of xs n) value (is_in_use I L.home n)
numbers_marked I J L xs value marks n covered =
    in_use_is J L n covered.0 covered.1 ∙ marks.bits n covered ∙ ap (λ t. cond (is_one_of xs n) value t) (sym (in_use_is I L n covered.0 covered.1))

-- bits that are set, and bits that are cleared
pub cond_or : (a b : Bool) → cond a true b ≡ (b || a)
cond_or true true = refl
cond_or true false = refl
cond_or false true = refl
cond_or false false = refl

pub cond_and : (a b : Bool) → cond a false b ≡ (b && not a)
cond_and true true = refl
cond_and true false = refl
cond_and false true = refl
cond_and false false = refl
