-- What a chain that may grow says of its headers, by the image with the first header in use.
use Rattle.std.proofs.Common.{◌≡◌, ◌≢◌, ℕ, zero, suc, ◌+◌, ◌-◌, ◌*◌, ◌/◌, ◌%◌, ◌^◌, ◌<◌, ◌≤◌, ◌⊎◌, true, false, cond, nat_eq, List, [], ◌∷◌, ◌++◌, length, Option, Some, None, refl, sym, ap, ◌∙◌, subst, arith, inl, inr}
use Rattle.std.specs.Prelude.{bit_and, bit_or}
use Rattle.std.specs.Option.{option_map_or}
use Rattle.std.specs.Int.{bit_at}
use Rattle.std.specs.Int.Bits.{or_add_and}
use Rattle.std.specs.List.{All, Contains}
use Rattle.std.proofs.lemmas.Bool.{cases_eq, cases_lt, ne_eqb}
use Rattle.std.proofs.lemmas.Nat.Bits.{bit_at_or, bit_at-pow_other, bit_at-lt, and_pow}
use Rattle.std.proofs.lemmas.List.{get_or-set_same, get_or-set_other, set_past}
use Rattle.std.proofs.lemmas.List.Elements.{All-contains}
use Rattle.ods_base.specs.Block.{byte, has_bit}
use Rattle.ods_base.specs.Image.{block_at}
use Rattle.ods_header.specs.Header.{IsValidHeader, segment_of, next_number_of, blocks_of}
use Rattle.ods_space.specs.Layout.{VolumeLayout, place_of, header_at, is_in_use}
use Rattle.ods_space.specs.Chain.{IsChain, Follows, index_for}
use Rattle.ods_space.specs.Free.{is_free_number}
use Rattle.ods_space.proofs.Chains.{head_of}
use Rattle.ods_alloc.specs.Extend.{IsWellPlaced, CanExtend, with_in_use, with_bit, last_of}
use Rattle.ods_alloc.specs.Chains.{IsLink}
use Rattle.ods_alloc.specs.Ends.{AreEnds, EndsWhereDrafted, IsHeaderAt}
use Rattle.ods_alloc.specs.declared.end.ChainEnd.{ChainEnd}
use Rattle.ods_alloc.proofs.Places.{place_not_index, in_use_is, never_in_use, cases_covered}
use Rattle.ods_alloc.proofs.FreeTests.{free_number}

-- a set bit as a sum is the bit set
pub set_byte : (x i : ℕ) → x + (1 - bit_at x i) * 2 ^ i ≡ bit_or x (2 ^ i)
set_byte x i = by (bit_at x i) (bit_at-lt x i) (or_add_and x (2 ^ i)) (and_pow x i)
  where
    by : (b : ℕ) → b < 2 → bit_or x (2 ^ i) + bit_and x (2 ^ i) ≡ x + 2 ^ i → bit_and x (2 ^ i) ≡ b * 2 ^ i → x + (1 - b) * 2 ^ i ≡ bit_or x (2 ^ i)
    by zero less both none = omega (arith, both, none)
    by (suc zero) less both one = omega (arith, both, one)
    by (suc (suc b)) less both one = absurd (omega arith)

-- the other bits of a block with a bit set
bit_stays : (b : List ℕ) (i j : ℕ) → j ≢ i → has_bit (with_bit b i) j ≡ has_bit b j
bit_stays b i j other = elim (cases_eq (j / 8) (i / 8)) [
  | inr away ↦ ap (λ x. nat_eq (bit_at x (j % 8)) 1) (get_or-set_other b (i / 8) (j / 8) _ 0 away)
  | inl same ↦ elim (cases_lt (i / 8) (length b)) [
    | inr past ↦ ap (λ l. has_bit l j) (set_past b (i / 8) _ past)
    | inl inside ↦
        let apart : j % 8 ≢ i % 8 = λ e. other (omega arith) in
        let x : ℕ = byte b (i / 8) in
        let new : byte (with_bit b i) (j / 8) ≡ bit_or x (2 ^ (i % 8)) = ap (byte (with_bit b i)) same ∙ get_or-set_same b (i / 8) _ 0 inside ∙ set_byte x (i % 8) in
        let none : bit_at (2 ^ (i % 8)) (j % 8) ≡ 0 = bit_at-pow_other (i % 8) (j % 8) apart in
        let value : bit_at (bit_or x (2 ^ (i % 8))) (j % 8) ≡ bit_at x (j % 8) = omega (arith, bit_at_or x (2 ^ (i % 8)) (j % 8), none) in
        ap (λ y. nat_eq (bit_at y (j % 8)) 1) new ∙ ap (λ y. nat_eq y 1) value ∙ ap (λ k. nat_eq (bit_at (byte b k) (j % 8)) 1) (sym same)
  ]
]

module _ (I C : List (List ℕ)) (L : VolumeLayout) (n : ℕ) (others all : List ℕ) (places : IsWellPlaced L) (high : 2 ≤ n) (is : C ≡ with_in_use I L.home n) (chain : IsChain C L n others all) where
  pub follows : Follows C L.home (Some L.index) [] 0 n others all
  follows =
      let index : index_for L n ≡ Some L.index = ap (λ t. cond t None (Some L.index)) (ne_eqb n 1 (λ e. absurd (omega arith))) in
      let P : Option (List ℕ) → Type 0 = λ o. Follows C L.home o [] 0 n others all in
      subst P index chain

  pub first_link : IsLink C L n 0
  first_link = head_of C L.home (Some L.index) [] 0 n others all follows

  pub first_covered : n ≤ 4096 * L.home.index_bitmap_size
  first_covered = let few = first_link.last in omega arith

  -- the bit that is set stands in the index bitmap, so headers stay
  pub same_header : (m : ℕ) → header_at C L m ≡ header_at I L m
  same_header m = by (place_of L m) refl
    where
      by : (o : Option ℕ) → place_of L m ≡ o → option_map_or (block_at C) o [] ≡ option_map_or (block_at I) o []
      by None e = refl
      by (Some q) e =
          let low = first_covered in
          let away : q ≢ L.home.index_bitmap_lbn + (n - 1) / 4096 = λ same. place_not_index L m q places e (omega arith, omega arith) in
          ap (λ K. block_at K q) is ∙ get_or-set_other I (L.home.index_bitmap_lbn + (n - 1) / 4096) q _ [] away

  -- the index bits of other numbers stay
  pub others_in_use : (m : ℕ) → m ≢ n → is_in_use C L.home m ≡ is_in_use I L.home m
  others_in_use m other = elim (cases_covered L m) [
    | inr past ↦ never_in_use C L m past ∙ sym (never_in_use I L m past)
    | inl covered ↦
        in_use_is C L m covered.0 covered.1 ∙ by covered.0 (cases_eq (L.home.index_bitmap_lbn + (m - 1) / 4096) (L.home.index_bitmap_lbn + (n - 1) / 4096)) ∙ sym (in_use_is I L m covered.0 covered.1)
  ]
    where
      by : 1 ≤ m → (L.home.index_bitmap_lbn + (m - 1) / 4096 ≡ L.home.index_bitmap_lbn + (n - 1) / 4096) ⊎ (L.home.index_bitmap_lbn + (m - 1) / 4096 ≢ L.home.index_bitmap_lbn + (n - 1) / 4096)
          → has_bit (block_at C (L.home.index_bitmap_lbn + (m - 1) / 4096)) ((m - 1) % 4096) ≡ has_bit (block_at I (L.home.index_bitmap_lbn + (m - 1) / 4096)) ((m - 1) % 4096)
      by some (inr away) = ap (λ K. has_bit (block_at K (L.home.index_bitmap_lbn + (m - 1) / 4096)) ((m - 1) % 4096)) is ∙ ap (λ b. has_bit b ((m - 1) % 4096)) (get_or-set_other I (L.home.index_bitmap_lbn + (n - 1) / 4096) (L.home.index_bitmap_lbn + (m - 1) / 4096) _ [] away)
      by some (inl same) =
          let p : ℕ = L.home.index_bitmap_lbn + (n - 1) / 4096 in
          let apart : (m - 1) % 4096 ≢ (n - 1) % 4096 = λ e. other (omega arith) in
          ap (λ q. has_bit (block_at C q) ((m - 1) % 4096)) same ∙ ap (λ K. has_bit (block_at K p) ((m - 1) % 4096)) is
          ∙ elim (cases_lt p (length I)) [
            | inl inside ↦ ap (λ b. has_bit b ((m - 1) % 4096)) (get_or-set_same I p _ [] inside) ∙ bit_stays (block_at I p) ((n - 1) % 4096) ((m - 1) % 4096) apart
            | inr past ↦ ap (λ K. has_bit (block_at K p) ((m - 1) % 4096)) (set_past I p _ past)
          ]
          ∙ ap (λ q. has_bit (block_at I q) ((m - 1) % 4096)) (sym same)

  ends : (os : List ℕ) (k m : ℕ) (front : List ℕ) → Follows C L.home (Some L.index) front k m os all → IsLink C L (last_of m os) (k + length os) × (next_number_of (header_at C L (last_of m os)) ≡ 0)
  ends [] k m front f = let P : ℕ → Type 0 = λ j. IsLink C L m j in let place : k ≡ k + 0 = omega arith in (subst P place f.0, f.1)
  ends (y ∷ ys) k m front f =
      let rest = ends ys (suc k) y (front ++ blocks_of (header_at C L m)) f.4 in
      let P : ℕ → Type 0 = λ j. IsLink C L (last_of y ys) j in
      let place : suc k + length ys ≡ k + length (y ∷ ys) = omega arith in
      (subst P place rest.0, rest.1)

  pub last_link : IsLink C L (last_of n others) (length others)
  last_link = let P : ℕ → Type 0 = λ k. IsLink C L (last_of n others) k in let place : 0 + length others ≡ length others = omega arith in subst P place (ends others 0 n [] follows).0

  pub last_names_none : next_number_of (header_at C L (last_of n others)) ≡ 0
  last_names_none = (ends others 0 n [] follows).1

  -- no header of the chain is one of the free numbers
  pub not_new : (numbers : List ℕ) → All (λ m. is_free_number I L m ≡ true) numbers → (Contains numbers n → ⊥) → (m k : ℕ) → IsLink C L m k → Contains numbers m → ⊥
  not_new numbers free apart m k link among = elim (cases_eq m n) [
    | inl e ↦ apart (let P : ℕ → Type 0 = λ x. Contains numbers x in subst P e among)
    | inr other ↦
        let unused = (free_number I L m (All-contains (λ x. is_free_number I L x ≡ true) numbers m free among)).unused in
        let clash : true ≡ false = sym link.in_use ∙ others_in_use m other ∙ unused in
        absurd (cc)
  ]

  valid_by : (m k : ℕ) → IsLink C L m k → IsValidHeader (header_at I L m) m
  valid_by m k link = let P : List ℕ → Type 0 = λ b. IsValidHeader b m in subst P (same_header m) link.valid

  pub first_valid : IsValidHeader (header_at I L n) n
  first_valid = valid_by n 0 first_link

  pub last_valid : IsValidHeader (header_at I L (last_of n others)) (last_of n others)
  last_valid = valid_by (last_of n others) (length others) last_link

-- What is known of the ends of a chain that can grow.
pub record AreEndsFound (I : List (List ℕ)) (L : VolumeLayout) (n : ℕ) (others numbers b : List ℕ) (end : ℕ) (c : List ℕ) : Type 0 where
  pub first : IsHeaderAt I L n b
  pub last : IsHeaderAt I L end c
  pub new : Contains numbers end → ⊥
  pub segment : segment_of (header_at I L end) ≡ length others

pub ends_found : (I : List (List ℕ)) (L : VolumeLayout) (n : ℕ) (others all blocks numbers first : List ℕ) (end : ChainEnd) (last : List ℕ) → IsWellPlaced L → IsChain (with_in_use I L.home n) L n others all → CanExtend I L n others blocks numbers
    → AreEnds I L n others first end → (end.number ≡ n → last ≡ first) → (end.number ≢ n → last ≡ end.last.now) → AreEndsFound I L n others numbers first end.number last
ends_found I L n others all blocks numbers first end last places chain grows e one other =
    let C : List (List ℕ) = with_in_use I L.home n in
    let low = grows.file in
    let high : 2 ≤ n = omega arith in
    let same = same_header I C L n others all places high refl chain in
    let link = last_link I C L n others all places high refl chain in
    let P : ℕ → Type 0 = λ x. IsValidHeader (header_at I L x) x in
    let Q : ℕ → Type 0 = λ x. Contains numbers x in
    let valid : IsValidHeader (header_at I L end.number) end.number = subst P (sym e.number) (last_valid I C L n others all places high refl chain) in
    let is : last ≡ header_at I L end.number = elim (cases_eq end.number n) [
      | inl alone ↦ one alone ∙ e.first ∙ ap (header_at I L) (sym alone)
      | inr apart ↦ other apart ∙ e.last apart
    ] in
    record {
      first = record { is = e.first; valid = let R : List ℕ → Type 0 = λ b. IsValidHeader b n in subst R (sym e.first) (first_valid I C L n others all places high refl chain) };
      last = record { is = is; valid = let R : List ℕ → Type 0 = λ b. IsValidHeader b end.number in subst R (sym is) valid };
      new = λ among. not_new I C L n others all places high refl chain numbers grows.free grows.new (last_of n others) (length others) link (subst Q e.number among);
      segment = ap (λ x. segment_of (header_at I L x)) e.number ∙ ap segment_of (sym (same (last_of n others))) ∙ link.segment;
    }

-- the first header of such a chain is valid
pub first_found : (I : List (List ℕ)) (L : VolumeLayout) (n : ℕ) (others all blocks numbers : List ℕ) → IsWellPlaced L → IsChain (with_in_use I L.home n) L n others all → CanExtend I L n others blocks numbers → IsValidHeader (header_at I L n) n
first_found I L n others all blocks numbers places chain grows = let low = grows.file in first_valid I (with_in_use I L.home n) L n others all places (omega arith) refl chain

-- a walk along a chain that can grow finds its end
pub ends_walked : (I : List (List ℕ)) (L : VolumeLayout) (n : ℕ) (others all blocks numbers first : List ℕ) (end : ChainEnd) → IsWellPlaced L → IsChain (with_in_use I L.home n) L n others all → CanExtend I L n others blocks numbers
    → first ≡ header_at I L n → EndsWhereDrafted I L n end → AreEnds I L n others first end
ends_walked I L n others all blocks numbers first end places chain grows is walked =
    let few = grows.segments in
    let low = grows.file in
    let high : 2 ≤ n = omega arith in
    let found = walked (with_in_use I L.home n) others all (same_header I (with_in_use I L.home n) L n others all places high refl chain) (omega arith) chain in
    record { first = is; number = found.0; last = λ apart. found.1 }
