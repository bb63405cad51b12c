-- New headers, made one after another.
use Rattle.std.proofs.Common.{◌≡◌, ◌≢◌, ℕ, zero, suc, ◌+◌, ◌-◌, ◌*◌, ◌<◌, ◌≤◌, min, Bool, true, false, cond, nat_eq, nat_le, List, [], ◌∷◌, ◌++◌, length, take, drop, drop-cons, get_or, slice_get, Option, Some, None, refl, sym, ap, ◌∙◌, subst, arith, inl, inr}
use Rattle.std.specs.Option.{option_map_or}
use Rattle.std.specs.List.{All}
use Rattle.std.specs.List.Sorted.{IsStrictlyIncreasing}
use Rattle.std.proofs.lemmas.Bool.{cases_lt, ne_eqb}
use Rattle.std.proofs.lemmas.List.{take_all, take_more, drop_all, get_or-take, get_or_default, length-drop, length-take}
use Rattle.std.proofs.lemmas.List.Elements.{Contains-append_left, Contains-push}
use Rattle.std.proofs.lemmas.Option.{slice_get-get_or}
use Rattle.ods_base.specs.Image.{block_at}
use Rattle.ods_header.specs.declared.header.Run.{Run}
use Rattle.ods_base.specs.declared.file_id.FileId.{FileId}
use Rattle.ods_header.specs.declared.header.Header.{Header}
use Rattle.ods_header.specs.Header.{IsValidHeader, header_of, sequence_of}
use Rattle.ods_space.specs.Layout.{VolumeLayout, place_of, header_at, last_number}
use Rattle.ods_space.specs.Draft.{Changes, applied, seen_at}
use Rattle.ods_space.proofs.Drafts.{block_at-applied}
use Rattle.ods_header.specs.Extension.{IsExtensionOf}
use Rattle.ods_alloc.specs.Extend.{IsWellPlaced, IsHeaderPlace}
use Rattle.ods_header.specs.Extension.{extension_of}
use Rattle.ods_alloc.specs.Extension.{CanBeMade, IsMade, MakesHeaders, first_number, first_sequence}
use Rattle.ods_alloc.proofs.OneBit.{size_put, put_same, put_other}
use Rattle.ods_alloc.proofs.Places.{place_once}

-- a free number has a place
pub free_has_place : (L : VolumeLayout) (m : ℕ) → 1 ≤ m → m ≤ last_number L → place_of L m ≡ None → ⊥
free_has_place L m low high none = by (nat_eq m 0) (ne_eqb m 0 (λ e. absurd (omega arith))) (nat_le m 16) none
  where
    by : (a : Bool) → a ≡ false → (b : Bool) → cond a None (cond b (Some (L.home.index_bitmap_lbn + L.home.index_bitmap_size + m - 1)) (slice_get L.index (1 + L.home.index_bitmap_size + m))) ≡ None → ⊥
    by true some b e = absurd (cc)
    by false some true e = absurd (cc)
    by false some false e =
        let inside : 1 + L.home.index_bitmap_size + m < length L.index = omega arith in
        let found = slice_get-get_or L.index (1 + L.home.index_bitmap_size + m) 0 inside in
        absurd (let clash : ◌≡◌ {A = Option ℕ} None (Some (get_or L.index (1 + L.home.index_bitmap_size + m) 0)) = sym e ∙ found in cc)

-- numbers that rise are apart
rising_step : (xs : List ℕ) → IsStrictlyIncreasing xs → (i n : ℕ) → i + suc n < length xs → get_or xs i 0 < get_or xs (i + suc n) 0
rising_step xs rises i zero within = let one = rises i (omega arith) in let place : i + 1 ≡ i + suc zero = omega arith in subst (λ k. get_or xs i 0 < get_or xs k 0) place one
rising_step xs rises i (suc n) within =
    let before = rising_step xs rises i n (omega arith) in
    let next = rises (i + suc n) (omega arith) in
    let place : i + suc n + 1 ≡ i + suc (suc n) = omega arith in
    subst (λ k. get_or xs i 0 < get_or xs k 0) place (omega arith)

pub rising_apart : (xs : List ℕ) → IsStrictlyIncreasing xs → (i j : ℕ) → i < j → j < length xs → get_or xs i 0 ≢ get_or xs j 0
rising_apart xs rises i j below within e =
    let place : i + suc (j - i - 1) ≡ j = omega arith in
    let less = rising_step xs rises i (j - i - 1) (omega arith) in
    absurd (omega (arith, less, ap (λ k. get_or xs k 0) place))

-- one block more in a draft, as headers are read
pub header_put_same : (I : List (List ℕ)) (d : Changes) (L : VolumeLayout) (x lbn : ℕ) (c : List ℕ) → lbn < length I → place_of L x ≡ Some lbn → header_at (applied I ((lbn, c) ∷ d)) L x ≡ c
header_put_same I d L x lbn c inside found = ap (λ o. option_map_or (block_at (applied I ((lbn, c) ∷ d))) o []) found ∙ put_same I d lbn c inside

pub header_put_other : (I : List (List ℕ)) (d : Changes) (L : VolumeLayout) (m lbn : ℕ) (c : List ℕ) → (place_of L m ≡ Some lbn → ⊥) → header_at (applied I ((lbn, c) ∷ d)) L m ≡ header_at (applied I d) L m
header_put_other I d L m lbn c away = by (place_of L m) refl
  where
    by : (o : Option ℕ) → place_of L m ≡ o → option_map_or (block_at (applied I ((lbn, c) ∷ d))) o [] ≡ option_map_or (block_at (applied I d)) o []
    by None e = refl
    by (Some p) e = put_other I d lbn c p (λ same. away (e ∙ ap Some same))

pub none_made : (K : List (List ℕ)) (L : VolumeLayout) (first : Header) (segment : ℕ) (numbers : List ℕ) (runs : List Run) → MakesHeaders K L first segment numbers runs 0 K
none_made K L first segment numbers runs = record { size = refl; made = λ f same i below. absurd (omega arith); others = λ lbn away. refl }

-- The headers from place j on are not made yet: they are as they were.
module _ (K J : List (List ℕ)) (L : VolumeLayout) (first : Header) (segment : ℕ) (numbers : List ℕ) (runs : List Run) (k : ℕ) (places : IsWellPlaced L) (rises : IsStrictlyIncreasing numbers) (before : MakesHeaders K L first segment numbers runs k J) where
  still : (j : ℕ) → k ≤ j → j < length numbers → header_at J L (get_or numbers j 0) ≡ header_at K L (get_or numbers j 0)
  still j from within = by (place_of L (get_or numbers j 0)) refl
    where
      by : (o : Option ℕ) → place_of L (get_or numbers j 0) ≡ o → option_map_or (block_at J) o [] ≡ option_map_or (block_at K) o []
      by None e = refl
      by (Some q) e = before.others q (λ p.
          let i : ℕ = p.1.0 in
          let size = length-take k numbers in
          let made = p.1.1 in
          let early : i < k = omega (arith, size, made) in
          let inside : i < length numbers = omega (arith, early, from, within) in
          let same : get_or numbers i 0 ≡ p.0 = get_or_default numbers i 0 p.0 inside ∙ sym (get_or-take k numbers i p.0 early) ∙ p.1.2 in
          absurd (rising_apart numbers rises i j (omega (arith, early, from)) within (same ∙ place_once L p.0 (get_or numbers j 0) q places p.2 e)))

  pub still_sequence : (j : ℕ) → k ≤ j → first_sequence J L (drop j numbers) ≡ first_sequence K L (drop j numbers)
  still_sequence j from = elim (cases_lt j (length numbers)) [
    | inl within ↦
        let split = drop-cons numbers j 0 within in
        ap (first_sequence J L) split ∙ ap (λ b. sequence_of b + 1) (still j from within) ∙ sym (ap (first_sequence K L) split)
    | inr past ↦ let none = drop_all j numbers past in ap (first_sequence J L) none ∙ sym (ap (first_sequence K L) none)
  ]

-- one more than the sequence number of a header that can be made is a word
pub sequence_fits : (K : List (List ℕ)) (L : VolumeLayout) (numbers : List ℕ) (j : ℕ) → All (CanBeMade K L) numbers → first_sequence K L (drop j numbers) ≤ 65535
sequence_fits K L numbers j new = elim (cases_lt j (length numbers)) [
  | inl within ↦ let below = (new j 0 within).below in omega (arith, below, ap (first_sequence K L) (drop-cons numbers j 0 within))
  | inr past ↦ omega (arith, ap (first_sequence K L) (drop_all j numbers past))
]

pub one_made : (I K : List (List ℕ)) (d e : Changes) (L : VolumeLayout) (first : Header) (segment : ℕ) (numbers : List ℕ) (runs : List Run) (k lbn : ℕ) (c : List ℕ) → IsWellPlaced L → IsStrictlyIncreasing numbers
    → k < length numbers → lbn < length I → place_of L (get_or numbers k 0) ≡ Some lbn → e ≡ (lbn, c) ∷ d → ((f : List ℕ) → header_of f ≡ first → IsMade K L f (segment + k) (get_or numbers k 0) (take 102 (drop (102 * k) runs)) (drop (k + 1) numbers) c)
    → MakesHeaders K L first segment numbers runs k (applied I d) → MakesHeaders K L first segment numbers runs (k + 1) (applied I e)
one_made I K d e L first segment numbers runs k lbn c places rises within inside found is made before =
    let now : applied I e ≡ applied I ((lbn, c) ∷ d) = ap (applied I) is in
    let x : ℕ = get_or numbers k 0 in
    let Made : List ℕ → ℕ → List ℕ → Type 0 = λ f i b. IsMade K L f (segment + i) (get_or numbers i 0) (take 102 (drop (102 * i) runs)) (drop (i + 1) numbers) b in
    record {
      size = ap length now ∙ size_put I d lbn c ∙ before.size;
      made = λ f same i below. elim (cases_lt i k) [
        | inl earlier ↦
            let m : ℕ = get_or numbers i 0 in
            let away : place_of L m ≡ Some lbn → ⊥ = λ p. rising_apart numbers rises i k earlier within (place_once L m x lbn places p found) in
            let P : List ℕ → Type 0 = λ b. Made f i b in
            subst P (sym (ap (λ J. header_at J L m) now ∙ header_put_other I d L m lbn c away)) (before.made f same i earlier)
        | inr later ↦
            let here : k ≡ i = omega arith in
            let P : List ℕ → Type 0 = λ b. Made f k b in
            let Q : ℕ → Type 0 = λ j. Made f j (header_at (applied I e) L (get_or numbers j 0)) in
            subst Q here (subst P (sym (ap (λ J. header_at J L x) now ∙ header_put_same I d L x lbn c inside found)) (made f same))
      ];
      others = λ at away.
          let more : take (k + 1) numbers ≡ take k numbers ++ x ∷ [] = take_more numbers k 0 within in
          let gone : IsHeaderPlace L (take k numbers ++ x ∷ []) at → ⊥ = λ p. away (subst (λ ns. IsHeaderPlace L ns at) (sym more) p) in
          let other : at ≢ lbn = λ same. gone (x, Contains-push (take k numbers) x, found ∙ ap Some (sym same)) in
          ap (λ J. block_at J at) now ∙ put_other I d lbn c at other ∙ before.others at (λ p. gone (p.0, Contains-append_left (take k numbers) (x ∷ []) p.0 p.1, p.2));
    }

-- a header that is read through a draft
pub header_read : (I : List (List ℕ)) (d : Changes) (L : VolumeLayout) (n lbn : ℕ) (b : List ℕ) → lbn < length I → place_of L n ≡ Some lbn → b ≡ seen_at I d lbn → b ≡ header_at (applied I d) L n
header_read I d L n lbn b inside found is = is ∙ sym (ap (λ o. option_map_or (block_at (applied I d)) o []) found ∙ block_at-applied I d lbn inside)

-- the block that is made for one of the numbers
pub made_block : (B : List (List ℕ)) (L : VolumeLayout) (f c : List ℕ) (first : Header) (file : FileId) (segment here : ℕ) (next : FileId) (rs part : List Run) (numbers : List ℕ) (k : ℕ) → k < length numbers
    → header_of c ≡ extension_of first file here next part → IsValidHeader c file.number → IsExtensionOf f c → here ≡ segment + k
    → file.number ≡ first_number (drop k numbers) → file.sequence ≡ first_sequence B L (drop k numbers) → next.number ≡ first_number (drop (k + 1) numbers) → next.sequence ≡ first_sequence B L (drop (k + 1) numbers)
    → part ≡ take 102 (drop (102 * k) rs) → IsMade B L f (segment + k) (get_or numbers k 0) (take 102 (drop (102 * k) rs)) (drop (k + 1) numbers) c
made_block B L f c first file segment here next rs part numbers k within fields valid extension place number sequence after after_sequence pieces =
    let split : drop k numbers ≡ get_or numbers k 0 ∷ drop (suc k) numbers = drop-cons numbers k 0 within in
    let is : file.number ≡ get_or numbers k 0 = number ∙ ap first_number split in
    let P : ℕ → Type 0 = λ n. IsValidHeader c n in
    record {
      valid = subst P is valid;
      extension = extension;
      in_chain = ap (λ h. h.segment) fields ∙ place;
      sequence = ap (λ h. h.file.sequence) fields ∙ sequence ∙ ap (first_sequence B L) split;
      pointers = ap (λ h. h.pointers.items) fields ∙ pieces;
      next_volume = ap (λ h. h.next_volume) fields;
      next_number = ap (λ h. h.next.number) fields ∙ after;
      next_sequence = ap (λ h. h.next.sequence) fields ∙ after_sequence;
    }

-- the rest of a list, as a range of it
pub rest_is : (xs : List ℕ) (k : ℕ) → take (length xs - k) (drop k xs) ≡ drop k xs
rest_is xs k = let size : length (drop k xs) ≡ length xs - k = length-drop k xs in take_all (length xs - k) (drop k xs) (omega arith)
