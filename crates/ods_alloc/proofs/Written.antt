-- The headers of a chain that grows, written into a draft.
use Rattle.std.proofs.Common.{◌≡◌, ◌≢◌, ℕ, ◌+◌, ◌-◌, ◌*◌, ◌/◌, ◌<◌, IsTrue, List, [], ◌∷◌, length, take, drop, drop-cons, get_or, Some, None, inl, inr, sym, ap, ◌∙◌, subst, arith}
use Rattle.std.specs.Option.{option_map_or}
use Rattle.std.specs.List.{All, Contains}
use Rattle.std.proofs.lemmas.Bool.{cases_lt}
use Rattle.std.proofs.lemmas.List.{take_all, drop_all, get_or_default, length-drop}
use Rattle.std.proofs.lemmas.List.Elements.{Contains-get_or}
use Rattle.ods_base.specs.Block.{word}
use Rattle.ods_base.specs.Image.{block_at}
use Rattle.ods_header.specs.declared.header.Run.{Run}
use Rattle.ods_header.specs.declared.header.Header.{Header}
use Rattle.ods_header.specs.declared.header.HeaderFault.{HeaderFault}
use Rattle.ods_header.specs.declared.header.HeaderFault.TheVariants.{BadSum, WrongNumber, BadLevel, BadLayout, UnsupportedMap}
use Rattle.ods_header.specs.Header.{IsValidHeader, IsFirstFault, header_of, segment_of, sequence_of, room_of}
use Rattle.ods_space.specs.Layout.{VolumeLayout, place_of, header_at}
use Rattle.ods_space.specs.Draft.{Changes, applied}
use Rattle.ods_space.specs.Free.{is_free_number}
use Rattle.ods_alloc.specs.Extend.{IsWellPlaced, IsHeaderPlace}
use Rattle.ods_alloc.specs.Extension.{CanBeMade, IsMade, MakesHeaders, WritesHeaders, first_number, first_sequence}
use Rattle.ods_header.specs.Pointing.{IsGrown}
use Rattle.ods_alloc.proofs.OneBit.{size_put, put_same, put_other}
use Rattle.ods_alloc.proofs.Places.{place_once}
use Rattle.ods_alloc.proofs.FreeTests.{free_number}
use Rattle.ods_alloc.proofs.NewHeaders.{header_put_other, none_made}

-- a valid header has no fault
pub no_fault : (b : List ℕ) (n : ℕ) (fault : HeaderFault) → IsFirstFault b n fault → IsValidHeader b n → ⊥
no_fault b n BadSum is valid = is valid.header.checksum
no_fault b n WrongNumber is valid = is.1 valid.header.numbered
no_fault b n BadLevel is valid = is.2 valid.header.level
no_fault b n BadLayout is valid = is.3 valid.header.layout
no_fault b n UnsupportedMap is valid = is.1 valid.format

-- a valid header has a place
pub valid_has_place : (I : List (List ℕ)) (L : VolumeLayout) (n : ℕ) → IsValidHeader (header_at I L n) n → place_of L n ≡ None → ⊥
valid_has_place I L n valid none =
    let empty : header_at I L n ≡ [] = ap (λ o. option_map_or (block_at I) o []) none in
    let clash : ◌≡◌ {A = ℕ} 0 257 = sym (ap (λ b. word b 3) empty) ∙ valid.header.level in
    absurd (cc)

-- the rest of the runs, as the code takes it
pub rest_of : (rs : List Run) (room n : ℕ) → n ≡ room → take (length rs) (drop n rs) ≡ drop room rs
rest_of rs room n is = let size : length (drop n rs) ≡ length rs - n = length-drop n rs in take_all (length rs) (drop n rs) (omega arith) ∙ ap (λ k. drop k rs) is

-- a header is made alike in two images that have the same in its place and in that of the next
made_before : (K B : List (List ℕ)) (L : VolumeLayout) (f : List ℕ) (segment m : ℕ) (runs : List Run) (behind c : List ℕ) → header_at K L m ≡ header_at B L m → first_sequence K L behind ≡ first_sequence B L behind
    → IsMade K L f segment m runs behind c → IsMade B L f segment m runs behind c
made_before K B L f segment m runs behind c here next made = record {
  valid = made.valid;
  extension = made.extension;
  in_chain = made.in_chain;
  sequence = made.sequence ∙ ap (λ b. sequence_of b + 1) here;
  pointers = made.pointers;
  next_volume = made.next_volume;
  next_number = made.next_number;
  next_sequence = made.next_sequence ∙ next;
}

pub free_can_be_made : (B : List (List ℕ)) (L : VolumeLayout) (numbers : List ℕ) → All (λ m. IsTrue (is_free_number B L m)) numbers → All (CanBeMade B L) numbers
free_can_be_made B L numbers free = λ i default below.
    let m : ℕ = get_or numbers i default in
    let f = free_number B L m (free i default below) in
    let low = f.low in
    record { some = omega (arith, low); last = f.high; below = f.below }

-- where header z alone is written, the places of other headers are as they were
module _ (I B : List (List ℕ)) (d e : Changes) (L : VolumeLayout) (z lbn : ℕ) (numbers : List ℕ) (c : List ℕ) (places : IsWellPlaced L) (apart : Contains numbers z → ⊥) (found : place_of L z ≡ Some lbn)
    (old : applied I d ≡ B) (now : applied I e ≡ applied I ((lbn, c) ∷ d)) where
  pub others_kept : (i : ℕ) → i < length numbers → header_at (applied I e) L (get_or numbers i 0) ≡ header_at B L (get_or numbers i 0)
  others_kept i below =
      let m : ℕ = get_or numbers i 0 in
      ap (λ K. header_at K L m) now
      ∙ header_put_other I d L m lbn c (λ p. apart (subst (λ k. Contains numbers k) (place_once L m z lbn places p found) (Contains-get_or numbers i 0 below)))
      ∙ ap (λ K. header_at K L m) old

  pub first_kept : (j : ℕ) → first_sequence (applied I e) L (drop j numbers) ≡ first_sequence B L (drop j numbers)
  first_kept j = elim (cases_lt j (length numbers)) [
    | inl within ↦
        let split = drop-cons numbers j 0 within in
        ap (first_sequence (applied I e) L) split ∙ ap (λ b. sequence_of b + 1) (others_kept j within) ∙ sym (ap (first_sequence B L) split)
    | inr past ↦ let none = drop_all j numbers past in ap (first_sequence (applied I e) L) none ∙ sym (ap (first_sequence B L) none)
  ]

  -- so what could be made still can
  pub can_be_made : All (CanBeMade B L) numbers → All (CanBeMade (applied I e) L) numbers
  can_be_made each = λ i default below.
      let m : ℕ = get_or numbers i 0 in
      let new = each i 0 below in
      let under = new.below in
      subst (CanBeMade (applied I e) L) (get_or_default numbers i 0 default below)
      (record { some = new.some; last = new.last; below = omega (arith, under, ap sequence_of (others_kept i below)) })

-- The last header z is written at lbn, and then the new headers.
pub headers_written : (first : Header) (I B J : List (List ℕ)) (d e : Changes) (L : VolumeLayout) (n z lbn : ℕ) (numbers : List ℕ) (runs rest : List Run) (segment : ℕ) (c : List ℕ) → IsWellPlaced L → (Contains numbers z → ⊥) → lbn < length I → place_of L z ≡ Some lbn
    → applied I d ≡ B → applied I e ≡ applied I ((lbn, c) ∷ d) → IsGrown (header_at B L z) runs (first_number numbers) (first_sequence B L numbers) c
    → rest ≡ drop (room_of (header_at B L z) / 2) runs → segment ≡ segment_of (header_at B L z) → header_of (header_at B L n) ≡ first → MakesHeaders (applied I e) L first (segment + 1) numbers rest (length numbers) J → WritesHeaders B L n z numbers runs J
headers_written first I B J d e L n z lbn numbers runs rest segment c places apart inside found old now grown left at is makes =
    let alone : IsHeaderPlace L numbers lbn → ⊥ = λ p. apart (let Q : ℕ → Type 0 = λ k. Contains numbers k in subst Q (place_once L p.0 z lbn places p.2 found) p.1) in
    let all : take (length numbers) numbers ≡ numbers = take_all (length numbers) numbers (omega arith) in
    let others : (k : ℕ) → (IsHeaderPlace L numbers k → ⊥) → block_at J k ≡ block_at (applied I e) k = λ k away. makes.others k (λ p. away (subst (λ ns. IsHeaderPlace L ns k) all p)) in
    let here : header_at J L z ≡ c = ap (λ o. option_map_or (block_at J) o []) found ∙ others lbn alone ∙ ap (λ K. block_at K lbn) now ∙ put_same I d lbn c inside in
    let P : List ℕ → Type 0 = λ b. IsGrown (header_at B L z) runs (first_number numbers) (first_sequence B L numbers) b in
    record {
      size = makes.size ∙ ap length now ∙ size_put I d lbn c ∙ ap length old;
      last = subst P (sym here) grown;
      made = λ i below.
          let m : ℕ = get_or numbers i 0 in
          let S : ℕ → Type 0 = λ k. IsMade B L (header_at B L n) (k + 1 + i) m (take 102 (drop (102 * i) (drop (room_of (header_at B L z) / 2) runs))) (drop (i + 1) numbers) (header_at J L m) in
          let T : List Run → Type 0 = λ rs. IsMade B L (header_at B L n) (segment + 1 + i) m (take 102 (drop (102 * i) rs)) (drop (i + 1) numbers) (header_at J L m) in
          subst S at (subst T left (made_before (applied I e) B L (header_at B L n) (segment + 1 + i) m _ (drop (i + 1) numbers) (header_at J L m) (others_kept I B d e L z lbn numbers c places apart found old now i below) (first_kept I B d e L z lbn numbers c places apart found old now (i + 1)) (makes.made (header_at B L n) is i below)));
      others = λ k away other.
          let different : k ≢ lbn = λ same. other (found ∙ ap Some (sym same)) in
          others k away ∙ ap (λ K. block_at K k) now ∙ put_other I d lbn c k different ∙ ap (λ K. block_at K k) old;
    }

-- where no header is new, none is made
pub none_new : (K : List (List ℕ)) (L : VolumeLayout) (first : Header) (segment : ℕ) (numbers : List ℕ) (rest : List Run) → length numbers ≡ 0 → MakesHeaders K L first segment numbers rest (length numbers) K
none_new K L first segment numbers rest none = subst (λ k. MakesHeaders K L first segment numbers rest k K) (sym none) (none_made K L first segment numbers rest)
