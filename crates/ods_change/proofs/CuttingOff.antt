-- The draft that cuts a file: headers are deleted, the header of the cut is written, and then bits are marked as free.
use Rattle.std.proofs.Common.{◌≡◌, ◌≢◌, ℕ, suc, ◌+◌, ◌-◌, ◌/◌, ◌%◌, ◌<◌, ◌≤◌, refl, ap, sym, ◌∙◌, subst, true, not, ◌&&◌, ◌||◌, IsTrue, List, [], ◌∷◌, ◌++◌, length, drop, get_or, slice_index, take, Option, Some, None, arith, inl, inr}
use Rattle.std.specs.Prelude.{is_some, slice_set}
use Rattle.std.specs.Option.{option_map_or}
use Rattle.std.specs.List.{Contains}
use Rattle.std.proofs.Math.Seq.{drop-append-add}
use Rattle.std.proofs.lemmas.Bool.{cases_eq, ltb-true}
use Rattle.std.proofs.lemmas.Grind.{flat_map-append}
use Rattle.std.proofs.lemmas.List.{append-nil, append_assoc, get_or-set_other, get_or-set_same, length-append, length-drop, length-set, map-append}
use Rattle.std.proofs.lemmas.List.Elements.{All-contains, Contains-append_right, Contains-get_or}
use Rattle.ods_base.specs.Block.{has_bit, word}
use Rattle.ods_base.specs.Image.{IsImage, block_at}
use Rattle.ods_header.specs.Cutting.{IsCutTo, first_runs}
use Rattle.ods_header.specs.Header.{IsValidHeader, blocks_of, runs_of}
use Rattle.ods_header.specs.Pointing.{KeepsFields}
use Rattle.ods_header.specs.Writing.{deleted}
use Rattle.ods_space.specs.Layout.{VolumeLayout, header_at, place_of}
use Rattle.ods_space.specs.Chain.{Follows, named_by, numbers_of}
use Rattle.ods_space.specs.Files.{IsWhole}
use Rattle.ods_space.specs.Free.{is_covered}
use Rattle.ods_space.proofs.Wholes.{chain_seen, numbered}
use Rattle.ods_alloc.specs.Extend.{ChangesOnly, GivesBack, GivesBits, IsBookkeeping, IsStorageBitmap, IsWellPlaced, is_one_of}
use Rattle.ods_alloc.specs.Marks.{Deletes}
use Rattle.ods_alloc.proofs.Giving.{gives_back}
use Rattle.ods_alloc.proofs.Places.{place_inside, place_not_index, place_not_storage, stands_in_storage}
use Rattle.ods_mount.specs.Sound.{IsSoundBy}
use Rattle.ods_state.specs.Cutting.{CutsOff, mapped_by}
use Rattle.ods_state.proofs.Bookkeeping.{well_placed}
use Rattle.ods_state.proofs.Chains.{first_in, later_in}
use Rattle.ods_state.proofs.CutChain.{chain_once}
use Rattle.ods_state.proofs.Shrunk.{found_by}
use Rattle.ods_state.proofs.Links.{place_is_one}
use Rattle.ods_state.proofs.OneHeader.{bits_there, header_there}
use Rattle.ods_change.specs.declared.truncate_file.CutPlace.{CutPlace}
use Rattle.ods_change.specs.Truncating.{IsCutPlace}
use Rattle.ods_change.proofs.HeldByFiles.{AreRead, numbered_read, places_in}

-- headers that are read in I, of which the first are these
read_named : (I : List (List ℕ)) (L : VolumeLayout) (hs rest : List (ℕ × List ℕ)) → AreRead I L (hs ++ rest) → named_by hs ≡ mapped_by I L (numbers_of hs)
read_named I L [] rest all = refl
read_named I L (h ∷ hs) rest all =
    (λ i. blocks_of (all 0 h (omega arith) i) ++ named_by hs) ∙ ap (λ l. blocks_of (header_at I L h.0) ++ l) (read_named I L hs rest (λ k d within. all (suc k) d (omega (arith, within))))

read_behind : (I : List (List ℕ)) (L : VolumeLayout) (hs rest : List (ℕ × List ℕ)) → AreRead I L (hs ++ rest) → AreRead I L rest
read_behind I L [] rest all = all
read_behind I L (h ∷ hs) rest all = read_behind I L hs rest (λ k d within. all (suc k) d (omega (arith, within)))

-- a slice from a place on is what is behind it
take_all : (xs : List ℕ) → take (length xs) xs ≡ xs
take_all [] = refl
take_all (x ∷ xs) = ap (λ l. x ∷ l) (take_all xs)

pub slice_behind : (xs : List ℕ) (k : ℕ) → take (length xs - k) (drop k xs) ≡ drop k xs
slice_behind xs k = ap (λ n. take n (drop k xs)) (sym (length-drop k xs)) ∙ take_all (drop k xs)

-- a valid header has a place
pub valid_has_place : (I : List (List ℕ)) (L : VolumeLayout) (m : ℕ) → IsValidHeader (header_at I L m) m → is_some (place_of L m) ≡ true
valid_has_place I L m valid = by (place_of L m) refl
  where
    by : (o : Option ℕ) → place_of L m ≡ o → is_some o ≡ true
    by (Some x) e = refl
    by None e = let level : 0 ≡ 257 = ap (λ p. word (option_map_or (block_at I) p []) 3) (sym e) ∙ valid.header.level in absurd (omega (arith, level))

module _ {I : List (List ℕ)} {L : VolumeLayout} (S : IsSoundBy I L) {n : ℕ} (high : 5 < n) {others blocks : List ℕ} (image : IsImage I) (whole : IsWhole I L n others blocks) {count : ℕ} {place : CutPlace} (P : IsCutPlace I L n count place) where
  abbrev last : ℕ
  last = place.number

  abbrev front : List ℕ
  front = numbers_of P.front

  abbrev gone : List ℕ
  gone = numbers_of place.behind

  all : numbered I L (n ∷ others) ≡ P.front ++ (last, place.header.now) ∷ place.behind
  all = sym (chain_seen I L n others blocks image S.layout whole.chain).headers ∙ P.parts

  numbers_are : (ns : List ℕ) → numbers_of (numbered I L ns) ≡ ns
  numbers_are [] = refl
  numbers_are (m ∷ ms) = ap (λ l. m ∷ l) (numbers_are ms)

  pub parts_are : n ∷ others ≡ front ++ last ∷ gone
  parts_are = sym (numbers_are (n ∷ others)) ∙ ap numbers_of all ∙ map-append (λ (h : ℕ × List ℕ). h.0) P.front ((last, place.header.now) ∷ place.behind)

  read_all : AreRead I L (P.front ++ (last, place.header.now) ∷ place.behind)
  read_all = subst (AreRead I L) all (numbered_read I L (n ∷ others))

  read_from : AreRead I L ((last, place.header.now) ∷ place.behind)
  read_from = read_behind I L P.front ((last, place.header.now) ∷ place.behind) read_all

  pub header_is : place.header.now ≡ header_at I L last
  header_is = read_from 0 (last, place.header.now) (omega arith)

  pub behind_read : AreRead I L place.behind
  behind_read = read_behind I L ((last, place.header.now) ∷ []) place.behind read_from

  pub last_valid : IsValidHeader (header_at I L last) last
  last_valid = subst (λ b. IsValidHeader b last) header_is P.valid

  front_maps : named_by P.front ≡ mapped_by I L front
  front_maps = read_named I L P.front ((last, place.header.now) ∷ place.behind) read_all

  blocks_are : blocks ≡ named_by P.front ++ (blocks_of place.header.now ++ named_by place.behind)
  blocks_are =
      (chain_seen I L n others blocks image S.layout whole.chain).named ∙ ap named_by all
      ∙ flat_map-append (λ (h : ℕ × List ℕ). blocks_of h.1) P.front ((last, place.header.now) ∷ place.behind)

  -- what is behind the blocks that are kept of the last header is what goes
  pub away_are : drop place.left (blocks_of place.header.now ++ named_by place.behind) ≡ drop count blocks
  away_are =
      sym (drop-append-add (named_by P.front) (blocks_of place.header.now ++ named_by place.behind) place.left)
      ∙ ap (λ k. drop k (named_by P.front ++ (blocks_of place.header.now ++ named_by place.behind))) (sym P.left) ∙ ap (drop count) (sym blocks_are)

  chain : Follows I L.home (Some L.index) [] 0 n others blocks
  chain = subst (λ o. Follows I L.home o [] 0 n others blocks) (found_by L n high) whole.chain

  last_apart : ¬ Contains gone last
  last_apart behind = chain_once I L [] 0 n others blocks chain (front ++ last ∷ []) gone last (parts_are ∙ sym (append_assoc front (last ∷ []) gone)) (Contains-append_right front (last ∷ []) last (first_in last [])) behind

  module _ (x : ℕ) (at : place_of L last ≡ Some x) (c : List ℕ) (J K M : List (List ℕ)) (lbns numbers : List ℕ) (deletes : Deletes I L numbers J) (written : K ≡ slice_set J x c)
      (are : numbers ≡ gone) (some : lbns ≡ drop count blocks) (bits : GivesBits K L lbns numbers M) (only : ChangesOnly K L [] M)
      (cut : IsCutTo (header_at I L last) (first_runs place.left (runs_of (header_at I L last))) c) (fields : KeepsFields (header_at I L last) c)
      (valid : (m : ℕ) → IsValidHeader (header_at I L last) m → IsValidHeader c m) where
    W : IsWellPlaced L
    W = well_placed I L S

    inside : x < length I
    inside = place_inside (length I) L last x (places_in I L S.layout W) at

    -- the image with the header of the cut alone
    abbrev I2 : List (List ℕ)
    I2 = slice_set I x c

    there : (X : List (List ℕ)) (y : ℕ) → y ≢ x → block_at (slice_set X x c) y ≡ block_at X y
    there X y other = get_or-set_other X x y c [] other

    other_place : (m y : ℕ) → Contains gone m → place_of L m ≡ Some y → y ≢ x
    other_place m y among places same = last_apart (subst (Contains gone) (place_is_one I L S m last x (places ∙ ap (λ z. Some z) same) at) among)

    -- the headers behind the cut are deleted in it
    deletes_there : Deletes I2 L gone K
    deletes_there =
        let D : Deletes I L gone J = subst (λ ns. Deletes I L ns J) are deletes in
        record {
          size = ap length written ∙ length-set J x c ∙ D.size ∙ sym (length-set I x c);
          headers = λ m y among places.
              let other = other_place m y among places in
              ap (λ X. block_at X y) written ∙ there J y other ∙ D.headers m y among places ∙ ap deleted (sym (there I y other));
          others = λ y none. ap (λ X. block_at X y) written ∙ elim (cases_eq y x) [
            | inl same ↦ ap (block_at (slice_set J x c)) same ∙ get_or-set_same J x c [] (subst (λ k. x < k) (sym D.size) inside) ∙ sym (ap (block_at I2) same ∙ get_or-set_same I x c [] inside)
            | inr other ↦ there J y other ∙ D.others y none ∙ sym (there I y other)
          ];
        }

    back : GivesBack I2 L (drop count blocks) gone M
    back = gives_back I2 K M L (drop count blocks) gone W deletes_there (subst (λ l. GivesBits K L l gone M) some (subst (λ ns. GivesBits K L lbns ns M) are bits)) only

    -- the place of a header is none of a bitmap
    storage_there : (y : ℕ) → IsTrue (is_covered L y) → slice_index L.bitmap (1 + y / 4096) ≢ x
    storage_there y covered same = place_not_storage L last x W at (subst (IsStorageBitmap L) same (stands_in_storage L y (ltb-true (1 + y / 4096) (length L.bitmap) covered)))

    last_stays : ¬ IsBookkeeping L gone x
    last_stays (inl p) = place_not_index L last x W at p
    last_stays (inr (inl p)) = place_not_storage L last x W at p
    last_stays (inr (inr p)) = other_place p.0 x p.1 p.2 refl

    header_now : header_at M L last ≡ c
    header_now =
        ap (λ o. option_map_or (block_at M) o []) at ∙ back.only.others x last_stays ∙ get_or-set_same I x c [] inside

    other_header : (m : ℕ) → Contains gone m → header_at M L m ≡ deleted (header_at I L m)
    other_header m among =
        All-contains (λ k. header_at M L k ≡ deleted (header_at I2 L k)) gone m back.headers among
        ∙ ap deleted (header_there I L S last x c at m (λ same. last_apart (subst (Contains gone) same among)))

    pub cuts_along : CutsOff I L n others blocks count M
    cuts_along =
        let so_many : count ≡ length (mapped_by I L front) + place.left = P.left ∙ ap (λ l. length l + place.left) front_maps in
        let rest : place.left ≡ count - length (mapped_by I L front) = omega (arith, so_many) in
        record {
          front = front;
          last = last;
          gone = gone;
          parts = parts_are;
          fewer = elim P.fewer [
            | inl none ↦ inl (ap numbers_of none)
            | inr few ↦ inr (subst (λ l. length l < count) front_maps few)
          ];
          passed = omega (arith, so_many);
          has =
              let maps : mapped_by I L (front ++ last ∷ []) ≡ mapped_by I L front ++ blocks_of (header_at I L last) =
              flat_map-append (λ m. blocks_of (header_at I L m)) front (last ∷ []) ∙ ap (λ l. mapped_by I L front ++ l) (append-nil (blocks_of (header_at I L last))) in
              let long = ap length maps ∙ length-append (mapped_by I L front) (blocks_of (header_at I L last)) in
              let has = subst (λ b. place.left ≤ length (blocks_of b)) header_is P.has in
              omega (arith, long, has, so_many);
          cut = subst (λ b. IsCutTo (header_at I L last) (first_runs (count - length (mapped_by I L front)) (runs_of (header_at I L last))) b) (sym header_now)
              (subst (λ k. IsCutTo (header_at I L last) (first_runs k (runs_of (header_at I L last))) c) rest cut);
          fields = subst (KeepsFields (header_at I L last)) (sym header_now) fields;
          valid = λ m v. subst (λ b. IsValidHeader b m) (sym header_now) (valid m v);
          headers = λ k d within. other_header (get_or gone k d) (Contains-get_or gone k d within);
          bits = record {
            storage = λ y covered. back.bits.storage y covered ∙ ap (λ b. has_bit b (y % 4096) || is_one_of (drop count blocks) y) (there I (slice_index L.bitmap (1 + y / 4096)) (storage_there y covered));
            index_bits = λ m. back.bits.index_bits m ∙ ap (λ b. b && not (is_one_of gone m)) (bits_there I L S last x c at m);
          };
          only = record {
            size = back.only.size ∙ length-set I x c;
            others = λ y none.
                let other : y ≢ x = λ same. none (inr (inr (last, first_in last gone, at ∙ ap (λ z. Some z) (sym same)))) in
                back.only.others y (λ p. none (wider y p)) ∙ there I y other;
          };
        }
      where
        wider : (y : ℕ) → IsBookkeeping L gone y → IsBookkeeping L (last ∷ gone) y
        wider y (inl p) = inl p
        wider y (inr (inl p)) = inr (inl p)
        wider y (inr (inr p)) = inr (inr (p.0, later_in last gone p.0 p.1, p.2))
