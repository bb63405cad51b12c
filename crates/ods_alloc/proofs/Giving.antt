-- Headers deleted one after another, and then the bits of their numbers and of blocks.
use Rattle.std.proofs.Common.{◌≡◌, ◌≢◌, ℕ, ◌+◌, ◌/◌, ◌%◌, ◌<◌, true, false, not, ◌&&◌, ◌||◌, IsTrue, List, [], ◌∷◌, ◌++◌, length, get_or, slice_index, Option, Some, None, refl, sym, ap, ◌∙◌, subst, arith, inl, inr}
use Rattle.std.specs.Option.{option_map_or}
use Rattle.std.specs.List.{Contains}
use Rattle.std.proofs.lemmas.Bool.{cases_eq, ltb-true}
use Rattle.std.proofs.lemmas.Option.{same_Some}
use Rattle.std.proofs.lemmas.List.Elements.{Contains-append_left, Contains-push, Contains-push_cases, Contains-get_or}
use Rattle.ods_base.specs.Block.{has_bit}
use Rattle.ods_base.specs.Image.{block_at}
use Rattle.ods_space.specs.Layout.{VolumeLayout, place_of, is_in_use}
use Rattle.ods_space.specs.Free.{is_covered, storage_bit}
use Rattle.ods_space.specs.Draft.{Changes, applied, seen_at}
use Rattle.ods_space.proofs.Drafts.{block_at-applied}
use Rattle.ods_header.specs.Writing.{deleted}
use Rattle.ods_alloc.specs.Extend.{ChangesOnly, GivesBack, GivesBits, IsBookkeeping, IsWellPlaced, IsIndexBitmap, IsStorageBitmap, IsHeaderPlace, is_one_of}
use Rattle.ods_alloc.specs.Marks.{MarksBlocks, MarksNumbers, Deletes}
use Rattle.ods_alloc.proofs.OneBit.{size_put, put_same, put_other}
use Rattle.ods_alloc.proofs.ManyBits.{numbers_marked, cond_or, cond_and}
use Rattle.ods_alloc.proofs.Places.{place_not_index, place_not_storage, bitmaps_apart, stands_in_storage, same_in_use, never_in_use, cases_covered}

pub none_deleted : (I : List (List ℕ)) (L : VolumeLayout) → Deletes I L [] I
none_deleted I L = record { size = refl; headers = λ n lbn among found. absurd (let within = among.1 in omega arith); others = λ lbn away. refl }

-- a number without a place
pub passed_by : (I J : List (List ℕ)) (L : VolumeLayout) (xs : List ℕ) (x : ℕ) → Deletes I L xs J → place_of L x ≡ None → Deletes I L (xs ++ x ∷ []) J
passed_by I J L xs x before none = record {
  size = before.size;
  headers = λ n lbn among found. elim (Contains-push_cases xs x n among) [
    | inl earlier ↦ before.headers n lbn earlier found
    | inr here ↦ absurd (let clash : ◌≡◌ {A = Option ℕ} None (Some lbn) = sym none ∙ ap (place_of L) here ∙ found in cc)
  ];
  others = λ lbn away. before.others lbn (λ p. away (p.0, Contains-append_left xs (x ∷ []) p.0 p.1, p.2));
}

-- one header more
pub one_deleted : (I : List (List ℕ)) (old d e : Changes) (L : VolumeLayout) (xs : List ℕ) (x lbn : ℕ) (b c : List ℕ) → lbn < length I → place_of L x ≡ Some lbn
    → b ≡ seen_at I old lbn → c ≡ deleted b → e ≡ (lbn, c) ∷ d → Deletes (applied I old) L xs (applied I d) → Deletes (applied I old) L (xs ++ x ∷ []) (applied I e)
one_deleted I old d e L xs x lbn b c inside found read makes is before =
    let now : applied I e ≡ applied I ((lbn, c) ∷ d) = ap (applied I) is in
    let value : c ≡ deleted (block_at (applied I old) lbn) = makes ∙ ap deleted (read ∙ sym (block_at-applied I old lbn inside)) in
    let put : block_at (applied I e) lbn ≡ c = ap (λ J. block_at J lbn) now ∙ put_same I d lbn c inside in
    record {
      size = ap length now ∙ size_put I d lbn c ∙ before.size;
      headers = λ n at among places. elim (cases_eq at lbn) [
        | inl same ↦ ap (block_at (applied I e)) same ∙ put ∙ value ∙ ap (λ k. deleted (block_at (applied I old) k)) (sym same)
        | inr other ↦ elim (Contains-push_cases xs x n among) [
          | inl earlier ↦ ap (λ J. block_at J at) now ∙ put_other I d lbn c at other ∙ before.headers n at earlier places
          | inr here ↦ absurd (other (same_Some at lbn (sym places ∙ ap (place_of L) (sym here) ∙ found)))
        ]
      ];
      others = λ at away.
          let other : at ≢ lbn = λ e'. away (let P : ℕ → Type 0 = λ k. IsHeaderPlace L (xs ++ x ∷ []) k in subst P (sym e') (x, Contains-push xs x, found)) in
          ap (λ J. block_at J at) now ∙ put_other I d lbn c at other ∙ before.others at (λ p. away (p.0, Contains-append_left xs (x ∷ []) p.0 p.1, p.2));
    }

-- The bits of numbers and of blocks marked as free.
module _ (J K M : List (List ℕ)) (L : VolumeLayout) (blocks numbers : List ℕ) (places : IsWellPlaced L)
    (free_numbers : MarksNumbers J L numbers false K) (free_blocks : MarksBlocks K L blocks true M) where
  storage_stays : (x : ℕ) → IsTrue (is_covered L x) → storage_bit K L x ≡ storage_bit J L x
  storage_stays x covered =
      let lbn : ℕ = slice_index L.bitmap (1 + x / 4096) in
      let stands : IsStorageBitmap L lbn = stands_in_storage L x (ltb-true (1 + x / 4096) (length L.bitmap) covered) in
      ap (λ b. has_bit b (x % 4096)) (free_numbers.others lbn (λ p. bitmaps_apart L lbn places p stands))

  index_behind : (n : ℕ) → is_in_use M L.home n ≡ is_in_use K L.home n
  index_behind n = same_in_use M K L (λ lbn index. free_blocks.others lbn (λ p. bitmaps_apart L lbn places index p)) n

  given_number : (n : ℕ) → is_in_use M L.home n ≡ (is_in_use J L.home n && not (is_one_of numbers n))
  given_number n = elim (cases_covered L n) [
    | inl covered ↦ index_behind n ∙ numbers_marked J K L numbers false free_numbers n covered ∙ cond_and (is_one_of numbers n) (is_in_use J L.home n)
    | inr past ↦ never_in_use M L n past ∙ ap (λ t. t && not (is_one_of numbers n)) (sym (never_in_use J L n past))
  ]

  pub gives_bits : GivesBits J L blocks numbers M
  gives_bits = record {
    storage = λ x covered. free_blocks.bits x covered ∙ cond_or (is_one_of blocks x) (storage_bit K L x) ∙ ap (λ t. t || is_one_of blocks x) (storage_stays x covered);
    index_bits = given_number;
  }

  pub only_bits : ChangesOnly J L [] M
  only_bits = record {
    size = free_blocks.size ∙ free_numbers.size;
    others = λ lbn away. free_blocks.others lbn (λ p. away (inr (inl p))) ∙ free_numbers.others lbn (λ p. away (inl p));
  }

-- Headers are deleted, and then bits are marked as free: so all is given back.
module _ (I J M : List (List ℕ)) (L : VolumeLayout) (blocks numbers : List ℕ) (places : IsWellPlaced L)
    (headers : Deletes I L numbers J) (bits : GivesBits J L blocks numbers M) (only : ChangesOnly J L [] M) where
  -- a block that no bit changes
  kept_behind : (lbn : ℕ) → (IsIndexBitmap L lbn → ⊥) → (IsStorageBitmap L lbn → ⊥) → block_at M lbn ≡ block_at J lbn
  kept_behind lbn a b = only.others lbn away
    where
      away : IsBookkeeping L [] lbn → ⊥
      away (inl p) = a p
      away (inr (inl p)) = b p
      away (inr (inr p)) = let within = p.1.1 in absurd (omega arith)

  header_deleted : (n : ℕ) → Contains numbers n → (place : Option ℕ) → place_of L n ≡ place → option_map_or (block_at M) place [] ≡ deleted (option_map_or (block_at I) place [])
  header_deleted n among None found = refl
  header_deleted n among (Some lbn) found =
      kept_behind lbn (place_not_index L n lbn places found) (place_not_storage L n lbn places found) ∙ headers.headers n lbn among found

  storage_before : (x : ℕ) → IsTrue (is_covered L x) → storage_bit J L x ≡ storage_bit I L x
  storage_before x covered =
      let lbn : ℕ = slice_index L.bitmap (1 + x / 4096) in
      let stands : IsStorageBitmap L lbn = stands_in_storage L x (ltb-true (1 + x / 4096) (length L.bitmap) covered) in
      ap (λ b. has_bit b (x % 4096)) (headers.others lbn (λ p. place_not_storage L p.0 lbn places p.2 stands))

  index_before : (n : ℕ) → is_in_use J L.home n ≡ is_in_use I L.home n
  index_before n = same_in_use J I L (λ lbn index. headers.others lbn (λ p. place_not_index L p.0 lbn places p.2 index)) n

  pub gives_back : GivesBack I L blocks numbers M
  gives_back = record {
    headers = λ k d within. header_deleted (get_or numbers k d) (Contains-get_or numbers k d within) (place_of L (get_or numbers k d)) refl;
    bits = record {
      storage = λ x covered. bits.storage x covered ∙ ap (λ t. t || is_one_of blocks x) (storage_before x covered);
      index_bits = λ n. bits.index_bits n ∙ ap (λ t. t && not (is_one_of numbers n)) (index_before n);
    };
    only = record {
      size = only.size ∙ headers.size;
      others = λ lbn away. kept_behind lbn (λ p. away (inl p)) (λ p. away (inr (inl p))) ∙ headers.others lbn (λ p. away (inr (inr p)));
    };
  }
