-- The files 1 and 2 of a volume, and the layout that they make.
use Rattle.std.proofs.Common.{◌≡◌, ◌≢◌, ℕ, ◌+◌, ◌-◌, ◌<◌, ◌≤◌, List, [], length, Some, None, refl, sym, ap, ◌∙◌, subst, arith, inl, inr}
use Rattle.std.proofs.lemmas.Bool.{cases_lt}
use Rattle.std.proofs.lemmas.List.{get_or_past}
use Rattle.ods_base.specs.Block.{word}
use Rattle.ods_base.specs.Image.{block_at}
use Rattle.ods_header.specs.declared.home.Home.{Home}
use Rattle.ods_header.specs.Header.{IsValidHeader}
use Rattle.ods_header.specs.Home.{IsHomeOf}
use Rattle.ods_space.specs.Layout.{VolumeLayout, header_by}
use Rattle.ods_space.specs.Chain.{most, IsSegment, IsIndex}
use Rattle.ods_space.specs.Files.{IsFile, AreInside, FindsFiles, IsLayoutOf}
use Rattle.ods_space.specs.Faults.{IsLayoutFault, layout_with}
use Rattle.ods_space.specs.Walk.{Leads, IsDeadEnd, layout_fault_of}
use Rattle.ods_space.specs.declared.fault.ChainFault.{ChainFault}
use Rattle.ods_space.specs.declared.fault.ChainFault.TheVariants.{BadChain, OutsideVolume, NoMemory}
use Rattle.ods_space.proofs.Chains.{head_of}

-- Header 1 stands at one place whatever INDEXF.SYS maps, so it is a file where its number is within the bound.
pub index_is_file : (I : List (List ℕ)) (h : Home) (index : List ℕ) (limit : ℕ) → IsIndex I h index → limit ≡ most h (Some index) [] → limit ≢ 0 → IsFile I (layout_with h index) 1
index_is_file I h index limit leads is some =
    let first = head_of I h None [] 0 1 leads.0 index leads.1 in
    let P : ℕ → Type 0 = λ x. 1 ≤ x in
    let one : 1 ≤ limit = omega arith in
    record { first = first.first; last = subst P is one; in_use = first.in_use; valid = first.valid; segment = first.segment }

-- header 1 stands in the image
pub header_1_inside : (I : List (List ℕ)) (h : Home) (index : List ℕ) → IsValidHeader (header_by I h index 1) 1 → h.index_bitmap_lbn + h.index_bitmap_size < length I
header_1_inside I h index valid = elim (cases_lt (h.index_bitmap_lbn + h.index_bitmap_size + 1 - 1) (length I)) [
  | inl inside ↦ omega arith
  | inr past ↦
      let none : block_at I (h.index_bitmap_lbn + h.index_bitmap_size + 1 - 1) ≡ [] = get_or_past I (h.index_bitmap_lbn + h.index_bitmap_size + 1 - 1) [] past in
      let zero : word (header_by I h index 1) 3 ≡ 0 = ap (λ b. word b 3) none in
      absurd (let clash : ◌≡◌ {A = ℕ} 0 257 = sym zero ∙ valid.header.level in cc)
]

-- why there is no BITMAP.SYS
pub bitmap_fault : (I : List (List ℕ)) (h : Home) (index : List ℕ) (limit : ℕ) (fault : ChainFault) → IsIndex I h index → limit ≡ most h (Some index) [] → IsSegment I h index limit 2 0
    → IsDeadEnd I h (Some index) 2 fault → IsLayoutFault I h (layout_fault_of 2 fault)
bitmap_fault I h index limit BadChain found is file none =
    let P : ℕ → Type 0 = λ x. IsSegment I h index x 2 0 in
    inr (refl, index, found, subst P is file, λ others blocks chain. none blocks (others, chain))
bitmap_fault I h index limit (OutsideVolume lbn) found is file none = absurd none
bitmap_fault I h index limit NoMemory found is file none = tt

-- INDEXF.SYS has a whole chain
pub finds_files : (I : List (List ℕ)) (L : VolumeLayout) → IsHomeOf I L.home → IsIndex I L.home L.index → AreInside I L.index → IsFile I L 1 → FindsFiles I L
finds_files I L home index inside file = record { home = home; index = record { file = file; others = index.0; whole = record { chain = index.1; inside = inside } } }

-- both files have whole chains
pub layout_of : (I : List (List ℕ)) (L : VolumeLayout) → IsHomeOf I L.home → IsIndex I L.home L.index → AreInside I L.index → IsFile I L 1 → Leads I L.home (Some L.index) 2 L.bitmap → AreInside I L.bitmap → IsLayoutOf I L
layout_of I L home index index_inside file bitmap bitmap_inside = record {
  home = home;
  index = record { file = file; others = index.0; whole = record { chain = index.1; inside = index_inside } };
  bitmap = record {
    file = head_of I L.home (Some L.index) [] 0 2 bitmap.0 L.bitmap bitmap.1;
    others = bitmap.0;
    whole = record { chain = bitmap.1; inside = bitmap_inside };
  };
}
