-- Why there is no layout is a fault of the image.
use Rattle.std.proofs.Common.{◌≡◌, ◌≢◌, ℕ, ◌+◌, ◌<◌, List, [], length, None, inl, inr, refl, sym, ap, ◌∙◌, subst, arith}
use Rattle.std.proofs.lemmas.Bool.{cases_lt}
use Rattle.std.proofs.lemmas.List.Elements.{All-contains}
use Rattle.ods_base.specs.Image.{IsImage}
use Rattle.ods_header.specs.declared.home.Home.{Home}
use Rattle.ods_header.specs.Home.{IsHomeOf}
use Rattle.ods_space.specs.Layout.{VolumeLayout, last_number}
use Rattle.ods_space.specs.Chain.{IsIndex, index_for}
use Rattle.ods_space.specs.Files.{IsFile, AreInside, FindsFiles, HasBlocks, HasIndexHeader, IsLayoutOf}
use Rattle.ods_space.specs.Faults.{IsLayoutFault, IsChainFault, IsOfIndex, layout_with}
use Rattle.ods_space.specs.declared.fault.ChainFault.TheVariants as chain
use Rattle.ods_space.specs.declared.fault.LayoutFault.{LayoutFault}
use Rattle.ods_space.specs.declared.fault.LayoutFault.TheVariants.{NoFile, Chain, NoMemory as NoLayout}
use Rattle.ods_space.proofs.Chains.{head_of, same_chain}
use Rattle.ods_mount.specs.declared.fault.MountFault.{MountFault}
use Rattle.ods_mount.specs.declared.fault.MountFault.TheVariants.{BadIndex, BadStorageMap, BadChain, OutsideVolume, NoMemory}
use Rattle.ods_mount.specs.Faults.{IsSeenBy, IsTrueOf, FaultIsTrue}
use Rattle.ods_mount.specs.Checks.{mount_fault_of}
use Rattle.ods_mount.proofs.Decided.{decide_bitmap}
use Rattle.ods_mount.proofs.Layouts.{same_home, same_index, with_bitmap}

-- header 1 begins a chain
index_header : (I : List (List ℕ)) (h : Home) (index : List ℕ) → IsIndex I h index → HasIndexHeader I h
index_header I h index found = let head = head_of I h None [] 0 1 found.0 index found.1 in (head.in_use, head.valid, head.segment)

-- the faults of an image that has a layout are faults of it
pub true_by_layout : (I : List (List ℕ)) (L : VolumeLayout) (fault : MountFault) → IsLayoutOf I L → IsTrueOf I L fault → FaultIsTrue I fault
true_by_layout I L fault layout f = inr (
  L,
  record {
    home = layout.home;
    header = index_header I L.home L.index (layout.index.others, layout.index.whole.chain);
    index = (layout.index.others, layout.index.whole.chain);
    bitmap = inl layout.bitmap;
  },
  f,
)

module _ (I : List (List ℕ)) (h : Home) (home : IsHomeOf I h) where
  -- a volume whose BITMAP.SYS has no whole chain
  seen_without : (index : List ℕ) → IsIndex I h index → ((blocks : List ℕ) → ¬ HasBlocks I (layout_with h index) 2 blocks) → IsSeenBy I (layout_with h index)
  seen_without index found none = record { home = home; header = index_header I h index found; index = found; bitmap = inr (refl, none) }

  -- BITMAP.SYS does not exist
  no_bitmap_file : (index : List ℕ) → IsIndex I h index → ¬ IsFile I (layout_with h index) 2 → FaultIsTrue I BadStorageMap
  no_bitmap_file index found none = inr (layout_with h index, seen_without index found (λ blocks has. none has.file), inl none)

  -- INDEXF.SYS maps too little for any header
  short_index : (index : List ℕ) → IsIndex I h index → ¬ IsFile I (layout_with h index) 1 → FaultIsTrue I BadIndex
  short_index index found none =
      let L : VolumeLayout = layout_with h index in
      let header = index_header I h index found in
      elim (cases_lt 0 (last_number L)) [
        | inl some ↦ absurd (none (record { first = omega arith; last = some; in_use = header.0; valid = header.1; segment = header.2 }))
        | inr zero ↦
            let size = home.1.home.index_bitmap_size in
            let files = home.1.home.max_files in
            let same_size = ap (λ g. g.index_bitmap_size) home.2 in
            let same_files = ap (λ g. g.max_files) home.2 in
            let few : length index < h.index_bitmap_size + 18 = omega arith in
            inr (L, seen_without index found (λ blocks has. (let last = has.file.last in omega arith)), inl few)
      ]

  -- INDEXF.SYS or BITMAP.SYS names a block that the image lacks
  outside_volume : (index : List ℕ) (n lbn : ℕ) → IsImage I → IsIndex I h index → IsFile I (layout_with h index) n → IsChainFault I (layout_with h index) n (chain.OutsideVolume lbn) → FaultIsTrue I (OutsideVolume n lbn)
  outside_volume index n lbn image found file fault = elim (decide_bitmap I (layout_with h index) image) [
    | inl (bits, has) ↦ inr (
      record { home = h; index = index; bitmap = bits },
      record { home = home; header = index_header I h index found; index = found; bitmap = inl (with_bitmap I (layout_with h index) bits 2 bits has) },
      (file, fault.0, fault.1, fault.2, fault.3, fault.4),
    )
    | inr none ↦ inr (layout_with h index, seen_without index found none, (file, fault.0, fault.1, fault.2, fault.3, fault.4))
  ]

  pub fault_is_true : (fault : LayoutFault) → IsImage I → IsLayoutFault I h fault → mount_fault_of fault ≢ NoMemory → FaultIsTrue I (mount_fault_of fault)
  fault_is_true (NoFile n) image (inl (one, inl none)) some = let P : ℕ → Type 0 = λ x. FaultIsTrue I (mount_fault_of (NoFile x)) in subst P (sym one) (inl (h, home, none))
  fault_is_true (NoFile n) image (inl (one, inr (index, found, none))) some = let P : ℕ → Type 0 = λ x. FaultIsTrue I (mount_fault_of (NoFile x)) in subst P (sym one) (short_index index found none)
  fault_is_true (NoFile n) image (inr (two, index, found, none)) some = let P : ℕ → Type 0 = λ x. FaultIsTrue I (mount_fault_of (NoFile x)) in subst P (sym two) (no_bitmap_file index found none)
  fault_is_true (Chain n chain.BadChain) image (inl (one, header, none)) some = inl (one, h, home, header, none)
  fault_is_true (Chain n chain.BadChain) image (inr (two, index, found, file, none)) some =
      let P : ℕ → Type 0 = λ x. FaultIsTrue I (BadChain x) in
      subst P (sym two) (inr (layout_with h index, seen_without index found (λ blocks has. none has.others blocks has.whole.chain), (file, inl none)))
  fault_is_true (Chain n (chain.OutsideVolume lbn)) image (which, index, found, file, fault) some = outside_volume index n lbn image found file fault
  fault_is_true (Chain n chain.NoMemory) image fault some = absurd fault
  fault_is_true NoLayout image fault some = absurd (some refl)

  -- INDEXF.SYS of a layout, by this home block
  index_of : (L : VolumeLayout) → FindsFiles I L → IsIndex I h L.index
  index_of L x = let P : Home → Type 0 = λ g. IsIndex I g L.index in subst P (same_home I L.home h x.home home) (x.index.others, x.index.whole.chain)

  -- the blocks of a file of a layout are those by this home block and this index
  near : (L : VolumeLayout) → FindsFiles I L → (index : List ℕ) → IsIndex I h index → (n : ℕ) (xs : List ℕ) → HasBlocks I L n xs → HasBlocks I (layout_with h index) n xs
  near L x index found n xs has =
      let p : L.home ≡ h = same_home I L.home h x.home home in
      let q : L.index ≡ index = same_index I h L.index index (index_of L x) found in
      let Q : VolumeLayout → Type 0 = λ N. HasBlocks I N n xs in
      let e : record { home = L.home; index = L.index; bitmap = [] } ≡ layout_with h index = λ i. record { home = p i; index = q i; bitmap = [] } in
      subst Q e (with_bitmap I L [] n xs has)

  -- a file of a layout names no block that the image lacks
  all_inside : (L : VolumeLayout) → FindsFiles I L → (index : List ℕ) (n lbn : ℕ) (xs : List ℕ) → IsIndex I h index → HasBlocks I L n xs → IsChainFault I (layout_with h index) n (chain.OutsideVolume lbn) → ⊥
  all_inside L x index n lbn xs found has fault =
      let there = near L x index found n xs has in
      let same : xs ≡ fault.1 = (same_chain I h (index_for (layout_with h index) n) [] 0 n there.others xs fault.0 fault.1 there.whole.chain fault.2).1 in
      let R : List ℕ → Type 0 = λ bs. AreInside I bs in
      let below : lbn < length I = All-contains (λ b. b < length I) fault.1 lbn (subst R same there.whole.inside) fault.3 in
      omega (arith, below, fault.4)

  -- where this reason is one of INDEXF.SYS, no layout finds files
  pub finds_none : (fault : LayoutFault) → IsLayoutFault I h fault → IsOfIndex fault → fault ≢ NoLayout → (L : VolumeLayout) → FindsFiles I L → ⊥
  finds_none (NoFile n) (inl (one, inl none)) of some L x = none (index_header I h L.index (index_of L x))
  finds_none (NoFile n) (inl (one, inr (index, found, none))) of some L x = let there = near L x index found 1 L.index x.index in none there.file
  finds_none (NoFile n) (inr (two, index, found, none)) of some L x = absurd (let clash : ◌≡◌ {A = ℕ} 1 2 = sym of ∙ two in cc)
  finds_none (Chain n chain.BadChain) (inl (one, header, none)) of some L x = none L.index (index_of L x)
  finds_none (Chain n chain.BadChain) (inr (two, index, found, file, none)) of some L x = absurd (let clash : ◌≡◌ {A = ℕ} 1 2 = sym of ∙ two in cc)
  finds_none (Chain n (chain.OutsideVolume lbn)) (inl one, index, found, file, fault) of some L x =
      let P : ℕ → Type 0 = λ m. IsChainFault I (layout_with h index) m (chain.OutsideVolume lbn) in
      all_inside L x index 1 lbn L.index found x.index (subst P one fault)
  finds_none (Chain n (chain.OutsideVolume lbn)) (inr two, index, found, file, fault) of some L x = absurd (let clash : ◌≡◌ {A = ℕ} 1 2 = sym of ∙ two in cc)
  finds_none (Chain n chain.NoMemory) fault of some L x = absurd fault
  finds_none NoLayout fault of some L x = absurd (some refl)

  -- what BITMAP.SYS has nothing to do with
  finding : (L : VolumeLayout) → IsLayoutOf I L → FindsFiles I L
  finding L x = record { home = x.home; index = x.index }

  -- where there is this reason, there is no layout
  pub has_no_layout : (fault : LayoutFault) → IsLayoutFault I h fault → mount_fault_of fault ≢ NoMemory → (L : VolumeLayout) → IsLayoutOf I L → ⊥
  has_no_layout (NoFile n) (inl (one, inl none)) some L x = none (index_header I h L.index (index_of L (finding L x)))
  has_no_layout (NoFile n) (inl (one, inr (index, found, none))) some L x = let there = near L (finding L x) index found 1 L.index x.index in none there.file
  has_no_layout (NoFile n) (inr (two, index, found, none)) some L x = let there = near L (finding L x) index found 2 L.bitmap x.bitmap in none there.file
  has_no_layout (Chain n chain.BadChain) (inl (one, header, none)) some L x = none L.index (index_of L (finding L x))
  has_no_layout (Chain n chain.BadChain) (inr (two, index, found, file, none)) some L x = let there = near L (finding L x) index found 2 L.bitmap x.bitmap in none there.others L.bitmap there.whole.chain
  has_no_layout (Chain n (chain.OutsideVolume lbn)) (inl one, index, found, file, fault) some L x =
      let P : ℕ → Type 0 = λ m. IsChainFault I (layout_with h index) m (chain.OutsideVolume lbn) in
      all_inside L (finding L x) index 1 lbn L.index found x.index (subst P one fault)
  has_no_layout (Chain n (chain.OutsideVolume lbn)) (inr two, index, found, file, fault) some L x =
      let P : ℕ → Type 0 = λ m. IsChainFault I (layout_with h index) m (chain.OutsideVolume lbn) in
      all_inside L (finding L x) index 2 lbn L.bitmap found x.bitmap (subst P two fault)
  has_no_layout (Chain n chain.NoMemory) fault some L x = absurd fault
  has_no_layout NoLayout fault some L x = absurd (some refl)
