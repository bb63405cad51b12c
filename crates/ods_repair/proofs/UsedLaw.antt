-- What it leaves that each held block which was marked free is marked as used.
use Rattle.std.proofs.Common.{◌≡◌, ◌≢◌, ℕ, ◌+◌, ◌-◌, ◌<◌, refl, ap, sym, ◌∙◌, subst, true, false, cond, IsTrue, List, [], length, drop, get_or, Some, arith, inl, inr}
use Rattle.std.specs.Prelude.{◌↔◌, ◌⊎◌, slice_get}
use Rattle.std.specs.List.{Contains}
use Rattle.std.specs.List.Sorted.{IsStrictlyIncreasing}
use Rattle.std.proofs.lemmas.List.{get_or-drop, length-drop}
use Rattle.std.proofs.lemmas.Option.{slice_get-get_or}
use Rattle.ods_header.proofs.DirectoryHeaders.{is_apart}
use Rattle.ods_space.specs.Layout.{VolumeLayout, header_at}
use Rattle.ods_space.specs.Files.{Holds, IsLayoutOf}
use Rattle.ods_space.specs.Free.{is_covered, is_free_block, storage_bit}
use Rattle.ods_alloc.specs.Extend.{IsStorageBitmap, is_one_of}
use Rattle.ods_alloc.specs.Marks.{MarksBlocks}
use Rattle.ods_mount.specs.declared.fault.MountFault.{MountFault}
use Rattle.ods_mount.specs.declared.fault.MountFault.TheVariants.{NoHome, BadIndex, BadStorageMap, BadMaster, UnsupportedMap, BadChain, OutsideVolume, DoublyUsed, MarkedFree, BadDirectory, DuplicateName, NoMemory}
use Rattle.ods_mount.specs.Faults.{CouldBeWritten, FaultIsTrue, HasBadIndex, IsDirectoryFile, IsSound, IsTrueAtHome, IsTrueOf}
use Rattle.ods_mount.proofs.Each.{holds_at}
use Rattle.ods_mount.proofs.Layouts.{same_layout}
use Rattle.ods_mount.proofs.Unlaid.{true_by_layout}
use Rattle.ods_state.proofs.OnlyBookkeeping.{among_or_not}
use Rattle.ods_check.specs.declared.finding.Finding.{Finding}
use Rattle.ods_check.specs.Findings.{IsFound, IsHeldByNone}
use Rattle.ods_check.specs.HeldFree.{IsHeldFree}
use Rattle.ods_repair.specs.Framed.{IsOwn, IsReadAs, KeepsOwn}
use Rattle.ods_repair.specs.Spare.{HasFrom}
use Rattle.ods_repair.specs.Used.{AreUsed, HasFreePlace, HasOnlyFree, IsBitmapApart, IsNotOfBits}
use Rattle.ods_repair.proofs.Framed.{contents_stay, read_as, read_back}
use Rattle.ods_repair.proofs.FaultsKept.{KeepContents, directory_stays, fault_stays}
use Rattle.ods_repair.proofs.FindingsKept.{KeepDirectories, directories_back, finding_stays}
use Rattle.ods_repair.proofs.AtHome.{home_fault_stays}
use Rattle.ods_repair.proofs.Marked as marked

-- a block of the storage bitmap by its place in BITMAP.SYS
at_place : (L : VolumeLayout) (b : ℕ) → IsStorageBitmap L b → HasFrom L.bitmap 1 b
at_place L b (k, within, is) =
    let shorter : length (drop 1 L.bitmap) ≡ length L.bitmap - 1 = length-drop 1 L.bitmap in
    let inside : 1 + k < length L.bitmap = omega (arith, within, shorter) in
    let here : get_or L.bitmap (1 + k) b ≡ b = sym (get_or-drop 1 L.bitmap k b) ∙ is in
    (1 + k, omega arith, slice_get-get_or L.bitmap (1 + k) b inside ∙ ap Some here)

module _ (I J : List (List ℕ)) (L : VolumeLayout) (blocks : List ℕ) (layout : IsLayoutOf I L) (apart : IsBitmapApart I L) (exactly : (b : ℕ) → Contains blocks b ↔ IsHeldFree I L b) (m : MarksBlocks I L blocks false J) where
  -- the storage bitmap is no block by which the volume is read: INDEXF.SYS is another file
  never_own : (b : ℕ) → IsOwn L b → ¬ IsStorageBitmap L b
  never_own b (inl fixed) stands = (apart.apart b (at_place L b stands)).0 fixed
  never_own b (inr among) stands =
      let at : slice_get L.index among.0 ≡ Some b = slice_get-get_or L.index among.0 b among.1 ∙ ap Some among.2 in
      (apart.apart b (at_place L b stands)).1 (1, ((λ e. absurd (omega (arith, e))), (among.0 + 1, holds_at I L 1 L.index among.0 b layout.index at)))

  keeps : KeepsOwn I J L
  keeps = record { long = m.size; own = λ b own. m.others b (never_own b own) }

  read : IsReadAs I J L
  read = read_as I J L layout keeps

  contents : KeepContents I J L (λ n. n ≡ 2)
  contents n bs other has = contents_stay I J bs (λ b among. m.others b (λ stands.
      let at : slice_get bs among.0 ≡ Some b = slice_get-get_or bs among.0 b among.1 ∙ ap Some among.2 in
      (apart.apart b (at_place L b stands)).1 (n, (other, (among.0 + 1, holds_at I L n bs among.0 b has at)))))

  bits : (b : ℕ) → IsTrue (is_covered L b) → storage_bit J L b ≡ cond (is_one_of blocks b) false (storage_bit I L b)
  bits = m.bits

  free_was : (b : ℕ) → is_free_block J L b ≡ true → (is_free_block I L b ≡ true) × ¬ Contains blocks b
  free_was = marked.free_was I J L blocks m.size bits

  none : (n b : ℕ) → ¬ IsTrueOf J L (MarkedFree n b)
  none n b f =
      let was = free_was b f.2 in
      was.1 ((exactly b).1 (n, (f.0, (read.holds n f.0 b).1 f.1, was.0)))

  -- a directory is not BITMAP.SYS
  not_two : (n : ℕ) → IsDirectoryFile I L n → n ≢ 2
  not_two n d = is_apart n (header_at I L n) d.1 2 (omega arith) (λ e. absurd (omega (arith, e)))

  faults : (fault : MountFault) → IsNotOfBits fault → IsTrueOf I L fault ↔ IsTrueOf J L fault
  faults fault of = (
    fault_stays I J L read (λ n. n ≡ 2) contents fault of not_two,
    fault_stays J I L back (λ n. n ≡ 2) (λ n bs other has. sym (contents n bs other ((read.has n bs).1 has))) fault of (λ n d. not_two n (directory_stays J I L back n d)),
  )
    where
      back : IsReadAs J I L
      back = read_back I J L layout read

  -- a block that none holds has the bit that it had
  unheld_stays : (b : ℕ) → IsHeldByNone I L b → IsHeldByNone J L b
  unheld_stays b h = record {
    marked = record {
      inside = subst (λ k. b < k) (sym m.size) h.marked.inside;
      covered = h.marked.covered;
      used = marked.used_stays I J L blocks m.size bits b h.marked.covered h.marked.used;
    };
    other = h.other;
    place = h.place;
    none = λ n v holds. h.none n v ((read.holds n v b).1 holds);
  }

  unheld_was : (b : ℕ) → IsHeldByNone J L b → IsHeldByNone I L b
  unheld_was b h = record {
    marked = record { inside = subst (λ k. b < k) m.size h.marked.inside; covered = h.marked.covered; used = used };
    other = h.other;
    place = h.place;
    none = none_held;
  }
    where
      none_held : (n v : ℕ) → ¬ Holds I L n v b
      none_held n v holds = h.none n v ((read.holds n v b).0 holds)

      used : storage_bit I L b ≡ false
      used = elim (among_or_not blocks b) [
        | inl among ↦ (let held = (exactly b).0 among.1 in absurd (none_held held.0 held.1.0 held.1.1))
        | inr other ↦ ap (λ o. cond o false (storage_bit I L b)) (sym other.0) ∙ sym (bits b h.marked.covered) ∙ h.marked.used
      ]

  directories : KeepDirectories I J L
  directories n bs dir has = contents n bs (not_two n dir) has

  findings : (finding : Finding) → IsFound I L finding ↔ IsFound J L finding
  findings finding = (
    finding_stays I J L layout read directories (λ b. (unheld_stays b, unheld_was b)) finding,
    finding_stays J I L read.layout (read_back I J L layout read) (directories_back I J L layout read directories) (λ b. (unheld_was b, unheld_stays b)) finding,
  )

  written_was : (k : ℕ) → CouldBeWritten J L k → CouldBeWritten I L k
  written_was k (inl f) = inl (free_was k f).0
  written_was k (inr (n, v, holds, three, five, low)) = inr (n, v, (read.holds n v k).1 holds, three, five, low)

  index : HasBadIndex J L → HasBadIndex I L
  index (inl few) = inl few
  index (inr (inl misplaced)) = inr (inl misplaced)
  index (inr (inr (inl (lbn, at, first, second)))) = inr (inr (inl (lbn, (read.homes lbn).1 at, first, second)))
  index (inr (inr (inr (lbn, k, at, place, below, written)))) = inr (inr (inr (lbn, k, (read.homes lbn).1 at, place, below, written_was k written)))

  still : HasBadIndex I L → HasBadIndex J L ⊎ HasFreePlace I L
  still (inl few) = inl (inl few)
  still (inr (inl misplaced)) = inl (inr (inl misplaced))
  still (inr (inr (inl (lbn, at, first, second)))) = inl (inr (inr (inl (lbn, (read.homes lbn).0 at, first, second))))
  still (inr (inr (inr (lbn, k, at, place, below, inr (n, v, holds, three, five, low))))) =
      inl (inr (inr (inr (lbn, k, (read.homes lbn).0 at, place, below, inr (n, v, (read.holds n v k).0 holds, three, five, low)))))
  still (inr (inr (inr (lbn, k, at, place, below, inl f)))) = elim (among_or_not blocks k) [
    | inl among ↦ inr (lbn, k, at, place, below, (exactly k).0 among.1)
    | inr other ↦ inl (inr (inr (inr (lbn, k, (read.homes lbn).0 at, place, below, inl (marked.free_stays I J L blocks m.size bits k f other.1)))))
  ]

  -- each fault that is left was there
  was : (fault : MountFault) → IsTrueOf J L fault → IsTrueOf I L fault
  was (MarkedFree n b) f = absurd (none n b f)
  was BadIndex f = index f
  was BadStorageMap f = (faults BadStorageMap tt).1 f
  was BadMaster f = (faults BadMaster tt).1 f
  was (UnsupportedMap n) f = (faults (UnsupportedMap n) tt).1 f
  was (BadChain n) f = (faults (BadChain n) tt).1 f
  was (OutsideVolume n b) f = (faults (OutsideVolume n b) tt).1 f
  was (DoublyUsed k n b) f = (faults (DoublyUsed k n b) tt).1 f
  was (BadDirectory n) f = (faults (BadDirectory n) tt).1 f
  was (DuplicateName n) f = (faults (DuplicateName n) tt).1 f
  was NoHome f = absurd f
  was NoMemory f = absurd f

  sound : HasOnlyFree I → IsSound J
  sound only fault (inl f) =
      let free = only fault (inl (home_fault_stays J I L read.layout (read_back I J L layout read) fault f)) in
      subst (IsTrueAtHome J) free.2 f
  sound only fault (inr (M, seen, f)) =
      let here : IsTrueOf J L fault = subst (λ N. IsTrueOf J N fault) (same_layout J L M read.layout seen) f in
      let free = only fault (true_by_layout I L fault layout (was fault here)) in
      none free.0 free.1 (subst (IsTrueOf J L) free.2 here)

  pub are_used : IsStrictlyIncreasing blocks → AreUsed I L blocks J
  are_used rising = record {
    exactly = exactly;
    rising = rising;
    bits = bits;
    elsewhere = m.others;
    read = read;
    contents = contents;
    none = none;
    faults = faults;
    index = index;
    still = still;
    findings = findings;
    sound = sound;
  }

-- where no held block is free, the image is as it is to be
pub none_used : (I : List (List ℕ)) (L : VolumeLayout) → IsLayoutOf I L → ((b : ℕ) → ¬ IsHeldFree I L b) → AreUsed I L [] I
none_used I L layout free = record {
  exactly = λ b. ((λ c. let low = c.1 in absurd (omega (arith, low))), λ f. absurd (free b f));
  rising = λ k within. absurd (omega (arith, within));
  bits = λ b covered. refl;
  elsewhere = λ b away. refl;
  read = read_as I I L layout (record { long = refl; own = λ b own. refl });
  contents = λ n bs other has. refl;
  none = λ n b f. free b (n, f);
  faults = λ fault of. ((λ f. f), (λ f. f));
  index = λ f. f;
  still = λ f. inl f;
  findings = λ finding. ((λ f. f), (λ f. f));
  sound = λ only fault f.
      let one = only fault f in
      elim (subst (λ (g : MountFault). FaultIsTrue I g) one.2 f) [
        | inl home ↦ home
        | inr (M, seen, here) ↦ free one.1 (one.0, subst (λ N. IsTrueOf I N (MarkedFree one.0 one.1)) (same_layout I L M layout seen) here)
      ];
}
