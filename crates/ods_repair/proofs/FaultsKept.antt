-- The faults of a volume that is read as before are those that it had, but for those that hang on the storage bitmap's bits.
use Rattle.std.proofs.Common.{◌≡◌, ℕ, ◌≤◌, true, ap, sym, subst, IsTrue, List, length, inl, inr}
use Rattle.ods_header.specs.Header.{IsFormat1, IsHeader, attributes_of, is_directory_header}
use Rattle.ods_space.specs.Layout.{VolumeLayout}
use Rattle.ods_space.specs.Files.{HasBlocks}
use Rattle.ods_directory.specs.Entry.{used_entries}
use Rattle.ods_directory.specs.Mark.{mark_in}
use Rattle.ods_directory.specs.Names.{HasBadEntry, HasTwins}
use Rattle.ods_mount.specs.declared.fault.MountFault.{MountFault}
use Rattle.ods_mount.specs.declared.fault.MountFault.TheVariants.{NoHome, BadIndex, BadStorageMap, BadMaster, UnsupportedMap, BadChain, OutsideVolume, DoublyUsed, MarkedFree, BadDirectory, DuplicateName, NoMemory}
use Rattle.ods_mount.specs.Faults.{IsDirectoryFile, IsTrueOf, contents_of, mark_at}
use Rattle.ods_repair.specs.Framed.{IsReadAs}
use Rattle.ods_repair.specs.Used.{IsNotOfBits}

-- a fault that hangs on no bit of the storage bitmap, and on no names
abbrev pub IsPlain : MountFault → Type 0
IsPlain BadIndex = ⊥
IsPlain (MarkedFree n b) = ⊥
IsPlain (BadDirectory n) = ⊥
IsPlain (DuplicateName n) = ⊥
IsPlain other = Unit {0}

-- what files but these have is as before
abbrev pub KeepContents : List (List ℕ) → List (List ℕ) → VolumeLayout → (ℕ → Type 0) → Type 0
KeepContents I J L Changed = (n : ℕ) (bs : List ℕ) → ¬ Changed n → HasBlocks I L n bs → contents_of J bs ≡ contents_of I bs

module _ (I J : List (List ℕ)) (L : VolumeLayout) (r : IsReadAs I J L) where
  pub directory_stays : (n : ℕ) → IsDirectoryFile I L n → IsDirectoryFile J L n
  directory_stays n d = ((r.files n).0 d.0, subst (λ c. is_directory_header n c ≡ true) (sym (r.headers n)) d.1)

  pub mark_stays : (n : ℕ) (bs : List ℕ) → mark_at J L n bs ≡ mark_at I L n bs
  mark_stays n bs = ap (λ c. mark_in (attributes_of c) (length bs)) (r.headers n)

  -- a fault stays that hangs on no bit of the storage bitmap and on no names
  pub plain_stays : (fault : MountFault) → IsPlain fault → IsTrueOf I L fault → IsTrueOf J L fault
  plain_stays BadIndex of f = absurd of
  plain_stays (MarkedFree n b) of f = absurd of
  plain_stays (BadDirectory n) of f = absurd of
  plain_stays (DuplicateName n) of f = absurd of
  plain_stays BadStorageMap of (inl none) = inl (λ file. none ((r.files 2).1 file))
  plain_stays BadStorageMap of (inr (file, ns, bs, chain, few)) = inr ((r.files 2).0 file, ns, bs, (r.chains 2 ns bs).0 chain, few)
  plain_stays BadMaster of f = λ file. f ((r.files 4).1 file)
  plain_stays (UnsupportedMap n) of (used, is, other) =
      (subst IsTrue (sym (r.in_use n)) used, subst (λ c. IsHeader c n) (sym (r.headers n)) is, λ one. other (subst IsFormat1 (r.headers n) one))
  plain_stays (BadChain n) of (file, inl none) = ((r.files n).0 file, inl (λ ns bs chain. none ns bs ((r.chains n ns bs).1 chain)))
  plain_stays (BadChain n) of (file, inr (m, ms, ns, cs, bs, x, other, mfile, mchain, nchain, xm, xn)) =
      ((r.files n).0 file, inr (m, ms, ns, cs, bs, x, other, (r.files m).0 mfile, (r.chains m ms cs).0 mchain, (r.chains n ns bs).0 nchain, xm, xn))
  plain_stays (OutsideVolume n b) of (file, ns, bs, chain, one, past) = ((r.files n).0 file, ns, bs, (r.chains n ns bs).0 chain, one, subst (λ k. k ≤ b) (sym r.long) past)
  plain_stays (DoublyUsed m n b) of (v, w, p, q, apart) = (v, w, (r.holds m v b).0 p, (r.holds n w b).0 q, apart)
  plain_stays NoHome of f = absurd f
  plain_stays NoMemory of f = absurd f

  module _ (Changed : ℕ → Type 0) (contents : KeepContents I J L Changed) where
    pub entries_stay : (P : List (List ℕ) → ℕ → Type 0) (n : ℕ) (bs : List ℕ) → ¬ Changed n → HasBlocks I L n bs → P (contents_of I bs) (mark_at I L n bs) → P (contents_of J bs) (mark_at J L n bs)
    entries_stay P n bs other has p = subst (λ cs. P cs (mark_at J L n bs)) (sym (contents n bs other has)) (subst (P (contents_of I bs)) (sym (mark_stays n bs)) p)

    pub bad_stays : (n : ℕ) → ¬ Changed n → IsTrueOf I L (BadDirectory n) → IsTrueOf J L (BadDirectory n)
    bad_stays n other (dir, bs, has, bad) = (directory_stays n dir, bs, (r.has n bs).0 has, entries_stay (λ cs mark. HasBadEntry (used_entries cs mark)) n bs other has bad)

    pub twins_stay : (n : ℕ) → ¬ Changed n → IsTrueOf I L (DuplicateName n) → IsTrueOf J L (DuplicateName n)
    twins_stay n other (dir, bs, has, twins) = (directory_stays n dir, bs, (r.has n bs).0 has, entries_stay (λ cs mark. HasTwins (used_entries cs mark)) n bs other has twins)

    -- a fault stays that hangs on no bit of the storage bitmap, where no directory changes
    pub fault_stays : (fault : MountFault) → IsNotOfBits fault → ((n : ℕ) → IsDirectoryFile I L n → ¬ Changed n) → IsTrueOf I L fault → IsTrueOf J L fault
    fault_stays BadIndex of dirs f = absurd of
    fault_stays (MarkedFree n b) of dirs f = absurd of
    fault_stays (BadDirectory n) of dirs f = bad_stays n (dirs n f.0) f
    fault_stays (DuplicateName n) of dirs f = twins_stay n (dirs n f.0) f
    fault_stays BadStorageMap of dirs f = plain_stays BadStorageMap tt f
    fault_stays BadMaster of dirs f = plain_stays BadMaster tt f
    fault_stays (UnsupportedMap n) of dirs f = plain_stays (UnsupportedMap n) tt f
    fault_stays (BadChain n) of dirs f = plain_stays (BadChain n) tt f
    fault_stays (OutsideVolume n b) of dirs f = plain_stays (OutsideVolume n b) tt f
    fault_stays (DoublyUsed m n b) of dirs f = plain_stays (DoublyUsed m n b) tt f
    fault_stays NoHome of dirs f = absurd f
    fault_stays NoMemory of dirs f = absurd f
