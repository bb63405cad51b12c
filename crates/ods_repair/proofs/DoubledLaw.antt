-- What it leaves that the names of a directory get new versions where they are there already.
use Rattle.std.proofs.Common.{◌≡◌, ◌≢◌, ◌⊎◌, ℕ, suc, ◌+◌, ◌/◌, ◌%◌, ◌<◌, ◌≤◌, refl, ap, sym, ◌∙◌, subst, Bool, true, false, ◌&&◌, IsTrue, List, [], ◌∷◌, ◌++◌, length, map, take, get_or, Some, arith, inl, inr}
use Rattle.std.specs.Prelude.{◌↔◌, nat_lt, slice_get}
use Rattle.std.specs.List.{All, Contains}
use Rattle.std.proofs.lemmas.Bool.{cases_eq, ltb-true}
use Rattle.std.proofs.lemmas.List.{length-map}
use Rattle.std.proofs.lemmas.Option.{slice_get-get_or, slice_get_within, get_or_from_slice_get}
use Rattle.ods_base.specs.Block.{has_bit}
use Rattle.ods_base.specs.Image.{block_at}
use Rattle.ods_header.proofs.DirectoryHeaders.{is_apart}
use Rattle.ods_space.specs.Layout.{VolumeLayout, header_at}
use Rattle.ods_space.specs.Files.{HasBlocks, Holds, IsLayoutOf}
use Rattle.ods_space.specs.Free.{is_covered, is_free_block, storage_bit}
use Rattle.ods_space.proofs.Surveyed.{same_blocks}
use Rattle.ods_directory.specs.Entry.{IsGoodEntry, entry_at, is_used, used_entries}
use Rattle.ods_directory.specs.Hidden.{HasHidden, IsHidden}
use Rattle.ods_directory.specs.Names.{IsDirectory}
use Rattle.ods_directory.proofs.Used.{all_by_positions, from_positions}
use Rattle.ods_mount.specs.declared.fault.MountFault.{MountFault}
use Rattle.ods_mount.specs.declared.fault.MountFault.TheVariants.{NoHome, BadIndex, BadStorageMap, BadMaster, UnsupportedMap, BadChain, OutsideVolume, DoublyUsed, MarkedFree, BadDirectory, DuplicateName, NoMemory}
use Rattle.ods_mount.specs.Faults.{CouldBeWritten, HasBadIndex, IsSound, IsTrueAtHome, IsTrueOf, contents_of, mark_at}
use Rattle.ods_mount.proofs.Each.{holds_at}
use Rattle.ods_mount.proofs.Layouts.{same_layout}
use Rattle.ods_mount.proofs.Unlaid.{true_by_layout}
use Rattle.ods_check.specs.declared.finding.Finding.{Finding}
use Rattle.ods_check.specs.declared.finding.Finding.TheVariants.{BadHeader, StrayNumbers, LostHeader, HeldByNone, RunHeldByNone, NamesNone, LostFile, EndPast, HiddenEntries, MarkedDeleted, Locked, Unnamed}
use Rattle.ods_check.specs.Findings.{IsFound, IsHeldByNone, IsHiding}
use Rattle.ods_repair.specs.declared.fault.RepairFault.{RepairFault}
use Rattle.ods_repair.specs.declared.fault.RepairFault.TheVariants as repair
use Rattle.ods_repair.specs.Doubled.{AreRenumbered, HasOnlyDoubles, HasRenumbered, IsFull, IsNotOfNames, IsNotRenumbered, IsPut, IsReadyDirectory}
use Rattle.ods_repair.specs.Framed.{IsOwn, IsReadAs}
use Rattle.ods_repair.specs.Spare.{HasFrom, IsNotSpare}
use Rattle.ods_repair.proofs.AtHome.{home_fault_stays}
use Rattle.ods_repair.proofs.Framed.{contents_stay, read_as, read_back}
use Rattle.ods_repair.proofs.FaultsKept.{KeepContents, bad_stays, directory_stays, entries_stay, mark_stays, plain_stays, twins_stay}
use Rattle.ods_repair.proofs.FindingsKept.{plain_finding_stays, unheld_run_stays, unheld_stays}
use Rattle.ods_repair.proofs.Renumbering.{apart_then, good_then}

-- why its blocks cannot change alone is why the names are not new
pub not_spare : (I : List (List ℕ)) (L : VolumeLayout) (d : ℕ) (bs : List ℕ) → HasBlocks I L d bs → (why : RepairFault) → IsNotSpare I L d bs 0 why → IsNotRenumbered I L d why
not_spare I L d bs has (repair.FixedBlock m b) f = (bs, has, f)
not_spare I L d bs has (repair.SharedBlock m b) f = (bs, has, f)
not_spare I L d bs has (repair.RepeatedBlock m b) f = (bs, has, f)
not_spare I L d bs has repair.NoMemory f = tt
not_spare I L d bs has (repair.NoHeader n) f = absurd f
not_spare I L d bs has (repair.Unreached id) f = absurd f
not_spare I L d bs has repair.NoDirectory f = absurd f
not_spare I L d bs has repair.BadEntry f = absurd f
not_spare I L d bs has repair.VersionsFull f = absurd f
not_spare I L d bs has (repair.NotRemoved x reason) f = absurd f
not_spare I L d bs has (repair.NotEntered x reason) f = absurd f
not_spare I L d bs has (repair.Reserved m) f = absurd f
not_spare I L d bs has (repair.NoChain m) f = absurd f
not_spare I L d bs has (repair.HeldFree b) f = absurd f

-- and so is it that a name has no next version
pub not_full : (I : List (List ℕ)) (L : VolumeLayout) (d : ℕ) (bs : List ℕ) (cs : List (List ℕ)) (n : ℕ) → HasBlocks I L d bs → cs ≡ contents_of I bs → n ≡ mark_at I L d bs / 16
    → (why : RepairFault) → (why ≡ repair.NoMemory) ⊎ ((why ≡ repair.VersionsFull) × IsFull (entry_at cs) n) → IsNotRenumbered I L d why
not_full I L d bs cs n has same end why (inl e) = subst (IsNotRenumbered I L d) (sym e) tt
not_full I L d bs cs n has same end why (inr (e, full)) =
    subst (IsNotRenumbered I L d) (sym e) (bs, has, subst (IsFull (entry_at (contents_of I bs))) end (subst (λ xs. IsFull (entry_at xs) n) same full))

-- a list that has at each place what a function gives there
mapped_is : (f : ℕ → List ℕ) (xs : List ℕ) (ys : List (List ℕ)) → length ys ≡ length xs → ((i x : ℕ) → slice_get xs i ≡ Some x → f x ≡ block_at ys i) → map f xs ≡ ys
mapped_is f [] [] long each = refl
mapped_is f [] (y ∷ ys) long each = absurd (omega (arith, long))
mapped_is f (x ∷ xs) [] long each = absurd (omega (arith, long))
mapped_is f (x ∷ xs) (y ∷ ys) long each = λ i. each 0 x refl i ∷ mapped_is f xs ys (omega (arith, long)) (λ k z e. each (suc k) z e) i

-- a list that is written back in front of what is left
pub taken_back : (xs ys : List (List ℕ)) (n : ℕ) → n ≡ length xs → take n (xs ++ ys) ≡ xs
taken_back xs ys n size = ap (λ k. take k (xs ++ ys)) size ∙ by xs
  where
    by : (zs : List (List ℕ)) → take (length zs) (zs ++ ys) ≡ zs
    by [] = refl
    by (z ∷ zs) = ap (λ l. z ∷ l) (by zs)

second_of : (a b c d : Bool) → (a ≡ b) → (b ≡ true → c ≡ d) → (a && c) ≡ (b && d)
second_of true true c d e same = same refl
second_of false false c d e same = refl
second_of true false c d e same = absurd (cc)
second_of false true c d e same = absurd (cc)

module _ (I J : List (List ℕ)) (L : VolumeLayout) (d : ℕ) (bs : List ℕ) (new : List (List ℕ)) (layout : IsLayoutOf I L) (ready : IsReadyDirectory I L d bs)
    (made : AreRenumbered (entry_at (contents_of I bs)) (entry_at new) (mark_at I L d bs / 16)) (long : length new ≡ length bs) (put : IsPut I bs new (length bs) J) where
  -- the directory is none of the files that lay out the volume
  not_one : 1 ≢ d
  not_one e = is_apart d (header_at I L d) ready.file.1 1 (omega arith) (λ z. absurd (omega (arith, z))) (sym e)

  not_two : 2 ≢ d
  not_two e = is_apart d (header_at I L d) ready.file.1 2 (omega arith) (λ z. absurd (omega (arith, z))) (sym e)

  at_place : (xs : List ℕ) (b : ℕ) → (c : Contains xs b) → slice_get xs c.0 ≡ Some b
  at_place xs b c = slice_get-get_or xs c.0 b c.1 ∙ ap Some c.2

  own_from : (b : ℕ) → Contains bs b → HasFrom bs 0 b
  own_from b c = (c.0, omega arith, at_place bs b c)

  -- a block that another file holds is none of these
  other_file : (n v b : ℕ) → n ≢ d → Holds I L n v b → ¬ Contains bs b
  other_file n v b other holds c = (ready.spare.apart b (own_from b c)).1 (n, (other, (v, holds)))

  never_own : (b : ℕ) → IsOwn L b → ¬ Contains bs b
  never_own b (inl fixed) c = (ready.spare.apart b (own_from b c)).0 fixed
  never_own b (inr among) c = other_file 1 (among.0 + 1) b not_one (holds_at I L 1 L.index among.0 b layout.index (at_place L.index b among)) c

  read : IsReadAs I J L
  read = read_as I J L layout (record { long = put.long; own = λ b own. put.others b (never_own b own) })

  back : IsReadAs J I L
  back = read_back I J L layout read

  contents : KeepContents I J L (λ n. n ≡ d)
  contents n xs other has = contents_stay I J xs (λ b among. put.others b (other_file n (among.0 + 1) b other (holds_at I L n xs among.0 b has (at_place xs b among))))

  contents_back : KeepContents J I L (λ n. n ≡ d)
  contents_back n xs other has = sym (contents n xs other ((read.has n xs).1 has))

  -- the directory has the blocks that were made
  contents_now : contents_of J bs ≡ new
  contents_now = mapped_is (block_at J) bs new long (λ i x e. put.put ready.spare.once i x (slice_get_within bs i x e) e)

  names : AreRenumbered (entry_at (contents_of I bs)) (entry_at (contents_of J bs)) (mark_at I L d bs / 16)
  names = subst (λ cs. AreRenumbered (entry_at (contents_of I bs)) (entry_at cs) (mark_at I L d bs / 16)) (sym contents_now) made

  -- its names are good and distinct
  good_now : IsDirectory (contents_of J bs) (mark_at J L d bs)
  good_now = subst (IsDirectory (contents_of J bs)) (sym (mark_stays I J L read d bs)) (from_positions (contents_of J bs) (mark_at I L d bs) (record {
    good = good_then (entry_at (contents_of I bs)) (mark_at I L d bs / 16) (λ k. refl) (entry_at (contents_of J bs)) names.each
        (all_by_positions IsGoodEntry (contents_of I bs) (mark_at I L d bs) ready.good);
    apart = apart_then (entry_at (contents_of I bs)) (mark_at I L d bs / 16) (λ k. refl) (entry_at (contents_of J bs)) names.each;
  }))

  has_now : HasBlocks J L d bs
  has_now = (read.has d bs).0 ready.has

  none : ¬ IsTrueOf J L (DuplicateName d)
  none (dir, xs, has, twins) =
      let now : IsDirectory (contents_of J xs) (mark_at J L d xs) = subst (λ ys. IsDirectory (contents_of J ys) (mark_at J L d ys)) (same_blocks J L d bs xs has_now has) good_now in
      now.distinct twins.i twins.j twins.apart twins.one twins.other twins.first twins.second twins.same

  no_bad : (X : List (List ℕ)) → HasBlocks X L d bs → All IsGoodEntry (used_entries (contents_of X bs) (mark_at X L d bs)) → ¬ IsTrueOf X L (BadDirectory d)
  no_bad X here good (dir, xs, has, bad) =
      let now : All IsGoodEntry (used_entries (contents_of X xs) (mark_at X L d xs)) = subst (λ ys. All IsGoodEntry (used_entries (contents_of X ys) (mark_at X L d ys))) (same_blocks X L d bs xs here has) good in
      let es = used_entries (contents_of X xs) (mark_at X L d xs) in
      bad.bad (subst IsGoodEntry (get_or_from_slice_get es bad.i bad.entry bad.entry bad.found) (now bad.i bad.entry (slice_get_within es bad.i bad.entry bad.found)))

  -- the storage bitmap is another file's
  bits_same : (b : ℕ) → is_covered L b ≡ true → storage_bit J L b ≡ storage_bit I L b
  bits_same b covered =
      let at : ℕ = get_or L.bitmap (1 + b / 4096) 0 in
      let within : 1 + b / 4096 < length L.bitmap = ltb-true (1 + b / 4096) (length L.bitmap) covered in
      let held : Holds I L 2 (1 + b / 4096 + 1) at = holds_at I L 2 L.bitmap (1 + b / 4096) at layout.bitmap (slice_get-get_or L.bitmap (1 + b / 4096) 0 within) in
      ap (λ c. has_bit c (b % 4096)) (put.others at (other_file 2 (1 + b / 4096 + 1) at not_two held))

  free_same : (b : ℕ) → is_free_block J L b ≡ is_free_block I L b
  free_same b = second_of (nat_lt b (length J)) (nat_lt b (length I)) (is_covered L b && storage_bit J L b) (is_covered L b && storage_bit I L b) (ap (nat_lt b) put.long)
      (λ inside. second_of (is_covered L b) (is_covered L b) (storage_bit J L b) (storage_bit I L b) refl (bits_same b))

  unheld_same : (b : ℕ) → IsHeldByNone I L b ↔ IsHeldByNone J L b
  unheld_same b = (unheld_stays I J L read bits_same b, unheld_stays J I L back (λ x covered. sym (bits_same x covered)) b)

  -- an entry behind the mark stays, so a hidden one does
  hidden_stays : (X Y : List (List ℕ)) → IsReadAs X Y L → KeepContents X Y L (λ n. n ≡ d) → HasBlocks X L d bs
      → ((k : ℕ) → mark_at X L d bs / 16 ≤ k → entry_at (contents_of Y bs) k ≡ entry_at (contents_of X bs) k) → (n : ℕ) → IsHiding X L n → IsHiding Y L n
  hidden_stays X Y r kept here behind n h = record { file = directory_stays X Y L r n h.file; blocks = h.blocks; has = (r.has n h.blocks).0 h.has; hidden = by (cases_eq n d) }
    where
      by : (n ≡ d) ⊎ (n ≢ d) → HasHidden (contents_of Y h.blocks) (mark_at Y L n h.blocks)
      by (inr apart) = entries_stay X Y L r (λ m. m ≡ d) kept HasHidden n h.blocks apart h.has h.hidden
      by (inl same) =
          let k : ℕ = h.hidden.0 in
          let hidden : IsHidden (contents_of X h.blocks) (mark_at X L n h.blocks) k = h.hidden.1 in
          let is : bs ≡ h.blocks = same_blocks X L d bs h.blocks here (subst (λ m. HasBlocks X L m h.blocks) same h.has) in
          let low : mark_at X L d bs / 16 ≤ k = subst (λ xs. mark_at X L d xs / 16 ≤ k) (sym is) (subst (λ m. mark_at X L m h.blocks / 16 ≤ k) same hidden.behind) in
          let entry : entry_at (contents_of Y h.blocks) k ≡ entry_at (contents_of X h.blocks) k = subst (λ xs. entry_at (contents_of Y xs) k ≡ entry_at (contents_of X xs) k) is (behind k low) in (
            k,
            record {
              behind = subst (λ m. m / 16 ≤ k) (sym (mark_stays X Y L r n h.blocks)) hidden.behind;
              inside = omega (arith, hidden.inside, length-map h.blocks (block_at X), length-map h.blocks (block_at Y));
              used = subst IsTrue (ap is_used (sym entry)) hidden.used;
            },
          )

  -- what is found that hangs on no names stays
  finding_stays : (X Y : List (List ℕ)) → IsReadAs X Y L → IsReadAs Y X L → ((b : ℕ) → IsHeldByNone X L b ↔ IsHeldByNone Y L b) → ((n : ℕ) → IsHiding X L n → IsHiding Y L n)
      → (finding : Finding) → IsNotOfNames finding → IsFound X L finding → IsFound Y L finding
  finding_stays X Y r b unheld hiding (BadHeader n why) of f = plain_finding_stays X Y L r b (BadHeader n why) tt f
  finding_stays X Y r b unheld hiding (StrayNumbers count first) of f = plain_finding_stays X Y L r b (StrayNumbers count first) tt f
  finding_stays X Y r b unheld hiding (HeldByNone block) of run = unheld_run_stays X Y L unheld block block run
  finding_stays X Y r b unheld hiding (RunHeldByNone first last) of (low, run) = (low, unheld_run_stays X Y L unheld first last run)
  finding_stays X Y r b unheld hiding (NamesNone n line) of f = absurd of
  finding_stays X Y r b unheld hiding (LostFile id) of f = absurd of
  finding_stays X Y r b unheld hiding (LostHeader id) of f = plain_finding_stays X Y L r b (LostHeader id) tt f
  finding_stays X Y r b unheld hiding (EndPast id) of f = plain_finding_stays X Y L r b (EndPast id) tt f
  finding_stays X Y r b unheld hiding (HiddenEntries n) of f = hiding n f
  finding_stays X Y r b unheld hiding (MarkedDeleted id) of f = plain_finding_stays X Y L r b (MarkedDeleted id) tt f
  finding_stays X Y r b unheld hiding (Locked id) of f = plain_finding_stays X Y L r b (Locked id) tt f
  finding_stays X Y r b unheld hiding (Unnamed n) of f = absurd of

  -- a fault of one is a fault of the other, where free blocks and files are the same
  index_stays : (X Y : List (List ℕ)) → IsReadAs X Y L → ((b : ℕ) → is_free_block Y L b ≡ is_free_block X L b) → HasBadIndex X L → HasBadIndex Y L
  index_stays X Y r free (inl few) = inl few
  index_stays X Y r free (inr (inl misplaced)) = inr (inl misplaced)
  index_stays X Y r free (inr (inr (inl (lbn, at, first, second)))) = inr (inr (inl (lbn, (r.homes lbn).0 at, first, second)))
  index_stays X Y r free (inr (inr (inr (lbn, k, at, place, below, written)))) = inr (inr (inr (lbn, k, (r.homes lbn).0 at, place, below, by written)))
    where
      by : CouldBeWritten X L k → CouldBeWritten Y L k
      by (inl f) = inl (subst IsTrue (sym (free k)) f)
      by (inr (n, v, holds, three, five, low)) = inr (n, v, (r.holds n v k).0 holds, three, five, low)

  stays : (X Y : List (List ℕ)) → IsReadAs X Y L → ((b : ℕ) → is_free_block Y L b ≡ is_free_block X L b) → KeepContents X Y L (λ n. n ≡ d) → ¬ IsTrueOf X L (BadDirectory d)
      → (fault : MountFault) → fault ≢ DuplicateName d → IsTrueOf X L fault → IsTrueOf Y L fault
  stays X Y r free kept fine BadIndex other f = index_stays X Y r free f
  stays X Y r free kept fine (MarkedFree n b) other (v, holds, f) = (v, (r.holds n v b).0 holds, subst IsTrue (sym (free b)) f)
  stays X Y r free kept fine (BadDirectory n) other f = elim (cases_eq n d) [
    | inl same ↦ absurd (fine (subst (λ m. IsTrueOf X L (BadDirectory m)) same f))
    | inr apart ↦ bad_stays X Y L r (λ m. m ≡ d) kept n apart f
  ]
  stays X Y r free kept fine (DuplicateName n) other f = twins_stay X Y L r (λ m. m ≡ d) kept n (λ same. other (ap DuplicateName same)) f
  stays X Y r free kept fine BadStorageMap other f = plain_stays X Y L r BadStorageMap tt f
  stays X Y r free kept fine BadMaster other f = plain_stays X Y L r BadMaster tt f
  stays X Y r free kept fine (UnsupportedMap n) other f = plain_stays X Y L r (UnsupportedMap n) tt f
  stays X Y r free kept fine (BadChain n) other f = plain_stays X Y L r (BadChain n) tt f
  stays X Y r free kept fine (OutsideVolume n b) other f = plain_stays X Y L r (OutsideVolume n b) tt f
  stays X Y r free kept fine (DoublyUsed m n b) other f = plain_stays X Y L r (DoublyUsed m n b) tt f
  stays X Y r free kept fine NoHome other f = absurd f
  stays X Y r free kept fine NoMemory other f = absurd f

  -- each fault that is left was there
  was : (fault : MountFault) → IsTrueOf J L fault → IsTrueOf I L fault
  was (DuplicateName n) f = elim (cases_eq n d) [
    | inl same ↦ absurd (none (subst (λ m. IsTrueOf J L (DuplicateName m)) same f))
    | inr apart ↦ twins_stay J I L back (λ m. m ≡ d) contents_back n apart f
  ]
  was (BadDirectory n) f = stays J I back (λ b. sym (free_same b)) contents_back (no_bad J has_now good_now.good) (BadDirectory n) (λ e. absurd (cc)) f
  was BadIndex f = stays J I back (λ b. sym (free_same b)) contents_back (no_bad J has_now good_now.good) BadIndex (λ e. absurd (cc)) f
  was (MarkedFree n b) f = stays J I back (λ x. sym (free_same x)) contents_back (no_bad J has_now good_now.good) (MarkedFree n b) (λ e. absurd (cc)) f
  was BadStorageMap f = plain_stays J I L back BadStorageMap tt f
  was BadMaster f = plain_stays J I L back BadMaster tt f
  was (UnsupportedMap n) f = plain_stays J I L back (UnsupportedMap n) tt f
  was (BadChain n) f = plain_stays J I L back (BadChain n) tt f
  was (OutsideVolume n b) f = plain_stays J I L back (OutsideVolume n b) tt f
  was (DoublyUsed m n b) f = plain_stays J I L back (DoublyUsed m n b) tt f
  was NoHome f = absurd f
  was NoMemory f = absurd f

  sound : HasOnlyDoubles I d → IsSound J
  sound only fault (inl f) = subst (IsTrueAtHome J) (only fault (inl (home_fault_stays J I L read.layout back fault f))) f
  sound only fault (inr (M, seen, f)) =
      let here : IsTrueOf J L fault = subst (λ N. IsTrueOf J N fault) (same_layout J L M read.layout seen) f in
      none (subst (IsTrueOf J L) (only fault (true_by_layout I L fault layout (was fault here))) here)

  pub has_renumbered : HasRenumbered I L d J
  has_renumbered = record {
    file = ready.file;
    blocks = bs;
    has = ready.has;
    names = names;
    good = good_now;
    elsewhere = put.others;
    read = read;
    contents = contents;
    none = none;
    sound = sound;
    faults = λ fault other. (
      stays I J read free_same contents (no_bad I ready.has ready.good) fault other,
      stays J I back (λ b. sym (free_same b)) contents_back (no_bad J has_now good_now.good) fault other,
    );
    findings = λ finding other. (
      finding_stays I J read back unheld_same (hidden_stays I J read contents ready.has names.behind) finding other,
      finding_stays J I back read (λ b. ((unheld_same b).1, (unheld_same b).0))
          (hidden_stays J I back contents_back has_now (λ k low. sym (names.behind k (subst (λ m. m / 16 ≤ k) (mark_stays I J L read d bs) low)))) finding other,
    );
  }
