-- What a check finds of a volume that is read as before is what it found, where directories have what they had and the same blocks are held by none.
use Rattle.std.proofs.Common.{◌≡◌, ◌≢◌, ℕ, ◌+◌, ◌<◌, refl, ap, sym, ◌∙◌, subst, IsTrue, List, [], length}
use Rattle.std.specs.Prelude.{◌↔◌, ◌*◌}
use Rattle.std.specs.List.{Contains}
use Rattle.ods_base.specs.declared.listed.Listed.{Listed}
use Rattle.ods_base.specs.declared.file_id.FileId.{FileId}
use Rattle.ods_header.specs.declared.header.HeaderFault.TheVariants as fault
use Rattle.ods_header.specs.Header.{IsFirstFault, IsValidHeader, attributes_of, segment_of, sequence_of}
use Rattle.ods_space.specs.Layout.{VolumeLayout, header_at, is_in_use}
use Rattle.ods_space.specs.Files.{HasBlocks, IsLayoutOf}
use Rattle.ods_space.specs.Free.{is_covered, storage_bit}
use Rattle.ods_directory.specs.Entry.{used_entries}
use Rattle.ods_directory.specs.Hidden.{HasHidden}
use Rattle.ods_directory.specs.Names.{HasBadEntry, HasTwins, IsDirectory, names_of}
use Rattle.ods_base.specs.Names.{lines_of}
use Rattle.ods_mount.specs.declared.fault.MountFault.TheVariants.{BadDirectory, DuplicateName}
use Rattle.ods_mount.specs.Checks.{HasHeader}
use Rattle.ods_mount.specs.Faults.{IsDirectoryFile, IsTrueOf, contents_of, mark_at}
use Rattle.ods_check.specs.declared.finding.NoHeader.{NoHeader}
use Rattle.ods_check.specs.declared.finding.NoHeader.TheVariants.{NoBlock, Checksum, Number, Level, Areas, Format}
use Rattle.ods_check.specs.declared.finding.Finding.{Finding}
use Rattle.ods_check.specs.declared.finding.Finding.TheVariants.{BadHeader, StrayNumbers, LostHeader, HeldByNone, RunHeldByNone, NamesNone, LostFile, EndPast, HiddenEntries, MarkedDeleted, Locked, Unnamed}
use Rattle.ods_check.specs.Findings.{HasName, IsFound, IsHeldByNone, IsIdOfFile, IsLineOf, IsRead, IsStray, IsUnheldRun, IsWithout, SaysDeleted, SaysLocked, end_of, id_at, run_of, system_words}
use Rattle.ods_check.specs.Runs.{IsRun}
use Rattle.ods_repair.specs.Framed.{IsReadAs}
use Rattle.ods_repair.proofs.Framed.{read_back}
use Rattle.ods_repair.proofs.FaultsKept.{directory_stays, mark_stays}

-- a run of numbers that are so is one of numbers that are so by another word
same_run : (P Q : ℕ → Type 0) → ((b : ℕ) → P b ↔ Q b) → (first last : ℕ) → IsRun P first last → IsRun Q first last
same_run P Q same first last run = record {
  forwards = run.forwards;
  each = λ n low high. (same n).0 (run.each n low high);
  before = λ n next q. run.before n next ((same n).1 q);
  behind = λ q. run.behind ((same (last + 1)).1 q);
}

-- what each directory has is as before
abbrev pub KeepDirectories : List (List ℕ) → List (List ℕ) → VolumeLayout → Type 0
KeepDirectories I J L = (n : ℕ) (bs : List ℕ) → IsDirectoryFile I L n → HasBlocks I L n bs → contents_of J bs ≡ contents_of I bs

pub directories_back : (I J : List (List ℕ)) (L : VolumeLayout) → IsLayoutOf I L → IsReadAs I J L → KeepDirectories I J L → KeepDirectories J I L
directories_back I J L layout r kept n bs dir has = sym (kept n bs (directory_stays J I L (read_back I J L layout r) n dir) ((r.has n bs).1 has))

-- blocks that no file holds are those that none held, where the bits of the storage bitmap are as before
pub unheld_stays : (I J : List (List ℕ)) (L : VolumeLayout) → IsReadAs I J L → ((b : ℕ) → IsTrue (is_covered L b) → storage_bit J L b ≡ storage_bit I L b)
    → (b : ℕ) → IsHeldByNone I L b → IsHeldByNone J L b
unheld_stays I J L r bits b u = record {
  marked = record {
    inside = subst (λ n. b < n) (sym r.long) u.marked.inside;
    covered = u.marked.covered;
    used = bits b u.marked.covered ∙ u.marked.used;
  };
  other = u.other;
  place = u.place;
  none = λ m v holds. u.none m v ((r.holds m v b).1 holds);
}

-- a run of blocks that no file holds is one where the same blocks are held by none
pub unheld_run_stays : (I J : List (List ℕ)) (L : VolumeLayout) → ((b : ℕ) → IsHeldByNone I L b ↔ IsHeldByNone J L b) → (first last : ℕ) → IsUnheldRun I L first last → IsUnheldRun J L first last
unheld_run_stays I J L unheld first last run = same_run (IsHeldByNone I L) (IsHeldByNone J L) unheld first last run

-- a finding of headers and chains alone
abbrev pub IsOfHeaders : Finding → Type 0
IsOfHeaders (HeldByNone b) = ⊥
IsOfHeaders (RunHeldByNone first last) = ⊥
IsOfHeaders (NamesNone d line) = ⊥
IsOfHeaders (LostFile id) = ⊥
IsOfHeaders (HiddenEntries n) = ⊥
IsOfHeaders (Unnamed n) = ⊥
IsOfHeaders other = Unit {0}

module _ (I J : List (List ℕ)) (L : VolumeLayout) (r : IsReadAs I J L) where
  by_header : (P : List ℕ → Type 0) (n : ℕ) → P (header_at I L n) → P (header_at J L n)
  by_header P n p = subst P (sym (r.headers n)) p

  used_stays : (n : ℕ) → IsTrue (is_in_use I L.home n) → IsTrue (is_in_use J L.home n)
  used_stays n p = subst IsTrue (sym (r.in_use n)) p

  id_stays : (n : ℕ) (id : FileId) → id ≡ id_at I L n → id ≡ id_at J L n
  id_stays n id e = e ∙ ap (λ b. record { number = n; sequence = sequence_of b }) (sym (r.headers n))

  id_of_stays : (id : FileId) → IsIdOfFile I L id → IsIdOfFile J L id
  id_of_stays id p = ((r.files id.number).0 p.0, by_header (λ b. sequence_of b ≡ id.sequence) id.number p.1)

  header_stays : (n v x : ℕ) → HasHeader I L n v x → HasHeader J L n v x
  header_stays n v x h = record { file = (r.files n).0 h.file; others = h.others; blocks = h.blocks; chain = (r.chains n h.others h.blocks).0 h.chain; named = h.named }

  without_stays : (n : ℕ) (why : NoHeader) → IsWithout I L n why → IsWithout J L n why
  without_stays n NoBlock p = by_header (λ b. b ≡ []) n p
  without_stays n Checksum p = by_header (λ b. IsFirstFault b n fault.BadSum) n p
  without_stays n Number p = by_header (λ b. IsFirstFault b n fault.WrongNumber) n p
  without_stays n Level p = by_header (λ b. IsFirstFault b n fault.BadLevel) n p
  without_stays n Areas p = by_header (λ b. IsFirstFault b n fault.BadLayout) n p
  without_stays n Format p = by_header (λ b. IsFirstFault b n fault.UnsupportedMap) n p

  stray_stays : (n : ℕ) → IsStray I L n → IsStray J L n
  stray_stays n s = record { in_use = used_stays n s.in_use; above = s.above; invalid = by_header (λ b. ¬ IsValidHeader b n) n s.invalid }

module _ (I J : List (List ℕ)) (L : VolumeLayout) (r : IsReadAs I J L) (back : IsReadAs J I L) where
  -- what is found of headers and chains stays
  pub plain_finding_stays : (finding : Finding) → IsOfHeaders finding → IsFound I L finding → IsFound J L finding
  plain_finding_stays (BadHeader n why) of (used, low, without) = (used_stays I J L r n used, low, without_stays I J L r n why without)
  plain_finding_stays (StrayNumbers count first) of (some, c) = (
    some,
    record {
      numbers = c.numbers;
      are = record {
        each = λ i d low. let one = c.are.each i d low in (one.0, stray_stays I J L r _ one.1);
        all = λ n low s. c.are.all n low (stray_stays J I L back n s);
        once = c.are.once;
      };
      size = c.size;
      lowest = c.lowest;
    },
  )
  plain_finding_stays (HeldByNone b) of found = absurd of
  plain_finding_stays (RunHeldByNone first last) of found = absurd of
  plain_finding_stays (NamesNone d line) of found = absurd of
  plain_finding_stays (LostFile id) of found = absurd of
  plain_finding_stays (LostHeader id) of (lost, is) = (
    record {
      in_use = used_stays I J L r id.number lost.in_use;
      valid = by_header I J L r (λ b. IsValidHeader b id.number) id.number lost.valid;
      later = by_header I J L r (λ b. segment_of b ≢ 0) id.number lost.later;
      lost = λ m v h. lost.lost m v (header_stays J I L back m v id.number h);
    },
    id_stays I J L r id.number id is,
  )
  plain_finding_stays (EndPast id) of (past, is) = (
    record {
      other = past.other;
      plain = λ dir. past.plain (directory_stays J I L back id.number dir);
      blocks = past.blocks;
      has = (r.has id.number past.blocks).0 past.has;
      past = by_header I J L r (λ b. 512 * length past.blocks < end_of (attributes_of b)) id.number past.past;
    },
    id_stays I J L r id.number id is,
  )
  plain_finding_stays (HiddenEntries n) of found = absurd of
  plain_finding_stays (MarkedDeleted id) of (marked, is) = (((r.files id.number).0 marked.0, by_header I J L r SaysDeleted id.number marked.1), id_stays I J L r id.number id is)
  plain_finding_stays (Locked id) of (locked, is) = (((r.files id.number).0 locked.0, by_header I J L r SaysLocked id.number locked.1), id_stays I J L r id.number id is)
  plain_finding_stays (Unnamed n) of found = absurd of

module _ (I J : List (List ℕ)) (L : VolumeLayout) (r : IsReadAs I J L) (kept : KeepDirectories I J L) where
  with_entries : (P : List (List ℕ) → ℕ → Type 0) (n : ℕ) (bs : List ℕ) → IsDirectoryFile I L n → HasBlocks I L n bs → P (contents_of I bs) (mark_at I L n bs) → P (contents_of J bs) (mark_at J L n bs)
  with_entries P n bs dir has p = subst (λ cs. P cs (mark_at J L n bs)) (sym (kept n bs dir has)) (subst (P (contents_of I bs)) (sym (mark_stays I J L r n bs)) p)

  name_stays : (d : ℕ) (line : Listed) → HasName I L d line → HasName J L d line
  name_stays d line h = record {
    blocks = h.blocks;
    has = (r.has d h.blocks).0 h.has;
    file = directory_stays I J L r d h.file;
    good = with_entries IsDirectory d h.blocks h.file h.has h.good;
    named = with_entries (λ cs mark. Contains (lines_of (names_of cs mark)) line) d h.blocks h.file h.has h.named;
  }

  pub bad_stays : (n : ℕ) → IsTrueOf I L (BadDirectory n) → IsTrueOf J L (BadDirectory n)
  bad_stays n (dir, bs, has, bad) = (directory_stays I J L r n dir, bs, (r.has n bs).0 has, with_entries (λ cs mark. HasBadEntry (used_entries cs mark)) n bs dir has bad)

  pub twins_stay : (n : ℕ) → IsTrueOf I L (DuplicateName n) → IsTrueOf J L (DuplicateName n)
  twins_stay n (dir, bs, has, twins) = (directory_stays I J L r n dir, bs, (r.has n bs).0 has, with_entries (λ cs mark. HasTwins (used_entries cs mark)) n bs dir has twins)

module _ (I J : List (List ℕ)) (L : VolumeLayout) (layout : IsLayoutOf I L) (r : IsReadAs I J L) (kept : KeepDirectories I J L) where
  back : IsReadAs J I L
  back = read_back I J L layout r

  kept_too : KeepDirectories J I L
  kept_too = directories_back I J L layout r kept

  plain : (finding : Finding) → IsOfHeaders finding → IsFound I L finding → IsFound J L finding
  plain = plain_finding_stays I J L r back

  read_stays : (d : ℕ) → IsRead I L d → IsRead J L d
  read_stays d p = record {
    whole = λ dir. let old = p.whole (directory_stays J I L back d dir) in (old.0, (r.has d old.0).0 old.1);
    good = λ f. p.good (bad_stays J I L back kept_too d f);
    distinct = λ f. p.distinct (twins_stay J I L back kept_too d f);
  }

  -- what is found stays, but for runs of blocks that no file holds
  pub other_finding_stays : (finding : Finding) → run_of finding ≡ [] → IsFound I L finding → IsFound J L finding
  other_finding_stays (BadHeader n why) of found = plain (BadHeader n why) tt found
  other_finding_stays (StrayNumbers count first) of found = plain (StrayNumbers count first) tt found
  other_finding_stays (HeldByNone b) of found = absurd (cc)
  other_finding_stays (RunHeldByNone first last) of found = absurd (cc)
  other_finding_stays (NamesNone d line) of (name, none) = (name_stays I J L r kept d line name, λ id. none (id_of_stays J I L back line.file id))
  other_finding_stays (LostFile id) of (lost, is) = (
    record {
      other = lost.other;
      file = (r.files id.number).0 lost.file;
      lost = λ d line name e. lost.lost d line (name_stays J I L back kept_too d line name) (id_stays J I L back id.number line.file e);
    },
    id_stays I J L r id.number id is,
  )
  other_finding_stays (LostHeader id) of found = plain (LostHeader id) tt found
  other_finding_stays (EndPast id) of found = plain (EndPast id) tt found
  other_finding_stays (HiddenEntries n) of hiding = record {
    file = directory_stays I J L r n hiding.file;
    blocks = hiding.blocks;
    has = (r.has n hiding.blocks).0 hiding.has;
    hidden = with_entries I J L r kept HasHidden n hiding.blocks hiding.file hiding.has hiding.hidden;
  }
  other_finding_stays (MarkedDeleted id) of found = plain (MarkedDeleted id) tt found
  other_finding_stays (Locked id) of found = plain (Locked id) tt found
  other_finding_stays (Unnamed n) of unnamed = record {
    system = unnamed.system;
    file = (r.files n).0 unnamed.file;
    read = read_stays 4 unnamed.read;
    none = λ line name is. unnamed.none line (name_stays J I L back kept_too 4 line name)
        (subst (λ b. IsLineOf (system_words n) n (sequence_of b) line) (r.headers n) is);
  }

  module _ (unheld : (b : ℕ) → IsHeldByNone I L b ↔ IsHeldByNone J L b) where
    -- what is found stays, where the same blocks are held by none
    pub finding_stays : (finding : Finding) → IsFound I L finding → IsFound J L finding
    finding_stays (HeldByNone b) run = unheld_run_stays I J L unheld b b run
    finding_stays (RunHeldByNone first last) (low, run) = (low, unheld_run_stays I J L unheld first last run)
    finding_stays (BadHeader n why) found = other_finding_stays (BadHeader n why) refl found
    finding_stays (StrayNumbers count first) found = other_finding_stays (StrayNumbers count first) refl found
    finding_stays (NamesNone d line) found = other_finding_stays (NamesNone d line) refl found
    finding_stays (LostFile id) found = other_finding_stays (LostFile id) refl found
    finding_stays (LostHeader id) found = other_finding_stays (LostHeader id) refl found
    finding_stays (EndPast id) found = other_finding_stays (EndPast id) refl found
    finding_stays (HiddenEntries n) found = other_finding_stays (HiddenEntries n) refl found
    finding_stays (MarkedDeleted id) found = other_finding_stays (MarkedDeleted id) refl found
    finding_stays (Locked id) found = other_finding_stays (Locked id) refl found
    finding_stays (Unnamed n) found = other_finding_stays (Unnamed n) refl found
