-- What a check finds of two images that are alike but for the pointers of one file is the same, but for the blocks that no file holds.
use Rattle.std.proofs.Common.{◌≡◌, ℕ, ◌*◌, ◌/◌, ◌%◌, ◌<◌, refl, ap, sym, ◌∙◌, subst, IsTrue, List, [], length, inl, inr, arith}
use Rattle.std.specs.List.{Contains}
use Rattle.std.proofs.lemmas.Bool.{cases_eq}
use Rattle.std.proofs.lemmas.List.{length-map}
use Rattle.ods_base.specs.declared.file_id.FileId.{FileId}
use Rattle.ods_base.specs.declared.listed.Listed.{Listed}
use Rattle.ods_base.specs.Image.{block_at}
use Rattle.ods_base.specs.Names.{lines_of}
use Rattle.ods_base.specs.Block.{word}
use Rattle.ods_header.specs.declared.header.HeaderFault.{HeaderFault}
use Rattle.ods_header.specs.declared.header.HeaderFault.TheVariants as fault
use Rattle.ods_header.specs.Header.{IsFirstFault, IsValidHeader, attributes_of, segment_of, sequence_of, system_char_of, user_char_of}
use Rattle.ods_alloc.proofs.Written.{no_fault}
use Rattle.ods_space.specs.Layout.{VolumeLayout, header_at, is_in_use}
use Rattle.ods_space.specs.Files.{HasBlocks}
use Rattle.ods_directory.specs.Hidden.{HasHidden}
use Rattle.ods_directory.specs.Names.{IsDirectory, names_of}
use Rattle.ods_mount.specs.declared.fault.MountFault.TheVariants.{BadDirectory, DuplicateName}
use Rattle.ods_mount.specs.Checks.{HasHeader}
use Rattle.ods_check.specs.declared.finding.NoHeader.{NoHeader}
use Rattle.ods_check.specs.declared.finding.NoHeader.TheVariants.{NoBlock, Checksum, Number, Level, Areas, Format}
use Rattle.ods_check.specs.declared.finding.Finding.{Finding}
use Rattle.ods_check.specs.declared.finding.Finding.TheVariants.{BadHeader, StrayNumbers, LostHeader, HeldByNone, RunHeldByNone, NamesNone, LostFile, EndPast, HiddenEntries, MarkedDeleted, Locked, Unnamed}
use Rattle.ods_check.specs.Findings.{HasName, IsFound, IsIdOfFile, IsLineOf, IsRead, IsStray, IsWithout, end_of, id_at, run_of, system_words}
use Rattle.ods_repair.proofs.FaultsAlike.{IsAlike, any_chain, directory_has, directory_stays, fault_stays, same_attributes}

module _ (X Y : List (List ℕ)) (L : VolumeLayout) (n : ℕ) (a : IsAlike X Y L n) (b : IsAlike Y X L n) where
  -- what is the same in the header of the file is the same in each
  same_in : (of : List ℕ → ℕ) → of (header_at Y L n) ≡ of (header_at X L n) → (q : ℕ) → of (header_at Y L q) ≡ of (header_at X L q)
  same_in of own q = elim (cases_eq q n) [
    | inl same ↦ ap (λ z. of (header_at Y L z)) same ∙ own ∙ sym (ap (λ z. of (header_at X L z)) same)
    | inr other ↦ ap of (a.headers q other)
  ]

  same_sequence : (q : ℕ) → sequence_of (header_at Y L q) ≡ sequence_of (header_at X L q)
  same_sequence = same_in sequence_of a.sequence

  same_segment : (q : ℕ) → segment_of (header_at Y L q) ≡ segment_of (header_at X L q)
  same_segment = same_in segment_of (b.file.segment ∙ sym a.file.segment)

  used_stays : (q : ℕ) → IsTrue (is_in_use X L.home q) → IsTrue (is_in_use Y L.home q)
  used_stays q p = subst IsTrue (sym (a.in_use q)) p

  valid_stays : (q : ℕ) → IsValidHeader (header_at X L q) q → IsValidHeader (header_at Y L q) q
  valid_stays q v = elim (cases_eq q n) [
    | inl same ↦ subst (λ z. IsValidHeader (header_at Y L z) z) (sym same) b.file.valid
    | inr other ↦ subst (λ h. IsValidHeader h q) (sym (a.headers q other)) v
  ]

  id_stays : (q : ℕ) (id : FileId) → id ≡ id_at X L q → id ≡ id_at Y L q
  id_stays q id e = e ∙ ap (λ s. record { number = q; sequence = s }) (sym (same_sequence q))

  id_of_stays : (id : FileId) → IsIdOfFile X L id → IsIdOfFile Y L id
  id_of_stays id p = (a.files id.number p.0, same_sequence id.number ∙ p.1)

  name_stays : (d : ℕ) (line : Listed) → HasName X L d line → HasName Y L d line
  name_stays d line h =
      let there = directory_has X Y L n a (λ cs mark. IsDirectory cs mark × Contains (lines_of (names_of cs mark)) line) d h.blocks h.file h.has (h.good, h.named) in
      record { blocks = there.0; has = there.1; file = directory_stays X Y L n a d h.file; good = there.2.0; named = there.2.1 }

  header_stays : (m v x : ℕ) → HasHeader X L m v x → HasHeader Y L m v x
  header_stays m v x h = let chain = any_chain X Y L n a m h.others h.blocks h.chain in record { file = a.files m h.file; others = h.others; blocks = chain.0; chain = chain.1; named = h.named }

  -- each file has as many blocks
  blocks_stay : (q : ℕ) (bs : List ℕ) → HasBlocks X L q bs → (cs : List ℕ) × HasBlocks Y L q cs × (length cs ≡ length bs)
  blocks_stay q bs has = elim (cases_eq q n) [
    | inl same ↦
        let own = a.own_has bs (subst (λ z. HasBlocks X L z bs) same has) in
        (own.0, subst (λ z. HasBlocks Y L z own.0) (sym same) own.1, sym (length-map own.0 (block_at Y)) ∙ ap length own.2 ∙ length-map bs (block_at X))
    | inr other ↦ (bs, a.has q bs other has, refl)
  ]

  -- the file has a valid header, and no other changes
  first_stays : (q : ℕ) (f : HeaderFault) → IsFirstFault (header_at X L q) q f → IsFirstFault (header_at Y L q) q f
  first_stays q f p = elim (cases_eq q n) [
    | inl same ↦ absurd (no_fault (header_at X L q) q f p (subst (λ z. IsValidHeader (header_at X L z) z) (sym same) a.file.valid))
    | inr other ↦ subst (λ h. IsFirstFault h q f) (sym (a.headers q other)) p
  ]

  none_stays : (q : ℕ) → header_at X L q ≡ [] → header_at Y L q ≡ []
  none_stays q none = elim (cases_eq q n) [
    | inl same ↦ absurd (let wrong : 0 ≡ 257 = ap (λ h. word h 3) (sym none ∙ ap (header_at X L) same) ∙ a.file.valid.header.level in omega (arith, wrong))
    | inr other ↦ a.headers q other ∙ none
  ]

  without_stays : (q : ℕ) (why : NoHeader) → IsWithout X L q why → IsWithout Y L q why
  without_stays q NoBlock p = none_stays q p
  without_stays q Checksum p = first_stays q fault.BadSum p
  without_stays q Number p = first_stays q fault.WrongNumber p
  without_stays q Level p = first_stays q fault.BadLevel p
  without_stays q Areas p = first_stays q fault.BadLayout p
  without_stays q Format p = first_stays q fault.UnsupportedMap p

module _ (X Y : List (List ℕ)) (L : VolumeLayout) (n : ℕ) (a : IsAlike X Y L n) (b : IsAlike Y X L n) where
  stray_stays : (q : ℕ) → IsStray X L q → IsStray Y L q
  stray_stays q s = record { in_use = used_stays X Y L n a b q s.in_use; above = s.above; invalid = λ v. s.invalid (valid_stays Y X L n b a q v) }

  read_stays : (d : ℕ) → IsRead X L d → IsRead Y L d
  read_stays d p = record {
    whole = λ dir. let was = p.whole (directory_stays Y X L n b d dir) in let has = blocks_stay X Y L n a b d was.0 was.1 in (has.0, has.1);
    good = λ f. p.good (fault_stays Y X L n b (BadDirectory d) tt f);
    distinct = λ f. p.distinct (fault_stays Y X L n b (DuplicateName d) tt f);
  }

module _ (X Y : List (List ℕ)) (L : VolumeLayout) (n : ℕ) (a : IsAlike X Y L n) (b : IsAlike Y X L n) where
  -- what is found stays, but for runs of blocks that no file holds
  pub finding_stays : (finding : Finding) → run_of finding ≡ [] → IsFound X L finding → IsFound Y L finding
  finding_stays (BadHeader q why) of (used, low, without) = (used_stays X Y L n a b q used, low, without_stays X Y L n a b q why without)
  finding_stays (StrayNumbers count first) of (some, c) = (
    some,
    record {
      numbers = c.numbers;
      are = record {
        each = λ i d low. let one = c.are.each i d low in (one.0, stray_stays X Y L n a b _ one.1);
        all = λ q low s. c.are.all q low (stray_stays Y X L n b a q s);
        once = c.are.once;
      };
      size = c.size;
      lowest = c.lowest;
    },
  )
  finding_stays (HeldByNone block) of run = absurd (cc)
  finding_stays (RunHeldByNone first last) of run = absurd (cc)
  finding_stays (NamesNone d line) of (name, none) = (name_stays X Y L n a b d line name, λ id. none (id_of_stays Y X L n b a line.file id))
  finding_stays (LostFile id) of (lost, is) = (
    record {
      other = lost.other;
      file = a.files id.number lost.file;
      lost = λ d line name e. lost.lost d line (name_stays Y X L n b a d line name) (id_stays Y X L n b a id.number line.file e);
    },
    id_stays X Y L n a b id.number id is,
  )
  finding_stays (LostHeader id) of (lost, is) = (
    record {
      in_use = used_stays X Y L n a b id.number lost.in_use;
      valid = valid_stays X Y L n a b id.number lost.valid;
      later = λ e. lost.later (sym (same_segment X Y L n a b id.number) ∙ e);
      lost = λ m v h. lost.lost m v (header_stays Y X L n b a m v id.number h);
    },
    id_stays X Y L n a b id.number id is,
  )
  finding_stays (EndPast id) of (past, is) =
      let there = blocks_stay X Y L n a b id.number past.blocks past.has in (
        record {
          other = past.other;
          plain = λ dir. past.plain (directory_stays Y X L n b id.number dir);
          blocks = there.0;
          has = there.1;
          past = subst (λ k. 512 * k < end_of (attributes_of (header_at Y L id.number))) (sym there.2)
              (subst (λ o. 512 * length past.blocks < end_of o) (sym (same_attributes X Y L n a id.number)) past.past);
        },
        id_stays X Y L n a b id.number id is,
      )
  finding_stays (HiddenEntries q) of hiding =
      let there = directory_has X Y L n a HasHidden q hiding.blocks hiding.file hiding.has hiding.hidden in
      record { file = directory_stays X Y L n a q hiding.file; blocks = there.0; has = there.1; hidden = there.2 }
  finding_stays (MarkedDeleted id) of (marked, is) =
      ((a.files id.number marked.0, ap (λ c. c / 128 % 2) (same_in X Y L n a b system_char_of a.system_char id.number) ∙ marked.1), id_stays X Y L n a b id.number id is)
  finding_stays (Locked id) of (locked, is) =
      ((a.files id.number locked.0, ap (λ c. c / 64 % 2) (same_in X Y L n a b user_char_of a.user_char id.number) ∙ locked.1), id_stays X Y L n a b id.number id is)
  finding_stays (Unnamed q) of unnamed = record {
    system = unnamed.system;
    file = a.files q unnamed.file;
    read = read_stays X Y L n a b 4 unnamed.read;
    none = λ line name is. unnamed.none line (name_stays Y X L n b a 4 line name) (subst (λ s. IsLineOf (system_words q) q s line) (same_sequence X Y L n a b q) is);
  }
