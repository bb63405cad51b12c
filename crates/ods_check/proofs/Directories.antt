-- The lines of directories, and the files that they name.
use Rattle.std.proofs.Common.{◌≡◌, ◌≢◌, ◌⊎◌, ◌<◌, ℕ, Bool, true, false, List, [], length, map, slice_get, Some, not, inl, inr, refl, sym, ap, ◌∙◌, subst, arith}
use Rattle.std.specs.List.{All, Contains}
use Rattle.std.specs.Prelude.{MatchBool, slice_index_or}
use Rattle.std.proofs.lemmas.List.Elements.{All-contains_itself}
use Rattle.std.proofs.lemmas.Option.{slice_get_within, get_or_from_slice_get, slice_get-get_or}
use Rattle.ods_base.specs.Image.{block_at}
use Rattle.ods_base.specs.Names.{lines_of}
use Rattle.ods_base.specs.declared.listed.Listed.{Listed}
use Rattle.ods_base.specs.declared.file_id.FileId.{FileId}
use Rattle.ods_header.specs.Header.{sequence_of}
use Rattle.ods_directory.specs.Entry.{Entry, IsGoodEntry, used_entries}
use Rattle.ods_directory.specs.Names.{AreDistinct, IsDirectory, HasBadEntry, HasTwins, names_of}
use Rattle.ods_space.specs.Layout.{VolumeLayout, header_at}
use Rattle.ods_space.specs.Chain.{index_for}
use Rattle.ods_space.specs.Files.{IsFile, HasBlocks, AreInside}
use Rattle.ods_space.specs.Faults.{IsChainFault}
use Rattle.ods_space.specs.declared.fault.ChainFault.{ChainFault}
use Rattle.ods_space.specs.declared.fault.ChainFault.TheVariants.{BadChain, OutsideVolume, NoMemory}
use Rattle.ods_space.proofs.Chains.{same_chain}
use Rattle.ods_space.proofs.Surveyed.{same_blocks}
use Rattle.ods_mount.specs.Faults.{IsDirectoryFile, contents_of, mark_at}
use Rattle.ods_mount.specs.Tables.{has}
use Rattle.ods_mount.proofs.Soundness.{all_at}
use Rattle.ods_check.specs.declared.finding.Finding.{Finding}
use Rattle.ods_check.specs.declared.finding.Finding.TheVariants.{NamesNone}
use Rattle.ods_check.specs.Sets.{IsSetOf}
use Rattle.ods_check.specs.Lists.{AreInOrder}
use Rattle.ods_directory.specs.Hidden.{HasHidden}
use Rattle.ods_check.specs.Findings.{IsWholeDirectory, IsRead, IsHiding, HasName, AreNames, ComesBefore, IsIdOfFile, IsNumberOf, NamesAt, NamesFile, IsLostFile, id_at}
use Rattle.ods_check.proofs.StillTold.{TellsLine}
use Rattle.ods_check.proofs.Noting.{set_as}
use Rattle.ods_check.proofs.KeyedLines.{lines_rising}
use Rattle.ods_check.proofs.InOrder.{order_nil}

-- where the chain has a fault there is no list of blocks
pub no_blocks : (I : List (List ℕ)) (L : VolumeLayout) (n : ℕ) (fault : ChainFault) → IsChainFault I L n fault → fault ≢ NoMemory → (blocks : List ℕ) → ¬ HasBlocks I L n blocks
no_blocks I L n BadChain none some blocks h = none h.others blocks h.whole.chain
no_blocks I L n (OutsideVolume lbn) (ns, bs, chain, one, past) some blocks h =
    let same = same_chain I L.home (index_for L n) [] 0 n ns bs h.others blocks chain h.whole.chain in
    let P : List ℕ → Type 0 = λ xs. AreInside I xs in
    let within : lbn < length I = all_at bs (length I) lbn (subst P (sym same.1) h.whole.inside) one in
    omega arith
no_blocks I L n NoMemory none some blocks h = some refl

-- good entries are none of them bad
none_bad : (es : List Entry) → All IsGoodEntry es → ¬ HasBadEntry es
none_bad es good h = h.bad (subst IsGoodEntry (get_or_from_slice_get es h.i h.entry h.entry h.found) (good h.i h.entry (slice_get_within es h.i h.entry h.found)))

none_alike : (es : List Entry) → AreDistinct es → ¬ HasTwins es
none_alike es distinct h = distinct h.i h.j h.apart h.one h.other h.first h.second h.same

-- a directory has neither a bad entry nor two of one name
pub good_names : (blocks : List (List ℕ)) (mark : ℕ) → IsDirectory blocks mark → (HasBadEntry (used_entries blocks mark) ⊎ HasTwins (used_entries blocks mark)) → ⊥
good_names blocks mark d (inl bad) = none_bad (used_entries blocks mark) d.good bad
good_names blocks mark d (inr twins) = none_alike (used_entries blocks mark) d.distinct twins

pub whether_bad : (es : List Entry) (b : Bool) → MatchBool b (HasBadEntry es) (All IsGoodEntry es) → MatchBool b (HasBadEntry es) (¬ HasBadEntry es)
whether_bad es true h = h
whether_bad es false good = none_bad es good

pub whether_alike : (es : List Entry) (b : Bool) → MatchBool b (HasTwins es) (AreDistinct es) → MatchBool b (HasTwins es) (¬ HasTwins es)
whether_alike es true h = h
whether_alike es false distinct = none_alike es distinct

-- what was found of the blocks and the mark at hand is so of those of the directory
pub moved : (P : List (List ℕ) → ℕ → Type 0) (I J : List (List ℕ)) (L : VolumeLayout) (d : ℕ) (xs ys : List ℕ) (mark : ℕ) → IsWholeDirectory I L d xs mark → J ≡ I → ys ≡ xs → P (map (block_at J) ys) mark → P (contents_of I xs) (mark_at I L d xs)
moved P I J L d xs ys mark whole same_image same_list found =
    let Q : ℕ → Type 0 = λ m. P (contents_of I xs) m in
    let R : List ℕ → Type 0 = λ l. P (map (block_at J) l) mark in
    let S : List (List ℕ) → Type 0 = λ K. P (map (block_at K) xs) mark in
    subst Q whole.end (subst S same_image (subst R same_list found))

module _ (I : List (List ℕ)) (L : VolumeLayout) where
  -- a number that has no line
  pub none_are : (d : ℕ) (lines : List Listed) → lines ≡ [] → ((line : Listed) → ¬ HasName I L d line) → AreNames I L d lines
  none_are d lines is none = record {
    each = λ k x low. let size : length lines ≡ 0 = ap length is in absurd (omega arith);
    all = λ line h. absurd (none line h);
    rising = subst (AreInOrder ComesBefore) (sym is) (order_nil ComesBefore);
  }

  -- the lines of a directory
  pub names_are : (d : ℕ) (blocks : List ℕ) (lines : List Listed) → HasBlocks I L d blocks → IsDirectoryFile I L d → IsDirectory (contents_of I blocks) (mark_at I L d blocks)
      → lines ≡ lines_of (names_of (contents_of I blocks) (mark_at I L d blocks)) → AreNames I L d lines
  names_are d blocks lines own file good is = record {
    each = λ k x low.
        let there : Contains (lines_of (names_of (contents_of I blocks) (mark_at I L d blocks))) (slice_index_or lines k x) = subst (λ l. Contains l (slice_index_or lines k x)) is (All-contains_itself lines k x low) in
        record { blocks = blocks; has = own; file = file; good = good; named = there };
    all = λ line h.
        let P : List ℕ → Type 0 = λ xs. Contains (lines_of (names_of (contents_of I xs) (mark_at I L d xs))) line in
        subst (λ l. Contains l line) (sym is) (subst P (same_blocks I L d h.blocks blocks h.has own) h.named);
    rising = subst (AreInOrder ComesBefore) (sym is) (lines_rising (contents_of I blocks) (mark_at I L d blocks) good);
  }

  -- a directory with a fault in its names has no line
  pub no_names : (d : ℕ) (blocks : List ℕ) → HasBlocks I L d blocks
      → (HasBadEntry (used_entries (contents_of I blocks) (mark_at I L d blocks)) ⊎ HasTwins (used_entries (contents_of I blocks) (mark_at I L d blocks))) → (line : Listed) → ¬ HasName I L d line
  no_names d blocks own fault line h =
      let P : List ℕ → Type 0 = λ xs. IsDirectory (contents_of I xs) (mark_at I L d xs) in
      good_names (contents_of I blocks) (mark_at I L d blocks) (subst P (same_blocks I L d h.blocks blocks h.has own) h.good) fault

  module _ (lines : List Listed) (i : ℕ) (x : Listed) (at : slice_get lines i ≡ Some x) where
    is_x : (line : Listed) → slice_get lines i ≡ Some line → x ≡ line
    is_x line other = let same : Some x ≡ Some line = sym at ∙ other in cc

    pub line_named : (old new : List ℕ) → IsSetOf (λ n. (has old n ≡ true) ⊎ IsNumberOf I L x n) new → IsSetOf (λ n. (has old n ≡ true) ⊎ NamesAt I L lines i n) new
    line_named old new s = set_as (λ n. (has old n ≡ true) ⊎ IsNumberOf I L x n) (λ n. (has old n ≡ true) ⊎ NamesAt I L lines i n) new
        (λ n o. elim o [ inl m ↦ inl m | inr h ↦ inr (x, at, h) ])
        (λ n o. elim o [ inl m ↦ inl m | inr (line, other, h) ↦ (let P : Listed → Type 0 = λ l. IsNumberOf I L l n in inr (subst P (sym (is_x line other)) h)) ]) s

    pub line_told : (d : ℕ) (found : List Finding) → (¬ IsIdOfFile I L x.file → Contains found (NamesNone d x)) → TellsLine I L d lines i found
    line_told d found told line other =
        let P : Listed → Type 0 = λ l. ¬ IsIdOfFile I L l.file → Contains found (NamesNone d l) in
        subst P (is_x line other) told

  module _ (d : ℕ) (lines : List Listed) (are : AreNames I L d lines) where
    place_of : (line : Listed) → HasName I L d line → (k : ℕ) × (slice_get lines k ≡ Some line)
    place_of line h = let c = are.all line h in (c.0, slice_get-get_or lines c.0 line c.1 ∙ ap Some c.2)

    -- each line of the directory is told
    pub names_told : (found : List Finding) → ((k : ℕ) → TellsLine I L d lines k found) → (line : Listed) → HasName I L d line → ¬ IsIdOfFile I L line.file → Contains found (NamesNone d line)
    names_told found told line h none = let p = place_of line h in told p.0 line p.1 none

    has_at : (k : ℕ) (line : Listed) → slice_get lines k ≡ Some line → HasName I L d line
    has_at k line at = let P : Listed → Type 0 = λ l. HasName I L d l in subst P (get_or_from_slice_get lines k line line at) (are.each k line (slice_get_within lines k line at))

    pub names_noted : (old new : List ℕ) → IsSetOf (λ n. (has old n ≡ true) ⊎ ((k : ℕ) × NamesAt I L lines k n)) new → IsSetOf (λ n. (has old n ≡ true) ⊎ NamesFile I L d n) new
    names_noted old new s = set_as (λ n. (has old n ≡ true) ⊎ ((k : ℕ) × NamesAt I L lines k n)) (λ n. (has old n ≡ true) ⊎ NamesFile I L d n) new
        (λ n o. elim o [ inl m ↦ inl m | inr (k, (line, at, h)) ↦ inr (line, has_at k line at, h) ])
        (λ n o. elim o [ inl m ↦ inl m | inr (line, own, h) ↦ (let p = place_of line own in inr (p.0, (line, p.1, h))) ]) s

  -- whether a file is lost, by the set of the files that are named
  pub lost_is : (n : ℕ) (set : List ℕ) (b : Bool) → b ≡ has set n → IsSetOf (λ k. (d : ℕ) × NamesFile I L d k) set → 5 < n → IsFile I L n → MatchBool (not b) (IsLostFile I L n) (¬ IsLostFile I L n)
  lost_is n set true is s above file = λ h.
      let named = s.only n (sym is) in
      let number = named.1.2.1 in
      let sequence : sequence_of (header_at I L n) ≡ named.1.0.file.sequence = ap (λ k. sequence_of (header_at I L k)) (sym number) ∙ named.1.2.0.1 in
      let id : named.1.0.file ≡ id_at I L n = λ i. record { number = number i; sequence = sym sequence i } in
      h.lost named.0 named.1.0 named.1.1 id
  lost_is n set false is s above file = record {
    other = above;
    file = file;
    lost = λ d line own id.
        let P : FileId → Type 0 = λ f. IsIdOfFile I L f in
        let named : has set n ≡ true = s.all n (d, (line, own, (subst P (sym id) (file, refl), ap (λ f. f.number) id))) in
        let clash : false ≡ true = is ∙ named in
        absurd cc;
  }

  -- a number that is no file is no directory whose names are not read
  pub read_none : (n : ℕ) → ¬ IsFile I L n → IsRead I L n
  read_none n none = record { whole = λ directory. absurd (none directory.0); good = λ t. none t.2.file; distinct = λ t. none t.2.file }

  -- a directory without a list of blocks is not read
  pub not_read : (n : ℕ) → IsDirectoryFile I L n → ((blocks : List ℕ) → ¬ HasBlocks I L n blocks) → ¬ IsRead I L n
  not_read n directory none read = let found = read.whole directory in none found.0 found.1

  pub read_plain : (n : ℕ) → ¬ IsDirectoryFile I L n → IsRead I L n
  read_plain n other = record { whole = λ directory. absurd (other directory); good = λ t. other t.0; distinct = λ t. other t.0 }

  -- a number without a whole chain is read just where it is no directory
  pub unread : (n : ℕ) (b : Bool) → MatchBool b (IsDirectoryFile I L n) (¬ IsDirectoryFile I L n) → (IsDirectoryFile I L n → (blocks : List ℕ) → ¬ HasBlocks I L n blocks) → MatchBool (not b) (IsRead I L n) (¬ IsRead I L n)
  unread n true directory none = not_read n directory (none directory)
  unread n false other none = read_plain n other

  -- a directory is read
  pub read_good : (n : ℕ) (blocks : List ℕ) → HasBlocks I L n blocks → IsDirectory (contents_of I blocks) (mark_at I L n blocks) → IsRead I L n
  read_good n blocks own good =
      let P : List ℕ → Type 0 = λ xs. IsDirectory (contents_of I xs) (mark_at I L n xs) in
      record {
        whole = λ directory. (blocks, own);
        good = λ t. good_names (contents_of I t.1) (mark_at I L n t.1) (subst P (same_blocks I L n blocks t.1 own t.2) good) (inl t.3);
        distinct = λ t. good_names (contents_of I t.1) (mark_at I L n t.1) (subst P (same_blocks I L n blocks t.1 own t.2) good) (inr t.3);
      }

  -- what is so of a directory with these blocks and its mark
  pub directory_is : (P : List (List ℕ) → ℕ → Type 0) (n : ℕ) (blocks : List ℕ) (b : Bool) → HasBlocks I L n blocks → IsDirectoryFile I L n → MatchBool b (P (contents_of I blocks) (mark_at I L n blocks)) (¬ P (contents_of I blocks) (mark_at I L n blocks))
      → MatchBool b (IsDirectoryFile I L n × (bs : List ℕ) × HasBlocks I L n bs × P (contents_of I bs) (mark_at I L n bs)) (¬ (IsDirectoryFile I L n × (bs : List ℕ) × HasBlocks I L n bs × P (contents_of I bs) (mark_at I L n bs)))
  directory_is P n blocks true own file h = (file, blocks, own, h)
  directory_is P n blocks false own file none = λ t.
      let Q : List ℕ → Type 0 = λ xs. P (contents_of I xs) (mark_at I L n xs) in
      none (subst Q (same_blocks I L n t.1 blocks t.2 own) t.3)

  -- whether a directory with these blocks hides entries
  pub hiding_is : (n : ℕ) (blocks : List ℕ) (b : Bool) → HasBlocks I L n blocks → IsDirectoryFile I L n → MatchBool b (HasHidden (contents_of I blocks) (mark_at I L n blocks)) (¬ HasHidden (contents_of I blocks) (mark_at I L n blocks))
      → MatchBool b (IsHiding I L n) (¬ IsHiding I L n)
  hiding_is n blocks true own file h = record { file = file; blocks = blocks; has = own; hidden = h }
  hiding_is n blocks false own file none = λ t.
      let P : List ℕ → Type 0 = λ xs. HasHidden (contents_of I xs) (mark_at I L n xs) in
      none (subst P (same_blocks I L n t.blocks blocks t.has own) t.hidden)
