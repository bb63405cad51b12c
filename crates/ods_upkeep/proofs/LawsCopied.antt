-- Why each file that is copied from another volume is there afterwards.
use Rattle.std.proofs.Common.{◌≡◌, ℕ, suc, refl, sym, ap, ◌∙◌, subst, true, List, [], ◌∷◌, ◌++◌, length, Option, Some, None, inl, inr}
use Rattle.std.specs.Prelude.{not, reverse}
use Rattle.std.specs.Borrow.{Bor}
use Rattle.std.specs.FinMap as finmap
use Rattle.std.specs.List.{All}
use Rattle.std.proofs.lemmas.List.{reverse-append}
use Rattle.std.proofs.lemmas.Option.{same_Some}
use Rattle.std.proofs.lemmas.List.Elements.{All-append, All-cons, All-filter, All-head, All-nil, All-push, All-tail}
use Rattle.ods_base.specs.Image.{IsImage}
use Rattle.ods_base.specs.Name.{RadName}
use Rattle.ods_base.specs.declared.file_id.FileId.{FileId}
use Rattle.ods_header.specs.Header.{attributes_of}
use Rattle.ods_space.specs.Chain.{index_for}
use Rattle.ods_space.specs.Layout.{VolumeLayout, header_at}
use Rattle.ods_space.specs.Reach.{Reaches}
use Rattle.ods_space.proofs.AsFar.{reached_is_one, whole_is_chain}
use Rattle.ods_mount.specs.Faults.{contents_of}
use Rattle.ods_paths.specs.Paths.{File as FileSaid, Files, Folder, Said, Within}
use Rattle.ods_paths.specs.declared.versions.Versions.{Versions}
use Rattle.ods_paths.specs.declared.versions.Versions.TheVariants.{Highest}
use Rattle.ods_request.specs.Catalogue.{Catalogue, File, Plain, is_directory}
use Rattle.ods_state.specs.Contents.{IsFileIn, ShowsBy}
use Rattle.ods_files.specs.Body.{Body, HasBody}
use Rattle.ods_filing.specs.Filed.{Filed}
use Rattle.ods_filing.specs.Put.{blocks_with}
use Rattle.ods_shell.specs.Choosing.{AreThose}
use Rattle.ods_shell.specs.Facts.{AreFacts}
use Rattle.ods_shell.specs.Named.{AreLines, AreNamed, AreNamedBy, IsKnown, IsNoDirectory, every_file, highest}
use Rattle.ods_shell.specs.Passed.{is_passed_over}
use Rattle.ods_shell.specs.declared.alone.Alone.TheVariants as alone
use Rattle.ods_shell.specs.declared.facts.Facts.{Facts}
use Rattle.ods_shell.specs.declared.folders.Directory.{Directory}
use Rattle.ods_shell.specs.declared.found.Found.{Found}
use Rattle.ods_walk.specs.declared.tables.Line.{Line}
use Rattle.ods_upkeep.specs.Copied.{NamesCopy, true_for}
use Rattle.ods_upkeep.specs.CopiedFrom.{AreCopiedOver, AreFilesFrom, IsCopiedOver, owner_carried, placing_of, stamp_for, version_for, AreAllCopiedOver}
use Rattle.ods_upkeep.specs.CopiesThere.{AreAlike, AreTrueOf, CopiedIsThere, CopiesAreThere, CopyIsThere, HasAllOf, HasCopy, HaveSameBytes, IsCopyIn, IsKnownBy}
use Rattle.ods_upkeep.specs.Sources.{AreFirst, AreOfPaths}
use Rattle.ods_upkeep.specs.declared.asked.CopyFrom.{CopyFrom}
use Rattle.ods_upkeep.specs.declared.target.Target.{Target}
use Rattle.ods_files.proofs.HeaderSizes.{blocks_sized}
use Rattle.ods_upkeep.proofs.LawsCompared.{AreSized, attributes_sized, blocks_again, same_bytes, true_same}
use Rattle.ods_upkeep.proofs.LawsKept.{IsAllLeft, entry_too, given_left, IsGivenLeft, leaves_all, left_next, left_next_version, left_ready, left_same, shown_too}
use Rattle.ods_upkeep.proofs.LawsShown.{plain_is, shown_body}

-- What is known of a file with a whole chain: its attributes, and how many blocks it has.
module _ (I : List (List ℕ)) (L : VolumeLayout) (n : ℕ) (facts : Facts) (body : Body) (are : AreFacts I L n facts) (has : HasBody I L n body) where
  known_attributes : facts.attributes ≡ body.attributes
  known_attributes = ap (λ (f : Facts). f.attributes) are.are ∙ sym has.attributes

  known_blocks : facts.blocks ≡ length body.blocks
  known_blocks =
      let reached : Reaches I L.home (index_for L n) n has.lbns true = (whole_is_chain I L.home (index_for L n) n has.lbns).1 has.held.others has.held.whole.chain in
      let same : are.lbns ≡ has.lbns = (reached_is_one I L.home (index_for L n) n are.lbns has.lbns are.whole true are.reached reached).0 in
      ap (λ (f : Facts). f.blocks) are.are ∙ ap length same ∙ sym (ap length has.blocks ∙ count has.lbns)
    where
      count : (lbns : List ℕ) → length (contents_of I lbns) ≡ length lbns
      count [] = refl
      count (l ∷ lbns) = ap suc (count lbns)

-- a file of the volume, by its header and its blocks
module _ (J : List (List ℕ)) (M : VolumeLayout) (id : FileId) (whole : File) (attributes : List ℕ) (blocks : List (List ℕ)) (is : IsFileIn J M id whole) (body : whole.body ≡ Plain attributes blocks) where
  abbrev now : Body
  now = record { blocks = contents_of J is.blocks; attributes = attributes_of (header_at J M id.number) }

  now_has : HasBody J M id.number now
  now_has = record { lbns = is.blocks; held = is.held; blocks = refl; attributes = refl }

  now_is : (attributes_of (header_at J M id.number) ≡ attributes) × (contents_of J is.blocks ≡ blocks)
  now_is = plain_is id.number (header_at J M id.number) (contents_of J is.blocks) attributes blocks (shown_body id.number (header_at J M id.number) (contents_of J is.blocks) whole is.shown ∙ body)

  known_now : (others : Facts) → AreFacts J M id.number others → others.attributes ≡ attributes
  known_now others are = ap (λ (f : Facts). f.attributes) are.are ∙ now_is.0

-- a copy is in each catalogue that has all of one in which it is
pub copy_in : (C D : Catalogue) (dir : FileId) (name : RadName) (said : Option ℕ) (stamp attributes : List ℕ) (blocks : List (List ℕ)) (id : FileId) → HasAllOf C D
    → IsCopyIn C dir name said stamp attributes blocks id → IsCopyIn D dir name said stamp attributes blocks id
copy_in C D dir name said stamp attributes blocks id has copy = record {
  file = copy.file;
  there = has.files id copy.file copy.there (ap is_directory copy.body);
  body = copy.body;
  number = copy.number;
  ident = copy.ident;
  version = copy.version;
  entry = has.entries dir name copy.version id copy.entry;
  as_said = copy.as_said;
}

-- and in each that the same blocks show
pub copy_too : (f : Filed) (C D : Catalogue) (dir : FileId) (name : RadName) (said : Option ℕ) (stamp attributes : List ℕ) (blocks : List (List ℕ)) (id : FileId) → ShowsBy f.image f.layout C → ShowsBy f.image f.layout D
    → IsCopyIn C dir name said stamp attributes blocks id → IsCopyIn D dir name said stamp attributes blocks id
copy_too f C D dir name said stamp attributes blocks id s t copy = record {
  file = copy.file;
  there = shown_too f C D s t id copy.file copy.there;
  body = copy.body;
  number = copy.number;
  ident = copy.ident;
  version = copy.version;
  entry = entry_too f C D s t dir name copy.version id copy.entry;
  as_said = copy.as_said;
}

-- What was found has a copy where a catalogue that the blocks show has it.
module _ (I : List (List ℕ)) (L : VolumeLayout) (how : CopyFrom) (to : Target) (stamp : List ℕ) (found : Found) (image : IsImage I) (known : IsKnownBy I L found) where
  module _ (facts : Facts) (is : found.facts ≡ Some facts) (body : Body) (held : HasBody I L facts.file.number body) (name : RadName) (named : NamesCopy to found facts name) (id : FileId)
      (new : Filed) (D : Catalogue) (shown : ShowsBy new.image new.layout D)
      (copy : IsCopyIn D to.directory name (version_for to found facts how.next) (stamp_for facts stamp) (true_for facts.attributes facts.blocks) body.blocks id)
      (kept : (file : File) → finmap.get D.files id ≡ Some file → file.protection ≡ facts.protection) where
    abbrev n : ℕ
    n = facts.file.number

    here : IsFileIn new.image new.layout id copy.file
    here = shown.there id copy.file copy.there

    same : HaveSameBytes I L n new.image new.layout id.number
    same =
        let sized : length body.attributes ≡ 32 = ap length held.attributes ∙ attributes_sized I L n image held.held.file in
        let was : facts.attributes ≡ body.attributes = known_attributes I L n facts body (known facts is) held in
        let count : facts.blocks ≡ length body.blocks = known_blocks I L n facts body (known facts is) held in
        let parts = now_is new.image new.layout id copy.file (true_for facts.attributes facts.blocks) body.blocks here copy.body in
        same_bytes I L n new.image new.layout id.number body (now new.image new.layout id copy.file (true_for facts.attributes facts.blocks) body.blocks here copy.body) sized held
        (now_has new.image new.layout id copy.file (true_for facts.attributes facts.blocks) body.blocks here copy.body) parts.1 (parts.0 ∙ (λ i. true_for (was i) (count i)))

    alike : AreTrueOf facts.attributes facts.blocks → AreAlike I L n new.image new.layout id.number
    alike true_of =
        let own : facts.attributes ≡ attributes_of (header_at I L n) = ap (λ (f : Facts). f.attributes) (known facts is).are in
        let sized : length facts.attributes ≡ 32 = ap length own ∙ attributes_sized I L n image held.held.file in
        let stays : true_for facts.attributes facts.blocks ≡ facts.attributes = true_same facts.attributes facts.blocks sized true_of in
        record {
          attributes = λ f others a b. ap (λ (g : Facts). g.attributes) a.are ∙ sym own ∙ sym stays
              ∙ sym (known_now new.image new.layout id copy.file (true_for facts.attributes facts.blocks) body.blocks here copy.body others b);
          bytes = same;
        }

    has_copy : HasCopy I L how to stamp found new
    has_copy = record {
      facts = facts;
      known = is;
      body = body;
      held = held;
      name = name;
      named = named;
      id = id;
      there = λ E s. copy_too new D E to.directory name (version_for to found facts how.next) (stamp_for facts stamp) (true_for facts.attributes facts.blocks) body.blocks id shown s copy;
      protection = λ E file s there. kept file (shown_too new E D s shown id file there);
      same = same;
      alike = alike;
    }

  -- What comes later leaves it.
  pub copy_stays : (mid new : Filed) (C : Catalogue) → ShowsBy mid.image mid.layout C → IsAllLeft mid new → HasCopy I L how to stamp found mid → HasCopy I L how to stamp found new
  copy_stays mid new C s goes has =
      let a = goes C s in
      has_copy has.facts has.known has.body has.held has.name has.named has.id new a.left a.shown
      (copy_in C a.left to.directory has.name (version_for to found has.facts how.next) (stamp_for has.facts stamp) (true_for has.facts.attributes has.facts.blocks) has.body.blocks has.id a.all (has.there C s))
      (λ file there. ap (λ (f : File). f.protection) (same_Some file (has.there C s).file (sym there ∙ a.all.files has.id (has.there C s).file (has.there C s).there (ap is_directory (has.there C s).body)))
      ∙ has.protection C (has.there C s).file s (has.there C s).there)

  -- One file is copied.
  module _ (old new : Filed) (copied : IsCopiedOver I L how to stamp found old new) where
    given_there : (C : Catalogue) → ShowsBy copied.made.mid.image copied.made.mid.layout C
        → IsGivenLeft C to.directory (version_for to found copied.facts how.next) (record { name = copied.name; version = copied.made.version; stamp = stamp_for copied.facts stamp })
        (true_for copied.facts.attributes copied.facts.blocks) copied.bytes copied.facts.protection copied.made.file new
    given_there C s =
        let facts : Facts = copied.facts in
        given_left (placing_of how facts) old.user to.directory (version_for to found facts how.next) (record { name = copied.name; version = copied.made.version; stamp = stamp_for facts stamp })
        (true_for facts.attributes facts.blocks) copied.bytes (owner_carried how.owners old.user facts.owner) facts.protection copied.made.file copied.made.mid copied.made.filed new C s copied.made.made copied.made.given

    all_left : IsAllLeft old new
    all_left =
        left_next old copied.made.mid new
        (left_next_version old copied.made.mid to.directory copied.name (version_for to found copied.facts how.next) copied.made.version copied.made.next)
        (λ C s. let is = given_there C s in record { left = is.left; shown = is.shown; all = is.all })

    -- its blocks are those of the bytes
    same_blocks : blocks_with copied.bytes ≡ copied.body.blocks
    same_blocks =
        let sized : AreSized copied.body.blocks = subst AreSized (sym copied.held.blocks) (blocks_sized I copied.held.lbns image copied.held.held.whole.inside) in
        ap blocks_with (sym (same_Some _ copied.bytes copied.all)) ∙ blocks_again copied.body.blocks sized

    pub one_there : (C : Catalogue) → ShowsBy old.image old.layout C → HasCopy I L how to stamp found new
    one_there C s =
        let facts : Facts = copied.facts in
        let first = left_next_version old copied.made.mid to.directory copied.name (version_for to found facts how.next) copied.made.version copied.made.next C s in
        let is = given_there first.left first.shown in
        has_copy facts copied.copyable.known copied.body copied.held copied.name copied.copyable.named copied.made.file new is.left is.shown
        (record {
          file = is.whole;
          there = is.there;
          body = is.body ∙ ap (Plain (true_for facts.attributes facts.blocks)) same_blocks;
          number = copied.made.version;
          ident = is.ident;
          version = is.version;
          entry = is.entry;
          as_said = is.as_said;
        })
        (λ file there. ap (λ (f : File). f.protection) (same_Some file is.whole (sym there ∙ is.there)) ∙ is.protection)

pub copy_is_there : CopyIsThere
copy_is_there I L how to stamp found old new C image known shown copied =
    (one_there I L how to stamp found image known old new copied C shown, leaves_all old new (all_left I L how to stamp found image known old new copied))

-- Files that are copied one after another.
module _ (I : List (List ℕ)) (L : VolumeLayout) (how : CopyFrom) (to : Target) (stamp : List ℕ) (image : IsImage I) where
  each_left : (files : List Found) (old new : Filed) → All (IsKnownBy I L) files → AreCopiedOver I L how to stamp files old new → IsAllLeft old new
  each_left [] old new known copied = left_same old new copied
  each_left (f ∷ files) old new known copied = left_next old copied.0 new (all_left I L how to stamp f image (All-head (IsKnownBy I L) f files known) old copied.0 copied.1)
      (each_left files copied.0 new (All-tail (IsKnownBy I L) f files known) copied.2)

  each_there : (files : List Found) (old new : Filed) (C : Catalogue) → All (IsKnownBy I L) files → ShowsBy old.image old.layout C → AreCopiedOver I L how to stamp files old new
      → All (λ found. HasCopy I L how to stamp found new) files
  each_there [] old new C known shown copied = All-nil (λ found. HasCopy I L how to stamp found new)
  each_there (f ∷ files) old new C known shown copied =
      let mid : Filed = copied.0 in
      let one : IsKnownBy I L f = All-head (IsKnownBy I L) f files known in
      let others : All (IsKnownBy I L) files = All-tail (IsKnownBy I L) f files known in
      let first = all_left I L how to stamp f image one old mid copied.1 C shown in
      let here : HasCopy I L how to stamp f mid = one_there I L how to stamp f image one old mid copied.1 C shown in
      All-cons (λ found. HasCopy I L how to stamp found new) f files
      (copy_stays I L how to stamp f image one mid new first.left first.shown (each_left files mid new others copied.2) here)
      (each_there files mid new first.left others first.shown copied.2)

  -- behind a growth of INDEXF.SYS
  pub copies_left : (files : List Found) (old new : Filed) → All (IsKnownBy I L) files → AreAllCopiedOver I L how to stamp files old new → IsAllLeft old new
  copies_left files old new known copied = left_next old copied.0 new (left_ready (length files) old copied.0 copied.1) (each_left files copied.0 new known copied.2)

  pub copies_there : (files : List Found) (old new : Filed) (C : Catalogue) → All (IsKnownBy I L) files → ShowsBy old.image old.layout C → AreAllCopiedOver I L how to stamp files old new
      → All (λ found. HasCopy I L how to stamp found new) files
  copies_there files old new C known shown copied =
      let first = left_ready (length files) old copied.0 copied.1 C shown in
      each_there files copied.0 new first.left known first.shown copied.2

pub copies_are_there : CopiesAreThere
copies_are_there I L how to stamp files old new C image known shown copied =
    (copies_there I L how to stamp image files old new C known shown copied, leaves_all old new (copies_left I L how to stamp image files old new known copied))

-- What is known of all that a path names is so by the blocks.
module _ (I : List (List ℕ)) (L : VolumeLayout) where
  pub known_by : (file : FileId) (found : Found) → IsKnown I L file found.facts → IsKnownBy I L found
  known_by file found is facts e =
      let one : AreFacts I L file.number facts × (facts.file ≡ file) = subst (IsKnown I L file) e is in
      subst (λ (f : FileId). AreFacts I L f.number facts) (sym one.1) one.0

  lines_known : (directories : List Directory) (lines : List Line) (found : List Found) → AreLines I L directories lines found → All (IsKnownBy I L) found
  lines_known directories [] found are = subst (All (IsKnownBy I L)) (sym are) (All-nil (IsKnownBy I L))
  lines_known directories (line ∷ lines) found are =
      let x = are.2 in
      subst (All (IsKnownBy I L)) (sym x.1.1) (All-cons (IsKnownBy I L) x.0 x.1.0 (known_by line.entry.file x.0 x.1.2.known) (lines_known directories lines x.1.0 x.1.3))

  named_known : (folder : Folder) (files : Files) (unsaid : Option Versions) (found : List Found) → AreNamed I L [] folder files unsaid found → All (IsKnownBy I L) found
  named_known folder files unsaid found are = lines_known are.2.0 are.2.2.0 found are.2.2.2

  those_known : (P : Found → Type 0) (all found : List Found) → AreThose P all found → All (IsKnownBy I L) all → All (IsKnownBy I L) found
  those_known P [] found are known = subst (All (IsKnownBy I L)) (sym are) (All-nil (IsKnownBy I L))
  those_known P (x ∷ all) found (inl taken) known =
      subst (All (IsKnownBy I L)) (sym taken.2) (All-cons (IsKnownBy I L) x taken.1 (All-head (IsKnownBy I L) x all known) (those_known P all taken.1 taken.3 (All-tail (IsKnownBy I L) x all known)))
  those_known P (x ∷ all) found (inr left) known = those_known P all found left.1 (All-tail (IsKnownBy I L) x all known)

  path_known : (says : Said) (found : List Found) → AreNamedBy I L [] says (highest alone.Files) found → All (IsKnownBy I L) found
  path_known (FileSaid file) found are =
      let one : IsKnownBy I L are.0 = λ facts e. (let same : are.3.0 ≡ facts = same_Some are.3.0 facts (sym are.3.1 ∙ e) in
      subst (λ (g : Facts). AreFacts I L g.file.number g) same (subst (λ (f : FileId). AreFacts I L f.number are.3.0) (sym are.3.3) are.3.2)) in
      subst (All (IsKnownBy I L)) (sym are.1) (All-cons (IsKnownBy I L) are.0 [] one (All-nil (IsKnownBy I L)))
  path_known (Within folder None) found are = those_known IsNoDirectory are.0 found are.2 (named_known folder every_file (Some Highest) are.0 are.1)
  path_known (Within folder (Some files)) found are = named_known folder files (Some Highest) found are

  reversed_known : (found : List Found) → All (IsKnownBy I L) found → All (IsKnownBy I L) (reverse found)
  reversed_known [] known = known
  reversed_known (x ∷ found) known =
      subst (All (IsKnownBy I L)) (sym (reverse-append (x ∷ []) found))
      (All-push (IsKnownBy I L) (reverse found) x (reversed_known found (All-tail (IsKnownBy I L) x found known)) (All-head (IsKnownBy I L) x found known))

  paths_known : (paths : List (Bor (List ℕ))) (all : List Found) → AreOfPaths I L (highest alone.Files) paths all → All (IsKnownBy I L) all
  paths_known [] all are = subst (All (IsKnownBy I L)) (sym are) (All-nil (IsKnownBy I L))
  paths_known (path ∷ paths) all are =
      let here : All (IsKnownBy I L) are.0 = path_known are.3.0 are.0 are.3.2 in
      subst (All (IsKnownBy I L)) (sym are.2) (All-append (IsKnownBy I L) (reverse are.0) are.1 (reversed_known are.0 here) (paths_known paths are.1 are.4))

  first_known : (seen all once : List Found) → AreFirst seen all once → All (IsKnownBy I L) all → All (IsKnownBy I L) once
  first_known seen [] once are known = subst (All (IsKnownBy I L)) (sym are) (All-nil (IsKnownBy I L))
  first_known seen (x ∷ all) once (inl again) known = first_known (seen ++ x ∷ []) all once again.1 (All-tail (IsKnownBy I L) x all known)
  first_known seen (x ∷ all) once (inr first) known =
      subst (All (IsKnownBy I L)) (sym first.2) (All-cons (IsKnownBy I L) x first.1 (All-head (IsKnownBy I L) x all known) (first_known (seen ++ x ∷ []) all first.1 first.3 (All-tail (IsKnownBy I L) x all known)))

  files_known : (paths : List (Bor (List ℕ))) (files : List Found) → AreFilesFrom I L paths files → All (IsKnownBy I L) files
  files_known paths files are =
      let all : All (IsKnownBy I L) are.0 = first_known [] are.1.0 are.0 are.1.2 (paths_known paths are.1.0 are.1.1) in
      subst (All (IsKnownBy I L)) (sym are.4) (All-filter (λ f. not (is_passed_over f.facts)) (IsKnownBy I L) are.0 all)

pub copied_is_there : CopiedIsThere
copied_is_there I L how stamp paths to old new C image shown copied =
    let files : List Found = copied.0 in
    let target : Target = copied.1.0 in
    let known : All (IsKnownBy I L) files = files_known I L paths files copied.1.1 in
    let there = copies_there I L how target stamp image files old new C known shown copied.1.3 in
    (files, (target, copied.1.1, copied.1.2, there, leaves_all old new (copies_left I L how target stamp image files old new known copied.1.3)))
