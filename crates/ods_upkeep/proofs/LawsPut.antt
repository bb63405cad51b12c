-- Why a file of a tree of the host that was put is got back.
use Rattle.std.proofs.Common.{◌≡◌, ℕ, ◌+◌, ◌/◌, ◌%◌, ◌≤◌, refl, sym, ap, ◌∙◌, subst, true, false, List, [], ◌∷◌, ◌++◌, length, replicate, Option, Some, None, unwrap_or, arith, inl, inr}
use Rattle.std.specs.Prelude.{◌&&◌, ◌||◌, MatchBool}
use Rattle.std.specs.List.{All, list_all}
use Rattle.std.specs.Option.{option_or}
use Rattle.std.specs.Str.Lines.{lines}
use Rattle.std.proofs.lemmas.List.{length-append, length-replicate}
use Rattle.std.proofs.lemmas.Option.{same_Some}
use Rattle.std.proofs.lemmas.List.Elements.{All-cons, All-nil}
use Rattle.ods_base.specs.declared.file_id.FileId.{FileId}
use Rattle.ods_base.specs.Name.{RadName}
use Rattle.ods_space.specs.Layout.{VolumeLayout}
use Rattle.ods_request.specs.Catalogue.{Catalogue}
use Rattle.ods_state.specs.Contents.{ShowsBy}
use Rattle.ods_files.specs.Body.{Body, bytes_in}
use Rattle.ods_files.specs.declared.form.Form.TheVariants as form
use Rattle.ods_filing.specs.Filed.{Filed}
use Rattle.ods_filing.specs.Laws.{GivesBack, ShowsBytes}
use Rattle.ods_filing.specs.Put.{Heading, block_count, blocks_with}
use Rattle.ods_records.specs.Attributes.{attributes, end_block, end_of, is_controlled, kind_in}
use Rattle.ods_records.specs.Lines.{IsPlainText}
use Rattle.ods_records.specs.Records.{Spells, text_of, word_at}
use Rattle.ods_records.specs.Survey.{come_as_lines, is_printable}
use Rattle.ods_records.specs.declared.kind.RecordKind.TheVariants.{Variable}
use Rattle.ods_records.specs.declared.kind.Wanted.TheVariants.{ByKind, Text}
use Rattle.ods_records.proofs.EndSet.{by_parts}
use Rattle.ods_records.proofs.PlainTexts.{lines_text}
use Rattle.ods_records.proofs.ReadSoFar.{spelled_once}
use Rattle.ods_records.proofs.Standing.{fault_spells}
use Rattle.ods_records.proofs.WrittenStands.{spells_written}
use Rattle.ods_records.specs.Faults.{IsFirstFault}
use Rattle.ods_records.specs.declared.faults.RecordFault.{RecordFault}
use Rattle.ods_records.specs.declared.kind.RecordKind.{RecordKind}
use Rattle.ods_shell.specs.declared.form.FormFault.{FormFault}
use Rattle.ods_shell.specs.declared.form.FormFault.TheVariants as fault
use Rattle.ods_shell.specs.Contents.{AreBytes as AreBytesGot, AreStreamLines, IsChosen, IsGot, IsGotAlone, IsNotGot, is_line_stream}
use Rattle.ods_shell.specs.declared.form.Remark.{Remark}
use Rattle.ods_upkeep.specs.CopiesThere.{IsCopyIn, IsWayIn}
use Rattle.ods_upkeep.specs.HostPut.{IsVersionFor}
use Rattle.ods_upkeep.specs.Pieces.{with_end}
use Rattle.ods_upkeep.specs.PutBack.{AFile, AFolder, AreItemsPut, IsFolderThere, IsItemBack, IsItemPut, IsLeafBack, KeepsBytes, LeafComesBack, TreeComesBack, TreeItem}
use Rattle.ods_upkeep.specs.TreeNames.{IsTreeName, SaysFolders}
use Rattle.ods_upkeep.specs.Replaced.{KeepsAccess}
use Rattle.ods_upkeep.specs.TreePut.{IsFolderPut, IsLeafPut}
use Rattle.ods_upkeep.specs.Wayside.{IsParted}
use Rattle.ods_upkeep.specs.Written.{AreBytes, AreRecords, IsByContents, IsWritten}
use Rattle.ods_upkeep.specs.declared.asked.PutForm.{PutForm}
use Rattle.ods_upkeep.specs.declared.asked.PutForm.TheVariants as asked
use Rattle.ods_upkeep.specs.declared.putting_tree.TreeForm.{TreeForm}
use Rattle.ods_upkeep.proofs.LawsCompared.{set_end}
use Rattle.ods_upkeep.proofs.LawsCopied.{copy_in, copy_too}
use Rattle.ods_upkeep.proofs.LawsGot.{comes_back, only_memory}
use Rattle.ods_upkeep.proofs.LawsKept.{IsAllLeft, IsPlainLeft, all_of_itself, all_of_next, all_too, leaves_all, left_next, left_next_version, left_same, made_left}
use Rattle.ods_upkeep.proofs.LawsTrees.{has_place, way_kept}
use Rattle.ods_upkeep.proofs.PlainLines.{plain_lines}

-- the end of file that new attributes say
block_is : (rtyp ratt rsiz n : ℕ) → end_block (attributes rtyp ratt rsiz n) ≡ n / 512 + 1
block_is rtyp ratt rsiz n = omega arith

byte_is : (rtyp ratt rsiz n : ℕ) → word_at (attributes rtyp ratt rsiz n) 12 ≡ n % 512
byte_is rtyp ratt rsiz n = omega arith

end_is : (rtyp ratt rsiz n : ℕ) → end_of (attributes rtyp ratt rsiz n) ≡ n
end_is rtyp ratt rsiz n = by_parts n (end_block (attributes rtyp ratt rsiz n)) (word_at (attributes rtyp ratt rsiz n) 12) (block_is rtyp ratt rsiz n) (byte_is rtyp ratt rsiz n)

-- four bytes are in front of others
pub four : (P : List ℕ → Type 0) → ((a b c d : ℕ) (own : List ℕ) → P (a ∷ b ∷ c ∷ d ∷ own)) → (own : List ℕ) → 4 ≤ length own → P own
four P each [] size = absurd (omega (arith, size))
four P each (a ∷ []) size = absurd (omega (arith, size))
four P each (a ∷ b ∷ []) size = absurd (omega (arith, size))
four P each (a ∷ b ∷ c ∷ []) size = absurd (omega (arith, size))
four P each (a ∷ b ∷ c ∷ d ∷ own) size = each a b c d own

-- What is written ends where its attributes say.
contents_end : (how : PutForm) (bytes own stored : List ℕ) → IsByContents how None bytes own stored → end_of own ≡ length stored
contents_end how bytes own stored (inl text) = ap end_of text.1.are ∙ end_is 2 2 text.1.longest (length stored)
contents_end how bytes own stored (inr raw) = ap end_of raw.1.are ∙ end_is 1 0 512 (length bytes) ∙ ap length (sym raw.1.same)

pub written_end : (how : PutForm) (bytes own stored : List ℕ) → IsWritten how None bytes own stored → end_of own ≡ length stored
written_end asked.ByContents bytes own stored is = contents_end asked.ByContents bytes own stored is
written_end asked.Text bytes own stored is = contents_end asked.Text bytes own stored is
written_end asked.Binary bytes own stored is = contents_end asked.Binary bytes own stored is
written_end (asked.Said first) bytes own stored is =
    let long : 4 ≤ length (first ++ replicate 28 0) = omega (arith, length-append first (replicate 28 0), length-replicate {A = ℕ} 28 0) in
    ap end_of is.are ∙ four (λ l. end_of (with_end l (length bytes)) ≡ length bytes) (λ a b c d rest. set_end a b c d rest (length bytes)) (first ++ replicate 28 0) long ∙ ap length (sym is.same)

-- what is got of bytes with these attributes
module _ (body : Body) (stored given : List ℕ) (said : Option Remark) where
  -- bytes in records of 512 bytes
  raw_got : (n : ℕ) → body.attributes ≡ attributes 1 0 512 n → bytes_in form.Binary body ≡ Some stored → IsGotAlone (kind_in body.attributes) body given said → given ≡ stored
  raw_got n own all is =
      let alone : IsGotAlone (kind_in (attributes 1 0 512 n)) body given said = subst (λ a. IsGotAlone (kind_in a) body given said) own is in
      let plain : MatchBool (is_line_stream (attributes 1 0 512 n)) (AreStreamLines body given said) (AreBytesGot ByKind body given said) =
      subst (λ a. MatchBool (is_line_stream a) (AreStreamLines body given said) (AreBytesGot ByKind body given said)) own alone in
      same_Some given stored (sym plain.0 ∙ all)

  -- records that are the lines of a plain text
  text_got : (n longest : ℕ) (text : List ℕ) → body.attributes ≡ attributes 2 2 longest n → bytes_in form.Binary body ≡ Some stored → Spells Variable stored (lines text) → IsPlainText text
      → IsGotAlone (kind_in body.attributes) body given said → given ≡ text
  text_got n longest text own all spelled plain is =
      let got : IsGotAlone (Some Variable) body given said = subst (λ a. IsGotAlone (kind_in a) body given said) own is in
      let same : got.0 ≡ stored = same_Some got.0 stored (sym got.1 ∙ all) in
      by (subst (λ (b : List ℕ). IsChosen Variable body b given said) same got.2)
    where
      controlled : is_controlled body.attributes ≡ true
      controlled = ap is_controlled own

      come : (records : List (List ℕ)) → Spells Variable stored records → come_as_lines body.attributes records ≡ true
      come records one =
          let same : records ≡ lines text = spelled_once Variable stored records (lines text) one spelled in
          ap (come_as_lines body.attributes) same
          ∙ ap (λ b. b && (is_controlled body.attributes || list_all is_printable (lines text))) (plain_lines text plain) ∙ ap (λ b. b || list_all is_printable (lines text)) controlled

      by : IsChosen Variable body stored given said → given ≡ text
      by chosen = elim chosen.2 [
        | inl as_lines ↦ as_lines.1 ∙ ap text_of (spelled_once Variable stored chosen.0 (lines text) chosen.1 spelled) ∙ lines_text (length text) text (omega arith) plain.ended plain.no_cr
        | inr raw ↦ absurd (let wrong : true ≡ false = sym (come chosen.0 chosen.1) ∙ raw.0 in cc)
      ]

-- `get` gives the bytes of a host file whose form was chosen by its contents, or that was written as it is.
module _ (J : List (List ℕ)) (M : VolumeLayout) (n : ℕ) (bytes own stored : List ℕ) (gives : GivesBack J M n own stored) (given : List ℕ) (said : Option Remark) (is : IsGot J M n ByKind given said) where
  abbrev other : Body
  other = is.0

  raw_back : AreBytes None bytes own stored → given ≡ bytes
  raw_back raw = let all = gives.gives other is.1 in raw_got other stored given said (length bytes) (all.0 ∙ raw.are) all.1 is.2 ∙ raw.same

  text_back : IsPlainText bytes → AreRecords None bytes own stored → given ≡ bytes
  text_back plain text =
      let all = gives.gives other is.1 in
      let spelled : Spells Variable stored (lines bytes) = subst (λ l. Spells Variable l (lines bytes)) (sym text.lines.spelled) (spells_written (lines bytes) plain.short) in
      text_got other stored given said (length stored) text.longest bytes (all.0 ∙ text.are) all.1 spelled plain is.2

  pub got_back : (how : PutForm) → KeepsBytes how → IsWritten how None bytes own stored → given ≡ bytes
  got_back asked.ByContents keeps (inl text) = text_back text.0.1 text.1
  got_back asked.ByContents keeps (inr raw) = raw_back raw.1
  got_back asked.Binary keeps (inl text) = absurd text.0
  got_back asked.Binary keeps (inr raw) = raw_back raw.1
  got_back asked.Text keeps written = absurd keeps
  got_back (asked.Said first) keeps written = absurd keeps

-- Bytes that were written have no fault of records.
text_fault : (bytes own stored : List ℕ) → AreRecords None bytes own stored → (kind : RecordKind) (f : RecordFault) → kind_in own ≡ Some kind → IsFirstFault kind stored f → ⊥
text_fault bytes own stored text kind f is first =
    let own_kind : Some Variable ≡ kind_in own = ap kind_in (sym text.are) in
    let same : Variable ≡ kind = same_Some Variable kind (own_kind ∙ is) in
    let spelled : Spells Variable stored (lines bytes) = subst (λ l. Spells Variable l (lines bytes)) (sym text.lines.spelled) (spells_written (lines bytes) text.lines.short) in
    fault_spells kind stored first.at f first.standing (lines bytes) first.before first.there (subst (λ k. Spells k stored (lines bytes)) same spelled)

raw_fault : (bytes own stored : List ℕ) → AreBytes None bytes own stored → (kind : RecordKind) → kind_in own ≡ Some kind → ⊥
raw_fault bytes own stored raw kind is = absurd (let wrong : None ≡ Some kind = ap kind_in (sym raw.are) ∙ is in cc)

pub no_fault : (bytes own stored : List ℕ) (how : PutForm) → KeepsBytes how → IsWritten how None bytes own stored → (kind : RecordKind) (f : RecordFault) → kind_in own ≡ Some kind → IsFirstFault kind stored f → ⊥
no_fault bytes own stored asked.ByContents keeps (inl text) kind f is first = text_fault bytes own stored text.1 kind f is first
no_fault bytes own stored asked.ByContents keeps (inr raw) kind f is first = raw_fault bytes own stored raw.1 kind is
no_fault bytes own stored asked.Binary keeps (inl text) kind f is first = absurd text.0
no_fault bytes own stored asked.Binary keeps (inr raw) kind f is first = raw_fault bytes own stored raw.1 kind is
no_fault bytes own stored asked.Text keeps written kind f is first = absurd keeps
no_fault bytes own stored (asked.Said four_bytes) keeps written kind f is first = absurd keeps

-- so nothing but want of memory is in the way of `get`
module _ (J : List (List ℕ)) (M : VolumeLayout) (id : FileId) (own stored : List ℕ) (shows : ShowsBytes J M id own stored) (gives : GivesBack J M id.number own stored)
    (none : (kind : RecordKind) (f : RecordFault) → kind_in own ≡ Some kind → IsFirstFault kind stored f → ⊥) where
  pub fails_alone : (why : FormFault) → IsNotGot J M id.number ByKind why → why ≡ fault.NoMemory
  fails_alone fault.NoSuchFile is = only_memory J M id own stored shows gives fault.NoSuchFile is
  fails_alone fault.BadChain is = only_memory J M id own stored shows gives fault.BadChain is
  fails_alone (fault.OutsideVolume lbn) is = only_memory J M id own stored shows gives (fault.OutsideVolume lbn) is
  fails_alone fault.EndPastBlocks is = only_memory J M id own stored shows gives fault.EndPastBlocks is
  fails_alone (fault.Records f) is =
      let all = gives.gives is.0 is.1 in
      let same : is.2.2.0 ≡ stored = same_Some is.2.2.0 stored (sym is.2.2.1 ∙ all.1) in
      absurd (none is.2.0 f (ap kind_in (sym all.0) ∙ is.2.1) (subst (λ b. IsFirstFault is.2.0 b f) same is.2.2.2))
  fails_alone (fault.TooLongForBlock size) is = absurd (let wrong : ByKind ≡ Text = is.2.0 in cc)
  fails_alone fault.NoMemory is = refl

-- the version of a new file is looked up, or said
left_version : (mid seen : Filed) (dir : FileId) (name : RadName) (said : Option ℕ) (version : ℕ) → IsVersionFor None mid dir name said version seen → IsAllLeft mid seen
left_version mid seen dir name (Some v) version next = left_same mid seen next.1
left_version mid seen dir name None version next = left_next_version mid seen dir name None version next

-- What a file of a tree is where a catalogue that the blocks show has it.
module _ (how : TreeForm) (dir : FileId) (path bytes : List ℕ) (names : List RadName) (says : SaysFolders path names) (place : FileId) (folders : List (List ℕ)) (last : List ℕ) (parted : IsParted path folders last)
    (name : RadName) (version : Option ℕ) (named : IsTreeName last name version) (own stored : List ℕ) (written : IsWritten how.form None bytes own stored) (id : FileId)
    (new : Filed) (D : Catalogue) (shown : ShowsBy new.image new.layout D) (way : IsWayIn D dir names place) (copy : IsCopyIn D place name version how.stamp own (blocks_with stored) id) where
  leaf_by : IsLeafBack how dir path bytes new
  leaf_by =
      let shows : ShowsBytes new.image new.layout id own stored = record { catalogue = D; shown = shown; file = copy.file; there = copy.there; body = copy.body } in
      let back : GivesBack new.image new.layout id.number own stored = comes_back new.image new.layout id own stored shows (written_end how.form bytes own stored written) in
      record {
        names = names;
        says = says;
        place = place;
        way = λ E t. way_kept D E (all_too new D D E shown t (all_of_itself D)) names dir place way;
        folders = folders;
        last = last;
        parted = parted;
        name = name;
        version = version;
        named = named;
        attributes = own;
        stored = stored;
        written = written;
        id = id;
        there = λ E t. copy_too new D E place name version how.stamp own (blocks_with stored) id shown t copy;
        gives = back;
        got = λ keeps given said got. got_back new.image new.layout id.number bytes own stored back given said got how.form keeps written;
        fails = λ keeps why is. fails_alone new.image new.layout id own stored shows back (no_fault bytes own stored how.form keeps written) why is;
      }

-- What comes later leaves it.
leaf_stays : (how : TreeForm) (dir : FileId) (path bytes : List ℕ) (mid new : Filed) (C : Catalogue) → ShowsBy mid.image mid.layout C → IsAllLeft mid new → IsLeafBack how dir path bytes mid → IsLeafBack how dir path bytes new
leaf_stays how dir path bytes mid new C s goes has =
    let a = goes C s in
    leaf_by how dir path bytes has.names has.says has.place has.folders has.last has.parted has.name has.version has.named has.attributes has.stored has.written has.id new a.left a.shown
    (way_kept C a.left a.all has.names dir has.place (has.way C s))
    (copy_in C a.left has.place has.name has.version how.stamp has.attributes (blocks_with has.stored) has.id a.all (has.there C s))

-- A file of a tree is put.
module _ (how : TreeForm) (dir : FileId) (path bytes : List ℕ) (old new : Filed) (leaf : IsLeafPut how dir path bytes old new) where
  -- what is left when its version is known
  leaf_seen : IsAllLeft leaf.there leaf.put.put.seen
  leaf_seen =
      let done = leaf.put.put in
      left_next leaf.there done.mid done.seen (left_same leaf.there done.mid done.room.3) (left_version done.mid done.seen leaf.place leaf.put.name (option_or done.free leaf.version) done.version done.next)

  -- and when it is made
  leaf_made : (C : Catalogue) → ShowsBy leaf.put.put.seen.image leaf.put.put.seen.layout C
      → IsPlainLeft C leaf.place (option_or leaf.put.put.free leaf.version) (record { name = leaf.put.name; version = leaf.put.put.version; stamp = how.stamp }) leaf.put.attributes leaf.put.stored leaf.put.put.file new
  leaf_made C s =
      let done = leaf.put.put in
      let heading : Heading = record { name = leaf.put.name; version = done.version; stamp = how.stamp } in
      let own = leaf.put.attributes in
      let stored = leaf.put.stored in
      let same : new ≡ done.filed = subst (λ o. KeepsAccess how.owner how.placing (block_count stored) o done.file done.filed new) done.room.1 done.given in
      subst (λ f. IsPlainLeft C leaf.place (option_or done.free leaf.version) heading own stored done.file f) (sym same)
      (made_left how.placing (unwrap_or how.owner leaf.there.user) leaf.place (option_or done.free leaf.version) heading own stored done.file done.seen done.filed C s done.made)

  -- its form is the one that is said
  leaf_written : IsWritten how.form None bytes leaf.put.attributes leaf.put.stored
  leaf_written =
      let attributes = leaf.put.attributes in
      let stored = leaf.put.stored in
      subst (λ (f : PutForm). IsWritten f None bytes attributes stored) leaf.put.formed.0 (subst (λ (o : Option (List ℕ)). IsWritten leaf.put.chosen o bytes attributes stored) leaf.put.formed.1 leaf.put.written)

  leaf_left : IsAllLeft old new
  leaf_left C s =
      let place = has_place how.stamp leaf.made.0 dir old leaf.place leaf.there C s leaf.made.2 in
      let seen = leaf_seen place.left place.shown in
      let is = leaf_made seen.left seen.shown in
      record { left = is.entered.left; shown = is.entered.shown; all = all_of_next C seen.left is.entered.left (all_of_next C place.left seen.left place.all seen.all) is.all }

  leaf_back : (C : Catalogue) → ShowsBy old.image old.layout C → IsLeafBack how dir path bytes new
  leaf_back C s =
      let done = leaf.put.put in
      let own : List ℕ = leaf.put.attributes in
      let stored : List ℕ = leaf.put.stored in
      let place = has_place how.stamp leaf.made.0 dir old leaf.place leaf.there C s leaf.made.2 in
      let seen = leaf_seen place.left place.shown in
      let is = leaf_made seen.left seen.shown in
      let left : Catalogue = is.entered.left in
      let copy : IsCopyIn left leaf.place leaf.put.name (option_or done.free leaf.version) how.stamp own (blocks_with stored) done.file = record {
        file = is.whole;
        there = is.there;
        body = is.body;
        number = done.version;
        ident = is.ident;
        version = is.entered.version;
        entry = is.entered.entry;
        as_said = is.entered.as_said;
      } in
      let named : IsCopyIn left leaf.place leaf.name leaf.version how.stamp own (blocks_with stored) done.file =
      subst (λ o. IsCopyIn left leaf.place leaf.name (option_or o leaf.version) how.stamp own (blocks_with stored) done.file) done.room.0
      (subst (λ m. IsCopyIn left leaf.place m (option_or done.free leaf.version) how.stamp own (blocks_with stored) done.file) leaf.put.named copy) in
      leaf_by how dir path bytes leaf.made.0 leaf.made.1 leaf.place leaf.folders leaf.last leaf.parted leaf.name leaf.version leaf.named own stored leaf_written done.file new left is.entered.shown
      (way_kept place.left left (all_of_next place.left seen.left left seen.all is.all) leaf.made.0 dir leaf.place place.way) named

pub leaf_comes_back : LeafComesBack
leaf_comes_back how dir path bytes old new C s leaf = (leaf_back how dir path bytes old new leaf C s, leaves_all old new (leaf_left how dir path bytes old new leaf))

-- A folder of a tree is put.
module _ (stamp : List ℕ) (dir : FileId) (path : List ℕ) (old new : Filed) (put : IsFolderPut stamp dir path old new) where
  folder_left : IsAllLeft old new
  folder_left C s = let place = has_place stamp put.1.0 dir old put.0 new C s put.1.2 in record { left = place.left; shown = place.shown; all = place.all }

  folder_there : (C : Catalogue) → ShowsBy old.image old.layout C → IsFolderThere dir path new
  folder_there C s =
      let place = has_place stamp put.1.0 dir old put.0 new C s put.1.2 in
      record { names = put.1.0; says = put.1.1; place = put.0; way = λ D t. way_kept place.left D (all_too new place.left place.left D place.shown t (all_of_itself place.left)) put.1.0 dir put.0 place.way }

-- What stands in a tree, one after another.
item_left : (dir : FileId) (item : TreeItem) (old new : Filed) → IsItemPut dir item old new → IsAllLeft old new
item_left dir (AFolder stamp path) old new put = folder_left stamp dir path old new put
item_left dir (AFile how path bytes) old new put = leaf_left how dir path bytes old new put

item_back : (dir : FileId) (item : TreeItem) (old new : Filed) (C : Catalogue) → ShowsBy old.image old.layout C → IsItemPut dir item old new → IsItemBack dir new item
item_back dir (AFolder stamp path) old new C s put = folder_there stamp dir path old new put C s
item_back dir (AFile how path bytes) old new C s put = leaf_back how dir path bytes old new put C s

item_stays : (dir : FileId) (item : TreeItem) (mid new : Filed) (C : Catalogue) → ShowsBy mid.image mid.layout C → IsAllLeft mid new → IsItemBack dir mid item → IsItemBack dir new item
item_stays dir (AFolder stamp path) mid new C s goes has = record {
  names = has.names;
  says = has.says;
  place = has.place;
  way = λ D t. way_kept C D ((leaves_all mid new goes C s).1 D t) has.names dir has.place (has.way C s);
}
item_stays dir (AFile how path bytes) mid new C s goes has = leaf_stays how dir path bytes mid new C s goes has

items_left : (dir : FileId) (items : List TreeItem) (old new : Filed) → AreItemsPut dir items old new → IsAllLeft old new
items_left dir [] old new put = left_same old new put
items_left dir (item ∷ items) old new put = left_next old put.0 new (item_left dir item old put.0 put.1) (items_left dir items put.0 new put.2)

items_back : (dir : FileId) (items : List TreeItem) (old new : Filed) (C : Catalogue) → ShowsBy old.image old.layout C → AreItemsPut dir items old new → All (IsItemBack dir new) items
items_back dir [] old new C s put = All-nil (IsItemBack dir new)
items_back dir (item ∷ items) old new C s put =
    let first = item_left dir item old put.0 put.1 C s in
    All-cons (IsItemBack dir new) item items (item_stays dir item put.0 new first.left first.shown (items_left dir items put.0 new put.2) (item_back dir item old put.0 C s put.1))
    (items_back dir items put.0 new first.left first.shown put.2)

pub tree_comes_back : TreeComesBack
tree_comes_back dir items old new C s put = (items_back dir items old new C s put, leaves_all old new (items_left dir items old new put))
