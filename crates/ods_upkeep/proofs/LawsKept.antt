-- Why what a catalogue has is left when files are made and entered.
use Rattle.std.proofs.Common.{◌≡◌, ◌≢◌, ℕ, refl, sym, ap, ◌∙◌, subst, true, false, List, [], ◌∷◌, length, get_or, Option, Some, None, unwrap_or, inl, inr}
use Rattle.std.specs.Prelude.{◌⊎◌, IfSome}
use Rattle.std.specs.List.{All}
use Rattle.std.specs.Ordering.{eq_by_cmp}
use Rattle.std.specs.FinMap as finmap
use Rattle.std.proofs.lemmas.List.Elements.{All-head, All-tail}
use Rattle.std.proofs.lemmas.Option.{same_Some}
use Rattle.ods_base.specs.declared.file_id.FileId.{FileId}
use Rattle.ods_base.specs.declared.file_id.Uic.{Uic}
use Rattle.ods_base.specs.declared.name.Pick.{Pick}
use Rattle.ods_base.specs.Name.{RadName, key_of}
use Rattle.ods_request.specs.declared.answers.Answer.{Answer}
use Rattle.ods_request.specs.declared.answers.Answer.TheVariants.{Entered}
use Rattle.ods_request.specs.declared.requests.Request.TheVariants.{Enter, LookUp}
use Rattle.ods_request.specs.Catalogue.{Catalogue, File, Plain, file_cmp, is_directory, names_of}
use Rattle.ods_request.specs.Steps.{created, entered_version, file_at, new_ident, no_file, step}
use Rattle.ods_request.proofs.FrameLaws.{get-put_other}
use Rattle.ods_request.proofs.Orders.{file_cmp-total, file_cmp-antisymmetric}
use Rattle.ods_request.proofs.StepLaws.{looked}
use Rattle.ods_state.proofs.Shown.{ids}
use Rattle.ods_state.specs.Contents.{ShowsBy}
use Rattle.ods_amend.specs.Access.{put_access, with_access}
use Rattle.ods_filing.specs.Amended.{HasGiven}
use Rattle.ods_filing.specs.Contiguous.{contiguous_with}
use Rattle.ods_filing.specs.Filed.{Filed, IsDone, for_another}
use Rattle.ods_filing.specs.Led.{IsObeyed}
use Rattle.ods_filing.specs.Put.{Heading, block_count, blocks_with, file_with}
use Rattle.ods_upkeep.specs.CopiesThere.{HasAllOf, LeavesAll}
use Rattle.ods_upkeep.specs.Given.{GetTheirs}
use Rattle.ods_upkeep.specs.declared.giving.Access.{Access}
use Rattle.ods_upkeep.specs.Laws.{IsEntryOf}
use Rattle.ods_upkeep.specs.Looked.{IsNextVersion}
use Rattle.ods_upkeep.specs.PutFor.{IsMadeFor}
use Rattle.ods_upkeep.specs.Ready.{MayHaveGrown}
use Rattle.ods_upkeep.specs.declared.asked.Placing.{Placing}
use Rattle.ods_upkeep.specs.declared.asked.Placing.TheVariants.{Anywhere, InOnePiece}
use Rattle.ods_upkeep.proofs.LawsNames.{answered_as, directory_stays, entered_there, entries_stay, get_here, plain_stays}
use Rattle.ods_upkeep.proofs.LawsShown.{three_words}
use Rattle.ods_upkeep.proofs.LawsUndone.{makes_none}

-- an entry of a directory stands where the directory is as it was
pub entry_same : (C D : Catalogue) (dir : FileId) (key : List ℕ) (file : FileId) → ((f : File) → finmap.get C.files dir ≡ Some f → finmap.get D.files dir ≡ Some f)
    → finmap.get (names_of (file_at C dir).body) key ≡ Some file → finmap.get (names_of (file_at D dir).body) key ≡ Some file
entry_same C D dir key file moves there = by (finmap.get C.files dir) refl
  where
    by : (o : Option File) → finmap.get C.files dir ≡ o → finmap.get (names_of (file_at D dir).body) key ≡ Some file
    by None e = absurd (let wrong : None ≡ Some file = sym (finmap.get-empty _ key) ∙ ap (λ o. finmap.get (names_of (unwrap_or o no_file).body) key) (sym e) ∙ there in cc)
    by (Some f) e = ap (λ o. finmap.get (names_of (unwrap_or o no_file).body) key) (moves f e ∙ sym e) ∙ there

-- a catalogue has all of itself
pub all_of_itself : (C : Catalogue) → HasAllOf C C
all_of_itself C = record { files = λ id f there plain. there; directories = λ id f there is. (f, (there, is)); entries = λ dir name version file there. there }

-- and all of one whose all another one has
pub all_of_next : (C D E : Catalogue) → HasAllOf C D → HasAllOf D E → HasAllOf C E
all_of_next C D E first rest = record {
  files = λ id f there plain. rest.files id f (first.files id f there plain) plain;
  directories = λ id f there is. (let next = first.directories id f there is in rest.directories id next.0 next.1.0 next.1.1);
  entries = λ dir name version file there. rest.entries dir name version file (first.entries dir name version file there);
}

-- blocks that show two catalogues show the files of each in the other
pub shown_too : (f : Filed) (C D : Catalogue) → ShowsBy f.image f.layout C → ShowsBy f.image f.layout D → (id : FileId) (file : File) → finmap.get C.files id ≡ Some file → finmap.get D.files id ≡ Some file
shown_too f C D s t id file there = t.all id file (s.there id file there)

pub entry_too : (f : Filed) (C D : Catalogue) → ShowsBy f.image f.layout C → ShowsBy f.image f.layout D → (dir : FileId) (name : RadName) (version : ℕ) (file : FileId) → IsEntryOf C dir name version file → IsEntryOf D dir name version file
entry_too f C D s t dir name version file there = entry_same C D dir (key_of name version) file (shown_too f C D s t dir) there

pub all_too : (f : Filed) (B C D : Catalogue) → ShowsBy f.image f.layout C → ShowsBy f.image f.layout D → HasAllOf B C → HasAllOf B D
all_too f B C D s t has = record {
  files = λ id file there plain. shown_too f C D s t id file (has.files id file there plain);
  directories = λ id file there is. (let next = has.directories id file there is in (next.0, (shown_too f C D s t id next.0 next.1.0, next.1.1)));
  entries = λ dir name version file there. entry_too f C D s t dir name version file (has.entries dir name version file there);
}

-- the blocks show a catalogue that has all of this one
pub record IsLeft (C : Catalogue) (new : Filed) : Type 0 where
  pub left : Catalogue
  pub shown : ShowsBy new.image new.layout left
  pub all : HasAllOf C left

-- whatever the old blocks show is left
abbrev pub IsAllLeft : Filed → Filed → Type 0
IsAllLeft old new = (C : Catalogue) → ShowsBy old.image old.layout C → IsLeft C new

pub left_same : (old new : Filed) → new ≡ old → IsAllLeft old new
left_same old new same C s = record { left = C; shown = subst (λ (f : Filed). ShowsBy f.image f.layout C) (sym same) s; all = all_of_itself C }

pub left_next : (old mid new : Filed) → IsAllLeft old mid → IsAllLeft mid new → IsAllLeft old new
left_next old mid new first rest C s =
    let a = first C s in
    let b = rest a.left a.shown in
    record { left = b.left; shown = b.shown; all = all_of_next C a.left b.left a.all b.all }

pub leaves_all : (old new : Filed) → IsAllLeft old new → LeavesAll old new
leaves_all old new goes C s = let a = goes C s in ((a.left, a.shown), λ D t. all_too new C a.left D a.shown t a.all)

-- a look-up leaves all
pub left_looked : (old new : Filed) (dir : FileId) (name : RadName) (pick : Pick) (a : Answer) → IsDone old (LookUp dir name pick) a new → IsAllLeft old new
left_looked old new dir name pick a done C s =
    let made = done.steps C s (makes_none C (LookUp dir name pick) a refl) in
    let same : made.0 ≡ C = looked C made.0 old.user (LookUp dir name pick) a refl made.1 in
    record { left = made.0; shown = made.2; all = subst (HasAllOf C) (sym same) (all_of_itself C) }

pub left_next_version : (old mid : Filed) (dir : FileId) (name : RadName) (said : Option ℕ) (version : ℕ) → IsNextVersion old dir name said version mid → IsAllLeft old mid
left_next_version old mid dir name (Some v) version next = left_same old mid next.1
left_next_version old mid dir name None version (inl seen) = left_looked old mid dir name _ _ seen.1.1
left_next_version old mid dir name None version (inr unseen) = left_same old mid unseen.0.2

-- so does INDEXF.SYS that grows
pub left_ready : (count : ℕ) (old ready : Filed) → MayHaveGrown count old ready → IsAllLeft old ready
left_ready count old ready (inl same) = left_same old ready same
left_ready count old ready (inr (files, readied, grown)) = λ C s. record { left = C; shown = (grown.headers.shown C).0 s; all = all_of_itself C }

-- a new file has an ID that no file had
created_other : (C : Catalogue) (id : FileId) (whole : File) → finmap.get C.files id ≡ None → (q : FileId) (f : File) → finmap.get C.files q ≡ Some f → finmap.get (created C id whole).files q ≡ Some f
created_other C id whole free q f there = get-put_other C id whole q apart ∙ there
  where
    apart : ¬ (Some id ≡ Some q)
    apart same =
        let one : id ≡ q = cc in
        let wrong : None ≡ Some f = sym free ∙ ap (finmap.get C.files) one ∙ there in
        absurd (cc)

-- so all is left when it is made
pub all_of_created : (C : Catalogue) (id : FileId) (whole : File) → finmap.get C.files id ≡ None → HasAllOf C (created C id whole)
all_of_created C id whole free = record {
  files = λ q f there plain. created_other C id whole free q f there;
  directories = λ q f there is. (f, (created_other C id whole free q f there, is));
  entries = λ dir name version file there. entry_same C (created C id whole) dir (key_of name version) file (created_other C id whole free dir) there;
}

-- and all is left when it is entered
pub all_of_entered : (C D : Catalogue) (who : Uic) (dir file : FileId) (name : RadName) (given : Option ℕ) (version : ℕ) → length name.words ≡ 3 → step C who (Enter dir name given file) (Entered version) ≡ Some D → HasAllOf C D
all_of_entered C D who dir file name given version three e = record {
  files = λ q f there plain. plain_stays C D who dir file name given (Entered version) q f e there plain;
  directories = λ q f there is. directory_stays C D who dir file name given version q f e there is;
  entries = λ other named v held there. entries_stay C D who dir file name given version other (key_of named v) held three e there;
}

-- the version that is said is the one under which a name is entered
said_version : (C : Catalogue) (dir : FileId) (name : RadName) (said : Option ℕ) → IfSome said (λ v. entered_version C dir name said ≡ v)
said_version C dir name (Some v) = refl
said_version C dir name None = tt

-- What is left of a catalogue when a file is entered.
pub record IsEntered (C : Catalogue) (dir : FileId) (name : RadName) (said : Option ℕ) (file : FileId) (new : Filed) : Type 0 where
  pub left : Catalogue
  pub shown : ShowsBy new.image new.layout left
  pub all : HasAllOf C left
  pub version : ℕ
  pub entry : IsEntryOf left dir name version file
  pub as_said : IfSome said (λ v. version ≡ v)

pub entered_left : (mid : Filed) (dir file : FileId) (name : RadName) (said : Option ℕ) (who : Uic) (new : Filed) (C : Catalogue) → ShowsBy mid.image mid.layout C → IsObeyed (for_another mid who) (Enter dir name said file) new
    → IsEntered C dir name said file new
entered_left mid dir file name said who new C there put =
    let into = put.1.steps C there (makes_none C (Enter dir name said file) put.0 refl) in
    let version : ℕ = entered_version C dir name said in
    let step_is : step C who (Enter dir name said file) (Entered version) ≡ Some into.0 =
    subst (λ a. step C who (Enter dir name said file) a ≡ Some into.0) (answered_as C into.0 who dir file name said put.0 into.1) into.1 in
    let entry = entered_there C into.0 who dir file name said version step_is in
    let three = three_words new.image new.layout into.0 dir name version file into.2 entry in
    record {
      left = into.0;
      shown = into.2;
      all = all_of_entered C into.0 who dir file name said version three step_is;
      version = version;
      entry = ap (λ o. finmap.get (names_of (unwrap_or o no_file).body) (key_of name version)) entry.there ∙ ap (λ b. finmap.get (names_of b) (key_of name version)) entry.body ∙ entry.has;
      as_said = said_version C dir name said;
    }

-- What is left when a plain file is made for its owner, and entered.
pub record IsPlainLeft (C : Catalogue) (dir : FileId) (said : Option ℕ) (heading : Heading) (attributes bytes : List ℕ) (file : FileId) (new : Filed) : Type 0 where
  pub whole : File
  pub body : whole.body ≡ Plain attributes (blocks_with bytes)
  pub ident : whole.ident ≡ new_ident heading.name heading.version heading.stamp
  -- no file had its ID
  pub free : finmap.get C.files file ≡ None
  pub entered : IsEntered (created C file whole) dir heading.name said file new
  pub all : HasAllOf C entered.left
  pub there : finmap.get entered.left.files file ≡ Some whole

plain_left : (made : Filed) (whole : File) (dir : FileId) (said : Option ℕ) (heading : Heading) (attributes bytes : List ℕ) (file : FileId) (who : Uic) (new : Filed) (C : Catalogue)
    → whole.body ≡ Plain attributes (blocks_with bytes) → whole.ident ≡ new_ident heading.name heading.version heading.stamp → finmap.get C.files file ≡ None
    → ShowsBy made.image made.layout (created C file whole) → IsObeyed (for_another made who) (Enter dir heading.name said file) new → IsPlainLeft C dir said heading attributes bytes file new
plain_left made whole dir said heading attributes bytes file who new C has named free there put =
    let is = entered_left made dir file heading.name said who new (created C file whole) there put in
    record {
      whole = whole;
      body = has;
      ident = named;
      free = free;
      entered = is;
      all = all_of_next C (created C file whole) is.left (all_of_created C file whole free) is.all;
      there = is.all.files file whole (get_here file_cmp-total file_cmp-antisymmetric C.files file whole) (ap is_directory has);
    }

pub made_left : (placing : Placing) (owner : Uic) (dir : FileId) (said : Option ℕ) (heading : Heading) (attributes bytes : List ℕ) (file : FileId) (old new : Filed) (C : Catalogue) → ShowsBy old.image old.layout C
    → IsMadeFor placing owner dir said heading attributes bytes file old new → IsPlainLeft C dir said heading attributes bytes file new
made_left Anywhere owner dir said heading attributes bytes file old new C shown put =
    plain_left put.made (file_with owner C.default heading (Plain attributes (blocks_with bytes))) dir said heading attributes bytes file old.user new C refl refl (put.stored.1.free C shown) (put.stored.1.shown C shown) put.entered
made_left InOnePiece owner dir said heading attributes bytes file old new C shown put =
    plain_left put.made (contiguous_with owner C.default heading (block_count bytes) (Plain attributes (blocks_with bytes))) dir said heading attributes bytes file old.user new C refl refl (put.stored.free C shown) (put.stored.shown C shown) put.entered

-- so all is left then
pub left_made : (placing : Placing) (owner : Uic) (dir : FileId) (said : Option ℕ) (heading : Heading) (attributes bytes : List ℕ) (file : FileId) (old new : Filed) → IsMadeFor placing owner dir said heading attributes bytes file old new → IsAllLeft old new
left_made placing owner dir said heading attributes bytes file old new put C s =
    let is = made_left placing owner dir said heading attributes bytes file old new C s put in
    record { left = is.entered.left; shown = is.entered.shown; all = is.all }

-- A plain file receives a protection, and perhaps an owner.
module _ (E : Catalogue) (id : FileId) (whole : File) (user : Option Uic) (word : ℕ) (attributes : List ℕ) (blocks : List (List ℕ)) (there : finmap.get E.files id ≡ Some whole) (plain : whole.body ≡ Plain attributes blocks) where
  abbrev given_word : Catalogue
  given_word = put_access E id user (Some word) None

  given_here : finmap.get given_word.files id ≡ Some (with_access whole user (Some word) None)
  given_here =
      get_here file_cmp-total file_cmp-antisymmetric E.files id (with_access (file_at E id) user (Some word) None)
      ∙ ap (λ o. Some (with_access (unwrap_or o no_file) user (Some word) None)) there

  given_other : (q : FileId) → ¬ (Some id ≡ Some q) → finmap.get given_word.files q ≡ finmap.get E.files q
  given_other q apart = get-put_other E id (with_access (file_at E id) user (Some word) None) q apart

  -- it is no directory, so each entry of one stays
  given_entry : (dir : FileId) (name : RadName) (version : ℕ) (file : FileId) → IsEntryOf E dir name version file → IsEntryOf given_word dir name version file
  given_entry dir name version file entry = ap (λ o. finmap.get (names_of (unwrap_or o no_file).body) (key_of name version)) (given_other dir apart) ∙ entry
    where
      apart : ¬ (Some id ≡ Some dir)
      apart same =
          let one : id ≡ dir = cc in
          let wrong : None ≡ Some file =
          sym (finmap.get-empty _ (key_of name version)) ∙ ap (λ b. finmap.get (names_of b) (key_of name version)) (sym plain)
          ∙ ap (λ o. finmap.get (names_of (unwrap_or o no_file).body) (key_of name version)) (sym there) ∙ subst (λ d. IsEntryOf E d name version file) (sym one) entry in
          absurd (cc)

  -- and all that is left of a catalogue without it
  given_all : (C : Catalogue) → finmap.get C.files id ≡ None → HasAllOf C E → HasAllOf C given_word
  given_all C free has = record {
    files = λ q f is flat. given_other q (apart q f is) ∙ has.files q f is flat;
    directories = λ q f is way. (let next = has.directories q f is way in (next.0, (given_other q (apart q f is) ∙ next.1.0, next.1.1)));
    entries = λ dir name version file is. given_entry dir name version file (has.entries dir name version file is);
  }
    where
      apart : (q : FileId) (f : File) → finmap.get C.files q ≡ Some f → ¬ (Some id ≡ Some q)
      apart q f is same =
          let one : id ≡ q = cc in
          let wrong : None ≡ Some f = sym free ∙ ap (finmap.get C.files) one ∙ is in
          absurd (cc)

-- What is left when a plain file is made for its owner, entered, and given a protection.
pub record IsGivenLeft (C : Catalogue) (dir : FileId) (said : Option ℕ) (heading : Heading) (attributes bytes : List ℕ) (word : ℕ) (file : FileId) (new : Filed) : Type 0 where
  pub whole : File
  pub body : whole.body ≡ Plain attributes (blocks_with bytes)
  pub ident : whole.ident ≡ new_ident heading.name heading.version heading.stamp
  pub protection : whole.protection ≡ word
  pub left : Catalogue
  pub shown : ShowsBy new.image new.layout left
  pub all : HasAllOf C left
  pub there : finmap.get left.files file ≡ Some whole
  pub version : ℕ
  pub entry : IsEntryOf left dir heading.name version file
  pub as_said : IfSome said (λ v. version ≡ v)

pub given_left : (placing : Placing) (owner : Uic) (dir : FileId) (said : Option ℕ) (heading : Heading) (attributes bytes : List ℕ) (user : Option Uic) (word : ℕ) (file : FileId) (old filed new : Filed) (C : Catalogue) → ShowsBy old.image old.layout C
    → IsMadeFor placing owner dir said heading attributes bytes file old filed → HasGiven filed file user (Some word) new → IsGivenLeft C dir said heading attributes bytes word file new
given_left placing owner dir said heading attributes bytes user word file old filed new C s made given =
    let is = made_left placing owner dir said heading attributes bytes file old filed C s made in
    let E : Catalogue = is.entered.left in
    let shown : ShowsBy new.image filed.layout (put_access E file user (Some word) None) = given.given.0.set.shown E is.entered.shown in
    record {
      whole = with_access is.whole user (Some word) None;
      body = is.body;
      ident = is.ident;
      protection = refl;
      left = put_access E file user (Some word) None;
      shown = subst (λ l. ShowsBy new.image l (put_access E file user (Some word) None)) (sym given.given.1) shown;
      all = given_all E file is.whole user word attributes (blocks_with bytes) is.there is.body C is.free is.all;
      there = given_here E file is.whole user word attributes (blocks_with bytes) is.there is.body;
      version = is.entered.version;
      entry = given_entry E file is.whole user word attributes (blocks_with bytes) is.there is.body dir heading.name is.entered.version file is.entered.entry;
      as_said = is.entered.as_said;
    }

-- A directory receives a protection, and perhaps an owner.
module _ (E : Catalogue) (id : FileId) (whole : File) (user : Option Uic) (word : Option ℕ) (there : finmap.get E.files id ≡ Some whole) (way : is_directory whole.body ≡ true) where
  abbrev shared : Catalogue
  shared = put_access E id user word None

  shared_here : finmap.get shared.files id ≡ Some (with_access whole user word None)
  shared_here =
      get_here file_cmp-total file_cmp-antisymmetric E.files id (with_access (file_at E id) user word None)
      ∙ ap (λ o. Some (with_access (unwrap_or o no_file) user word None)) there

  shared_other : (q : FileId) → ¬ (Some id ≡ Some q) → finmap.get shared.files q ≡ finmap.get E.files q
  shared_other q apart = get-put_other E id (with_access (file_at E id) user word None) q apart

  -- every other file stays, and its body too
  shared_all : HasAllOf E shared
  shared_all = record {
    files = λ q f is flat. shared_other q (apart q f is flat) ∙ is;
    directories = λ q f is other. by q f is other (ids q id);
    entries = λ dir name version file entry. entry_by dir name version file entry (ids dir id);
  }
    where
      apart : (q : FileId) (f : File) → finmap.get E.files q ≡ Some f → is_directory f.body ≡ false → ¬ (Some id ≡ Some q)
      apart q f is flat same =
          let one : id ≡ q = cc in
          let same_file : whole ≡ f = same_Some whole f (sym there ∙ ap (finmap.get E.files) one ∙ is) in
          let wrong : true ≡ false = sym way ∙ ap (λ (g : File). is_directory g.body) same_file ∙ flat in
          absurd (cc)

      other_one : (q : FileId) → q ≢ id → ¬ (Some id ≡ Some q)
      other_one q not same = not (sym (same_Some id q same))

      by : (q : FileId) (f : File) → finmap.get E.files q ≡ Some f → is_directory f.body ≡ true → (q ≡ id) ⊎ ((q ≢ id) × (eq_by_cmp file_cmp q id ≡ false)) → (g : File) × ((finmap.get shared.files q ≡ Some g) × (is_directory g.body ≡ true))
      by q f is other (inl same) = (with_access whole user word None, (ap (finmap.get shared.files) same ∙ shared_here, way))
      by q f is other (inr not) = (f, (shared_other q (other_one q not.0) ∙ is, other))

      entry_by : (dir : FileId) (name : RadName) (version : ℕ) (file : FileId) → IsEntryOf E dir name version file → (dir ≡ id) ⊎ ((dir ≢ id) × (eq_by_cmp file_cmp dir id ≡ false)) → IsEntryOf shared dir name version file
      entry_by dir name version file entry (inl same) =
          ap (λ o. finmap.get (names_of (unwrap_or o no_file).body) (key_of name version)) (ap (finmap.get shared.files) same ∙ shared_here)
          ∙ sym (ap (λ o. finmap.get (names_of (unwrap_or o no_file).body) (key_of name version)) (ap (finmap.get E.files) same ∙ there)) ∙ entry
      entry_by dir name version file entry (inr not) = ap (λ o. finmap.get (names_of (unwrap_or o no_file).body) (key_of name version)) (shared_other dir (other_one dir not.0)) ∙ entry

-- the blocks show a directory under this ID
abbrev pub IsDirectoryThere : Filed → FileId → Type 0
IsDirectoryThere f id = (C : Catalogue) → ShowsBy f.image f.layout C → (g : File) × ((finmap.get C.files id ≡ Some g) × (is_directory g.body ≡ true))

-- it stays one
pub directory_kept : (mid new : Filed) (C : Catalogue) → ShowsBy mid.image mid.layout C → IsAllLeft mid new → (id : FileId) → IsDirectoryThere mid id → IsDirectoryThere new id
directory_kept mid new C s goes id is D t =
    let a = goes C s in
    let now = is C s in
    let then_ = a.all.directories id now.0 now.1.0 now.1.1 in
    (then_.0, (shown_too new a.left D a.shown t id then_.0 then_.1.0, then_.1.1))

-- and all is left when it receives a protection
pub left_shared : (mid new : Filed) (id : FileId) (user : Option Uic) (word : Option ℕ) → IsDirectoryThere mid id → HasGiven mid id user word new → IsAllLeft mid new
left_shared mid new id user word is given C s =
    let now = is C s in record {
      left = put_access C id user word None;
      shown = subst (λ l. ShowsBy new.image l (put_access C id user word None)) (sym given.given.1) (given.given.0.set.shown C s);
      all = shared_all C id now.0 user word now.1.0 now.1.1;
    }

-- so it is when several do
pub left_theirs : (due : List Access) (mid new : Filed) (C : Catalogue) → ShowsBy mid.image mid.layout C → All (λ (a : Access). IsDirectoryThere mid a.file) due → GetTheirs due mid new → IsAllLeft mid new
left_theirs [] mid new C s are gets = left_same mid new gets
left_theirs (a ∷ due) mid new C s are gets =
    let first : IsAllLeft mid gets.0 = left_shared mid gets.0 a.file a.owner a.protection (All-head (λ (a : Access). IsDirectoryThere mid a.file) a due are) gets.1 in
    let next = first C s in
    left_next mid gets.0 new first
    (left_theirs due gets.0 new next.left next.shown
    (λ k b lt. (let x : Access = get_or due k b in directory_kept mid gets.0 C s first x.file (All-tail (λ (a : Access). IsDirectoryThere mid a.file) a due are k b lt))) gets.2)
