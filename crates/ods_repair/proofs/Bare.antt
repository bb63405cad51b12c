-- A request for names of a directory that denies nothing meanwhile: what it makes of the catalogue, and that no right refuses it.
use Rattle.std.proofs.Common.{◌≡◌, ◌≢◌, ℕ, refl, sym, ap, ◌∙◌, subst, Bool, true, false, cond, List, [], ◌∷◌, length, Option, Some, None, Result, Ok, Err, unwrap_or, inl, inr}
use Rattle.std.specs.Prelude.{◌⊎◌, ◌&&◌, MatchOption, IfErr, OnErr, OnOk, is_none, not}
use Rattle.std.specs.FinMap as finmap
use Rattle.std.proofs.lemmas.Bool.{or_right}
use Rattle.std.proofs.lemmas.Option.{same_Some}
use Rattle.ods_base.specs.declared.file_id.FileId.{FileId}
use Rattle.ods_base.specs.declared.file_id.Uic.{Uic}
use Rattle.ods_base.specs.declared.name.Pick.TheVariants.{Exact}
use Rattle.ods_base.specs.Name.{RadName, key_of}
use Rattle.ods_base.specs.Names.{NameMap, picked_version}
use Rattle.ods_header.specs.Header.{protection_of}
use Rattle.ods_space.specs.Layout.{VolumeLayout, header_at}
use Rattle.ods_mount.specs.Sound.{IsSoundBy}
use Rattle.ods_request.specs.declared.refusals.Refusal.{Refusal}
use Rattle.ods_request.specs.declared.refusals.Refusal.TheVariants as refusal
use Rattle.ods_request.specs.declared.answers.Answer.{Answer}
use Rattle.ods_request.specs.declared.requests.Request.{Request}
use Rattle.ods_request.specs.declared.requests.Request.TheVariants.{Create, Extend, Truncate, Delete, Enter, LookUp, Remove, Read, Write, List as Lines, Stat, SetUser}
use Rattle.ods_request.specs.declared.rights.Right.TheVariants as right
use Rattle.ods_request.specs.Catalogue.{Catalogue, File, Directory, is_directory, names_of}
use Rattle.ods_request.specs.Faults.{cannot_enter, fault_of, first_of, is_denied, on_file}
use Rattle.ods_request.specs.Rights.{Group, Owner, System, grants_to, is_in_class, permits}
use Rattle.ods_request.specs.Steps.{after, file_at, no_file, step, with_body}
use Rattle.ods_request.specs.Table.{creates}
use Rattle.ods_request.proofs.FaultTable.{fault_enter, fault_remove}
use Rattle.ods_request.proofs.StepLaws.{determined}
use Rattle.ods_state.specs.Contents.{ShowsBy, file_of}
use Rattle.ods_state.specs.Served.{IsShortOf}
use Rattle.ods_state.specs.Wants.{lack_for}
use Rattle.ods_state.proofs.Exists.{the_catalogue, is_shown}
use Rattle.ods_state.proofs.Shown.{get_other, get_put}
use Rattle.ods_look.specs.Opening.{IsFileId}
use Rattle.ods_look.proofs.FilesFound.{no_such_file}
use Rattle.ods_amend.specs.Access.{protection_at, put_access, with_access}
use Rattle.ods_filing.specs.Amended.{HasProtection, IsWhyNotProtected}
use Rattle.ods_filing.specs.Filed.{Filed, IsRefusedFor, disk_at}
use Rattle.ods_filing.specs.Led.{IsAsked, IsObeyed}
use Rattle.ods_repair.specs.Asked.{IsBare, IsCovered, IsMade, IsNotMade, IsObeyedBare, IsOfNames}
use Rattle.ods_repair.proofs.InCatalogue.{names_in}
use Rattle.ods_repair.proofs.Stepping.{Enters, Renames, entering, removing}

-- the catalogue in which a file has this protection word
abbrev pub worded : Catalogue → FileId → ℕ → Catalogue
worded C d word = put_access C d None (Some word) None

module _ (old new : Filed) (d : FileId) (word : ℕ) (set : HasProtection old d word new) (C : Catalogue) (shown : ShowsBy old.image old.layout C) where
  -- the file is there, and the new blocks show it with that word
  pub file_there : finmap.get C.files d ≡ Some (file_at C d)
  file_there = set.set.0.there C shown

  pub worded_shown : ShowsBy new.image new.layout (worded C d word)
  worded_shown = subst (λ M. ShowsBy new.image M (worded C d word)) (sym set.set.1) (set.set.0.shown C shown)

  -- the word before is that of its header
  pub word_before : (file_at C d).protection ≡ protection_at (disk_at old) d
  unfolding file_of
  word_before = let s = shown.there d (file_at C d) file_there in ap (λ (f : File). f.protection) (sym s.shown)

-- where a directory is renamed while it has another protection, and has its own again, it is renamed
covered : (C E : Catalogue) (d : FileId) (free word : ℕ) (names : NameMap) → finmap.get C.files d ≡ Some (file_at C d) → (file_at C d).protection ≡ word → Renames (worded C d free) E d names → Renames C (worded E d word) d names
covered C E d free word names there is r =
    let bare : File = with_access (file_at C d) None (Some free) None in
    let file : r.file ≡ bare = same_Some r.file bare (sym r.there ∙ get_put C d bare) in
    let at : file_at E d ≡ with_body bare (Directory names) = ap (λ (o : Option File). unwrap_or o no_file) r.left ∙ ap (λ f. with_body f (Directory names)) file in
    record {
      file = file_at C d;
      there = there;
      directory = ap (λ (f : File). is_directory f.body) (sym file) ∙ r.directory;
      left = get_put E d (with_access (file_at E d) None (Some word) None) ∙ ap (λ f. Some (with_access f None (Some word) None)) at
          ∙ (λ i. Some (record (with_body (file_at C d) (Directory names)) { protection = sym is i }));
      others = λ id other. get_other E d (with_access (file_at E d) None (Some word) None) id other ∙ r.others id other ∙ get_other C d bare id other;
    }

-- a directory has the names that it has, whatever its protection
pub names_worded : (C : Catalogue) (d : FileId) (word : ℕ) → names_in (worded C d word) d ≡ names_in C d
names_worded C d word = ap (λ (o : Option File). names_of (unwrap_or o no_file).body) (get_put C d (with_access (file_at C d) None (Some word) None))

-- the protection is set aside and back
module _ (old new : Filed) (C : Catalogue) (shown : ShowsBy old.image old.layout C) (r : Request) (h : IsObeyedBare old r new) where
  abbrev bared : Catalogue
  bared = worded C h.dir 0

  bared_shown : ShowsBy h.bare.image h.bare.layout bared
  bared_shown = worded_shown old h.bare h.dir 0 h.bared C shown

  back : (E : Catalogue) → ShowsBy h.done.image h.done.layout E → (names : NameMap) → Renames bared E h.dir names
      → (D : Catalogue) × ShowsBy new.image new.layout D × Renames C D h.dir names
  back E E_shown names renamed = (
    worded E h.dir (protection_at (disk_at old) h.dir),
    worded_shown h.done new h.dir (protection_at (disk_at old) h.dir) h.covered E E_shown,
    covered C E h.dir 0 (protection_at (disk_at old) h.dir) names (file_there old h.bare h.dir 0 h.bared C shown) (word_before old h.bare h.dir 0 h.bared C shown) renamed,
  )

-- an entry is removed, whatever the protection of its directory
pub removed : (old new : Filed) (C : Catalogue) → ShowsBy old.image old.layout C → (d : FileId) (name : RadName) (version : ℕ) → IsMade old (Remove d name (Exact version)) new
    → (D : Catalogue) × ShowsBy new.image new.layout D × Renames C D d (finmap.remove (names_in C d) (key_of name version))
removed old new C shown d name version (inl done) =
    let step = done.1.steps C shown (λ id makes. absurd (let wrong : false ≡ true = makes in cc)) in
    (step.0, step.2, removing C step.0 old.user d name version done.0 step.1)
removed old new C shown d name version (inr h) =
    let E = bared old new C shown (Remove d name (Exact version)) h in
    let step = h.obeyed.1.steps E (bared_shown old new C shown (Remove d name (Exact version)) h) (λ id makes. absurd (let wrong : false ≡ true = makes in cc)) in
    let P : FileId → Type 0 = λ q. Renames E step.0 q (finmap.remove (names_in E q) (key_of name version)) in
    let one : P h.dir = subst P h.names (removing E step.0 h.bare.user d name version h.obeyed.0 step.1) in
    let names : finmap.remove (names_in E h.dir) (key_of name version) ≡ finmap.remove (names_in C h.dir) (key_of name version) = ap (λ m. finmap.remove m (key_of name version)) (names_worded C h.dir 0) in
    let last = back old new C shown (Remove d name (Exact version)) h step.0 step.2 (finmap.remove (names_in C h.dir) (key_of name version)) (subst (λ m. Renames E step.0 h.dir m) names one) in
    (last.0, last.1, subst (λ q. Renames C last.0 q (finmap.remove (names_in C q) (key_of name version))) (sym h.names) last.2)

-- a file is entered, whatever the protection of the directory
pub entered : (old new : Filed) (C : Catalogue) → ShowsBy old.image old.layout C → (d file : FileId) (name : RadName) → length name.words ≡ 3 → IsMade old (Enter d name None file) new
    → (D : Catalogue) × ShowsBy new.image new.layout D × Enters C D d name file
entered old new C shown d file name three (inl done) =
    let step = done.1.steps C shown (λ id makes. absurd (let wrong : false ≡ true = makes in cc)) in
    (step.0, step.2, entering C step.0 old.user d file name done.0 three step.1)
entered old new C shown d file name three (inr h) =
    let E = bared old new C shown (Enter d name None file) h in
    let step = h.obeyed.1.steps E (bared_shown old new C shown (Enter d name None file) h) (λ id makes. absurd (let wrong : false ≡ true = makes in cc)) in
    let one : Enters E step.0 h.dir name file = subst (λ q. Enters E step.0 q name file) h.names (entering E step.0 h.bare.user d file name h.obeyed.0 three step.1) in
    let same : names_in E h.dir ≡ names_in C h.dir = names_worded C h.dir 0 in
    let key : List ℕ = key_of name one.version in
    let last = back old new C shown (Enter d name None file) h step.0 step.2 (finmap.insert (names_in C h.dir) key file) (subst (λ m. Renames E step.0 h.dir (finmap.insert m key file)) same one.renamed) in
    (last.0, last.1, subst (λ q. Enters C last.0 q name file) (sym h.names) (record { version = one.version; free = ap (λ m. finmap.get m key) (sym same) ∙ one.free; renamed = last.2 }))

-- everyone may write where nothing is denied
may_write : (who owner : Uic) → permits who owner 0 right.Write ≡ true
unfolding permits
may_write who owner =
    or_right (is_in_class System who owner && grants_to System 0 right.Write) _
    (or_right (is_in_class Owner who owner && grants_to Owner 0 right.Write) _ (or_right (is_in_class Group who owner && grants_to Group 0 right.Write) _ refl))

-- no right refuses a request for names of a directory that denies nothing
undenied_rows : (d n : Bool) (why : Refusal) → why ≢ refusal.Denied → first_of ((d, refusal.NotADirectory) ∷ (false, refusal.Denied) ∷ (n, why) ∷ []) ≢ Some refusal.Denied
undenied_rows true n why other e = absurd (cc)
undenied_rows false true why other e = other (same_Some why refusal.Denied e)
undenied_rows false false why other e = absurd (cc)

undenied_more : (a : Bool) (rows : List (Bool × Refusal)) → first_of rows ≢ Some refusal.Denied → first_of ((a, refusal.NoSuchFile) ∷ rows) ≢ Some refusal.Denied
undenied_more true rows none e = absurd (cc)
undenied_more false rows none e = none e

module _ (C : Catalogue) (d : FileId) (who : Uic) where
  abbrev bare_file : File
  bare_file = with_access (file_at C d) None (Some 0) None

  grants : is_denied bare_file who right.Write ≡ false
  grants = ap not (may_write who bare_file.owner)

  at_bare : (rows : File → List (Bool × Refusal)) → first_of (rows bare_file) ≢ Some refusal.Denied → on_file (finmap.get (worded C d 0).files d) rows ≢ Some refusal.Denied
  at_bare rows none e = none (ap (λ o. on_file o rows) (sym (get_put C d bare_file)) ∙ e)

  not_denied_here : (r : Request) → IsOfNames d r → fault_of (worded C d 0) who r ≢ Some refusal.Denied
  not_denied_here (Enter q name (Some v) file) names e =
      let rows : Bool → List (Bool × Refusal) = λ b. (not (is_directory bare_file.body), refusal.NotADirectory) ∷ (b, refusal.Denied) ∷ cannot_enter (names_of bare_file.body) name (Some v) in
      let no_right : first_of (rows (is_denied bare_file who right.Write)) ≢ Some refusal.Denied = subst (λ b. first_of (rows b) ≢ Some refusal.Denied) (sym grants) (undenied_rows _ _ refusal.NameTaken (λ w. absurd (cc))) in
      at_bare _ (undenied_more (is_none (finmap.get (worded C d 0).files file)) (rows (is_denied bare_file who right.Write)) no_right)
      (sym (fault_enter (worded C d 0) who d name (Some v) file) ∙ ap (λ p. fault_of (worded C d 0) who (Enter p name (Some v) file)) (sym names) ∙ e)
  not_denied_here (Enter q name None file) names e =
      let rows : Bool → List (Bool × Refusal) = λ b. (not (is_directory bare_file.body), refusal.NotADirectory) ∷ (b, refusal.Denied) ∷ cannot_enter (names_of bare_file.body) name None in
      let no_right : first_of (rows (is_denied bare_file who right.Write)) ≢ Some refusal.Denied = subst (λ b. first_of (rows b) ≢ Some refusal.Denied) (sym grants) (undenied_rows _ _ refusal.VersionsFull (λ w. absurd (cc))) in
      at_bare _ (undenied_more (is_none (finmap.get (worded C d 0).files file)) (rows (is_denied bare_file who right.Write)) no_right)
      (sym (fault_enter (worded C d 0) who d name None file) ∙ ap (λ p. fault_of (worded C d 0) who (Enter p name None file)) (sym names) ∙ e)
  not_denied_here (Remove q name pick) names e = at_bare _ (subst (λ b. first_of ((not (is_directory bare_file.body), refusal.NotADirectory) ∷ (b, refusal.Denied) ∷ (is_none (picked_version (names_of bare_file.body) name pick), refusal.NoSuchName) ∷ []) ≢ Some refusal.Denied) (sym grants) (undenied_rows _ _ refusal.NoSuchName (λ w. absurd (cc))))
      (sym (fault_remove (worded C d 0) who d name pick) ∙ ap (λ p. fault_of (worded C d 0) who (Remove p name pick)) (sym names) ∙ e)
  not_denied_here (Create name version blocks stamp) names e = absurd names
  not_denied_here (Extend file blocks) names e = absurd names
  not_denied_here (Truncate file blocks) names e = absurd names
  not_denied_here (Delete file) names e = absurd names
  not_denied_here (LookUp q name pick) names e = absurd names
  not_denied_here (Read file vbn) names e = absurd names
  not_denied_here (Write file vbn block) names e = absurd names
  not_denied_here (Lines q) names e = absurd names
  not_denied_here (Stat file) names e = absurd names
  not_denied_here (SetUser file attributes) names e = absurd names

-- what a volume lacks is no right
lack_is_other : (I : List (List ℕ)) (L : VolumeLayout) (headers room n : ℕ) → lack_for I L headers room n ≢ Some refusal.Denied
unfolding lack_for
lack_is_other I L headers room n e = by _ _ _ e
  where
    by : (a b c : Bool) → first_of ((a, refusal.VolumeFull) ∷ (b, refusal.HeadersFull) ∷ (c, refusal.ChainFull) ∷ []) ≢ Some refusal.Denied
    by true b c f = absurd (cc)
    by false true c f = absurd (cc)
    by false false true f = absurd (cc)
    by false false false f = absurd (cc)

short_is_other : (I : List (List ℕ)) (L : VolumeLayout) (r : Request) → ¬ IsShortOf I L r refusal.Denied
short_is_other I L r (inl lacks) = absurd (lack_is_other I L _ _ lacks.count lacks.lacking)
short_is_other I L r (inr memory) = absurd (let wrong : refusal.Denied ≡ refusal.NoMemory = memory.0 in cc)

-- the fault of a request that a right refuses
denied_fault : (I : List (List ℕ)) (L : VolumeLayout) (C : Catalogue) (who : Uic) (r : Request) → MatchOption (fault_of C who r) (IsShortOf I L r refusal.Denied) (λ g. refusal.Denied ≡ g) → fault_of C who r ≡ Some refusal.Denied
denied_fault I L C who r why = by (fault_of C who r) why
  where
    by : (o : Option Refusal) → MatchOption o (IsShortOf I L r refusal.Denied) (λ g. refusal.Denied ≡ g) → o ≡ Some refusal.Denied
    by None short = absurd (short_is_other I L r short)
    by (Some g) same = ap Some (sym same)

-- the reason of a refusal while the directory denies nothing is no right
pub not_denied : (old bare : Filed) (d : FileId) (r : Request) → IsOfNames d r → IsBare old d bare → (C : Catalogue) → ShowsBy old.image old.layout C → (reason : Refusal) → IsRefusedFor bare r reason → reason ≢ refusal.Denied
not_denied old bare d r names is C shown reason refused same =
    let E : Catalogue = worded C d 0 in
    let why = refused E (worded_shown old bare d 0 is C shown) in
    not_denied_here C d bare.user r names
    (denied_fault bare.image bare.layout E bare.user r (subst (λ f. MatchOption (fault_of E bare.user r) (IsShortOf bare.image bare.layout r f) (λ g. f ≡ g)) same why))

-- a request that a right refuses names a file that is there
denied_is_there : (I : List (List ℕ)) (L : VolumeLayout) (C : Catalogue) (shown : ShowsBy I L C) (d : FileId) (who : Uic) (r : Request) → IsOfNames d r → fault_of C who r ≡ Some refusal.Denied → ¬ ¬ IsFileId I L d
denied_is_there I L C shown d who (Enter q name version file) names e none =
    absurd (let wrong : Some refusal.NoSuchFile ≡ Some refusal.Denied = sym (no_such_file I L C shown d none _) ∙ sym (fault_enter C who d name version file) ∙ ap (λ p. fault_of C who (Enter p name version file)) (sym names) ∙ e in cc)
denied_is_there I L C shown d who (Remove q name pick) names e none =
    absurd (let wrong : Some refusal.NoSuchFile ≡ Some refusal.Denied = sym (no_such_file I L C shown d none _) ∙ sym (fault_remove C who d name pick) ∙ ap (λ p. fault_of C who (Remove p name pick)) (sym names) ∙ e in cc)
denied_is_there I L C shown d who (Create name version blocks stamp) names e none = absurd names
denied_is_there I L C shown d who (Extend file blocks) names e none = absurd names
denied_is_there I L C shown d who (Truncate file blocks) names e none = absurd names
denied_is_there I L C shown d who (Delete file) names e none = absurd names
denied_is_there I L C shown d who (LookUp q name pick) names e none = absurd names
denied_is_there I L C shown d who (Read file vbn) names e none = absurd names
denied_is_there I L C shown d who (Write file vbn block) names e none = absurd names
denied_is_there I L C shown d who (Lines q) names e none = absurd names
denied_is_there I L C shown d who (Stat file) names e none = absurd names
denied_is_there I L C shown d who (SetUser file attributes) names e none = absurd names

-- the protection of a directory that is there is not set only for want of memory
no_memory : (volume : Filed) (d : FileId) (reason : Refusal) → IsWhyNotProtected volume d reason → ¬ ¬ IsFileId volume.image volume.layout d → reason ≡ refusal.NoMemory
no_memory volume d reason (inl none) there = absurd (there none.1)
no_memory volume d reason (inr memory) there = memory

-- where it is not set at first
pub not_bared : (old : Filed) → IsSoundBy old.image old.layout → (d : FileId) (r : Request) → IsOfNames d r → IsRefusedFor old r refusal.Denied → (reason : Refusal) → IsWhyNotProtected old d reason → reason ≡ refusal.NoMemory
not_bared old sound d r names denied reason why =
    let C = the_catalogue old.image old.layout sound in
    let shown = is_shown old.image old.layout sound in
    no_memory old d reason why (denied_is_there old.image old.layout C shown d old.user r names (denied_fault old.image old.layout C old.user r (denied C shown)))

-- the directory is there behind a request for its names
still_there : (C D : Catalogue) (who : Uic) (d : FileId) (r : Request) → IsOfNames d r → (a : Answer) → step C who r a ≡ Some D → (f : File) × (finmap.get D.files d ≡ Some f)
unfolding after
still_there C D who d (Enter q name version file) names a e =
    let made = determined C D who (Enter q name version file) a refl e in
    (_, ap (λ (E : Catalogue). finmap.get E.files d) made.1 ∙ ap (λ p. finmap.get (after C (Enter q name version file)).files p) (sym names) ∙ get_put C q _)
still_there C D who d (Remove q name pick) names a e =
    let made = determined C D who (Remove q name pick) a refl e in
    (_, ap (λ (E : Catalogue). finmap.get E.files d) made.1 ∙ ap (λ p. finmap.get (after C (Remove q name pick)).files p) (sym names) ∙ get_put C q _)
still_there C D who d (Create name version blocks stamp) names a e = absurd names
still_there C D who d (Extend file blocks) names a e = absurd names
still_there C D who d (Truncate file blocks) names a e = absurd names
still_there C D who d (Delete file) names a e = absurd names
still_there C D who d (LookUp q name pick) names a e = absurd names
still_there C D who d (Read file vbn) names a e = absurd names
still_there C D who d (Write file vbn block) names a e = absurd names
still_there C D who d (Lines q) names a e = absurd names
still_there C D who d (Stat file) names a e = absurd names
still_there C D who d (SetUser file attributes) names a e = absurd names

-- What is known where the directory denied nothing while the request was made, or refused.
module _ (old bare done : Filed) (sound : IsSoundBy old.image old.layout) (d : FileId) (r : Request) (names : IsOfNames d r) (is : IsBare old d bare) where
  shown_bare : ShowsBy bare.image bare.layout (worded (the_catalogue old.image old.layout sound) d 0)
  shown_bare = worded_shown old bare d 0 is (the_catalogue old.image old.layout sound) (is_shown old.image old.layout sound)

  there : (E : Catalogue) → ShowsBy done.image done.layout E → (f : File) → finmap.get E.files d ≡ Some f → IsFileId done.image done.layout d
  there E shown f e = let s = shown.there d f e in (s.held.file, s.sequence)

  -- the directory is there afterwards
  is_there : {A : Type 0} (result : Result A Refusal) → OnOk result (IsObeyed bare r done) → OnErr result (done ≡ bare) → ¬ ¬ IsFileId done.image done.layout d
  is_there (Ok a) obeyed same none =
      let E = worded (the_catalogue old.image old.layout sound) d 0 in
      let step = obeyed.1.steps E shown_bare (λ id makes. absurd (creates_none r names makes)) in
      let f = still_there E step.0 bare.user d r names obeyed.0 step.1 in
      none (there step.0 step.2 f.0 f.1)
    where
      creates_none : (q : Request) → IsOfNames d q → creates q ≡ true → ⊥
      creates_none (Enter e name version file) n c = absurd (cc)
      creates_none (Remove e name pick) n c = absurd (cc)
      creates_none (Create name version blocks stamp) n c = absurd n
      creates_none (Extend file blocks) n c = absurd n
      creates_none (Truncate file blocks) n c = absurd n
      creates_none (Delete file) n c = absurd n
      creates_none (LookUp e name pick) n c = absurd n
      creates_none (Read file vbn) n c = absurd n
      creates_none (Write file vbn block) n c = absurd n
      creates_none (Lines e) n c = absurd n
      creates_none (Stat file) n c = absurd n
      creates_none (SetUser file attributes) n c = absurd n
  is_there (Err f) obeyed same none =
      let E = worded (the_catalogue old.image old.layout sound) d 0 in
      none (there E (subst (λ (v : Filed). ShowsBy v.image v.layout E) (sym same) shown_bare) _ (get_put (the_catalogue old.image old.layout sound) d _))

  -- where its protection is not set again
  pub not_covered : {A : Type 0} (result : Result A Refusal) → OnOk result (IsObeyed bare r done) → OnErr result (done ≡ bare) → (reason : Refusal) → IsWhyNotProtected done d reason
      → (reason ≢ refusal.Denied) × IsNotMade old r done reason
  not_covered result obeyed same reason why =
      let memory : reason ≡ refusal.NoMemory = no_memory done d reason why (is_there result obeyed same) in
      (λ denied. absurd (let wrong : refusal.NoMemory ≡ refusal.Denied = sym memory ∙ denied in cc), inr (inr (memory, inr (d, bare, names, is, asked result obeyed same))))
    where
      asked : {A : Type 0} (result : Result A Refusal) → OnOk result (IsObeyed bare r done) → OnErr result (done ≡ bare) → IsAsked bare r done
      asked (Ok a) obeyed same = inr obeyed
      asked (Err f) obeyed same = inl same

  module _ (new : Filed) (denied : IsRefusedFor old r refusal.Denied) (covered : IsCovered old d done new) where
    -- where it is accepted
    pub bare_done : {A : Type 0} (result : Result A Refusal) → OnOk result (IsObeyed bare r done) → OnOk result (IsObeyedBare old r new)
    bare_done (Ok a) obeyed = record { denied = denied; dir = d; names = names; bare = bare; done = done; bared = is; obeyed = obeyed; covered = covered }
    bare_done (Err f) obeyed = tt

    -- where it is refused
    pub bare_refused : {A : Type 0} (result : Result A Refusal) → IfErr result (IsRefusedFor bare r) → OnErr result (done ≡ bare) → IfErr result (λ reason. (reason ≢ refusal.Denied) × IsNotMade old r new reason)
    bare_refused (Ok a) refused same = tt
    bare_refused (Err f) refused same = (
      not_denied old bare d r names is (the_catalogue old.image old.layout sound) (is_shown old.image old.layout sound) f refused,
      inr (inl (record { dir = d; names = names; bare = bare; bared = is; refused = refused; covered = subst (λ (v : Filed). IsCovered old d v new) same covered })),
    )

-- where its protection is not set aside
pub not_made : (old : Filed) → IsSoundBy old.image old.layout → (d : FileId) (r : Request) → IsOfNames d r → IsRefusedFor old r refusal.Denied → (reason : Refusal) → IsWhyNotProtected old d reason → (new : Filed) → new ≡ old
    → (reason ≢ refusal.Denied) × IsNotMade old r new reason
not_made old sound d r names denied reason why new same =
    let memory : reason ≡ refusal.NoMemory = not_bared old sound d r names denied reason why in
    (λ is. absurd (let wrong : refusal.NoMemory ≡ refusal.Denied = sym memory ∙ is in cc), inr (inr (memory, inl same)))
