-- Why each file of a tree that is copied from another volume is there afterwards.
use Rattle.std.proofs.Common.{◌≡◌, ℕ, refl, sym, ap, ◌∙◌, subst, Bool, true, false, cond, max, List, [], ◌∷◌, ◌++◌, get_or, map, drop, replicate, Option, Some, None, is_some, unwrap_or, inl, inr}
use Rattle.std.specs.Prelude.{◌||◌, ◌⊎◌, MatchBool, is_none, nat_eq}
use Rattle.std.specs.List.{All, filter, fold, list_any}
use Rattle.std.specs.FinMap as finmap
use Rattle.std.specs.FinSet as set
use Rattle.std.proofs.lemmas.Bool.{eq-eqb, eqb-true, or_left, or_right}
use Rattle.std.proofs.lemmas.Option.{same_Some}
use Rattle.std.proofs.lemmas.List.Elements.{All-append, All-cons, All-nil}
use lib.Pointwise.{bytes_decides}
use Rattle.ods_base.specs.declared.file_id.FileId.{FileId}
use Rattle.ods_base.specs.declared.file_id.Uic.{Uic}
use Rattle.ods_base.specs.declared.listed.Listed.{Listed}
use Rattle.ods_base.specs.declared.name.Pick.TheVariants.{Highest}
use Rattle.ods_base.specs.Image.{IsImage}
use Rattle.ods_base.specs.Name.{RadName, directory_type, key_of}
use Rattle.ods_base.specs.Names.{NameMap, highest_of, is_of, picked_version, version_of, versions_of}
use Rattle.ods_base.proofs.Picks.{greater, key_itself, same_key}
use Rattle.ods_space.specs.Layout.{VolumeLayout}
use Rattle.ods_request.specs.declared.answers.Answer.TheVariants.{Created, Found as FoundAs}
use Rattle.ods_request.specs.declared.requests.Request.TheVariants.{Create, LookUp}
use Rattle.ods_request.specs.Catalogue.{Catalogue, File, Directory as DirectoryOf, Plain, file_cmp, is_directory, names_of}
use Rattle.ods_request.specs.Steps.{answer_of, change, created, file_at, found_file, found_version, is_new, new_file, no_file, no_id, step, zero_blocks}
use Rattle.ods_request.proofs.FaultTable.{fault_look_up, passed}
use Rattle.ods_request.proofs.FrameLaws.{created_new, others_stay}
use Rattle.ods_request.proofs.Orders.{file_cmp-total, file_cmp-antisymmetric}
use Rattle.ods_request.proofs.StepLaws.{changed, determined, given, looked}
use Rattle.ods_state.specs.Contents.{ShowsBy}
use Rattle.ods_amend.specs.Access.{may_give}
use Rattle.ods_filing.specs.Filed.{Filed, IsDone, for_another}
use Rattle.ods_filing.specs.Led.{forgetful}
use Rattle.ods_shell.specs.Passed.{is_passed_over}
use Rattle.ods_shell.specs.declared.facts.Facts.{Facts}
use Rattle.ods_shell.specs.declared.folders.Directory.{Directory}
use Rattle.ods_shell.specs.declared.found.Found.{Found}
use Rattle.ods_upkeep.specs.CopiedTree.{AreDirectoriesCopied, AreFilesAt, IsAccessTo, IsDirectoryBelow, IsDirectoryCopied, IsDueTo, IsMadeIn, IsPlaceBelow, IsReachedBelow, IsWayTo, date_of, target_at}
use Rattle.ods_upkeep.specs.CopiesThere.{CopiedTreeIsThere, HasAllOf, HasDirectory, IsKnownBy, IsWayIn}
use Rattle.ods_upkeep.specs.Laws.{IsEntryOf}
use Rattle.ods_upkeep.specs.Looked.{IsSeen}
use Rattle.ods_upkeep.specs.declared.asked.CopyFrom.{CopyFrom}
use Rattle.ods_upkeep.specs.declared.giving.Access.{Access}
use Rattle.ods_upkeep.proofs.LawsCopied.{copies_left, copies_there, copy_stays, known_by}
use Rattle.ods_upkeep.proofs.LawsKept.{IsAllLeft, IsDirectoryThere, all_of_itself, all_of_next, directory_kept, entered_left, entry_same, leaves_all, left_next, left_same, left_theirs, shown_too}
use Rattle.ods_upkeep.proofs.LawsNames.{get_here, not_faulty}
use Rattle.ods_upkeep.proofs.LawsUndone.{makes_none}

-- the greatest of some versions is one of them
spread : (t m a v : ℕ) (r : Bool) → (m ≡ a) ⊎ (m ≡ v) → (nat_eq t m || r) ≡ true → (nat_eq t a || (nat_eq t v || r)) ≡ true
spread t m a v r (inl e) h = left (nat_eq t a) (nat_eq t v) r (ap (λ k. nat_eq t k || r) (sym e) ∙ h)
  where
    left : (x y r : Bool) → (x || r) ≡ true → (x || (y || r)) ≡ true
    left true y r h = refl
    left false true r h = refl
    left false false r h = h
spread t m a v r (inr e) h = or_right (nat_eq t a) (nat_eq t v || r) (ap (λ k. nat_eq t k || r) (sym e) ∙ h)

greatest_in : (a : ℕ) (vs : List ℕ) → list_any (nat_eq (fold max a vs)) (a ∷ vs) ≡ true
greatest_in a [] = or_left (nat_eq a a) false (eq-eqb a a refl)
greatest_in a (v ∷ vs) = spread (fold max (max a v) vs) (max a v) a v (list_any (nat_eq (fold max (max a v) vs)) vs) (greater.either a v) (greatest_in (max a v) vs)

-- a version of a name is that of a key
in_keys : (n : RadName) (v : ℕ) (ks : List (List ℕ)) → list_any (nat_eq v) (map version_of (filter (is_of n) ks)) ≡ true → list_any (same_key (key_of n v)) ks ≡ true
in_keys n v [] h = absurd (let wrong : false ≡ true = h in cc)
in_keys n v (k ∷ ks) h = by (is_of n k) refl (in_keys n v ks) h
  where
    here : is_of n k ≡ true → (list_any (nat_eq v) (map version_of (filter (is_of n) ks)) ≡ true → list_any (same_key (key_of n v)) ks ≡ true) → (c : Bool) → nat_eq v (version_of k) ≡ c
        → (c || list_any (nat_eq v) (map version_of (filter (is_of n) ks))) ≡ true → (same_key (key_of n v) k || list_any (same_key (key_of n v)) ks) ≡ true
    here e rest true f g =
        let whole : k ≡ key_of n (version_of k) = (bytes_decides _ _).0 e in
        let same : v ≡ version_of k = eqb-true v (version_of k) f in
        let equal : key_of n v ≡ k = ap (key_of n) same ∙ sym whole in
        or_left (same_key (key_of n v) k) (list_any (same_key (key_of n v)) ks) (subst (λ x. same_key (key_of n v) x ≡ true) equal (key_itself (key_of n v)))
    here e rest false f g = or_right (same_key (key_of n v) k) (list_any (same_key (key_of n v)) ks) (rest g)

    by : (b : Bool) → is_of n k ≡ b → (list_any (nat_eq v) (map version_of (filter (is_of n) ks)) ≡ true → list_any (same_key (key_of n v)) ks ≡ true)
        → list_any (nat_eq v) (map version_of (cond b (k ∷ filter (is_of n) ks) (filter (is_of n) ks))) ≡ true → (same_key (key_of n v) k || list_any (same_key (key_of n v)) ks) ≡ true
    by true e rest g = here e rest (nat_eq v (version_of k)) refl g
    by false e rest g = or_right (same_key (key_of n v) k) (list_any (same_key (key_of n v)) ks) (rest g)

-- the highest version of a name has a key
highest_there : (m : NameMap) (n : RadName) (v : ℕ) → picked_version m n Highest ≡ Some v → finmap.contains_key m (key_of n v) ≡ true
highest_there m n v e = finmap.contains_key-keys m (key_of n v) ∙ in_keys n v (finmap.keys m) (by (versions_of m n) refl e)
  where
    by : (vs : List ℕ) → versions_of m n ≡ vs → highest_of vs ≡ Some v → list_any (nat_eq v) (versions_of m n) ≡ true
    by [] is h = absurd (let wrong : None ≡ Some v = h in cc)
    by (w ∷ vs) is h = ap (list_any (nat_eq v)) is ∙ subst (λ t. list_any (nat_eq t) (w ∷ vs) ≡ true) (same_Some (fold max w vs) v h) (greatest_in w vs)

entry_found : (names : NameMap) (name : RadName) (version : ℕ) (file : FileId) (o : Option ℕ) → picked_version names name Highest ≡ o → is_none o ≡ false → version ≡ unwrap_or o 0
    → file ≡ unwrap_or (finmap.get names (key_of name version)) no_id → finmap.get names (key_of name version) ≡ Some file
entry_found names name version file None e some v f = absurd (let wrong : true ≡ false = some in cc)
entry_found names name version file (Some w) e some v f =
    let there : finmap.contains_key names (key_of name version) ≡ true = ap (λ k. finmap.contains_key names (key_of name k)) v ∙ highest_there names name w e in
    by (finmap.get names (key_of name version)) refl there f
  where
    by : (o : Option FileId) → finmap.get names (key_of name version) ≡ o → is_some o ≡ true → file ≡ unwrap_or o no_id → finmap.get names (key_of name version) ≡ Some file
    by None is t g = absurd (let wrong : false ≡ true = t in cc)
    by (Some x) is t g = is ∙ ap Some (sym g)

-- The file that is found under a name has an entry of that name.
found_there : (C D : Catalogue) (who : Uic) (dir : FileId) (name : RadName) (file : FileId) (version : ℕ) → step C who (LookUp dir name Highest) (FoundAs file version) ≡ Some D → IsEntryOf C dir name version file
unfolding answer_of
found_there C D who dir name file version e =
    let p = passed (finmap.get C.files dir) _ (sym (fault_look_up C who dir name Highest) ∙ not_faulty C D who (LookUp dir name Highest) (FoundAs file version) e) in
    let at : p.file ≡ file_at C dir = sym (ap (λ o. unwrap_or o no_file) p.there) in
    let some : is_none (picked_version (names_of (file_at C dir).body) name Highest) ≡ false = ap (λ (f : File). is_none (picked_version (names_of f.body) name Highest)) (sym at) ∙ p.none.1.1.0 in
    let answer : FoundAs file version ≡ FoundAs (found_file C dir name Highest) (found_version C dir name Highest) = (determined C D who (LookUp dir name Highest) (FoundAs file version) refl e).0 in
    let v : version ≡ found_version C dir name Highest = second file (found_file C dir name Highest) version (found_version C dir name Highest) answer in
    let f : file ≡ found_file C dir name Highest = first file (found_file C dir name Highest) version (found_version C dir name Highest) answer in
    entry_found (names_of (file_at C dir).body) name version file (picked_version (names_of (file_at C dir).body) name Highest) refl some v
    (f ∙ ap (λ k. unwrap_or (finmap.get (names_of (file_at C dir).body) (key_of name k)) no_id) (sym v))
  where
    first : (f g : FileId) (v w : ℕ) → FoundAs f v ≡ FoundAs g w → f ≡ g
    first f g v w e = cc

    second : (f g : FileId) (v w : ℕ) → FoundAs f v ≡ FoundAs g w → v ≡ w
    second f g v w e = cc

-- a file that is made leaves all
left_created : (old mid : Filed) (owner : Uic) (name : RadName) (version blocks : ℕ) (stamp : List ℕ) (file : FileId) → IsDone (for_another old owner) (Create name version blocks stamp) (Created file) mid → IsAllLeft old mid
left_created old mid owner name version blocks stamp file done C s =
    let made = done.steps (forgetful C) (record { there = s.there; all = s.all; default = s.default }) (λ id makes e. set.contains-empty file_cmp id) in
    let free : finmap.get C.files file ≡ None = (created_new (forgetful C) made.0 owner (Create name version blocks stamp) (Created file) file made.1 refl).0 in
    let moves : (q : FileId) (f : File) → finmap.get C.files q ≡ Some f → finmap.get made.0.files q ≡ Some f = λ q f there.
    others_stay (forgetful C) made.0 owner (Create name version blocks stamp) (Created file) q made.1 (apart q f free there) ∙ there in
    record {
      left = made.0;
      shown = made.2;
      all = record { files = λ q f there plain. moves q f there; directories = λ q f there is. (f, (moves q f there, is)); entries = λ dir named v held there. entry_same C made.0 dir (key_of named v) held (moves dir) there };
    }
  where
    apart : (q : FileId) (f : File) → finmap.get C.files file ≡ None → finmap.get C.files q ≡ Some f → Some file ≡ Some q → ⊥
    apart q f free there same =
        let one : file ≡ q = cc in
        let wrong : None ≡ Some f = sym free ∙ ap (finmap.get C.files) one ∙ there in
        absurd (cc)

-- a directory has an entry that names this one, and all else is left
record HasNext (C : Catalogue) (dir : FileId) (name : RadName) (file : FileId) (new : Filed) : Type 0 where
  left : Catalogue
  shown : ShowsBy new.image new.layout left
  all : HasAllOf C left
  version : ℕ
  entry : IsEntryOf left dir name version file

seen_next : (old new : Filed) (dir : FileId) (name : RadName) (file : FileId) (version : ℕ) (C : Catalogue) → ShowsBy old.image old.layout C → IsSeen old dir name Highest file version new → HasNext C dir name file new
seen_next old new dir name file version C s done =
    let made = done.steps C s (makes_none C (LookUp dir name Highest) (FoundAs file version) refl) in
    let same : made.0 ≡ C = looked C made.0 old.user (LookUp dir name Highest) (FoundAs file version) refl made.1 in
    record {
      left = made.0;
      shown = made.2;
      all = subst (HasAllOf C) (sym same) (all_of_itself C);
      version = version;
      entry = subst (λ (E : Catalogue). IsEntryOf E dir name version file) (sym same) (found_there C made.0 old.user dir name file version made.1);
    }

made_next : (stamp : List ℕ) (old new : Filed) (dir : FileId) (name : RadName) (file : FileId) (C : Catalogue) → ShowsBy old.image old.layout C → IsMadeIn stamp dir name old file new → HasNext C dir name file new
made_next stamp old new dir name file C s made =
    let first = left_created old made.1.1.0 made.0 name _ _ stamp file made.1.1.1 C s in
    let is = entered_left made.1.1.0 dir file name (Some 1) old.user new first.left first.shown made.1.1.2 in
    record { left = is.left; shown = is.shown; all = all_of_next C first.left is.left first.all is.all; version = is.version; entry = is.entry }

below_next : (stamp : List ℕ) (old new : Filed) (dir : FileId) (name : RadName) (file : FileId) (C : Catalogue) → ShowsBy old.image old.layout C → IsDirectoryBelow stamp dir name old file new → HasNext C dir name file new
below_next stamp old new dir name file C s (inl seen) = seen_next old new dir name file seen.0 C s seen.1
below_next stamp old new dir name file C s (inr made) = made_next stamp made.0 new dir name file C (subst (λ (f : Filed). ShowsBy f.image f.layout C) (sym made.1.2) s) made.2

-- the names lead to this directory, and all else is left
pub record HasPlace (C : Catalogue) (dir : FileId) (names : List RadName) (place : FileId) (new : Filed) : Type 0 where
  pub left : Catalogue
  pub shown : ShowsBy new.image new.layout left
  pub all : HasAllOf C left
  pub way : IsWayIn left dir names place

pub has_place : (stamp : List ℕ) (names : List RadName) (dir : FileId) (old : Filed) (place : FileId) (new : Filed) (C : Catalogue) → ShowsBy old.image old.layout C → IsPlaceBelow stamp dir names old place new → HasPlace C dir names place new
has_place stamp [] dir old place new C s is = record { left = C; shown = subst (λ (f : Filed). ShowsBy f.image f.layout C) (sym is.1) s; all = all_of_itself C; way = is.0 }
has_place stamp (name ∷ names) dir old place new C s is =
    let a = below_next stamp old is.1.0 dir name is.0 C s is.1.1 in
    let b = has_place stamp names is.0 is.1.0 place new a.left a.shown is.1.2 in
    record {
      left = b.left;
      shown = b.shown;
      all = all_of_next C a.left b.left a.all b.all;
      way = (is.0, (a.version, b.all.entries dir name a.version is.0 a.entry, b.way));
    }

-- a way stays
pub way_kept : (C D : Catalogue) → HasAllOf C D → (names : List RadName) (dir place : FileId) → IsWayIn C dir names place → IsWayIn D dir names place
way_kept C D has [] dir place way = way
way_kept C D has (name ∷ names) dir place way = (way.0, (way.1.0, has.entries dir name way.1.0 way.0 way.1.1, way_kept C D has names way.0 place way.1.2))

-- a step more of a way
way_more : (D : Catalogue) (names : List RadName) (dir up : FileId) (last : RadName) (place : FileId) (version : ℕ) → IsWayIn D dir names up → IsEntryOf D up last version place → IsWayIn D dir (names ++ last ∷ []) place
way_more D [] dir up last place version way entry = (place, (version, subst (λ u. IsEntryOf D u last version place) way entry, refl))
way_more D (name ∷ names) dir up last place version way entry = (way.0, (way.1.0, way.1.1, way_more D names way.0 up last place version way.1.2 entry))

-- the last directory of a way is found, or made
reached_next : (date : List ℕ) (old new : Filed) (dir : FileId) (name : RadName) (owner : Option Uic) (file : FileId) (C : Catalogue) → ShowsBy old.image old.layout C → IsReachedBelow date dir name owner old file new → HasNext C dir name file new
reached_next date old new dir name None file C s seen = seen_next old new dir name file seen.0 C s seen.1
reached_next date old new dir name (Some owner) file C s made = made_next date made.0 new dir name file C (subst (λ (f : Filed). ShowsBy f.image f.layout C) (sym made.1.2) s) made.2.2

way_there : (run date : List ℕ) (dir : FileId) (names : List RadName) (owner : Option Uic) (old : Filed) (place : FileId) (new : Filed) (C : Catalogue) → ShowsBy old.image old.layout C → IsWayTo run date dir names owner old place new
    → HasPlace C dir names place new
way_there run date dir [] owner old place new C s is = record { left = C; shown = subst (λ (f : Filed). ShowsBy f.image f.layout C) (sym is.2) s; all = all_of_itself C; way = is.1 }
way_there run date dir (name ∷ names) owner old place new C s is =
    let before : List RadName = is.0 in
    let last : RadName = is.1.0 in
    let up : FileId = is.1.2.0 in
    let mid : Filed = is.1.2.1.0 in
    let a = has_place run before dir old up mid C s is.1.2.1.1 in
    let b = reached_next date mid new up last owner place a.left a.shown is.1.2.1.2 in
    record {
      left = b.left;
      shown = b.shown;
      all = all_of_next C a.left b.left a.all b.all;
      way = subst (λ ns. IsWayIn b.left dir ns place) (sym is.1.1) (way_more b.left before dir up last place b.version (way_kept a.left b.left b.all before dir up a.way) b.entry);
    }

-- a file that is made under a name of the type DIR is a directory
directory_made : (C D : Catalogue) (who : Uic) (name : RadName) (version blocks : ℕ) (stamp : List ℕ) (file : FileId) → name.ext ≡ directory_type → step C who (Create name version blocks stamp) (Created file) ≡ Some D
    → (g : File) × ((finmap.get D.files file ≡ Some g) × (is_directory g.body ≡ true))
unfolding change
directory_made C D who name version blocks stamp file is e =
    let f : File = new_file C who name version blocks stamp in
    let made : D ≡ created C file f = given (is_new C file) (created C file f) D (changed C D who (Create name version blocks stamp) (Created file) e) in (
      f,
      (
        ap (λ (E : Catalogue). finmap.get E.files file) made ∙ get_here file_cmp-total file_cmp-antisymmetric C.files file f,
        ap (λ b. is_directory (cond b (DirectoryOf finmap.empty) (Plain (replicate 32 0) (zero_blocks blocks)))) (eq-eqb name.ext directory_type is),
      ),
    )

-- it is one when it is entered, too
made_there : (stamp : List ℕ) (old new : Filed) (dir : FileId) (name : RadName) (file : FileId) (C : Catalogue) → ShowsBy old.image old.layout C → name.ext ≡ directory_type → IsMadeIn stamp dir name old file new → IsDirectoryThere new file
made_there stamp old new dir name file C s is made =
    let mid : Filed = made.1.1.0 in
    let steps = made.1.1.1.steps (forgetful C) (record { there = s.there; all = s.all; default = s.default }) (λ id makes e. set.contains-empty file_cmp id) in
    let here : IsDirectoryThere mid file = λ D t.
    let g = directory_made (forgetful C) steps.0 made.0 name _ _ stamp file is steps.1 in
    (g.0, (shown_too mid steps.0 D steps.2 t file g.0 g.1.0, g.1.1)) in
    directory_kept mid new steps.0 steps.2 (λ E t. let entered = entered_left mid dir file name (Some 1) old.user new E t made.1.1.2 in record { left = entered.left; shown = entered.shown; all = entered.all }) file here

reached_there : (date : List ℕ) (old new : Filed) (dir : FileId) (name : RadName) (owner : Uic) (file : FileId) (C : Catalogue) → ShowsBy old.image old.layout C → IsReachedBelow date dir name (Some owner) old file new → IsDirectoryThere new file
reached_there date old new dir name owner file C s made = made_there date made.0 new dir name file C (subst (λ (f : Filed). ShowsBy f.image f.layout C) (sym made.1.2) s) made.2.0 made.2.2

-- so is the place that a way leads to, where it is made
place_there : (run date : List ℕ) (dir : FileId) (names : List RadName) (owner : Uic) (old : Filed) (place : FileId) (new : Filed) (C : Catalogue) → ShowsBy old.image old.layout C → IsWayTo run date dir names (Some owner) old place new
    → IsDirectoryThere new place
place_there run date dir [] owner old place new C s is = absurd (let wrong : Some owner ≡ None = is.0 in cc)
place_there run date dir (name ∷ names) owner old place new C s is =
    let a = has_place run is.0 dir old is.1.2.0 is.1.2.1.0 C s is.1.2.1.1 in
    reached_there date is.1.2.1.0 new is.1.2.0 is.1.0 owner place a.left a.shown is.1.2.1.2

-- what is to be given to it is to be given to a directory
due_there : (how : CopyFrom) (user : Uic) (run date path : List ℕ) (facts : Option Facts) (dir : FileId) (names : List RadName) (owner : Option Uic) (old : Filed) (place : FileId) (due : List Access) (new : Filed) (C : Catalogue)
    → ShowsBy old.image old.layout C → IsWayTo run date dir names owner old place new → IsDueTo how user path facts owner place due → All (λ (a : Access). IsDirectoryThere new a.file) due
due_there how user run date path None dir names owner old place due new C s way is = subst (All (λ (a : Access). IsDirectoryThere new a.file)) (sym is) (All-nil (λ (a : Access). IsDirectoryThere new a.file))
due_there how user run date path (Some facts) dir names None old place due new C s way is = subst (All (λ (a : Access). IsDirectoryThere new a.file)) (sym is) (All-nil (λ (a : Access). IsDirectoryThere new a.file))
due_there how user run date path (Some facts) dir names (Some owner) old place due new C s way is = by (may_give user owner) is
  where
    by : (b : Bool) → MatchBool b ((a : Access) × IsAccessTo how user path facts place a × (due ≡ a ∷ [])) (due ≡ []) → All (λ (a : Access). IsDirectoryThere new a.file) due
    by true one =
        subst (All (λ (a : Access). IsDirectoryThere new a.file)) (sym one.2)
        (All-cons (λ (a : Access). IsDirectoryThere new a.file) one.0 [] (subst (IsDirectoryThere new) (sym one.1.0) (place_there run date dir names owner old place new C s way)) (All-nil (λ (a : Access). IsDirectoryThere new a.file)))
    by false none = subst (All (λ (a : Access). IsDirectoryThere new a.file)) (sym none) (All-nil (λ (a : Access). IsDirectoryThere new a.file))

-- The directories of a tree, one after another.
module _ (I : List (List ℕ)) (L : VolumeLayout) (how : CopyFrom) (stamp : List ℕ) (image : IsImage I) where
  files_at : (directory : Directory) (entries : List Listed) (files : List Found) → AreFilesAt I L directory entries files → All (IsKnownBy I L) files
  files_at directory [] files are = subst (All (IsKnownBy I L)) (sym are) (All-nil (IsKnownBy I L))
  files_at directory (e ∷ entries) files are = subst (All (IsKnownBy I L)) (sym are.3) (by (is_passed_over are.0.facts) (known_by I L e.file are.0 are.2.known) (files_at directory entries are.1 are.4))
    where
      by : (b : Bool) → IsKnownBy I L are.0 → All (IsKnownBy I L) are.1 → All (IsKnownBy I L) (cond b are.1 (are.0 ∷ are.1))
      by true one rest = rest
      by false one rest = All-cons (IsKnownBy I L) are.0 are.1 one rest

  module _ (path : List ℕ) (dir : FileId) (depth : ℕ) where
    directory_left : (d : Directory) (due : List Access) (old new : Filed) → IsDirectoryCopied I L how stamp path dir depth d due old new → IsAllLeft old new
    directory_left d due old new copied C s =
        let way = copied.1.1.1 in
        let p = way_there stamp (date_of way.0 stamp) dir (drop depth d.names.items) way.1.0 old copied.0 copied.1.0 C s way.1.2 in
        let known : All (IsKnownBy I L) copied.1.1.0 = files_at d copied.1.1.2.0 copied.1.1.0 copied.1.1.2.2 in
        let a = copies_left I L how (target_at copied.0) stamp image copied.1.1.0 copied.1.0 new known copied.1.1.3 p.left p.shown in
        record { left = a.left; shown = a.shown; all = all_of_next C p.left a.left p.all a.all }

    directory_there : (d : Directory) (due : List Access) (old new : Filed) (C : Catalogue) → ShowsBy old.image old.layout C → IsDirectoryCopied I L how stamp path dir depth d due old new → HasDirectory I L how stamp dir depth d new
    directory_there d due old new C s copied =
        let way = copied.1.1.1 in
        let p = way_there stamp (date_of way.0 stamp) dir (drop depth d.names.items) way.1.0 old copied.0 copied.1.0 C s way.1.2 in
        let known : All (IsKnownBy I L) copied.1.1.0 = files_at d copied.1.1.2.0 copied.1.1.0 copied.1.1.2.2 in
        let goes : IsAllLeft copied.1.0 new = copies_left I L how (target_at copied.0) stamp image copied.1.1.0 copied.1.0 new known copied.1.1.3 in
        record {
          place = copied.0;
          way = λ D t. way_kept p.left D ((leaves_all copied.1.0 new goes p.left p.shown).1 D t) (drop depth d.names.items) dir copied.0 p.way;
          files = copied.1.1.0;
          are = copied.1.1.2;
          copies = copies_there I L how (target_at copied.0) stamp image copied.1.1.0 copied.1.0 new p.left known p.shown copied.1.1.3;
        }

    -- what is to be given then is to be given to directories
    directory_due : (d : Directory) (due : List Access) (old new : Filed) (C : Catalogue) → ShowsBy old.image old.layout C → IsDirectoryCopied I L how stamp path dir depth d due old new → All (λ (a : Access). IsDirectoryThere new a.file) due
    directory_due d due old new C s copied =
        let way = copied.1.1.1 in
        let p = way_there stamp (date_of way.0 stamp) dir (drop depth d.names.items) way.1.0 old copied.0 copied.1.0 C s way.1.2 in
        let known : All (IsKnownBy I L) copied.1.1.0 = files_at d copied.1.1.2.0 copied.1.1.0 copied.1.1.2.2 in
        let goes : IsAllLeft copied.1.0 new = copies_left I L how (target_at copied.0) stamp image copied.1.1.0 copied.1.0 new known copied.1.1.3 in
        let here = due_there how copied.1.0.user stamp (date_of way.0 stamp) path way.0 dir (drop depth d.names.items) way.1.0 old copied.0 due copied.1.0 C s way.1.2 way.1.3 in
        λ k a lt. (let x : Access = get_or due k a in directory_kept copied.1.0 new p.left p.shown goes x.file (here k a lt))

    directory_stays : (d : Directory) (mid new : Filed) (C : Catalogue) → ShowsBy mid.image mid.layout C → IsAllLeft mid new → HasDirectory I L how stamp dir depth d mid → HasDirectory I L how stamp dir depth d new
    directory_stays d mid new C s goes has =
        let known : All (IsKnownBy I L) has.files = files_at d has.are.0 has.files has.are.2 in
        record {
          place = has.place;
          way = λ D t. way_kept C D ((leaves_all mid new goes C s).1 D t) (drop depth d.names.items) dir has.place (has.way C s);
          files = has.files;
          are = has.are;
          copies = λ k f small. copy_stays I L how (target_at has.place) stamp _ image (known k f small) mid new C s goes (has.copies k f small);
        }

    tree_left : (tree : List Directory) (due : List Access) (old new : Filed) → AreDirectoriesCopied I L how stamp path dir depth tree due old new → IsAllLeft old new
    tree_left [] due old new copied = left_same old new copied.1
    tree_left (d ∷ tree) due old new copied =
        let next = copied.1.1 in left_next old next.0 new (directory_left d copied.0 old next.0 next.2) (tree_left tree copied.1.0 next.0 new next.3)

    tree_there : (tree : List Directory) (due : List Access) (old new : Filed) (C : Catalogue) → ShowsBy old.image old.layout C → AreDirectoriesCopied I L how stamp path dir depth tree due old new
        → All (λ directory. HasDirectory I L how stamp dir depth directory new) tree
    tree_there [] due old new C s copied = All-nil (λ directory. HasDirectory I L how stamp dir depth directory new)
    tree_there (d ∷ tree) due old new C s copied =
        let next = copied.1.1 in
        let first = directory_left d copied.0 old next.0 next.2 C s in
        All-cons (λ directory. HasDirectory I L how stamp dir depth directory new) d tree
        (directory_stays d next.0 new first.left first.shown (tree_left tree copied.1.0 next.0 new next.3) (directory_there d copied.0 old next.0 C s next.2))
        (tree_there tree copied.1.0 next.0 new first.left first.shown next.3)

    tree_due : (tree : List Directory) (due : List Access) (old new : Filed) (C : Catalogue) → ShowsBy old.image old.layout C → AreDirectoriesCopied I L how stamp path dir depth tree due old new
        → All (λ (a : Access). IsDirectoryThere new a.file) due
    tree_due [] due old new C s copied = subst (All (λ (a : Access). IsDirectoryThere new a.file)) (sym copied.0) (All-nil (λ (a : Access). IsDirectoryThere new a.file))
    tree_due (d ∷ tree) due old new C s copied =
        let next = copied.1.1 in
        let first = directory_left d copied.0 old next.0 next.2 C s in
        let goes : IsAllLeft next.0 new = tree_left tree copied.1.0 next.0 new next.3 in
        let here = directory_due d copied.0 old next.0 C s next.2 in
        subst (All (λ (a : Access). IsDirectoryThere new a.file)) (sym next.1)
        (All-append (λ (a : Access). IsDirectoryThere new a.file) copied.0 copied.1.0 (λ k a lt. (let x : Access = get_or copied.0 k a in directory_kept next.0 new first.left first.shown goes x.file (here k a lt)))
        (tree_due tree copied.1.0 next.0 new first.left first.shown next.3))

pub copied_tree_is_there : CopiedTreeIsThere
copied_tree_is_there I L how stamp path to old new C image shown copied =
    let tree : List Directory = copied.0 in
    let dir : FileId = copied.1.0.directory in
    let given_to = copied.1.3 in
    let due : List Access = given_to.0 in
    let filled : Filed = given_to.1.0 in
    let whole : IsAllLeft old filled = tree_left I L how stamp image path dir _ tree due old filled given_to.1.1 in
    let a = whole C shown in
    let goes : IsAllLeft filled new = left_theirs due filled new a.left a.shown (tree_due I L how stamp image path dir _ tree due old filled C shown given_to.1.1) given_to.1.2 in
    let there = tree_there I L how stamp image path dir _ tree due old filled C shown given_to.1.1 in (
      tree,
      (
        copied.1.0,
        copied.1.1,
        copied.1.2,
        λ k d lt. directory_stays I L how stamp image path dir _ (get_or tree k d) filled new a.left a.shown goes (there k d lt),
        leaves_all old new (left_next old filled new whole goes),
      ),
    )
