-- What is entered and removed again, or removed and entered again, leaves a catalogue as it was.
use Rattle.std.proofs.Common.{◌≡◌, ◌≢◌, ℕ, ◌+◌, ◌<◌, ◌≤◌, max, refl, sym, ap, ◌∙◌, subst, Bool, true, false, cond, List, length, Option, Some, None, is_some, unwrap_or, inl, inr, arith}
use Rattle.std.specs.Prelude.{◌⊎◌}
use Rattle.std.specs.declared.cmp.Ordering.{Ordering}
use Rattle.std.specs.Ordering.{eq_by_cmp, nat_cmp}
use Rattle.std.specs.Cmp.{IsTotalOrder, eq_by_cmp_equiv}
use Rattle.std.specs.Cmp.Lexicographic.{slice_cmp, nat_list_cmp_total}
use Rattle.std.specs.FinMap as map
use Rattle.std.specs.FinMap.{IsAntisymmetric, slice_cmp-IsAntisymmetric, nat_cmp-IsAntisymmetric}
use Rattle.std.proofs.lemmas.Bool.{not-false}
use Rattle.ods_base.specs.declared.file_id.FileId.{FileId}
use Rattle.ods_base.specs.declared.file_id.Uic.{Uic}
use Rattle.ods_base.specs.declared.name.Pick.TheVariants.{Exact}
use Rattle.ods_base.specs.Name.{RadName, key_of}
use Rattle.ods_base.specs.Names.{NameMap, last_version, picked_version, versions_of}
use Rattle.ods_base.proofs.Picks.{tied, among, bounds, greater}
use Rattle.ods_request.specs.declared.answers.Answer.{Answer}
use Rattle.ods_request.specs.declared.answers.Answer.TheVariants.{Entered}
use Rattle.ods_request.specs.declared.requests.Request.{Request}
use Rattle.ods_request.specs.declared.requests.Request.TheVariants.{Enter, Remove}
use Rattle.ods_request.specs.Catalogue.{Catalogue, File, Body, System, Directory, Plain, file_cmp, names_of, is_directory}
use Rattle.ods_request.specs.Faults.{fault_of, cannot_enter}
use Rattle.ods_request.specs.Steps.{step, change, after, answer_of, put_body, with_body, file_at, no_file, entered_version, found_version}
use Rattle.ods_request.proofs.FaultTable.{fault_enter, fault_remove, passed, NoneHolds}
use Rattle.ods_request.proofs.FrameLaws.{is_none_some, others_stay}
use Rattle.ods_request.proofs.Orders.{file_cmp-total, file_cmp-antisymmetric}
use Rattle.ods_request.proofs.StepLaws.{determined}
use Rattle.ods_state.proofs.Shown.{get_other, ids}
use Rattle.ods_upkeep.proofs.LawsShown.{HasEntry}

-- a key is equal to itself, and to no other
itself : {K : Type 0} {R : K → K → Ordering} → IsTotalOrder R → (k : K) → eq_by_cmp R k k ≡ true
itself total k = (eq_by_cmp_equiv total).refl k

equal_at : {K : Type 0} {R : K → K → Ordering} → IsAntisymmetric R → (q k : K) → eq_by_cmp R q k ≡ true → q ≡ k
equal_at apart q k e = apart q k (tied _ e)

-- what a finite map has after two changes at one key
module _ {K X : Type 0} {R : K → K → Ordering} (total : IsTotalOrder R) (apart : IsAntisymmetric R) where
  -- what was put in last counts
  put_last : (m : map.FinMap R X) (k : K) (x y : X) → map.insert (map.insert m k x) k y ≡ map.insert m k y
  put_last m k x y = map.same_map total apart (map.insert (map.insert m k x) k y) (map.insert m k y) (λ q.
      map.get-insert total (map.insert m k x) k y q ∙ ap (cond (eq_by_cmp R q k) (Some y)) (map.get-insert total m k x q) ∙ by (eq_by_cmp R q k) (map.get m q) ∙ sym (map.get-insert total m k y q))
    where
      by : (b : Bool) (o : Option X) → cond b (Some y) (cond b (Some x) o) ≡ cond b (Some y) o
      by true o = refl
      by false o = refl

  -- what is there is put in
  put_back : (m : map.FinMap R X) (k : K) (x : X) → map.get m k ≡ Some x → map.insert m k x ≡ m
  put_back m k x there = map.same_map total apart (map.insert m k x) m (λ q. map.get-insert total m k x q ∙ by q (eq_by_cmp R q k) refl)
    where
      by : (q : K) (b : Bool) → eq_by_cmp R q k ≡ b → cond b (Some x) (map.get m q) ≡ map.get m q
      by q true e = sym there ∙ ap (map.get m) (sym (equal_at apart q k e))
      by q false e = refl

  -- what was put in is taken out
  pub taken_out : (m : map.FinMap R X) (k : K) (x : X) → map.get m k ≡ None → map.remove (map.insert m k x) k ≡ m
  taken_out m k x none = map.same_map total apart (map.remove (map.insert m k x) k) m (λ q.
      map.get-remove total (map.insert m k x) k q ∙ ap (cond (eq_by_cmp R q k) None) (map.get-insert total m k x q) ∙ by q (eq_by_cmp R q k) refl)
    where
      by : (q : K) (b : Bool) → eq_by_cmp R q k ≡ b → cond b None (cond b (Some x) (map.get m q)) ≡ map.get m q
      by q true e = sym none ∙ ap (map.get m) (sym (equal_at apart q k e))
      by q false e = refl

  -- what was taken out is put in
  put_again : (m : map.FinMap R X) (k : K) (x : X) → map.get m k ≡ Some x → map.insert (map.remove m k) k x ≡ m
  put_again m k x there = map.same_map total apart (map.insert (map.remove m k) k x) m (λ q.
      map.get-insert total (map.remove m k) k x q ∙ ap (cond (eq_by_cmp R q k) (Some x)) (map.get-remove total m k q) ∙ by q (eq_by_cmp R q k) refl)
    where
      by : (q : K) (b : Bool) → eq_by_cmp R q k ≡ b → cond b (Some x) (cond b None (map.get m q)) ≡ map.get m q
      by q true e = sym there ∙ ap (map.get m) (sym (equal_at apart q k e))
      by q false e = refl

  -- what was put in is there
  pub get_here : (m : map.FinMap R X) (k : K) (x : X) → map.get (map.insert m k x) k ≡ Some x
  get_here m k x = map.get-insert total m k x k ∙ ap (λ b. cond b (Some x) (map.get m k)) (itself total k)

-- the order of keys of names
keys_apart : IsAntisymmetric (slice_cmp nat_cmp)
keys_apart = slice_cmp-IsAntisymmetric nat_cmp-IsAntisymmetric

-- a directory's body is its names
is_names : (b : Body) → is_directory b ≡ true → Directory (names_of b) ≡ b
is_names System h = absurd (cc)
is_names (Directory names) h = refl
is_names (Plain attributes blocks) h = absurd (cc)

-- the file that has got another body
file_there : (C : Catalogue) (d : FileId) (body : Body) → file_at (put_body C d body) d ≡ with_body (file_at C d) body
file_there C d body = ap (λ o. unwrap_or o no_file) (get_here file_cmp-total file_cmp-antisymmetric C.files d (with_body (file_at C d) body))

names_there : (C : Catalogue) (d : FileId) (names : NameMap) → names_of (file_at (put_body C d (Directory names)) d).body ≡ names
names_there C d names = ap (λ (f : File). names_of f.body) (file_there C d (Directory names))

-- a body that is put in twice is the one put in last
put_twice : (C : Catalogue) (d : FileId) (body other : Body) → put_body (put_body C d body) d other ≡ put_body C d other
put_twice C d body other =
    let files : map.insert (map.insert C.files d (with_body (file_at C d) body)) d (with_body (file_at (put_body C d body) d) other) ≡ map.insert C.files d (with_body (file_at C d) other) =
    ap (λ f. map.insert (map.insert C.files d (with_body (file_at C d) body)) d (with_body f other)) (file_there C d body)
    ∙ put_last file_cmp-total file_cmp-antisymmetric C.files d (with_body (file_at C d) body) (with_body (file_at C d) other) in
    λ i. record { files = files i; past = C.past; default = C.default }

-- the catalogue has this directory
record IsDirectoryOf (C : Catalogue) (d : FileId) : Type 0 where
  file : File
  there : map.get C.files d ≡ Some file
  is_directory : is_directory file.body ≡ true

-- which is put in as it is
put_as_it_is : (C : Catalogue) (d : FileId) → IsDirectoryOf C d → put_body C d (Directory (names_of (file_at C d).body)) ≡ C
put_as_it_is C d is =
    let at : file_at C d ≡ is.file = ap (λ o. unwrap_or o no_file) is.there in
    let body : Directory (names_of (file_at C d).body) ≡ is.file.body = ap (λ (f : File). Directory (names_of f.body)) at ∙ is_names is.file.body is.is_directory in
    let same : with_body (file_at C d) (Directory (names_of (file_at C d).body)) ≡ is.file = λ i. with_body (at i) (body i) in
    let files : map.insert C.files d (with_body (file_at C d) (Directory (names_of (file_at C d).body))) ≡ C.files =
    ap (map.insert C.files d) same ∙ put_back file_cmp-total file_cmp-antisymmetric C.files d is.file is.there in
    λ i. record { files = files i; past = C.past; default = C.default }

-- where there is a step, nothing refuses it
pub not_faulty : (C D : Catalogue) (who : Uic) (r : Request) (a : Answer) → step C who r a ≡ Some D → fault_of C who r ≡ None
unfolding step
not_faulty C D who r a e = is_none_some (fault_of C who r) (by (is_some (fault_of C who r)) (change C who r a) e)
  where
    by : (b : Bool) (o : Option Catalogue) → cond b None o ≡ Some D → b ≡ false
    by true o g = absurd (cc)
    by false o g = refl

-- a version that a name can be entered under is not there
not_there : (names : NameMap) (name : RadName) (given : Option ℕ) → length name.words ≡ 3 → NoneHolds (cannot_enter names name given) → map.get names (key_of name (unwrap_or given (last_version names name + 1))) ≡ None
not_there names name (Some v) three none = is_none_some (map.get names (key_of name v)) none.0
not_there names name None three none =
    is_none_some (map.get names (key_of name (last_version names name + 1))) (by (last_version names name + 1) (omega arith) (map.contains_key names (key_of name (last_version names name + 1))) refl)
  where
    by : (v : ℕ) → last_version names name < v → (b : Bool) → map.contains_key names (key_of name v) ≡ b → b ≡ false
    by v past true e = let low : v ≤ last_version names name = bounds max (λ a b. a ≤ b) greater v 0 (versions_of names name) (among name three v names ∙ e) in absurd (omega (arith, low, past))
    by v past false e = refl

-- what a step of Enter needs, answers and leaves
record IsEntering (C D : Catalogue) (d file : FileId) (name : RadName) (given : Option ℕ) (a : Answer) : Type 0 where
  directory : IsDirectoryOf C d
  open_for : NoneHolds (cannot_enter (names_of (file_at C d).body) name given)
  answer : a ≡ Entered (entered_version C d name given)
  left : D ≡ put_body C d (Directory (map.insert (names_of (file_at C d).body) (key_of name (entered_version C d name given)) file))

entering : (C D : Catalogue) (who : Uic) (d file : FileId) (name : RadName) (given : Option ℕ) (a : Answer) → step C who (Enter d name given file) a ≡ Some D → IsEntering C D d file name given a
unfolding answer_of after
entering C D who d file name given a e =
    let p = passed (map.get C.files d) _ (sym (fault_enter C who d name given file) ∙ not_faulty C D who (Enter d name given file) a e) in
    let made = determined C D who (Enter d name given file) a refl e in
    let at : p.file ≡ file_at C d = sym (ap (λ o. unwrap_or o no_file) p.there) in
    record {
      directory = record { file = p.file; there = p.there; is_directory = not-false _ p.none.1.0 };
      open_for = subst (λ (f : File). NoneHolds (cannot_enter (names_of f.body) name given)) at p.none.1.1.1;
      answer = made.0;
      left = made.1;
    }

-- it leaves the name under the version that it answers
answered : (C D : Catalogue) (dir file : FileId) (name : RadName) (given : Option ℕ) (version : ℕ) → IsEntering C D dir file name given (Entered version) → version ≡ entered_version C dir name given
answered C D dir file name given version made = one version (entered_version C dir name given) made.answer
  where
    one : (v w : ℕ) → Entered v ≡ Entered w → v ≡ w
    one v w e = cc

left_as : (C D : Catalogue) (dir file : FileId) (name : RadName) (given : Option ℕ) (version : ℕ) → IsEntering C D dir file name given (Entered version)
    → D ≡ put_body C dir (Directory (map.insert (names_of (file_at C dir).body) (key_of name version) file))
left_as C D dir file name given version made =
    made.left ∙ ap (λ v. put_body C dir (Directory (map.insert (names_of (file_at C dir).body) (key_of name v) file))) (sym (answered C D dir file name given version made))

-- what a step of Remove needs and leaves
record IsRemoving (C D : Catalogue) (d : FileId) (name : RadName) (version : ℕ) : Type 0 where
  directory : IsDirectoryOf C d
  left : D ≡ put_body C d (Directory (map.remove (names_of (file_at C d).body) (key_of name (found_version C d name (Exact version)))))

removing : (C D : Catalogue) (who : Uic) (d : FileId) (name : RadName) (version : ℕ) (a : Answer) → step C who (Remove d name (Exact version)) a ≡ Some D → IsRemoving C D d name version
unfolding after
removing C D who d name version a e =
    let p = passed (map.get C.files d) _ (sym (fault_remove C who d name (Exact version)) ∙ not_faulty C D who (Remove d name (Exact version)) a e) in
    let made = determined C D who (Remove d name (Exact version)) a refl e in
    record { directory = record { file = p.file; there = p.there; is_directory = not-false _ p.none.0 }; left = made.1 }

-- a version that is there is the one that is found
found_itself : (names : NameMap) (name : RadName) (version : ℕ) (file : FileId) → map.get names (key_of name version) ≡ Some file → unwrap_or (picked_version names name (Exact version)) 0 ≡ version
found_itself names name version file there = ap (λ (o : Option FileId). unwrap_or (cond (is_some o) (Some version) None) 0) there

-- The answer to an Enter says the version under which the name is entered.
pub answered_as : (C D : Catalogue) (who : Uic) (dir file : FileId) (name : RadName) (given : Option ℕ) (a : Answer) → step C who (Enter dir name given file) a ≡ Some D → a ≡ Entered (entered_version C dir name given)
answered_as C D who dir file name given a e = (entering C D who dir file name given a e).answer

-- Each file that is no directory stays as it is when a file is entered.
pub plain_stays : (C D : Catalogue) (who : Uic) (dir file : FileId) (name : RadName) (given : Option ℕ) (a : Answer) (q : FileId) (f : File) → step C who (Enter dir name given file) a ≡ Some D
    → map.get C.files q ≡ Some f → is_directory f.body ≡ false → map.get D.files q ≡ Some f
plain_stays C D who dir file name given a q f e there plain =
    others_stay C D who (Enter dir name given file) a q e (apart (entering C D who dir file name given a e).directory) ∙ there
  where
    one_file : (x y : File) → Some x ≡ Some y → x ≡ y
    one_file x y g = cc

    apart : IsDirectoryOf C dir → Some dir ≡ Some q → ⊥
    apart is same =
        let one : dir ≡ q = cc in
        let is_that : is.file ≡ f = one_file is.file f (sym is.there ∙ ap (map.get C.files) one ∙ there) in
        let wrong : true ≡ false = sym is.is_directory ∙ ap (λ (g : File). is_directory g.body) is_that ∙ plain in
        absurd (cc)

-- Each directory stays one when a file is entered.
pub directory_stays : (C D : Catalogue) (who : Uic) (dir file : FileId) (name : RadName) (given : Option ℕ) (version : ℕ) (q : FileId) (f : File) → step C who (Enter dir name given file) (Entered version) ≡ Some D
    → map.get C.files q ≡ Some f → is_directory f.body ≡ true → (g : File) × ((map.get D.files q ≡ Some g) × (is_directory g.body ≡ true))
directory_stays C D who dir file name given version q f e there is = by (ids q dir)
  where
    names : NameMap
    names = map.insert (names_of (file_at C dir).body) (key_of name version) file

    same_one : (x y : FileId) → Some x ≡ Some y → x ≡ y
    same_one x y g = cc

    by : (q ≡ dir) ⊎ ((q ≢ dir) × (eq_by_cmp file_cmp q dir ≡ false)) → (g : File) × ((map.get D.files q ≡ Some g) × (is_directory g.body ≡ true))
    by (inl same) = (
      with_body (file_at C dir) (Directory names),
      (
        ap (map.get D.files) same
            ∙ ap (λ (F : Catalogue). map.get F.files dir) (left_as C D dir file name given version (entering C D who dir file name given (Entered version) e))
            ∙ get_here file_cmp-total file_cmp-antisymmetric C.files dir (with_body (file_at C dir) (Directory names)),
        refl,
      ),
    )
    by (inr apart) = (f, (others_stay C D who (Enter dir name given file) (Entered version) q e (λ same. apart.0 (sym (same_one dir q same))) ∙ there, is))

-- so does the file that is entered
pub other_file : (C D : Catalogue) (who : Uic) (dir file : FileId) (name : RadName) (given : Option ℕ) (a : Answer) (f : File) → step C who (Enter dir name given file) a ≡ Some D
    → map.get C.files file ≡ Some f → is_directory f.body ≡ false → map.get D.files file ≡ Some f
other_file C D who dir file name given a f e there plain = plain_stays C D who dir file name given a file f e there plain

-- The name that was entered is there.
pub entered_there : (C D : Catalogue) (who : Uic) (dir file : FileId) (name : RadName) (given : Option ℕ) (version : ℕ) → step C who (Enter dir name given file) (Entered version) ≡ Some D → HasEntry D dir name version file
entered_there C D who dir file name given version e =
    let made = entering C D who dir file name given (Entered version) e in
    let names : NameMap = map.insert (names_of (file_at C dir).body) (key_of name version) file in
    record {
      directory = with_body (file_at C dir) (Directory names);
      there = ap (λ (F : Catalogue). map.get F.files dir) (left_as C D dir file name given version made) ∙ get_here file_cmp-total file_cmp-antisymmetric C.files dir (with_body (file_at C dir) (Directory names));
      names = names;
      body = refl;
      has = get_here nat_list_cmp_total keys_apart (names_of (file_at C dir).body) (key_of name version) file;
    }

-- Each entry of the file that was there is there when the file is entered under a further name.
pub entry_stays : (C D : Catalogue) (who : Uic) (dir file : FileId) (name : RadName) (given : Option ℕ) (version : ℕ) (other : FileId) (key : List ℕ) → step C who (Enter dir name given file) (Entered version) ≡ Some D
    → map.get (names_of (file_at C other).body) key ≡ Some file → map.get (names_of (file_at D other).body) key ≡ Some file
entry_stays C D who dir file name given version other key e there =
    let made = entering C D who dir file name given (Entered version) e in
    ap (λ (F : Catalogue). map.get (names_of (file_at F other).body) key) (left_as C D dir file name given version made) ∙ by (ids other dir)
  where
    either : (b : Bool) (o : Option FileId) → o ≡ Some file → cond b (Some file) o ≡ Some file
    either true o h = refl
    either false o h = h

    by : (other ≡ dir) ⊎ ((other ≢ dir) × (eq_by_cmp file_cmp other dir ≡ false)) → map.get (names_of (file_at (put_body C dir (Directory (map.insert (names_of (file_at C dir).body) (key_of name version) file))) other).body) key ≡ Some file
    by (inl is) =
        ap (λ d. map.get (names_of (file_at (put_body C dir (Directory (map.insert (names_of (file_at C dir).body) (key_of name version) file))) d).body) key) is
        ∙ ap (λ m. map.get m key) (names_there C dir (map.insert (names_of (file_at C dir).body) (key_of name version) file))
        ∙ map.get-insert nat_list_cmp_total (names_of (file_at C dir).body) (key_of name version) file key
        ∙ either (eq_by_cmp (slice_cmp nat_cmp) key (key_of name version)) (map.get (names_of (file_at C dir).body) key) (ap (λ d. map.get (names_of (file_at C d).body) key) (sym is) ∙ there)
    by (inr apart) =
        ap (λ o. map.get (names_of (unwrap_or o no_file).body) key) (get_other C dir (with_body (file_at C dir) (Directory (map.insert (names_of (file_at C dir).body) (key_of name version) file))) other apart.1) ∙ there

-- Each entry that was there is there when a file is entered.
pub entries_stay : (C D : Catalogue) (who : Uic) (dir file : FileId) (name : RadName) (given : Option ℕ) (version : ℕ) (other : FileId) (key : List ℕ) (held : FileId) → length name.words ≡ 3
    → step C who (Enter dir name given file) (Entered version) ≡ Some D → map.get (names_of (file_at C other).body) key ≡ Some held → map.get (names_of (file_at D other).body) key ≡ Some held
entries_stay C D who dir file name given version other key held three e there =
    let made = entering C D who dir file name given (Entered version) e in
    let none : map.get (names_of (file_at C dir).body) (key_of name version) ≡ None =
    ap (λ v. map.get (names_of (file_at C dir).body) (key_of name v)) (answered C D dir file name given version made) ∙ not_there (names_of (file_at C dir).body) name given three made.open_for in
    ap (λ (F : Catalogue). map.get (names_of (file_at F other).body) key) (left_as C D dir file name given version made) ∙ by none (ids other dir)
  where
    either : (m : NameMap) (k q : List ℕ) (b : Bool) → eq_by_cmp (slice_cmp nat_cmp) q k ≡ b → map.get m k ≡ None → map.get m q ≡ Some held → cond b (Some file) (map.get m q) ≡ Some held
    either m k q true h none there = absurd (let wrong : None ≡ Some held = sym none ∙ ap (map.get m) (sym (equal_at keys_apart q k h)) ∙ there in cc)
    either m k q false h none there = there

    by : map.get (names_of (file_at C dir).body) (key_of name version) ≡ None → (other ≡ dir) ⊎ ((other ≢ dir) × (eq_by_cmp file_cmp other dir ≡ false))
        → map.get (names_of (file_at (put_body C dir (Directory (map.insert (names_of (file_at C dir).body) (key_of name version) file))) other).body) key ≡ Some held
    by none (inl is) =
        ap (λ d. map.get (names_of (file_at (put_body C dir (Directory (map.insert (names_of (file_at C dir).body) (key_of name version) file))) d).body) key) is
        ∙ ap (λ m. map.get m key) (names_there C dir (map.insert (names_of (file_at C dir).body) (key_of name version) file))
        ∙ map.get-insert nat_list_cmp_total (names_of (file_at C dir).body) (key_of name version) file key
        ∙ either (names_of (file_at C dir).body) (key_of name version) key (eq_by_cmp (slice_cmp nat_cmp) key (key_of name version)) refl none (ap (λ d. map.get (names_of (file_at C d).body) key) (sym is) ∙ there)
    by none (inr apart) =
        ap (λ o. map.get (names_of (unwrap_or o no_file).body) key) (get_other C dir (with_body (file_at C dir) (Directory (map.insert (names_of (file_at C dir).body) (key_of name version) file))) other apart.1) ∙ there

-- A name that is entered and removed again leaves the catalogue as it was.
pub entered_and_removed : (C D E : Catalogue) (who other : Uic) (dir file : FileId) (name : RadName) (given : Option ℕ) (version : ℕ) (a : Answer) → length name.words ≡ 3
    → step C who (Enter dir name given file) (Entered version) ≡ Some D → step D other (Remove dir name (Exact version)) a ≡ Some E → E ≡ C
entered_and_removed C D E who other dir file name given version a three first last =
    let old : NameMap = names_of (file_at C dir).body in
    let key : List ℕ = key_of name version in
    let made = entering C D who dir file name given (Entered version) first in
    let gone = removing D E other dir name version a last in
    let none : map.get old key ≡ None = ap (λ v. map.get old (key_of name v)) (answered C D dir file name given version made) ∙ not_there old name given three made.open_for in
    let mid : NameMap = map.insert old key file in
    let left : D ≡ put_body C dir (Directory mid) = left_as C D dir file name given version made in
    let names : names_of (file_at D dir).body ≡ mid = ap (λ (F : Catalogue). names_of (file_at F dir).body) left ∙ names_there C dir mid in
    let there : map.get (names_of (file_at D dir).body) key ≡ Some file = ap (λ m. map.get m key) names ∙ get_here nat_list_cmp_total keys_apart old key file in
    let found : found_version D dir name (Exact version) ≡ version = found_itself (names_of (file_at D dir).body) name version file there in
    gone.left
    ∙ (λ i. put_body (left i) dir (Directory (map.remove (names i) (key_of name (found i)))))
    ∙ put_twice C dir (Directory mid) (Directory (map.remove mid key))
    ∙ ap (λ m. put_body C dir (Directory m)) (taken_out nat_list_cmp_total keys_apart old key file none)
    ∙ put_as_it_is C dir made.directory

-- A name that is removed and entered again leaves the catalogue as it was.
pub removed_and_entered : (C D E : Catalogue) (who other : Uic) (dir file : FileId) (name : RadName) (version : ℕ) (a b : Answer) → map.get (names_of (file_at C dir).body) (key_of name version) ≡ Some file
    → step C who (Remove dir name (Exact version)) a ≡ Some D → step D other (Enter dir name (Some version) file) b ≡ Some E → E ≡ C
removed_and_entered C D E who other dir file name version a b there first last =
    let old : NameMap = names_of (file_at C dir).body in
    let key : List ℕ = key_of name version in
    let gone = removing C D who dir name version a first in
    let made = entering D E other dir file name (Some version) b last in
    let found : found_version C dir name (Exact version) ≡ version = found_itself old name version file there in
    let left : D ≡ put_body C dir (Directory (map.remove old key)) = gone.left ∙ ap (λ v. put_body C dir (Directory (map.remove old (key_of name v)))) found in
    let names : names_of (file_at D dir).body ≡ map.remove old key = ap (λ (F : Catalogue). names_of (file_at F dir).body) left ∙ names_there C dir (map.remove old key) in
    made.left
    ∙ (λ i. put_body (left i) dir (Directory (map.insert (names i) key file)))
    ∙ put_twice C dir (Directory (map.remove old key)) (Directory (map.insert (map.remove old key) key file))
    ∙ ap (λ m. put_body C dir (Directory m)) (put_again nat_list_cmp_total keys_apart old key file there)
    ∙ put_as_it_is C dir gone.directory
