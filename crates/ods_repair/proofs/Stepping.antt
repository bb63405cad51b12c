-- What one Remove and one Enter make of the names of a catalogue.
use Rattle.std.proofs.Common.{◌≡◌, ℕ, ◌+◌, ◌<◌, ◌≤◌, max, refl, sym, ap, ◌∙◌, Bool, true, false, cond, List, length, Option, Some, None, is_some, unwrap_or, inl, inr, arith}
use Rattle.std.specs.Prelude.{◌⊎◌, is_none}
use Rattle.std.specs.Ordering.{eq_by_cmp, nat_cmp}
use Rattle.std.specs.Cmp.{eq_by_cmp_equiv}
use Rattle.std.specs.Cmp.Lexicographic.{slice_cmp, nat_list_cmp_total}
use Rattle.std.proofs.lemmas.Bool.{not-false}
use Rattle.std.proofs.lemmas.Option.{same_Some}
use Rattle.std.specs.FinMap as finmap
use Rattle.std.specs.FinMap.{slice_cmp-IsAntisymmetric, nat_cmp-IsAntisymmetric}
use Rattle.ods_base.specs.declared.file_id.FileId.{FileId}
use Rattle.ods_base.specs.declared.file_id.Uic.{Uic}
use Rattle.ods_base.specs.declared.name.Pick.TheVariants.{Exact}
use Rattle.ods_base.specs.Name.{RadName, key_of}
use Rattle.ods_base.specs.Names.{NameMap, last_version, picked_version, versions_of}
use Rattle.ods_base.proofs.Picks.{tied, among, bounds, greater}
use Rattle.ods_request.specs.declared.answers.Answer.{Answer}
use Rattle.ods_request.specs.declared.requests.Request.{Request}
use Rattle.ods_request.specs.declared.requests.Request.TheVariants.{Enter, Remove}
use Rattle.ods_request.specs.Catalogue.{Catalogue, File, Directory, file_cmp, names_of, is_directory}
use Rattle.ods_request.specs.Faults.{fault_of}
use Rattle.ods_request.specs.Steps.{after, change, file_at, found_version, no_file, put_body, step, with_body}
use Rattle.ods_request.proofs.FaultTable.{fault_enter, fault_remove, passed}
use Rattle.ods_request.proofs.FrameLaws.{is_none_some}
use Rattle.ods_request.proofs.StepLaws.{determined}
use Rattle.ods_state.proofs.Shown.{get_other, get_put, ids}
use Rattle.ods_repair.specs.Kept.{KeepsAll, KeepsFile}
use Rattle.ods_repair.proofs.InCatalogue.{names_in}

-- where there is a step, nothing refuses it
not_faulty : (C D : Catalogue) (who : Uic) (r : Request) (a : Answer) → step C who r a ≡ Some D → fault_of C who r ≡ None
unfolding step
not_faulty C D who r a e = is_none_some (fault_of C who r) (by (is_some (fault_of C who r)) (change C who r a) e)
  where
    by : (b : Bool) (o : Option Catalogue) → cond b None o ≡ Some D → b ≡ false
    by true o g = absurd (cc)
    by false o g = refl

-- a key is equal to itself, and to no other
pub same_key : (k : List ℕ) → eq_by_cmp (slice_cmp nat_cmp) k k ≡ true
same_key k = (eq_by_cmp_equiv nat_list_cmp_total).refl k

pub equal_keys : (q k : List ℕ) → eq_by_cmp (slice_cmp nat_cmp) q k ≡ true → q ≡ k
equal_keys q k e = slice_cmp-IsAntisymmetric nat_cmp-IsAntisymmetric q k (tied _ e)

-- One directory, which is there, has other names, and all else is as before.
pub record Renames (C D : Catalogue) (d : FileId) (names : NameMap) : Type 0 where
  pub file : File
  pub there : finmap.get C.files d ≡ Some file
  pub directory : is_directory file.body ≡ true
  pub left : finmap.get D.files d ≡ Some (with_body file (Directory names))
  pub others : (id : FileId) → eq_by_cmp file_cmp id d ≡ false → finmap.get D.files id ≡ finmap.get C.files id

-- what is put for a directory that is there renames it
renames : (C D : Catalogue) (d : FileId) (names : NameMap) (file : File) → finmap.get C.files d ≡ Some file → is_directory file.body ≡ true → D ≡ put_body C d (Directory names) → Renames C D d names
renames C D d names file there directory is =
    let at : file_at C d ≡ file = ap (λ (o : Option File). unwrap_or o no_file) there in
    record {
      file = file;
      there = there;
      directory = directory;
      left = ap (λ (E : Catalogue). finmap.get E.files d) is ∙ get_put C d (with_body (file_at C d) (Directory names)) ∙ ap (λ f. Some (with_body f (Directory names))) at;
      others = λ id other. ap (λ (E : Catalogue). finmap.get E.files id) is ∙ get_other C d (with_body (file_at C d) (Directory names)) id other;
    }

module _ (C D : Catalogue) (d : FileId) (names : NameMap) (r : Renames C D d names) where
  pub here : names_in D d ≡ names
  here = ap (λ (o : Option File). names_of (unwrap_or o no_file).body) r.left

  pub else_where : (id : FileId) → eq_by_cmp file_cmp id d ≡ false → names_in D id ≡ names_in C id
  else_where id other = ap (λ (o : Option File). names_of (unwrap_or o no_file).body) (r.others id other)

  -- the same files are there
  pub same_files : (id : FileId) → is_some (finmap.get D.files id) ≡ is_some (finmap.get C.files id)
  same_files id = elim (ids id d) [
    | inl same ↦ ap (λ q. is_some (finmap.get D.files q)) same ∙ ap is_some r.left ∙ ap is_some (sym r.there) ∙ ap (λ q. is_some (finmap.get C.files q)) (sym same)
    | inr apart ↦ ap is_some (r.others id apart.1)
  ]

  -- and each is kept, but for the names of the directory
  pub keeps : KeepsAll C D
  keeps = record { same = same_files; each = λ id f e. each id f e (ids id d) }
    where
      each : (id : FileId) (f : File) → finmap.get C.files id ≡ Some f → (id ≡ d) ⊎ ((¬ (id ≡ d)) × (eq_by_cmp file_cmp id d ≡ false)) → (g : File) × ((finmap.get D.files id ≡ Some g) × KeepsFile f g)
      each id f e (inl same) =
          let is : r.file ≡ f = same_Some r.file f (sym r.there ∙ ap (finmap.get C.files) (sym same) ∙ e) in
          let put : finmap.get D.files id ≡ Some (with_body r.file (Directory names)) = ap (finmap.get D.files) same ∙ r.left in
          (with_body r.file (Directory names), (put, (ap (λ (x : File). with_body (with_body x (Directory names)) f.body) is, λ plain. absurd (let wrong : true ≡ false = sym r.directory ∙ ap (λ (x : File). is_directory x.body) is ∙ plain in cc))))
      each id f e (inr apart) = (f, (r.others id apart.1 ∙ e, (refl, λ plain. refl)))

-- Remove takes this very entry out
pub removing : (C D : Catalogue) (who : Uic) (d : FileId) (name : RadName) (version : ℕ) (a : Answer) → step C who (Remove d name (Exact version)) a ≡ Some D
    → Renames C D d (finmap.remove (names_in C d) (key_of name version))
unfolding after
removing C D who d name version a e =
    let p = passed (finmap.get C.files d) _ (sym (fault_remove C who d name (Exact version)) ∙ not_faulty C D who (Remove d name (Exact version)) a e) in
    let made = determined C D who (Remove d name (Exact version)) a refl e in
    let at : p.file ≡ file_at C d = sym (ap (λ (o : Option File). unwrap_or o no_file) p.there) in
    let found : found_version C d name (Exact version) ≡ version = by (finmap.contains_key (names_in C d) (key_of name version)) (ap (λ (f : File). is_none (picked_version (names_of f.body) name (Exact version))) (sym at) ∙ p.none.1.1.0) in
    renames C D d (finmap.remove (names_in C d) (key_of name version)) p.file p.there (not-false (is_directory p.file.body) p.none.0) (made.1 ∙ ap (λ v. put_body C d (Directory (finmap.remove (names_in C d) (key_of name v)))) found)
  where
    by : (b : Bool) → is_none (cond b (Some version) None) ≡ false → unwrap_or (cond b (Some version) None) 0 ≡ version
    by true h = refl
    by false h = absurd (cc)

-- Enter puts the file in under a version that is not there
pub record Enters (C D : Catalogue) (d : FileId) (name : RadName) (file : FileId) : Type 0 where
  pub version : ℕ
  pub free : finmap.get (names_in C d) (key_of name version) ≡ None
  pub renamed : Renames C D d (finmap.insert (names_in C d) (key_of name version) file)

-- the version behind the last is not there
not_there : (names : NameMap) (name : RadName) → length name.words ≡ 3 → finmap.get names (key_of name (last_version names name + 1)) ≡ None
not_there names name three =
    is_none_some (finmap.get names (key_of name (last_version names name + 1))) (by (last_version names name + 1) (omega arith) (finmap.contains_key names (key_of name (last_version names name + 1))) refl)
  where
    by : (v : ℕ) → last_version names name < v → (b : Bool) → finmap.contains_key names (key_of name v) ≡ b → b ≡ false
    by v past true e = let low : v ≤ last_version names name = bounds max (λ a b. a ≤ b) greater v 0 (versions_of names name) (among name three v names ∙ e) in absurd (omega (arith, low, past))
    by v past false e = refl

pub entering : (C D : Catalogue) (who : Uic) (d file : FileId) (name : RadName) (a : Answer) → length name.words ≡ 3 → step C who (Enter d name None file) a ≡ Some D → Enters C D d name file
unfolding after
entering C D who d file name a three e =
    let p = passed (finmap.get C.files d) _ (sym (fault_enter C who d name None file) ∙ not_faulty C D who (Enter d name None file) a e) in
    let made = determined C D who (Enter d name None file) a refl e in
    record {
      version = last_version (names_in C d) name + 1;
      free = not_there (names_in C d) name three;
      renamed = renames C D d (finmap.insert (names_in C d) (key_of name (last_version (names_in C d) name + 1)) file) p.file p.there (not-false (is_directory p.file.body) p.none.1.0) made.1;
    }
