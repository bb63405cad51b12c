-- Why an entry that names no file is not removed: there is no memory.
use Rattle.std.proofs.Common.{◌≡◌, ℕ, refl, sym, ap, ◌∙◌, subst, Bool, true, false, cond, not, List, [], ◌∷◌, ◌++◌, length, Option, Some, None, is_some, unwrap_or, slice_get, inl, inr, arith}
use Rattle.std.specs.Prelude.{◌⊎◌, MatchOption, is_none}
use Rattle.std.specs.FinMap as finmap
use Rattle.std.specs.FinMap.{get-empty}
use Rattle.std.specs.Ordering.{nat_cmp}
use Rattle.std.specs.declared.cmp.Ordering.TheVariants.{Less, Equal}
use Rattle.std.specs.Cmp.{tied_itself}
use Rattle.std.specs.Cmp.Lexicographic.{slice_cmp, nat_list_cmp_total}
use Rattle.std.proofs.lemmas.List.{length-append, get_or_append_left}
use Rattle.std.proofs.lemmas.Option.{get_or_from_slice_get, same_Some, slice_get-get_or, slice_get_within}
use Rattle.ods_base.specs.declared.file_id.FileId.{FileId}
use Rattle.ods_base.specs.declared.file_id.Uic.{Uic}
use Rattle.ods_base.specs.declared.name.Pick.TheVariants.{Exact}
use Rattle.ods_base.specs.Name.{RadName, key_of}
use Rattle.ods_base.specs.Names.{name_of, picked_version, version_of}
use Rattle.ods_mount.specs.Sound.{IsSoundBy}
use Rattle.ods_request.specs.declared.refusals.Refusal.{Refusal}
use Rattle.ods_request.specs.declared.refusals.Refusal.TheVariants as refusal
use Rattle.ods_request.specs.declared.requests.Request.TheVariants.{Remove}
use Rattle.ods_request.specs.declared.rights.Right.TheVariants as right
use Rattle.ods_request.specs.Catalogue.{Body, Catalogue, File, System, Directory, Plain, is_directory, names_of}
use Rattle.ods_request.specs.Faults.{fault_of, first_of, is_denied, on_file}
use Rattle.ods_request.specs.Steps.{no_file}
use Rattle.ods_request.proofs.FaultTable.{fault_remove}
use Rattle.ods_state.specs.Served.{IsShortOf}
use Rattle.ods_state.proofs.Exists.{the_catalogue, is_shown}
use Rattle.ods_check.specs.declared.dangling_list.Dangling.{Dangling}
use Rattle.ods_check.specs.Findings.{id_at}
use Rattle.ods_check.specs.Repairs.{AreDangling, IsDangling, Precedes}
use Rattle.ods_check.proofs.Turning.{at_place}
use Rattle.ods_filing.specs.Filed.{Filed, IsRefusedFor}
use Rattle.ods_repair.specs.Asked.{StopsAt}
use Rattle.ods_repair.specs.Cleared.{removal_of}
use Rattle.ods_state.specs.Contents.{ShowsBy}
use Rattle.ods_repair.proofs.Bare.{names_worded, worded, worded_shown}
use Rattle.ods_repair.proofs.InCatalogue.{name_there, names_in}
use Rattle.ods_repair.proofs.Shedding.{one_is, sheds_all}

-- what has a name is a directory
is_one_with_names : (b : Body) (key : List ℕ) (file : FileId) → finmap.get (names_of b) key ≡ Some file → is_directory b ≡ true
is_one_with_names System key file e = absurd (let wrong : None ≡ Some file = sym (get-empty {X = FileId} (slice_cmp nat_cmp) key) ∙ e in cc)
is_one_with_names (Directory names) key file e = refl
is_one_with_names (Plain attributes blocks) key file e = absurd (let wrong : None ≡ Some file = sym (get-empty {X = FileId} (slice_cmp nat_cmp) key) ∙ e in cc)

-- an entry that is there is not removed where the right is denied, and for no other fault
fault_is : (C : Catalogue) (who : Uic) (dir : FileId) (name : RadName) (version : ℕ) (file : FileId) → finmap.get (names_in C dir) (key_of name version) ≡ Some file
    → (fault_of C who (Remove dir name (Exact version)) ≡ Some refusal.Denied) ⊎ (fault_of C who (Remove dir name (Exact version)) ≡ None)
fault_is C who dir name version file there = by (finmap.get C.files dir) refl
  where
    rows : (d n : Bool) (b : Bool) → d ≡ true → n ≡ false → (first_of ((not d, refusal.NotADirectory) ∷ (b, refusal.Denied) ∷ (n, refusal.NoSuchName) ∷ []) ≡ Some refusal.Denied)
        ⊎ (first_of ((not d, refusal.NotADirectory) ∷ (b, refusal.Denied) ∷ (n, refusal.NoSuchName) ∷ []) ≡ None)
    rows true false true is none = inl refl
    rows true false false is none = inr refl
    rows true true b is none = absurd (cc)
    rows false n b is none = absurd (cc)

    by : (o : Option File) → finmap.get C.files dir ≡ o → (fault_of C who (Remove dir name (Exact version)) ≡ Some refusal.Denied) ⊎ (fault_of C who (Remove dir name (Exact version)) ≡ None)
    by None none =
        absurd (let wrong : None ≡ Some file = sym (get-empty {X = FileId} (slice_cmp nat_cmp) (key_of name version)) ∙ ap (λ (o : Option File). finmap.get (names_of (unwrap_or o no_file).body) (key_of name version)) (sym none) ∙ there in cc)
    by (Some f) is =
        let has : finmap.get (names_of f.body) (key_of name version) ≡ Some file = ap (λ (o : Option File). finmap.get (names_of (unwrap_or o no_file).body) (key_of name version)) (sym is) ∙ there in
        let picked : is_none (picked_version (names_of f.body) name (Exact version)) ≡ false = ap (λ (o : Option FileId). is_none (cond (is_some o) (Some version) None)) has in
        let table = fault_remove C who dir name (Exact version) ∙ ap (λ o. on_file o (λ (d : File).
        (not (is_directory d.body), refusal.NotADirectory) ∷ (is_denied d who right.Write, refusal.Denied) ∷ (is_none (picked_version (names_of d.body) name (Exact version)), refusal.NoSuchName) ∷ [])) is in
        elim (rows (is_directory f.body) (is_none (picked_version (names_of f.body) name (Exact version))) (is_denied f who right.Write) (is_one_with_names f.body (key_of name version) file has) picked) [
          | inl denied ↦ inl (table ∙ denied)
          | inr none ↦ inr (table ∙ none)
        ]

-- the place behind the first list
seam : {X : Type 0} (xs ys : List X) (x : X) → slice_get (xs ++ x ∷ ys) (length xs) ≡ Some x
seam [] ys x = refl
seam (y ∷ xs) ys x = seam xs ys x

-- and one in the first list
in_first : {X : Type 0} (xs ys : List X) (i : ℕ) (x : X) → slice_get xs i ≡ Some x → slice_get (xs ++ ys) i ≡ Some x
in_first xs ys i x at =
    let within = slice_get_within xs i x at in
    slice_get-get_or (xs ++ ys) i x (omega (arith, within, length-append xs ys)) ∙ ap Some (get_or_append_left xs ys x i within ∙ get_or_from_slice_get xs i x x at)

-- none comes before itself
not_before_itself : (x : Dangling) → Precedes x x → ⊥
not_before_itself x (inl less) = absurd (omega (arith, less))
not_before_itself x (inr (number, before)) = absurd (let wrong : Equal ≡ Less = sym (tied_itself nat_list_cmp_total (key_of x.line.name x.line.version)) ∙ before in cc)

module _ (old new : Filed) (before : IsSoundBy old.image old.layout) (found : List Dangling) (are : AreDangling old.image old.layout found) (x : Dangling) (reason : Refusal) (stop : StopsAt removal_of old found new x reason) where
  -- one of those before it is another entry
  other_entry : (C : Catalogue) → C ≡ the_catalogue old.image old.layout before → (i : ℕ) (y : Dangling) → slice_get stop.before i ≡ Some y → y.directory ≡ x.directory → key_of y.line.name y.line.version ≡ key_of x.line.name x.line.version → ⊥
  other_entry C is i y at dir key =
      let shown = is_shown old.image old.layout before in
      let first : slice_get found i ≡ Some y = ap (λ l. slice_get l i) stop.order ∙ in_first stop.before (x ∷ stop.behind) i y at in
      let second : slice_get found (length stop.before) ≡ Some x = ap (λ l. slice_get l (length stop.before)) stop.order ∙ seam stop.before stop.behind x in
      let one : IsDangling old.image old.layout y = at_place (IsDangling old.image old.layout) found i y are.each first in
      let other : IsDangling old.image old.layout x = at_place (IsDangling old.image old.layout) found (length stop.before) x are.each second in
      let e = name_there old.image old.layout before (the_catalogue old.image old.layout before) shown y.directory.number y.line one.0.0 in
      let f = name_there old.image old.layout before (the_catalogue old.image old.layout before) shown x.directory.number x.line other.0.0 in
      let keys : e.0.key ≡ f.0.key = sym e.1.1 ∙ key ∙ f.1.1 in
      let ids : id_at old.image old.layout y.directory.number ≡ id_at old.image old.layout x.directory.number = sym one.1 ∙ dir ∙ other.1 in
      let name = sym e.0.name ∙ ap name_of keys ∙ f.0.name in
      let version = sym e.0.version ∙ ap version_of keys ∙ f.0.version in
      let file = same_Some y.line.file x.line.file (sym e.0.there ∙ (λ j. finmap.get (names_in (the_catalogue old.image old.layout before) (ids j)) (keys j)) ∙ f.0.there) in
      let same : y ≡ x = λ j. record { directory = dir j; line = record { name = name j; version = version j; file = file j } } in
      not_before_itself x (subst (λ z. Precedes z x) same (are.rising i (length stop.before) y x first second (slice_get_within stop.before i y at)))

  -- why a volume that shows the entry refuses to remove it: only for want of memory
  why_refused : (volume : Filed) (C : Catalogue) → ShowsBy volume.image volume.layout C → finmap.get (names_in C x.directory) (key_of x.line.name x.line.version) ≡ Some x.line.file → IsRefusedFor volume (removal_of x) reason → reason ≡ refusal.NoMemory
  why_refused volume C shown there refused = elim (fault_is C volume.user x.directory x.line.name x.line.version x.line.file there) [
    | inl fault ↦ absurd (stop.undenied (subst (λ o. MatchOption o (IsShortOf volume.image volume.layout (removal_of x) reason) (λ g. reason ≡ g)) fault (refused C shown)))
    | inr none ↦ short (subst (λ o. MatchOption o (IsShortOf volume.image volume.layout (removal_of x) reason) (λ g. reason ≡ g)) none (refused C shown))
  ]
    where
      short : IsShortOf volume.image volume.layout (removal_of x) reason → reason ≡ refusal.NoMemory
      short (inl lacks) = absurd lacks.wants
      short (inr memory) = memory.0

  pub no_memory : reason ≡ refusal.NoMemory
  no_memory =
      let C = the_catalogue old.image old.layout before in
      let shown = is_shown old.image old.layout before in
      let last = sheds_all old stop.mid stop.before C shown stop.asked in
      let second : slice_get found (length stop.before) ≡ Some x = ap (λ l. slice_get l (length stop.before)) stop.order ∙ seam stop.before stop.behind x in
      let here : IsDangling old.image old.layout x = at_place (IsDangling old.image old.layout) found (length stop.before) x are.each second in
      let e = name_there old.image old.layout before C shown x.directory.number x.line here.0.0 in
      elim (last.2.rest (id_at old.image old.layout x.directory.number) e.0.key x.line.file e.0.there) [
        | inl there ↦
            let is : finmap.get (names_in last.0 x.directory) (key_of x.line.name x.line.version) ≡ Some x.line.file = (λ j. finmap.get (names_in last.0 (here.1 j)) (e.1.1 j)) ∙ there in
            elim stop.left [
              | inl plain ↦ why_refused stop.mid last.0 last.1 is plain.0
              | inr other ↦ elim other [
                | inl bare ↦
                    why_refused bare.bare (worded last.0 bare.dir 0) (worded_shown stop.mid bare.bare bare.dir 0 bare.bared last.0 last.1)
                    (ap (λ m. finmap.get m (key_of x.line.name x.line.version)) ((λ j. names_in (worded last.0 bare.dir 0) (bare.names j)) ∙ names_worded last.0 bare.dir 0 ∙ (λ j. names_in last.0 (sym bare.names j))) ∙ is)
                    bare.refused
                | inr memory ↦ memory.0
              ]
            ]
        | inr gone ↦
            let y = one_is stop.before (id_at old.image old.layout x.directory.number) e.0.key gone in
            absurd (other_entry C refl y.0 y.1.0 y.1.1.0 (sym y.1.1.1.0 ∙ sym here.1) (sym y.1.1.1.1 ∙ sym e.1.1))
      ]
