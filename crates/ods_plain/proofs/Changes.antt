-- A file of a catalogue that is changed where it stands.
use Rattle.std.proofs.Common.{◌≡◌, ◌≢◌, ℕ, ◌+◌, ◌<◌, ◌≤◌, max, Bool, true, false, not, List, Ok, Err, IfOk, arith, length, get_or, set, Option, Some, None, refl, sym, ap, subst, ◌∙◌, unwrap_or}
use Rattle.std.specs.Prelude.{Result}
use Rattle.std.proofs.lemmas.Bool.{leb-false}
use Rattle.std.specs.FinMap as map
use Rattle.ods_base.specs.declared.file_id.FileId.{FileId}
use Rattle.ods_base.specs.Name.{RadName, key_of}
use Rattle.ods_base.specs.declared.name.Pick.{Pick}
use Rattle.ods_base.specs.Names.{NameMap, last_version, versions_of, picked_version, entered_version}
use Rattle.ods_base.proofs.Picks.{among, greater, bounds}
use Rattle.ods_request.specs.Faults.{cannot_enter, on_file}
use Rattle.ods_request.specs.declared.refusals.Refusal.{Refusal}
use Rattle.ods_request.specs.Catalogue.{Catalogue, File, Body, names_of}
use Rattle.ods_request.specs.Steps.{put, file_at, no_file, no_id, found_version, found_file}
use Rattle.ods_request.proofs.FaultTable.{NoneHolds, IsThere}
use Rattle.ods_plain.specs.Rows.{catalogue_in, place_of}
use Rattle.ods_plain.proofs.RowLists.{IsAt, stands, set_place}

-- a file that a request names first, its place, and the row there
pub record IsFound (rows : List (FileId × File)) (past : List FileId) (protection : ℕ) (C : Catalogue) (id : FileId) (at : ℕ) (row : FileId × File) (checks : File → List (Bool × Refusal)) : Type 0 where
  pub file : File
  pub none : NoneHolds (checks file)
  pub there : map.get C.files id ≡ Some file
  pub file_is : file_at C id ≡ file
  pub row_is : row ≡ (id, file)
  pub puts : (f : File) (new : List (FileId × File)) → new ≡ set rows at (id, f) → catalogue_in new past protection ≡ put C id f

abbrev stands_at : (rows : List (FileId × File)) (past : List FileId) (protection : ℕ) (C : Catalogue) (id : FileId) (checks : File → List (Bool × Refusal))
    → catalogue_in rows past protection ≡ C → (t : IsThere (map.get C.files id) checks) → IsAt rows id t.file
stands_at rows past protection C id checks is t = stands rows id t.file (ap (λ (D : Catalogue). map.get D.files id) is ∙ t.there)

-- there is a row at its place
pub within_at : (rows : List (FileId × File)) (past : List FileId) (protection : ℕ) (C : Catalogue) (id : FileId) (at : ℕ) (checks : File → List (Bool × Refusal))
    → catalogue_in rows past protection ≡ C → at ≡ place_of id rows → IsThere (map.get C.files id) checks → at < length rows
within_at rows past protection C id at checks is place t = subst (λ n. n < length rows) (sym place) (stands_at rows past protection C id checks is t).within

pub found_at : (rows : List (FileId × File)) (past : List FileId) (protection : ℕ) (C : Catalogue) (id : FileId) (at : ℕ) (row : FileId × File) (checks : File → List (Bool × Refusal))
    → catalogue_in rows past protection ≡ C → at ≡ place_of id rows → row ≡ get_or rows at row → IsThere (map.get C.files id) checks → IsFound rows past protection C id at row checks
found_at rows past protection C id at row checks is place there t =
    let s = stands_at rows past protection C id checks is t in
    record {
      file = t.file;
      none = t.none;
      there = t.there;
      file_is = ap (λ o. unwrap_or o no_file) t.there;
      row_is = there ∙ ap (λ n. get_or rows n row) place ∙ s.row row;
      puts = λ f new e.
          ap (λ (l : List (FileId × File)). catalogue_in l past protection) (e ∙ ap (λ n. set rows n (id, f)) place)
          ∙ ap (λ m. let D : Catalogue = record { files = m; past = (catalogue_in rows past protection).past; default = protection } in D) (set_place id f rows s.within)
          ∙ ap (λ (D : Catalogue). put D id f) is;
    }

-- so it is, by the table of the request's refusals
abbrev pub FoundBy : (rows : List (FileId × File)) (past : List FileId) (protection : ℕ) (C : Catalogue) (id : FileId) (at : ℕ) (row : FileId × File) (x : Option Refusal) (checks : File → List (Bool × Refusal))
    → x ≡ on_file (map.get C.files id) checks → Type 0
FoundBy rows past protection C id at row x checks table = IsFound rows past protection C id at row checks

-- a file that a request names first is there, where the request is not refused
pub is_there : (o : Option File) (checks : File → List (Bool × Refusal)) → on_file o checks ≡ None → o ≢ None
is_there None checks h = absurd (cc)
is_there (Some f) checks h = λ e. absurd (cc)

-- what a directory's body finds is found in the file that has it
pub found_in : (C : Catalogue) (dir : FileId) (name : RadName) (pick : Pick) (body : Body) (file : FileId) (version : ℕ) → body ≡ (file_at C dir).body
    → version ≡ unwrap_or (picked_version (names_of body) name pick) 0 → file ≡ unwrap_or (map.get (names_of body) (key_of name version)) no_id
    → (file ≡ found_file C dir name pick) × (version ≡ found_version C dir name pick)
found_in C dir name pick body file version is v f =
    let same : version ≡ found_version C dir name pick = v ∙ ap (λ b. unwrap_or (picked_version (names_of b) name pick) 0) is in
    (f ∙ (λ i. unwrap_or (map.get (names_of (is i)) (key_of name (same i))) no_id), same)

pub not_false : (b : Bool) → not b ≡ false → b ≡ true
not_false true h = refl
not_false false h = absurd (cc)

-- what is known of an Ok, from what was
pub if_ok : {A E : Type 0} (r : Result A E) (P Q : A → Type 0) → ((x : A) → P x → Q x) → IfOk r P → IfOk r Q
if_ok (Ok x) P Q f h = f x h
if_ok (Err e) P Q f h = tt

-- where no version is given, there is one after the last
pub has_room : (m : NameMap) (n : RadName) (given : Option ℕ) → NoneHolds (cannot_enter m n given) → given ≡ None → last_version m n < 65535
has_room m n (Some v) h e = absurd (cc)
has_room m n None h e = omega (arith, leb-false 32767 (last_version m n) h.0)

-- the version under which a name is entered is not there
pub is_absent : (m : NameMap) (n : RadName) (given : Option ℕ) → length n.words ≡ 3 → NoneHolds (cannot_enter m n given) → map.contains_key m (key_of n (entered_version m n given)) ≡ false
is_absent m n (Some v) three h = h.0
is_absent m n None three h = by (map.contains_key m (key_of n (last_version m n + 1))) refl
  where
    by : (b : Bool) → map.contains_key m (key_of n (last_version m n + 1)) ≡ b → b ≡ false
    by false e = refl
    by true e =
        let above : last_version m n + 1 ≤ last_version m n = bounds max (λ a b. a ≤ b) greater (last_version m n + 1) 0 (versions_of m n) (among n three (last_version m n + 1) m ∙ e) in
        absurd (omega (arith, above))
