-- Why a name that was entered is found, and one that was removed is not.
use Rattle.std.proofs.Common.{◌≡◌, ℕ, refl, sym, ap, ◌∙◌, true, cond, List, [], ◌∷◌, Option, Some, None, IsTrue, is_some, unwrap_or}
use Rattle.std.specs.Prelude.{not, is_none}
use Rattle.std.specs.Ordering.{eq_by_cmp, nat_cmp}
use Rattle.std.specs.Cmp.{eq_by_cmp_equiv}
use Rattle.std.specs.Cmp.Lexicographic.{slice_cmp, nat_list_cmp_total}
use Rattle.std.specs.FinMap as map
use Rattle.ods_base.specs.declared.file_id.Uic.{Uic}
use Rattle.ods_base.specs.declared.file_id.FileId.{FileId}
use Rattle.ods_base.specs.declared.name.Pick.{Pick}
use Rattle.ods_base.specs.declared.name.Pick.TheVariants.{Exact}
use Rattle.ods_base.specs.Name.{RadName, key_of}
use Rattle.ods_base.specs.Names.{NameMap, picked_version}
use Rattle.ods_request.specs.declared.refusals.Refusal.TheVariants as refusal
use Rattle.ods_request.specs.declared.requests.Request.TheVariants.{Enter, LookUp, Remove}
use Rattle.ods_request.specs.declared.answers.Answer.TheVariants.{Entered, Found, Removed}
use Rattle.ods_request.specs.declared.rights.Right.TheVariants as right
use Rattle.ods_request.specs.Rights.{permits}
use Rattle.ods_request.specs.Catalogue.{Catalogue, File, Body, Directory, names_of, is_directory}
use Rattle.ods_request.specs.Faults.{fault_of, first_of, on_file, is_denied}
use Rattle.ods_request.specs.Steps.{step, after, answer_of, with_body, put_body, file_at, no_file, no_id, entered_version, found_version, found_file}
use Rattle.ods_request.specs.Laws.{may_read, EnteredIsFound, RemovedIsGone}
use Rattle.ods_request.proofs.FaultTable.{fault_look_up}
use Rattle.ods_request.proofs.Orders.{file_cmp-total}
use Rattle.ods_request.proofs.StepLaws.{determined, stepped}
use Rattle.ods_request.proofs.FrameLaws.{is_id-itself}

-- the file whose body was put in
get-put_body : (C : Catalogue) (id : FileId) (body : Body) → map.get (put_body C id body).files id ≡ Some (with_body (file_at C id) body)
get-put_body C id body =
    map.get-insert file_cmp-total C.files id (with_body (file_at C id) body) id
    ∙ ap (λ b. cond b (Some (with_body (file_at C id) body)) (map.get C.files id)) (is_id-itself id)

-- what stands under a key that was just put in, or taken out
key-itself : (k : List ℕ) → eq_by_cmp (slice_cmp nat_cmp) k k ≡ true
key-itself k = (eq_by_cmp_equiv nat_list_cmp_total).refl k

get-entered : (names : NameMap) (k : List ℕ) (file : FileId) → map.get (map.insert names k file) k ≡ Some file
get-entered names k file = map.get-insert nat_list_cmp_total names k file k ∙ ap (λ b. cond b (Some file) (map.get names k)) (key-itself k)

get-removed : (names : NameMap) (k : List ℕ) → map.get (map.remove names k) k ≡ None
get-removed names k = map.get-remove nat_list_cmp_total names k k ∙ ap (λ b. cond b None (map.get names k)) (key-itself k)

-- a directory as it is read by someone who may
record IsSeen (D : Catalogue) (reader : Uic) (dir : FileId) (names : NameMap) : Type 0 where
  file : File
  there : map.get D.files dir ≡ Some file
  is_directory : file.body ≡ Directory names
  may_read : permits reader file.owner file.protection right.Read ≡ true

-- a directory whose names were just changed is seen so
seen_after : (C D : Catalogue) (reader : Uic) (dir : FileId) (names : NameMap) → D ≡ put_body C dir (Directory names) → IsTrue (may_read D reader dir) → IsSeen D reader dir names
seen_after C D reader dir names is may =
    let there : map.get D.files dir ≡ Some (with_body (file_at C dir) (Directory names)) = ap (λ (E : Catalogue). map.get E.files dir) is ∙ get-put_body C dir (Directory names) in
    record {
      file = with_body (file_at C dir) (Directory names);
      there = there;
      is_directory = refl;
      may_read = sym (ap (λ o. permits reader (unwrap_or o no_file).owner (unwrap_or o no_file).protection right.Read) there) ∙ may;
    }

-- the one refusal that a look at a version still can meet
look-fault : (D : Catalogue) (reader : Uic) (dir : FileId) (name : RadName) (v : ℕ) (names : NameMap) → IsSeen D reader dir names
    → fault_of D reader (LookUp dir name (Exact v)) ≡ first_of ((is_none (picked_version names name (Exact v)), refusal.NoSuchName) ∷ [])
look-fault D reader dir name v names seen =
    fault_look_up D reader dir name (Exact v)
    ∙ ap (λ o. on_file o (λ d.
    (not (is_directory d.body), refusal.NotADirectory) ∷ (is_denied d reader right.Read, refusal.Denied)
    ∷ (is_none (picked_version (names_of d.body) name (Exact v)), refusal.NoSuchName) ∷ [])) seen.there
    ∙ (λ i. first_of ((not (is_directory (seen.is_directory i)), refusal.NotADirectory) ∷ (not (seen.may_read i), refusal.Denied)
    ∷ (is_none (picked_version (names_of (seen.is_directory i)) name (Exact v)), refusal.NoSuchName) ∷ []))

-- what the version given means, by whether it is there
exact-picked : (names : NameMap) (name : RadName) (v : ℕ) (o : Option FileId) → map.get names (key_of name v) ≡ o → picked_version names name (Exact v) ≡ cond (is_some o) (Some v) None
exact-picked names name v o e = ap (λ g. cond (is_some g) (Some v) None) e

-- a look that finds the version
found-answer : (D : Catalogue) (reader : Uic) (dir : FileId) (name : RadName) (v : ℕ) (file : FileId) (names : NameMap) → IsSeen D reader dir names
    → map.get names (key_of name v) ≡ Some file → answer_of D (LookUp dir name (Exact v)) ≡ Found file v
unfolding answer_of
found-answer D reader dir name v file names seen there =
    let body : (file_at D dir).body ≡ Directory names = ap (λ o. (unwrap_or o no_file).body) seen.there ∙ seen.is_directory in
    let version : found_version D dir name (Exact v) ≡ v = ap (λ b. unwrap_or (picked_version (names_of b) name (Exact v)) 0) body ∙ ap (λ o. unwrap_or o 0) (exact-picked names name v (Some file) there) in
    let found : found_file D dir name (Exact v) ≡ file = (λ i. unwrap_or (map.get (names_of (body i)) (key_of name (version i))) no_id) ∙ ap (λ o. unwrap_or o no_id) there in
    λ i. Found (found i) (version i)

looks-on : (D : Catalogue) (dir : FileId) (name : RadName) (pick : Pick) → after D (LookUp dir name pick) ≡ D
unfolding after
looks-on D dir name pick = refl

-- what a step of Enter answers and leaves
entered : (C : Catalogue) (dir : FileId) (name : RadName) (given : Option ℕ) (file : FileId) (version : ℕ) → Entered version ≡ answer_of C (Enter dir name given file)
    → (version ≡ entered_version C dir name given) × (after C (Enter dir name given file) ≡ put_body C dir (Directory (map.insert (names_of (file_at C dir).body) (key_of name (entered_version C dir name given)) file)))
unfolding answer_of after
entered C dir name given file version e = (cc, refl)

removed : (C : Catalogue) (dir : FileId) (name : RadName) (pick : Pick) (file : FileId) (version : ℕ) → Removed file version ≡ answer_of C (Remove dir name pick)
    → (version ≡ found_version C dir name pick) × (after C (Remove dir name pick) ≡ put_body C dir (Directory (map.remove (names_of (file_at C dir).body) (key_of name (found_version C dir name pick)))))
unfolding answer_of after
removed C dir name pick file version e = (cc, refl)

pub entered_found : EnteredIsFound
entered_found C D who reader dir name given file version e may =
    let d = determined C D who (Enter dir name given file) (Entered version) refl e in
    let is = entered C dir name given file version d.0 in
    let before : NameMap = names_of (file_at C dir).body in
    let names : NameMap = map.insert before (key_of name version) file in
    let now : D ≡ put_body C dir (Directory names) = d.1 ∙ is.1 ∙ ap (λ v. put_body C dir (Directory (map.insert before (key_of name v) file))) (sym is.0) in
    let seen : IsSeen D reader dir names = seen_after C D reader dir names now may in
    let there : map.get names (key_of name version) ≡ Some file = get-entered before (key_of name version) file in
    let allowed : fault_of D reader (LookUp dir name (Exact version)) ≡ None =
    look-fault D reader dir name version names seen ∙ ap (λ o. first_of ((is_none o, refusal.NoSuchName) ∷ [])) (exact-picked names name version (Some file) there) in
    ap (step D reader (LookUp dir name (Exact version))) (sym (found-answer D reader dir name version file names seen there))
    ∙ stepped D reader (LookUp dir name (Exact version)) refl allowed ∙ ap Some (looks-on D dir name (Exact version))

pub removed_gone : RemovedIsGone
removed_gone C D who reader dir name pick file version e may =
    let d = determined C D who (Remove dir name pick) (Removed file version) refl e in
    let is = removed C dir name pick file version d.0 in
    let before : NameMap = names_of (file_at C dir).body in
    let names : NameMap = map.remove before (key_of name version) in
    let now : D ≡ put_body C dir (Directory names) = d.1 ∙ is.1 ∙ ap (λ v. put_body C dir (Directory (map.remove before (key_of name v)))) (sym is.0) in
    let seen : IsSeen D reader dir names = seen_after C D reader dir names now may in
    look-fault D reader dir name version names seen
    ∙ ap (λ o. first_of ((is_none o, refusal.NoSuchName) ∷ [])) (exact-picked names name version None (get-removed before (key_of name version)))
