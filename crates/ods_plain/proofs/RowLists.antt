-- Lists of files with their IDs, and the files that they are.
use Rattle.std.proofs.Common.{not, filter, ◌||◌, map as map_list, ◌≡◌, ℕ, suc, ◌<◌, ◌≤◌, Bool, true, false, cond, List, [], ◌∷◌, length, get_or, set, Option, Some, None, refl, sym, ap, subst, ◌∙◌, arith, ◌⊎◌, inl, inr}
use Rattle.std.proofs.lemmas.Bool.{cases_lt}
use Rattle.std.specs.Prelude.{◌&&◌, ◌==◌, nat_le}
use Rattle.std.specs.FinMap as map
use Rattle.std.specs.FinSet as set_is
use Rattle.std.specs.FinMap.{find, put}
use Rattle.std.specs.FinMap.Entries.{by_order, find-where_key}
use Rattle.std.specs.List.{list_any}
use Rattle.std.specs.declared.cmp.Ordering.{Ordering}
use Rattle.std.specs.declared.cmp.Ordering.TheVariants.{Less, Equal, Greater}
use Rattle.std.specs.Cmp.{eq_by_cmp_equiv}
use Rattle.ods_plain.proofs.LineLists.{both_ways, turned}
use Rattle.ods_base.specs.declared.file_id.FileId.{FileId}
use Rattle.ods_request.specs.Catalogue.{Catalogue, File, file_cmp}
use Rattle.ods_request.specs.Equal.{same_id}
use Rattle.ods_request.proofs.Orders.{file_cmp-total, file_cmp-antisymmetric}
use Rattle.ods_request.specs.AnswerTests.{equal_by, tells_id, knows_id}
use Rattle.ods_request.proofs.FrameLaws.{is_id, is_id-equal, is_id-itself}
use Rattle.ods_request.specs.Steps.{is_new, is_used}
use Rattle.ods_plain.specs.Rows.{catalogue_in, place_of}

abbrev Rows : Type 0
Rows = List (FileId × File)

-- the two tests of IDs agree
pub same_test : (a b : FileId) → same_id a b ≡ is_id b a
same_test a b = both_ways _ _
    (λ h. subst (λ x. is_id b x ≡ true) (sym (equal_by same_id tells_id a b h)) (is_id-itself b))
    (λ h. subst (λ x. same_id a x ≡ true) (sym (is_id-equal b a h)) (knows_id a))

pub get-rows : (rows : Rows) (id : FileId) → map.get (map.from_entries {R = file_cmp} rows) id ≡ find file_cmp id rows
get-rows rows id = map.get-from_entries file_cmp-total rows id

-- the file with the ID stands at its place
pub find-place : (id : FileId) (rows : Rows) (d : FileId × File) → place_of id rows < length rows → find file_cmp id rows ≡ Some (get_or rows (place_of id rows) d).1
find-place id [] d h = absurd (omega (arith, h))
find-place id (r ∷ rows) d h = by (same_id r.0 id) (is_id id r.0) (same_test r.0 id) (find-place id rows d) h
  where
    by : (b c : Bool) → b ≡ c → (place_of id rows < length rows → find file_cmp id rows ≡ Some (get_or rows (place_of id rows) d).1)
        → cond b 0 (suc (place_of id rows)) < length (r ∷ rows) → cond c (Some r.1) (find file_cmp id rows) ≡ Some (get_or (r ∷ rows) (cond b 0 (suc (place_of id rows))) d).1
    by true true e rest g = refl
    by true false e rest g = absurd (cc)
    by false true e rest g = absurd (cc)
    by false false e rest g = rest (omega (arith, g))

-- and under that ID
pub id-place : (id : FileId) (rows : Rows) (d : FileId × File) → place_of id rows < length rows → (get_or rows (place_of id rows) d).0 ≡ id
id-place id [] d h = absurd (omega (arith, h))
id-place id (r ∷ rows) d h = by (same_id r.0 id) refl (id-place id rows d) h
  where
    by : (b : Bool) → same_id r.0 id ≡ b → (place_of id rows < length rows → (get_or rows (place_of id rows) d).0 ≡ id)
        → cond b 0 (suc (place_of id rows)) < length (r ∷ rows) → (get_or (r ∷ rows) (cond b 0 (suc (place_of id rows))) d).0 ≡ id
    by true e rest g = equal_by same_id tells_id r.0 id e
    by false e rest g = rest (omega (arith, g))

-- there is none where its place is the end
pub find-none : (id : FileId) (rows : Rows) → length rows ≤ place_of id rows → find file_cmp id rows ≡ None
find-none id [] h = refl
find-none id (r ∷ rows) h = by (same_id r.0 id) (is_id id r.0) (same_test r.0 id) (find-none id rows) h
  where
    by : (b c : Bool) → b ≡ c → (length rows ≤ place_of id rows → find file_cmp id rows ≡ None)
        → length (r ∷ rows) ≤ cond b 0 (suc (place_of id rows)) → cond c (Some r.1) (find file_cmp id rows) ≡ None
    by true c e rest g = absurd (omega (arith, g))
    by false true e rest g = absurd (cc)
    by false false e rest g = rest (omega (arith, g))

-- a file put in that place is seen under its ID, and each other file as before
pub find-set_place : (id : FileId) (f : File) (rows : Rows) (q : FileId) → place_of id rows < length rows
    → find file_cmp q (set rows (place_of id rows) (id, f)) ≡ cond (is_id q id) (Some f) (find file_cmp q rows)
find-set_place id f [] q h = absurd (omega (arith, h))
find-set_place id f (r ∷ rows) q h = by (same_id r.0 id) refl (find-set_place id f rows q) h
  where
    shadow : {A : Type 0} (b : Bool) (x y z : A) → cond b x z ≡ cond b x (cond b y z)
    shadow true x y z = refl
    shadow false x y z = refl

    swap : (b c : Bool) (x y z : Option File) → (b ≡ true → c ≡ true → ⊥) → cond b x (cond c y z) ≡ cond c y (cond b x z)
    swap true true x y z apart = absurd (apart refl refl)
    swap true false x y z apart = refl
    swap false c x y z apart = refl

    by : (b : Bool) → same_id r.0 id ≡ b
        → (place_of id rows < length rows → find file_cmp q (set rows (place_of id rows) (id, f)) ≡ cond (is_id q id) (Some f) (find file_cmp q rows))
        → cond b 0 (suc (place_of id rows)) < length (r ∷ rows)
        → find file_cmp q (set (r ∷ rows) (cond b 0 (suc (place_of id rows))) (id, f)) ≡ cond (is_id q id) (Some f) (cond (is_id q r.0) (Some r.1) (find file_cmp q rows))
    by true e rest g =
        let same : r.0 ≡ id = equal_by same_id tells_id r.0 id e in
        shadow (is_id q id) (Some f) (Some r.1) (find file_cmp q rows) ∙ ap (λ (x : FileId). cond (is_id q id) (Some f) (cond (is_id q x) (Some r.1) (find file_cmp q rows))) (sym same)
    by false e rest g =
        ap (λ o. cond (is_id q r.0) (Some r.1) o) (rest (omega (arith, g)))
        ∙ swap (is_id q r.0) (is_id q id) (Some r.1) (Some f) (find file_cmp q rows) (λ a b.
        let one : r.0 ≡ id = sym (is_id-equal q r.0 a) ∙ is_id-equal q id b in
        let yes : same_id r.0 id ≡ true = subst (λ x. same_id x id ≡ true) (sym one) (knows_id id) in
        let clash : true ≡ false = sym yes ∙ e in cc)

-- so it is an insert
pub set_place : (id : FileId) (f : File) (rows : Rows) → place_of id rows < length rows
    → map.from_entries {R = file_cmp} (set rows (place_of id rows) (id, f)) ≡ map.insert (map.from_entries rows) id f
set_place id f rows h = map.same_map file_cmp-total file_cmp-antisymmetric _ _ (λ q.
    get-rows (set rows (place_of id rows) (id, f)) q ∙ find-set_place id f rows q h
    ∙ ap (λ o. cond (is_id q id) (Some f) o) (sym (get-rows rows q)) ∙ sym (map.get-insert file_cmp-total (map.from_entries rows) id f q))

-- a file that is there stands at its place
pub record IsAt (rows : Rows) (id : FileId) (f : File) : Type 0 where
  pub within : place_of id rows < length rows
  pub row : (d : FileId × File) → get_or rows (place_of id rows) d ≡ (id, f)

pub stands : (rows : Rows) (id : FileId) (f : File) → map.get (map.from_entries {R = file_cmp} rows) id ≡ Some f → IsAt rows id f
stands rows id f there =
    let found : find file_cmp id rows ≡ Some f = sym (get-rows rows id) ∙ there in
    let within : place_of id rows < length rows = not_past found (cases_lt (place_of id rows) (length rows)) in
    record {
      within = within;
      row = λ d. let file : (get_or rows (place_of id rows) d).1 ≡ f = same (sym (find-place id rows d within) ∙ found) in
          λ i. (id-place id rows d within i, file i);
    }
  where
    same : {x y : File} → Some x ≡ Some y → x ≡ y
    same e = cc

    not_past : find file_cmp id rows ≡ Some f → (place_of id rows < length rows) ⊎ (length rows ≤ place_of id rows) → place_of id rows < length rows
    not_past found (inl h) = h
    not_past found (inr h) = absurd (let clash : None ≡ Some f = sym (find-none id rows h) ∙ found in cc)

pub same_id-is_id : (a b : FileId) → same_id a b ≡ is_id a b
same_id-is_id a b = same_test a b ∙ (eq_by_cmp_equiv file_cmp-total).symm b a

-- the files without one
pub rows_without : (id : FileId) (rows : Rows) → map.from_entries {R = file_cmp} (filter (λ r. not (same_id r.0 id)) rows) ≡ map.remove (map.from_entries rows) id
rows_without id rows = map.same_map file_cmp-total file_cmp-antisymmetric _ _ (λ q.
    get-rows (filter (λ r. not (same_id r.0 id)) rows) q
    ∙ find-where_key file_cmp (λ x. not (same_id x id)) q (λ x t. ap (λ y. not (same_id y id)) (sym (file_cmp-antisymmetric q x t))) rows
    ∙ turned (same_id q id) _ _
    ∙ (λ i. cond (same_id-is_id q id i) None (sym (get-rows rows q) i))
    ∙ sym (map.get-remove file_cmp-total (map.from_entries rows) id q))

or_swap : (a b c : Bool) → (a || (b || c)) ≡ (b || (a || c))
or_swap true true c = refl
or_swap true false c = refl
or_swap false b c = refl

or_again : (a b : Bool) → (a || b) ≡ (a || (a || b))
or_again true b = refl
or_again false b = refl

-- a test of the keys is a test of the list
module _ (p : FileId → Bool) where
  any_put : (id : FileId) (f : File) (rows : Rows) → list_any (λ r. p r.0) (put file_cmp id f rows) ≡ (p id || list_any (λ r. p r.0) rows)
  any_put id f [] = refl
  any_put id f (r ∷ rows) = by (file_cmp id r.0) refl (any_put id f rows)
    where
      by : (o : Ordering) → file_cmp id r.0 ≡ o → list_any (λ r. p r.0) (put file_cmp id f rows) ≡ (p id || list_any (λ r. p r.0) rows)
          → list_any (λ r. p r.0) (by_order o ((id, f) ∷ r ∷ rows) ((r.0, f) ∷ rows) (r ∷ put file_cmp id f rows)) ≡ (p id || (p r.0 || list_any (λ r. p r.0) rows))
      by Less e rest = refl
      by Equal e rest = or_again (p r.0) _ ∙ ap (λ x. p x || (p r.0 || list_any (λ r. p r.0) rows)) (sym (file_cmp-antisymmetric id r.0 e))
      by Greater e rest = ap (λ b. p r.0 || b) rest ∙ or_swap (p r.0) (p id) _

  any_map : (rows : Rows) → list_any p (map_list (λ r. r.0) rows) ≡ list_any (λ r. p r.0) rows
  any_map [] = refl
  any_map (r ∷ rows) = ap (λ b. p r.0 || b) (any_map rows)

  any_entries : (rows : Rows) → list_any (λ r. p r.0) (map.entries (map.from_entries {R = file_cmp} rows)) ≡ list_any (λ r. p r.0) rows
  any_entries [] = no_entries (map.entries (map.empty {X = File} {R = file_cmp})) (sym (map.len-entries (map.empty {X = File} {R = file_cmp})) ∙ map.len-empty file_cmp File)
    where
      no_entries : (es : Rows) → length es ≡ 0 → list_any (λ r. p r.0) es ≡ false
      no_entries [] e = refl
      no_entries (x ∷ es) e = absurd (omega (arith, e))
  any_entries (r ∷ rows) =
      ap (list_any (λ r. p r.0)) (map.entries-insert file_cmp-total (map.from_entries rows) r.0 r.1)
      ∙ any_put r.0 r.1 (map.entries (map.from_entries rows)) ∙ ap (λ b. p r.0 || b) (any_entries rows)

  pub any_keys : (rows : Rows) → list_any p (map.keys (map.from_entries {R = file_cmp} rows)) ≡ list_any (λ r. p r.0) rows
  any_keys rows = any_map (map.entries (map.from_entries rows)) ∙ any_entries rows

any_same : (id : FileId) (past : List FileId) → list_any (is_id id) past ≡ list_any (λ x. same_id x id) past
any_same id [] = refl
any_same id (x ∷ past) = λ i. sym (same_test x id) i || any_same id past i

-- whether an ID may be given, by two tests and its number
pub new_by : (C : Catalogue) (id : FileId) (given used : Bool) → set_is.contains C.past id ≡ given → is_used C id.number ≡ used
    → is_new C id ≡ (not given && (not used && (nat_le 6 id.number && nat_le id.number 65535)))
new_by C id given used p u = λ i. not (p i) && (not (u i) && (nat_le 6 id.number && nat_le id.number 65535))

-- the two tests, by the two lists
pub past_test : (rows : Rows) (past : List FileId) (protection : ℕ) (C : Catalogue) (id : FileId) → catalogue_in rows past protection ≡ C → set_is.contains C.past id ≡ list_any (λ x. same_id x id) past
past_test rows past protection C id is = ap (λ (D : Catalogue). set_is.contains D.past id) (sym is) ∙ set_is.contains-from_list file_cmp-total past id ∙ any_same id past

pub used_test : (rows : Rows) (past : List FileId) (protection : ℕ) (C : Catalogue) (number : ℕ) → catalogue_in rows past protection ≡ C → is_used C number ≡ list_any (λ r. r.0.number == number) rows
used_test rows past protection C number is = ap (λ (D : Catalogue). is_used D number) (sym is) ∙ any_keys (λ x. x.number == number) rows

pub small_enough : (a b : Bool) → b ≡ true → a ≡ (a && b)
small_enough true b h = sym h
small_enough false b h = refl
