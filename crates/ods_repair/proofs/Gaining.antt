-- What the names of a catalogue are when files are entered in a directory.
use Rattle.std.proofs.Common.{◌≡◌, ℕ, zero, suc, refl, sym, ap, ◌∙◌, subst, Bool, true, false, cond, List, [], ◌∷◌, length, Some, None, slice_get, inl, inr}
use Rattle.std.specs.Prelude.{◌⊎◌}
use Rattle.std.specs.List.{All}
use Rattle.std.specs.Ordering.{eq_by_cmp, nat_cmp}
use Rattle.std.specs.Cmp.Lexicographic.{slice_cmp, nat_list_cmp_total}
use Rattle.std.specs.FinMap as finmap
use Rattle.std.proofs.lemmas.List.Elements.{All-head, All-tail}
use Rattle.std.proofs.lemmas.Option.{same_Some}
use Rattle.ods_base.specs.declared.file_id.FileId.{FileId}
use Rattle.ods_base.specs.Name.{key_of}
use Rattle.ods_request.specs.Catalogue.{Catalogue, file_cmp}
use Rattle.ods_state.specs.Contents.{ShowsBy}
use Rattle.ods_state.proofs.Shown.{ids}
use Rattle.ods_filing.specs.Filed.{Filed}
use Rattle.ods_repair.specs.Asked.{AsksAll}
use Rattle.ods_repair.specs.Found.{entry_of}
use Rattle.ods_repair.specs.declared.lost_file.LostFile.{LostFile}
use Rattle.ods_repair.specs.Kept.{KeepsAll}
use Rattle.ods_repair.proofs.InCatalogue.{names_in}
use Rattle.ods_repair.proofs.Keeping.{keeps_itself, keeps_more}
use Rattle.ods_repair.proofs.Bare.{entered}
use Rattle.ods_repair.proofs.Stepping.{Enters, else_where, equal_keys, here, keeps, same_key}

-- Each file of the one is there in the other; each name is there, and each of these files is named by the directory. There is no other name.
pub record Gains (C D : Catalogue) (come : FileId → FileId → Type 0) : Type 0 where
  pub keeps : KeepsAll C D
  pub kept : (id : FileId) (q : List ℕ) (f : FileId) → finmap.get (names_in C id) q ≡ Some f → finmap.get (names_in D id) q ≡ Some f
  pub only : (id : FileId) (q : List ℕ) (f : FileId) → finmap.get (names_in D id) q ≡ Some f → (finmap.get (names_in C id) q ≡ Some f) ⊎ come id f
  pub there : (id f : FileId) → come id f → (q : List ℕ) × (finmap.get (names_in D id) q ≡ Some f)

-- the file is one of these, and this is the directory
abbrev pub IsNamedBy : FileId → List LostFile → FileId → FileId → Type 0
IsNamedBy dir [] id f = ⊥
IsNamedBy dir (x ∷ found) id f = ((id ≡ dir) × (f ≡ x.file)) ⊎ IsNamedBy dir found id f

gains_none : (dir : FileId) (C : Catalogue) → Gains C C (IsNamedBy dir [])
gains_none dir C = record { keeps = keeps_itself C; kept = λ id q f e. e; only = λ id q f e. inl e; there = λ id f h. absurd h }

-- one file is entered
gains_one : (C D : Catalogue) (dir : FileId) (x : LostFile) → Enters C D dir x.name x.file → Gains C D (λ id f. (id ≡ dir) × (f ≡ x.file))
gains_one C D dir x r = record {
  keeps = keeps C D dir (finmap.insert (names_in C dir) (key_of x.name r.version) x.file) r.renamed;
  kept = λ id q f e. kept id q f e (ids id dir);
  only = λ id q f e. only id q f e (ids id dir);
  there = λ id f h. (
    key_of x.name r.version,
    ap (λ d. finmap.get (names_in D d) (key_of x.name r.version)) h.0 ∙ at (key_of x.name r.version)
        ∙ ap (λ b. cond b (Some x.file) (finmap.get (names_in C dir) (key_of x.name r.version))) (same_key (key_of x.name r.version)) ∙ ap Some (sym h.1),
  );
}
  where
    -- what the directory has at a key
    at : (q : List ℕ) → finmap.get (names_in D dir) q ≡ cond (eq_by_cmp (slice_cmp nat_cmp) q (key_of x.name r.version)) (Some x.file) (finmap.get (names_in C dir) q)
    at q =
        ap (λ m. finmap.get m q) (here C D dir (finmap.insert (names_in C dir) (key_of x.name r.version) x.file) r.renamed)
        ∙ finmap.get-insert nat_list_cmp_total (names_in C dir) (key_of x.name r.version) x.file q

    kept_by : (q : List ℕ) (f : FileId) (b : Bool) → eq_by_cmp (slice_cmp nat_cmp) q (key_of x.name r.version) ≡ b → finmap.get (names_in C dir) q ≡ Some f → cond b (Some x.file) (finmap.get (names_in C dir) q) ≡ Some f
    kept_by q f true is e =
        absurd (let wrong : None ≡ Some f = sym r.free ∙ ap (finmap.get (names_in C dir)) (sym (equal_keys q (key_of x.name r.version) is)) ∙ e in cc)
    kept_by q f false is e = e

    only_by : (q : List ℕ) (f : FileId) (b : Bool) → cond b (Some x.file) (finmap.get (names_in C dir) q) ≡ Some f → (finmap.get (names_in C dir) q ≡ Some f) ⊎ (f ≡ x.file)
    only_by q f true e = inr (sym (same_Some x.file f e))
    only_by q f false e = inl e

    kept : (id : FileId) (q : List ℕ) (f : FileId) → finmap.get (names_in C id) q ≡ Some f → (id ≡ dir) ⊎ ((¬ (id ≡ dir)) × (eq_by_cmp file_cmp id dir ≡ false)) → finmap.get (names_in D id) q ≡ Some f
    kept id q f e (inl same) =
        ap (λ d. finmap.get (names_in D d) q) same ∙ at q ∙ kept_by q f (eq_by_cmp (slice_cmp nat_cmp) q (key_of x.name r.version)) refl (ap (λ d. finmap.get (names_in C d) q) (sym same) ∙ e)
    kept id q f e (inr apart) = ap (λ m. finmap.get m q) (else_where C D dir (finmap.insert (names_in C dir) (key_of x.name r.version) x.file) r.renamed id apart.1) ∙ e

    only : (id : FileId) (q : List ℕ) (f : FileId) → finmap.get (names_in D id) q ≡ Some f → (id ≡ dir) ⊎ ((¬ (id ≡ dir)) × (eq_by_cmp file_cmp id dir ≡ false)) → (finmap.get (names_in C id) q ≡ Some f) ⊎ ((id ≡ dir) × (f ≡ x.file))
    only id q f e (inl same) =
        elim (only_by q f (eq_by_cmp (slice_cmp nat_cmp) q (key_of x.name r.version)) (sym (at q) ∙ ap (λ d. finmap.get (names_in D d) q) (sym same) ∙ e)) [
          | inl was ↦ inl (ap (λ d. finmap.get (names_in C d) q) same ∙ was)
          | inr file ↦ inr (same, file)
        ]
    only id q f e (inr apart) = inl (ap (λ m. finmap.get m q) (sym (else_where C D dir (finmap.insert (names_in C dir) (key_of x.name r.version) x.file) r.renamed id apart.1)) ∙ e)

-- one file, and then those of a list
gains_more : (C D E : Catalogue) (dir : FileId) (x : LostFile) (found : List LostFile) → Gains C D (λ id f. (id ≡ dir) × (f ≡ x.file)) → Gains D E (IsNamedBy dir found) → Gains C E (IsNamedBy dir (x ∷ found))
gains_more C D E dir x found one more = record {
  keeps = keeps_more C D E one.keeps more.keeps;
  kept = λ id q f e. more.kept id q f (one.kept id q f e);
  only = λ id q f e. elim (more.only id q f e) [
    | inl was ↦ elim (one.only id q f was) [
      | inl first ↦ inl first
      | inr here ↦ inr (inl here)
    ]
    | inr later ↦ inr (inr later)
  ];
  there = λ id f h. there id f h;
}
  where
    there : (id f : FileId) → IsNamedBy dir (x ∷ found) id f → (q : List ℕ) × (finmap.get (names_in E id) q ≡ Some f)
    there id f (inl now) = let first = one.there id f now in (first.0, more.kept id first.0 f first.1)
    there id f (inr later) = more.there id f later

-- The catalogue that the blocks show when these are entered.
pub gains_all : (dir : FileId) (old new : Filed) (found : List LostFile) (C : Catalogue) → All (λ (x : LostFile). length x.name.words ≡ 3) found → ShowsBy old.image old.layout C → AsksAll (entry_of dir) old found new
    → (D : Catalogue) × ShowsBy new.image new.layout D × Gains C D (IsNamedBy dir found)
gains_all dir old new [] C three shown same = (C, subst (λ (f : Filed). ShowsBy f.image f.layout C) (sym same) shown, gains_none dir C)
gains_all dir old new (x ∷ found) C three shown (mid, done, more) =
    let step = entered old mid C shown dir x.file x.name (All-head (λ (y : LostFile). length y.name.words ≡ 3) x found three) done in
    let one = gains_one C step.0 dir x step.2 in
    let last = gains_all dir mid new found step.0 (All-tail (λ (y : LostFile). length y.name.words ≡ 3) x found three) step.1 more in
    (last.0, last.1, gains_more C step.0 last.0 dir x found one last.2)

-- one of the list is named
pub is_named : (dir : FileId) (found : List LostFile) (i : ℕ) (x : LostFile) → slice_get found i ≡ Some x → IsNamedBy dir found dir x.file
is_named dir [] i x at = absurd (cc)
is_named dir (y ∷ found) zero x at = inl (let same : y ≡ x = same_Some y x at in (refl, ap (λ (z : LostFile). z.file) (sym same)))
is_named dir (y ∷ found) (suc i) x at = inr (is_named dir found i x at)

-- and what is named is one of the list
pub named_is : (dir : FileId) (found : List LostFile) (id f : FileId) → IsNamedBy dir found id f → (i : ℕ) × ((x : LostFile) × ((slice_get found i ≡ Some x) × (f ≡ x.file)))
named_is dir [] id f h = absurd h
named_is dir (y ∷ found) id f (inl here) = (0, (y, (refl, here.1)))
named_is dir (y ∷ found) id f (inr later) = let rest = named_is dir found id f later in (suc rest.0, (rest.1.0, rest.1.1))
