-- What is left of the names of a catalogue when a list of entries is removed.
use Rattle.std.proofs.Common.{◌≡◌, ℕ, zero, suc, refl, sym, ap, ◌∙◌, subst, Bool, true, false, cond, List, [], ◌∷◌, Option, Some, None, slice_get, inl, inr}
use Rattle.std.specs.Prelude.{◌⊎◌}
use Rattle.std.specs.Ordering.{eq_by_cmp, nat_cmp}
use Rattle.std.specs.Cmp.Lexicographic.{slice_cmp, nat_list_cmp_total}
use Rattle.std.specs.FinMap as finmap
use Rattle.std.proofs.lemmas.Option.{same_Some}
use Rattle.ods_base.specs.declared.file_id.FileId.{FileId}
use Rattle.ods_base.specs.Name.{key_of}
use Rattle.ods_request.specs.Catalogue.{Catalogue, file_cmp}
use Rattle.ods_state.specs.Contents.{ShowsBy}
use Rattle.ods_state.proofs.Shown.{ids}
use Rattle.ods_check.specs.declared.dangling_list.Dangling.{Dangling}
use Rattle.ods_filing.specs.Filed.{Filed}
use Rattle.ods_repair.specs.Asked.{AsksAll}
use Rattle.ods_repair.specs.Cleared.{removal_of}
use Rattle.ods_repair.specs.Kept.{KeepsAll}
use Rattle.ods_repair.proofs.InCatalogue.{names_in}
use Rattle.ods_repair.proofs.Keeping.{keeps_itself, keeps_more}
use Rattle.ods_repair.proofs.Bare.{removed}
use Rattle.ods_repair.proofs.Stepping.{Renames, else_where, equal_keys, here, keeps, same_key}

-- Each file of the one is there in the other; the names of the other are those of the one that are not gone.
pub record Sheds (C D : Catalogue) (gone : FileId → List ℕ → Type 0) : Type 0 where
  pub keeps : KeepsAll C D
  pub fewer : (id : FileId) (q : List ℕ) (f : FileId) → finmap.get (names_in D id) q ≡ Some f → (finmap.get (names_in C id) q ≡ Some f) × ¬ gone id q
  pub rest : (id : FileId) (q : List ℕ) (f : FileId) → finmap.get (names_in C id) q ≡ Some f → (finmap.get (names_in D id) q ≡ Some f) ⊎ gone id q

-- the entry of this name and version in this directory
abbrev pub IsEntryOf : Dangling → FileId → List ℕ → Type 0
IsEntryOf x id q = (id ≡ x.directory) × (q ≡ key_of x.line.name x.line.version)

-- the entry of one of these
abbrev pub IsOneOf : List Dangling → FileId → List ℕ → Type 0
IsOneOf [] id q = ⊥
IsOneOf (x ∷ found) id q = IsEntryOf x id q ⊎ IsOneOf found id q

sheds_none : (C : Catalogue) → Sheds C C (IsOneOf [])
sheds_none C = record { keeps = keeps_itself C; fewer = λ id q f e. (e, λ h. absurd h); rest = λ id q f e. inl e }

-- one entry is taken out
sheds_one : (C D : Catalogue) (x : Dangling) → Renames C D x.directory (finmap.remove (names_in C x.directory) (key_of x.line.name x.line.version)) → Sheds C D (IsEntryOf x)
sheds_one C D x r = record { keeps = keeps C D x.directory (finmap.remove (names_in C x.directory) (key_of x.line.name x.line.version)) r; fewer = λ id q f e. fewer id q f e (ids id x.directory); rest = λ id q f e. rest id q f e (ids id x.directory) }
  where
    -- what the directory has at a key
    at : (q : List ℕ) → finmap.get (names_in D x.directory) q ≡ cond (eq_by_cmp (slice_cmp nat_cmp) q (key_of x.line.name x.line.version)) None (finmap.get (names_in C x.directory) q)
    at q = ap (λ m. finmap.get m q) (here C D x.directory (finmap.remove (names_in C x.directory) (key_of x.line.name x.line.version)) r) ∙ finmap.get-remove nat_list_cmp_total (names_in C x.directory) (key_of x.line.name x.line.version) q

    fewer_by : (q : List ℕ) (f : FileId) (b : Bool) (o : Option FileId) → eq_by_cmp (slice_cmp nat_cmp) q (key_of x.line.name x.line.version) ≡ b → cond b None o ≡ Some f → (o ≡ Some f) × ¬ (q ≡ key_of x.line.name x.line.version)
    fewer_by q f true o is e = absurd (cc)
    fewer_by q f false o is e = (e, λ same. absurd (let wrong : true ≡ false = sym (same_key q) ∙ ap (eq_by_cmp (slice_cmp nat_cmp) q) same ∙ is in cc))

    rest_by : (q : List ℕ) (f : FileId) (b : Bool) (o : Option FileId) → eq_by_cmp (slice_cmp nat_cmp) q (key_of x.line.name x.line.version) ≡ b → o ≡ Some f → (cond b None o ≡ Some f) ⊎ (q ≡ key_of x.line.name x.line.version)
    rest_by q f true o is e = inr (equal_keys q (key_of x.line.name x.line.version) is)
    rest_by q f false o is e = inl e

    fewer : (id : FileId) (q : List ℕ) (f : FileId) → finmap.get (names_in D id) q ≡ Some f → (id ≡ x.directory) ⊎ ((¬ (id ≡ x.directory)) × (eq_by_cmp file_cmp id x.directory ≡ false)) → (finmap.get (names_in C id) q ≡ Some f) × ¬ IsEntryOf x id q
    fewer id q f e (inl same) =
        let there : finmap.get (names_in D x.directory) q ≡ Some f = ap (λ d. finmap.get (names_in D d) q) (sym same) ∙ e in
        let found = fewer_by q f (eq_by_cmp (slice_cmp nat_cmp) q (key_of x.line.name x.line.version)) (finmap.get (names_in C x.directory) q) refl (sym (at q) ∙ there) in
        (ap (λ d. finmap.get (names_in C d) q) same ∙ found.0, λ h. found.1 h.1)
    fewer id q f e (inr apart) = (ap (λ m. finmap.get m q) (sym (else_where C D x.directory (finmap.remove (names_in C x.directory) (key_of x.line.name x.line.version)) r id apart.1)) ∙ e, λ h. apart.0 h.0)

    rest : (id : FileId) (q : List ℕ) (f : FileId) → finmap.get (names_in C id) q ≡ Some f → (id ≡ x.directory) ⊎ ((¬ (id ≡ x.directory)) × (eq_by_cmp file_cmp id x.directory ≡ false)) → (finmap.get (names_in D id) q ≡ Some f) ⊎ IsEntryOf x id q
    rest id q f e (inl same) =
        let there : finmap.get (names_in C x.directory) q ≡ Some f = ap (λ d. finmap.get (names_in C d) q) (sym same) ∙ e in
        elim (rest_by q f (eq_by_cmp (slice_cmp nat_cmp) q (key_of x.line.name x.line.version)) (finmap.get (names_in C x.directory) q) refl there) [
          | inl still ↦ inl (ap (λ d. finmap.get (names_in D d) q) same ∙ at q ∙ still)
          | inr key ↦ inr (same, key)
        ]
    rest id q f e (inr apart) = inl (ap (λ m. finmap.get m q) (else_where C D x.directory (finmap.remove (names_in C x.directory) (key_of x.line.name x.line.version)) r id apart.1) ∙ e)

-- one entry, and then those of a list
sheds_more : (C D E : Catalogue) (x : Dangling) (found : List Dangling) → Sheds C D (IsEntryOf x) → Sheds D E (IsOneOf found) → Sheds C E (IsOneOf (x ∷ found))
sheds_more C D E x found one more = record {
  keeps = keeps_more C D E one.keeps more.keeps;
  fewer = λ id q f e.
      let last = more.fewer id q f e in
      let first = one.fewer id q f last.0 in
      (first.0, λ h. elim h [ inl here ↦ first.1 here | inr later ↦ last.1 later ]);
  rest = λ id q f e. elim (one.rest id q f e) [
    | inl still ↦ elim (more.rest id q f still) [
      | inl there ↦ inl there
      | inr later ↦ inr (inr later)
    ]
    | inr here ↦ inr (inl here)
  ];
}

-- The catalogue that the blocks show when these are removed.
pub sheds_all : (old new : Filed) (found : List Dangling) (C : Catalogue) → ShowsBy old.image old.layout C → AsksAll removal_of old found new → (D : Catalogue) × ShowsBy new.image new.layout D × Sheds C D (IsOneOf found)
sheds_all old new [] C shown same = (C, subst (λ (f : Filed). ShowsBy f.image f.layout C) (sym same) shown, sheds_none C)
sheds_all old new (x ∷ found) C shown (mid, done, more) =
    let step = removed old mid C shown x.directory x.line.name x.line.version done in
    let one = sheds_one C step.0 x step.2 in
    let last = sheds_all mid new found step.0 step.1 more in
    (last.0, last.1, sheds_more C step.0 last.0 x found one last.2)

-- one of the list is one of them
pub is_one : (found : List Dangling) (i : ℕ) (x : Dangling) → slice_get found i ≡ Some x → IsOneOf found x.directory (key_of x.line.name x.line.version)
is_one [] i x at = absurd (cc)
is_one (y ∷ found) zero x at = inl (let same : y ≡ x = same_Some y x at in (ap (λ (z : Dangling). z.directory) (sym same), ap (λ (z : Dangling). key_of z.line.name z.line.version) (sym same)))
is_one (y ∷ found) (suc i) x at = inr (is_one found i x at)

-- and one of them is one of the list
pub one_is : (found : List Dangling) (id : FileId) (q : List ℕ) → IsOneOf found id q → (i : ℕ) × ((x : Dangling) × ((slice_get found i ≡ Some x) × IsEntryOf x id q))
one_is [] id q h = absurd h
one_is (y ∷ found) id q (inl here) = (0, (y, (refl, here)))
one_is (y ∷ found) id q (inr later) = let rest = one_is found id q later in (suc rest.0, (rest.1.0, rest.1.1))
