-- Where all names that name no file are removed, none is left, and each other name is there.
use Rattle.std.proofs.Common.{◌≡◌, ℕ, refl, sym, ap, ◌∙◌, subst, true, false, List, Option, Some, None, is_some, slice_get, inl, inr}
use Rattle.std.specs.Prelude.{◌⊎◌}
use Rattle.std.specs.FinMap as finmap
use Rattle.std.proofs.lemmas.Option.{same_Some, slice_get-get_or}
use Rattle.ods_base.specs.declared.file_id.FileId.{FileId}
use Rattle.ods_base.specs.declared.listed.Listed.{Listed}
use Rattle.ods_base.specs.Name.{key_of}
use Rattle.ods_mount.specs.Sound.{IsSoundBy}
use Rattle.ods_request.specs.Catalogue.{Catalogue}
use Rattle.ods_state.specs.Contents.{ShowsBy}
use Rattle.ods_state.proofs.Exists.{the_catalogue, is_shown}
use Rattle.ods_check.specs.declared.dangling_list.Dangling.{Dangling}
use Rattle.ods_check.specs.Findings.{HasName, IsIdOfFile, id_at}
use Rattle.ods_check.specs.Repairs.{AreDangling, IsDangling}
use Rattle.ods_check.proofs.Turning.{at_place}
use Rattle.ods_filing.specs.Filed.{Filed}
use Rattle.ods_repair.specs.Asked.{AsksAll}
use Rattle.ods_repair.specs.Cleared.{IsCleared, removal_of}
use Rattle.ods_repair.proofs.Keeping.{keeps_files}
use Rattle.ods_repair.proofs.InCatalogue.{IsIn, id_there, name_there, names_in, there_is, there_name}
use Rattle.ods_repair.proofs.Shedding.{IsOneOf, Sheds, is_one, one_is, sheds_all}

-- whether something is there
pub some_or_none : {X : Type 0} (o : Option X) → ((x : X) × (o ≡ Some x)) ⊎ (o ≡ None)
some_or_none None = inr refl
some_or_none (Some x) = inl (x, refl)

pub some_of : {X Y : Type 0} (o : Option X) (p : Option Y) (x : X) → o ≡ Some x → is_some p ≡ is_some o → (y : Y) × (p ≡ Some y)
some_of o None x e same = absurd (let wrong : false ≡ true = same ∙ ap is_some e in cc)
some_of o (Some y) x e same = (y, refl)

-- the same entry under another ID of the directory
moved : (C : Catalogue) (a b : FileId) (line : Listed) → a ≡ b → IsIn C a line → IsIn C b line
moved C a b line same e = subst (λ id. IsIn C id line) same e

module _ (old new : Filed) (before : IsSoundBy old.image old.layout) (after : IsSoundBy new.image new.layout) (found : List Dangling) (are : AreDangling old.image old.layout found) where
  module _ (C D : Catalogue) (C_shown : ShowsBy old.image old.layout C) (D_shown : ShowsBy new.image new.layout D) (sheds : Sheds C D (IsOneOf found)) where
    -- the files are the same
    file_was : (id : FileId) → IsIdOfFile new.image new.layout id → IsIdOfFile old.image old.layout id
    file_was id is =
        let f = id_there new.image new.layout after D D_shown id is in
        let g = some_of (finmap.get D.files id) (finmap.get C.files id) f.0 f.1 (sym (sheds.keeps.same id)) in
        there_is old.image old.layout before C C_shown id g.0 g.1

    file_is : (id : FileId) → IsIdOfFile old.image old.layout id → IsIdOfFile new.image new.layout id
    file_is id is =
        let f = id_there old.image old.layout before C C_shown id is in
        let g = some_of (finmap.get C.files id) (finmap.get D.files id) f.0 f.1 (sheds.keeps.same id) in
        there_is new.image new.layout after D D_shown id g.0 g.1

    -- whether an ID is that of a file
    file_or_not : (id : FileId) → IsIdOfFile old.image old.layout id ⊎ ¬ IsIdOfFile old.image old.layout id
    file_or_not id = elim (some_or_none (finmap.get C.files id)) [
      | inl (f, there) ↦ inl (there_is old.image old.layout before C C_shown id f there)
      | inr none ↦ inr (λ is. let f = id_there old.image old.layout before C C_shown id is in absurd (let wrong : None ≡ Some f.0 = sym none ∙ f.1 in cc))
    ]

    -- a name that is there was there, and is none of those that went
    name_was : (d : ℕ) (line : Listed) → HasName new.image new.layout d line → HasName old.image old.layout d line × ¬ IsOneOf found (id_at new.image new.layout d) (key_of line.name line.version)
    name_was d line h =
        let e = name_there new.image new.layout after D D_shown d line h in
        let was = sheds.fewer (id_at new.image new.layout d) e.0.key line.file e.0.there in
        let named = there_name old.image old.layout before C C_shown (id_at new.image new.layout d) line (record { key = e.0.key; there = was.0; name = e.0.name; version = e.0.version }) in
        (named.0, subst (λ q. ¬ IsOneOf found (id_at new.image new.layout d) q) (sym e.1.1) was.1)

    same_id : (d : ℕ) (line : Listed) → HasName new.image new.layout d line → id_at new.image new.layout d ≡ id_at old.image old.layout d
    same_id d line h =
        let e = name_there new.image new.layout after D D_shown d line h in
        let was = sheds.fewer (id_at new.image new.layout d) e.0.key line.file e.0.there in
        (there_name old.image old.layout before C C_shown (id_at new.image new.layout d) line (record { key = e.0.key; there = was.0; name = e.0.name; version = e.0.version })).1

    -- none is left that names no file
    all_name : (d : ℕ) (line : Listed) → HasName new.image new.layout d line → IsIdOfFile old.image old.layout line.file
    all_name d line h = elim (file_or_not line.file) [
      | inl is ↦ is
      | inr none ↦
          let was = name_was d line h in
          let x : Dangling = record { directory = id_at old.image old.layout d; line = line } in
          let has = are.all d line (was.0, none) in
          let at : slice_get found has.0 ≡ Some x = slice_get-get_or found has.0 x has.1 ∙ ap Some has.2 in
          absurd (was.1 (subst (λ id. IsOneOf found id (key_of line.name line.version)) (sym (same_id d line h)) (is_one found has.0 x at)))
    ]

    -- a name of a file stays
    name_is : (d : ℕ) (line : Listed) → HasName old.image old.layout d line → IsIdOfFile old.image old.layout line.file → HasName new.image new.layout d line
    name_is d line h is =
        let e = name_there old.image old.layout before C C_shown d line h in
        elim (sheds.rest (id_at old.image old.layout d) e.0.key line.file e.0.there) [
          | inl there ↦ (there_name new.image new.layout after D D_shown (id_at old.image old.layout d) line (record { key = e.0.key; there = there; name = e.0.name; version = e.0.version })).0
          | inr gone ↦
              let x = one_is found (id_at old.image old.layout d) e.0.key gone in
              let dangling : IsDangling old.image old.layout x.1.0 = at_place (IsDangling old.image old.layout) found x.0 x.1.0 are.each x.1.1.0 in
              let f = name_there old.image old.layout before C C_shown x.1.0.directory.number x.1.0.line dangling.0.0 in
              let id : id_at old.image old.layout x.1.0.directory.number ≡ id_at old.image old.layout d = sym dangling.1 ∙ sym x.1.1.1.0 in
              let key : f.0.key ≡ e.0.key = sym f.1.1 ∙ sym x.1.1.1.1 in
              let both : Some x.1.0.line.file ≡ Some line.file = sym f.0.there ∙ (λ i. finmap.get (names_in C (id i)) (key i)) ∙ e.0.there in
              absurd (dangling.0.1 (subst (IsIdOfFile old.image old.layout) (sym (same_Some x.1.0.line.file line.file both)) is))
        ]

  pub are_cleared : AsksAll removal_of old found new → IsCleared old found new
  are_cleared asked =
      let C = the_catalogue old.image old.layout before in
      let C_shown = is_shown old.image old.layout before in
      let last = sheds_all old new found C C_shown asked in
      record {
        are = are;
        files = keeps_files old new C last.0 C_shown last.1 last.2.keeps;
        removed = asked;
        none = λ d line none. none.1 (file_is C last.0 C_shown last.1 last.2 line.file (all_name C last.0 C_shown last.1 last.2 d line none.0));
        kept = λ d line. (
          λ h. ((name_was C last.0 C_shown last.1 last.2 d line h).0, all_name C last.0 C_shown last.1 last.2 d line h),
          λ h. name_is C last.0 C_shown last.1 last.2 d line h.0 h.1,
        );
      }
