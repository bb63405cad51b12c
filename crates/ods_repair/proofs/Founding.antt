-- Where all lost files whose headers have names are entered, no others are lost than those whose headers have none.
use Rattle.std.proofs.Common.{◌≡◌, ℕ, refl, sym, ap, ◌∙◌, subst, List, length, Some, slice_get, inl, inr}
use Rattle.std.specs.List.{All}
use Rattle.std.specs.FinMap as finmap
use Rattle.std.proofs.lemmas.Option.{slice_get-get_or}
use Rattle.ods_base.specs.declared.file_id.FileId.{FileId}
use Rattle.ods_base.specs.declared.listed.Listed.{Listed}
use Rattle.ods_base.specs.Name.{IsName}
use Rattle.ods_base.specs.Names.{name_of, version_of}
use Rattle.ods_mount.specs.Sound.{IsSoundBy}
use Rattle.ods_request.specs.Catalogue.{Catalogue}
use Rattle.ods_state.specs.Contents.{ShowsBy}
use Rattle.ods_state.proofs.Exists.{the_catalogue, is_shown}
use Rattle.ods_check.specs.Findings.{HasName, IsIdOfFile, IsLostFile, id_at}
use Rattle.ods_check.proofs.Turning.{at_place}
use Rattle.ods_filing.specs.Filed.{Filed}
use Rattle.ods_repair.specs.Asked.{AsksAll}
use Rattle.ods_repair.specs.Found.{AreNamed, CanBeNamed, IsFound, entry_of, name_at}
use Rattle.ods_repair.specs.declared.lost_file.LostFile.{LostFile}
use Rattle.ods_repair.proofs.Keeping.{keeps_files}
use Rattle.ods_repair.proofs.InCatalogue.{id_there, name_there, there_is, there_name}
use Rattle.ods_repair.proofs.Gaining.{Gains, IsNamedBy, gains_all, is_named, named_is}
use Rattle.ods_repair.proofs.Clearing.{some_of}

module _ (old new : Filed) (before : IsSoundBy old.image old.layout) (after : IsSoundBy new.image new.layout) (dir : FileId) (found : List LostFile) (are : AreNamed old.image old.layout found) where
  -- the names that are entered have three words
  three_words : All (λ (x : LostFile). length x.name.words ≡ 3) found
  three_words i d low = let h = are.each i d low in ap (λ n. length n.words) h.2

  module _ (C D : Catalogue) (C_shown : ShowsBy old.image old.layout C) (D_shown : ShowsBy new.image new.layout D) (gains : Gains C D (IsNamedBy dir found)) where
    -- the files are the same
    file_was : (id : FileId) → IsIdOfFile new.image new.layout id → IsIdOfFile old.image old.layout id
    file_was id is =
        let f = id_there new.image new.layout after D D_shown id is in
        let g = some_of (finmap.get D.files id) (finmap.get C.files id) f.0 f.1 (sym (gains.keeps.same id)) in
        there_is old.image old.layout before C C_shown id g.0 g.1

    file_is : (id : FileId) → IsIdOfFile old.image old.layout id → IsIdOfFile new.image new.layout id
    file_is id is =
        let f = id_there old.image old.layout before C C_shown id is in
        let g = some_of (finmap.get C.files id) (finmap.get D.files id) f.0 f.1 (gains.keeps.same id) in
        there_is new.image new.layout after D D_shown id g.0 g.1

    -- each name stays
    name_is : (d : ℕ) (line : Listed) → HasName old.image old.layout d line → HasName new.image new.layout d line
    name_is d line h =
        let e = name_there old.image old.layout before C C_shown d line h in
        (there_name new.image new.layout after D D_shown (id_at old.image old.layout d) line
        (record { key = e.0.key; there = gains.kept (id_at old.image old.layout d) e.0.key line.file e.0.there; name = e.0.name; version = e.0.version })).0

    -- the ID of a file stays
    same_id : (n : ℕ) → IsIdOfFile old.image old.layout (id_at new.image new.layout n) → id_at new.image new.layout n ≡ id_at old.image old.layout n
    same_id n is = λ i. record { number = n; sequence = sym is.1 i }

    -- what is lost was lost, and its header has no name
    lost_was : (n : ℕ) → IsLostFile new.image new.layout n → IsLostFile old.image old.layout n × ¬ IsName (name_at old.image old.layout n)
    lost_was n lost =
        let was : IsIdOfFile old.image old.layout (id_at new.image new.layout n) = file_was (id_at new.image new.layout n) (lost.file, refl) in
        let id : id_at new.image new.layout n ≡ id_at old.image old.layout n = same_id n was in
        let then : IsLostFile old.image old.layout n = record {
          other = lost.other;
          file = was.0;
          lost = λ d line h names. lost.lost d line (name_is d line h) (names ∙ sym id);
        } in (
          then,
          λ name.
              let x : LostFile = record { file = id_at old.image old.layout n; name = name_at old.image old.layout n } in
              let has = are.all n (then, name) in
              let at : slice_get found has.0 ≡ Some x = slice_get-get_or found has.0 x has.1 ∙ ap Some has.2 in
              let q = gains.there dir x.file (is_named dir found has.0 x at) in
              let line : Listed = record { name = name_of q.0; version = version_of q.0; file = x.file } in
              let named = there_name new.image new.layout after D D_shown dir line (record { key = q.0; there = q.1; name = refl; version = refl }) in
              lost.lost dir.number line named.0 (sym id),
        )

    -- and such a file is lost still
    lost_is : (n : ℕ) → IsLostFile old.image old.layout n → ¬ IsName (name_at old.image old.layout n) → IsLostFile new.image new.layout n
    lost_is n lost none =
        let is : IsIdOfFile new.image new.layout (id_at old.image old.layout n) = file_is (id_at old.image old.layout n) (lost.file, refl) in
        let id : id_at new.image new.layout n ≡ id_at old.image old.layout n = λ i. record { number = n; sequence = is.1 i } in
        record {
          other = lost.other;
          file = is.0;
          lost = λ d line h names.
              let e = name_there new.image new.layout after D D_shown d line h in
              let own : line.file ≡ id_at old.image old.layout n = names ∙ id in
              elim (gains.only (id_at new.image new.layout d) e.0.key line.file e.0.there) [
                | inl was ↦
                    let named = there_name old.image old.layout before C C_shown (id_at new.image new.layout d) line (record { key = e.0.key; there = was; name = e.0.name; version = e.0.version }) in
                    lost.lost d line named.0 own
                | inr come ↦
                    let x = named_is dir found (id_at new.image new.layout d) line.file come in
                    let each = at_place (λ (y : LostFile). CanBeNamed old.image old.layout y.file.number × (y.file ≡ id_at old.image old.layout y.file.number) × (y.name ≡ name_at old.image old.layout y.file.number)) found x.0 x.1.0 are.each x.1.1.0 in
                    let number : x.1.0.file.number ≡ n = ap (λ (f : FileId). f.number) (sym x.1.1.1 ∙ own) in
                    none (subst (λ (k : ℕ). IsName (name_at old.image old.layout k)) number each.0.1)
              ];
        }

  pub are_found : AsksAll (entry_of dir) old found new → IsFound old dir found new
  are_found asked =
      let C = the_catalogue old.image old.layout before in
      let C_shown = is_shown old.image old.layout before in
      let last = gains_all dir old new found C three_words C_shown asked in
      record {
        are = are;
        files = keeps_files old new C last.0 C_shown last.1 last.2.keeps;
        entered = asked;
        left = λ n. (λ lost. lost_was C last.0 C_shown last.1 last.2 n lost, λ h. lost_is C last.0 C_shown last.1 last.2 n h.0 h.1);
        kept = λ d line h. name_is C last.0 C_shown last.1 last.2 d line h;
      }
