-- What is kept of files: nothing is done, one thing behind another, and by whatever catalogue.
use Rattle.std.proofs.Common.{◌≡◌, refl, sym, ap, ◌∙◌, List, ℕ, Option, Some, None, is_some}
use Rattle.std.specs.FinMap as map
use Rattle.ods_base.specs.declared.file_id.FileId.{FileId}
use Rattle.ods_space.specs.Layout.{VolumeLayout}
use Rattle.ods_request.specs.Catalogue.{Catalogue, File, is_directory}
use Rattle.ods_request.specs.Steps.{with_body}
use Rattle.ods_state.specs.Contents.{ShowsBy}
use Rattle.ods_filing.specs.Filed.{Filed}
use Rattle.ods_repair.specs.Kept.{KeepsAll, KeepsFile, KeepsFiles}

pub keeps_itself : (C : Catalogue) → KeepsAll C C
keeps_itself C = record { same = λ id. refl; each = λ id f e. (f, (e, (refl, λ plain. refl))) }

keeps_on : (f g h : File) → KeepsFile f g → KeepsFile g h → KeepsFile f h
keeps_on f g h one more = (
  ap (λ x. with_body x f.body) more.0 ∙ one.0,
  λ plain. let first : g ≡ f = one.1 plain in more.1 (ap (λ (x : File). is_directory x.body) first ∙ plain) ∙ first,
)

pub keeps_more : (C D E : Catalogue) → KeepsAll C D → KeepsAll D E → KeepsAll C E
keeps_more C D E one more = record {
  same = λ id. more.same id ∙ one.same id;
  each = λ id f e.
      let g = one.each id f e in
      let h = more.each id g.0 g.1.0 in
      (h.0, (h.1.0, keeps_on f g.0 h.0 g.1.1 h.1.1));
}

-- the catalogues that blocks show have the same files
one_get : (I : List (List ℕ)) (L : VolumeLayout) (C D : Catalogue) → ShowsBy I L C → ShowsBy I L D → (id : FileId) → map.get C.files id ≡ map.get D.files id
one_get I L C D first second id = by (map.get C.files id) (map.get D.files id) refl refl
  where
    by : (o p : Option File) → map.get C.files id ≡ o → map.get D.files id ≡ p → o ≡ p
    by (Some f) p e g = sym (second.all id f (first.there id f e)) ∙ g
    by None (Some f) e g = sym e ∙ first.all id f (second.there id f g)
    by None None e g = refl

pub keeps_files : (old new : Filed) (C D : Catalogue) → ShowsBy old.image old.layout C → ShowsBy new.image new.layout D → KeepsAll C D → KeepsFiles old new
keeps_files old new C D first second keeps E F third fourth = record {
  same = λ id.
      ap is_some (one_get new.image new.layout F D fourth second id) ∙ keeps.same id ∙ ap is_some (one_get old.image old.layout C E first third id);
  each = λ id f e.
      let g = keeps.each id f (one_get old.image old.layout C E first third id ∙ e) in
      (g.0, (one_get new.image new.layout F D fourth second id ∙ g.1.0, g.1.1));
}
