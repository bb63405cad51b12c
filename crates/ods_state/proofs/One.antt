-- A volume has one present catalogue.
use Rattle.std.proofs.Common.{◌≡◌, ℕ, refl, ap, sym, ◌∙◌, subst, List, Option, Some, None}
use Rattle.std.specs.FinMap as map
use Rattle.std.specs.FinSet as set
use Rattle.ods_space.specs.Layout.{VolumeLayout}
use Rattle.ods_request.specs.declared.answers.Entry.{Entry}
use Rattle.ods_request.specs.Catalogue.{Catalogue, File}
use Rattle.ods_request.specs.Steps.{replay}
use Rattle.ods_request.proofs.Orders.{file_cmp-total, file_cmp-antisymmetric}
use Rattle.ods_state.specs.Contents.{ShowsBy, Shows, IsCatalogueOf}
use Rattle.ods_state.specs.Version.{State, IsReplay, IsPresent, IsLawful}
use Rattle.ods_mount.proofs.Layouts.{layout_is_one}

options_same : (o p : Option File) → ((f : File) → o ≡ Some f → p ≡ Some f) → ((f : File) → p ≡ Some f → o ≡ Some f) → o ≡ p
options_same None None to back = refl
options_same None (Some g) to back = back g refl
options_same (Some f) p to back = sym (to f refl)

-- two catalogues that the blocks show have the same files
pub files_are_one : (I : List (List ℕ)) (C D : Catalogue) → Shows I C → Shows I D → C.files ≡ D.files
files_are_one I C D p q =
    let same : p.layout ≡ q.layout = layout_is_one I p.layout q.layout p.is_layout q.is_layout in
    let shown : ShowsBy I q.layout C = subst (λ L. ShowsBy I L C) same p.shows in
    map.same_map file_cmp-total file_cmp-antisymmetric C.files D.files (λ id.
    options_same (map.get C.files id) (map.get D.files id)
    (λ f e. q.shows.all id f (shown.there id f e)) (λ f e. shown.all id f (q.shows.there id f e)))

pub catalogue_is_one : (I : List (List ℕ)) (C D : Catalogue) → IsCatalogueOf I C → IsCatalogueOf I D → C ≡ D
catalogue_is_one I C D p q =
    let files : C.files ≡ D.files = files_are_one I C D p.shown q.shown in
    let past : C.past ≡ D.past = set.same_set file_cmp-total file_cmp-antisymmetric C.past D.past
    (λ id. p.past id ∙ ap (λ m. map.contains_key m id) files ∙ sym (q.past id)) in
    let same : p.shown.layout ≡ q.shown.layout = layout_is_one I p.shown.layout q.shown.layout p.shown.is_layout q.shown.is_layout in
    let default : C.default ≡ D.default = p.shown.shows.default ∙ ap (λ (L : VolumeLayout). L.home.protection) same ∙ sym q.shown.shows.default in
    λ i. record { files = files i; past = past i; default = default i }

pub replay_is_one : (M : List (List ℕ)) (E : List Entry) (C D : Catalogue) → IsReplay M E C → IsReplay M E D → C ≡ D
replay_is_one M E C D p q =
    let same : p.first ≡ q.first = catalogue_is_one M p.first q.first p.opening q.opening in
    some_is (sym p.replayed ∙ ap (λ F. replay F E) same ∙ q.replayed)
  where
    some_is : Some C ≡ Some D → C ≡ D
    some_is e = cc

-- the blocks of a volume show its present catalogue
pub present_is_shown : (v : State) (C : Catalogue) → IsLawful v → IsPresent v C → ShowsBy v.image v.layout C
present_is_shown v C lawful p =
    subst (λ D. ShowsBy v.image v.layout D) (replay_is_one v.mounted v.entries lawful.version.catalogue C lawful.version.replayed p) lawful.version.shown
