-- What a publishing asks, by the volume that it shows.
use Rattle.std.proofs.Common.{◌≡◌, ℕ, List, [], ◌∷◌, ◌++◌, length, arith, sym, ap, ◌∙◌, subst, length-append}
use Rattle.crossbeam_utils.specs.Register.{TurnsAt}
use Rattle.ods_space.specs.Layout.{VolumeLayout}
use Rattle.ods_request.specs.declared.answers.Entry.{Entry}
use Rattle.ods_state.specs.Version.{State, IsVersionBy}
use Rattle.ods_views.specs.declared.version.Version.{Version}
use Rattle.ods_views.specs.declared.rule.View.{View}
use Rattle.ods_views.specs.Versions.{Keeps, Added}
use Rattle.ods_views.proofs.Begun.{adds}

pub publishes : (m : List (List ℕ)) (o : List Entry) (place : ℕ) (v : View) (e n : Entry) (volume : State) (x y next : Version)
    → e ≡ n → (volume.mounted ≡ m) × (volume.entries ≡ v.seen ++ e ∷ []) → length v.seen ≡ x.count
    → (next.count ≡ length volume.entries) × (next.image ≡ volume.image) × (next.layout ≡ volume.layout)
    → IsVersionBy volume.mounted volume.entries volume.image volume.layout → y ≡ next
    → TurnsAt (Keeps m o) place v x y (Added n)
publishes m o place v e n volume x y next named shows before pending version is =
    let one : IsVersionBy m volume.entries volume.image volume.layout = subst (λ (l : List (List ℕ)). IsVersionBy l volume.entries volume.image volume.layout) shows.0 version in
    let all : volume.entries ≡ v.seen ++ n ∷ [] = shows.1 ∙ ap (λ (k : Entry). v.seen ++ k ∷ []) named in
    let two : IsVersionBy m (v.seen ++ n ∷ []) volume.image volume.layout = subst (λ (l : List Entry). IsVersionBy m l volume.image volume.layout) all one in
    let blocks : volume.image ≡ y.image = sym (ap (λ (s : Version). s.image) is ∙ pending.1) in
    let places : volume.layout ≡ y.layout = sym (ap (λ (s : Version). s.layout) is ∙ pending.2) in
    let count : y.count ≡ length volume.entries = ap (λ (s : Version). s.count) is ∙ pending.0 in
    let three : IsVersionBy m (v.seen ++ n ∷ []) y.image volume.layout = subst (λ (l : List (List ℕ)). IsVersionBy m (v.seen ++ n ∷ []) l volume.layout) blocks two in
    adds m o place v n x y before (omega (arith, ap length all, length-append v.seen (n ∷ []))) (subst (λ (l : VolumeLayout). IsVersionBy m (v.seen ++ n ∷ []) y.image l) places three)
