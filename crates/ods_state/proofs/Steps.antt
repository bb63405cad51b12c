-- One accepted request more: the volume stays lawful.
use Rattle.std.proofs.Common.{◌≡◌, ℕ, ◌<◌, ap, ◌∙◌, subst, List, [], ◌∷◌, ◌++◌, length, Some, arith, length-append}
use Rattle.std.specs.Option.{option_and_then}
use Rattle.ods_space.specs.Layout.{VolumeLayout}
use Rattle.ods_mount.specs.Sound.{IsSoundBy}
use Rattle.ods_request.specs.declared.answers.Entry.{Entry}
use Rattle.ods_request.specs.Catalogue.{Catalogue}
use Rattle.ods_request.specs.Steps.{step}
use Rattle.ods_request.proofs.StepLaws.{goes_on}
use Rattle.ods_state.specs.Contents.{ShowsBy}
use Rattle.ods_state.specs.Version.{State, IsReplay, IsLawful, IsPresent, PastIsSpent}
use Rattle.ods_state.proofs.One.{replay_is_one}

-- the replay of one entry more
pub replay_goes_on : (M : List (List ℕ)) (E : List Entry) (e : Entry) (C D : Catalogue) → IsReplay M E C → step C e.who e.request e.answer ≡ Some D → IsReplay M (E ++ e ∷ []) D
replay_goes_on M E e C D r s = record {
  first = r.first;
  opening = r.opening;
  replayed = goes_on r.first E e ∙ ap (option_and_then (λ B. step B e.who e.request e.answer)) r.replayed ∙ s;
}

-- a volume whose blocks show the step's catalogue, and whose list has its entry, is lawful
pub lawful_after : (v : State) (e : Entry) (J : List (List ℕ)) (L : VolumeLayout) (C D : Catalogue) → IsLawful v → length v.entries < v.limit
    → IsPresent v C → step C e.who e.request e.answer ≡ Some D → IsSoundBy J L → ShowsBy J L D → PastIsSpent J L D
    → IsLawful (record { mounted = v.mounted; entries = v.entries ++ e ∷ []; image = J; layout = L; limit = v.limit })
lawful_after v e J L C D lawful room present s sound shown past =
    let replayed : IsReplay v.mounted (v.entries ++ e ∷ []) D = replay_goes_on v.mounted v.entries e C D present s in
    record {
      opening = lawful.opening;
      version = record { sound = sound; catalogue = D; replayed = replayed; shown = shown };
      past = λ B p. subst (PastIsSpent J L) (replay_is_one v.mounted (v.entries ++ e ∷ []) D B replayed p) past;
      room = omega (arith, length-append v.entries (e ∷ []));
    }
