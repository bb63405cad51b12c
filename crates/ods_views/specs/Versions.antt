-- Versions, and the rule over them: each list that a reader has seen is a prefix of the list that produces the published version.
use Rattle.std.specs.Prelude.{◌≡◌, ℕ, ◌<◌, ◌≤◌, List, [], ◌∷◌, ◌++◌, length, Some, Result, IsSome, MatchResult}
use mathlib.Core.Option.{some}
use lib.ListN.{get_elem?}
use Rattle.ods_base.specs.declared.file_id.Uic.{Uic}
use Rattle.ods_space.specs.Draft.{applied}
use Rattle.ods_space.specs.Layout.{VolumeLayout, with_places}
use Rattle.ods_request.specs.declared.answers.Answer.{Answer}
use Rattle.ods_request.specs.declared.answers.Entry.{Entry}
use Rattle.ods_request.specs.declared.refusals.Refusal.{Refusal}
use Rattle.ods_request.specs.declared.answers.Answer.TheVariants as answer
use Rattle.ods_request.specs.declared.requests.Request.TheVariants as request
use Rattle.ods_request.specs.declared.requests.Query.{Query}
use Rattle.ods_request.specs.Catalogue.{Catalogue}
use Rattle.ods_request.specs.Faults.{fault_of}
use Rattle.ods_request.specs.Steps.{step}
use Rattle.ods_request.specs.Lists.{Begins}
use Rattle.ods_state.specs.Version.{IsReplay, IsVersionBy}
use Rattle.ods_state.specs.Change.{IsAnsweredBy}
use Rattle.ods_state.specs.Served.{IsRefusalOf}
use Rattle.ods_state.specs.Outcome.{request_of}
use Rattle.ods_views.specs.declared.version.Version.{Version}
use Rattle.ods_views.specs.declared.version.Change.{Change}
use Rattle.ods_views.specs.declared.rule.View.{View}

-- the version after a change
abbrev pub led_on : Version → Change → Version
led_on v c = record { image = applied v.image c.draft; layout = with_places v.layout c.places.items; count = c.count }

-- what a new reader knows
abbrev pub newcomer : List Entry → View
newcomer opening = record { seen = opening }

-- One list of entries produces the published version from the mounted image. Its length is the count of the version. It begins with the opening list
-- and with every list that a reader has seen.
abbrev pub Keeps : List (List ℕ) → List Entry → Version → List View → Type 0
Keeps mounted opening x views =
    (log : List Entry) × IsVersionBy mounted log x.image x.layout × (length log ≡ x.count) × Begins opening log
    × ((place : ℕ) (v : View) → get_elem? views place ≡ some v → Begins v.seen log)

-- the result by the replay of the list: the fault, or an answer that is a step
abbrev pub AnswersBy : List (List ℕ) → List Entry → Uic → Query → Result Answer Refusal → Type 0
AnswersBy M E who q answer = (C : Catalogue) → IsReplay M E C →
    MatchResult answer (λ a. IsSome (step C who (request_of q) a)) (λ f. fault_of C who (request_of q) ≡ Some f)

-- the result by the blocks of a version is the result by its list
abbrev pub AnswersByTheList : Type 0
AnswersByTheList = (M : List (List ℕ)) (E : List Entry) (V : List (List ℕ)) (L : VolumeLayout) (who : Uic) (q : Query) (answer : Result Answer Refusal)
    → IsVersionBy M E V L → MatchResult answer (IsAnsweredBy V L who (request_of q)) (IsRefusalOf V L who (request_of q)) → AnswersBy M E who q answer

-- a look: the list is then the published one, which begins with all entries seen before, and produces the blocks that are read
abbrev pub Looked : List (List ℕ) → View → Version → Version → View → Type 0
Looked mounted v x y w = Begins v.seen w.seen × (length w.seen ≡ y.count) × IsVersionBy mounted w.seen y.image y.layout

-- the same if the list has at least `least` entries. Otherwise the view is unchanged
abbrev pub LookedFrom : ℕ → List (List ℕ) → View → Version → Version → View → Type 0
LookedFrom least mounted v x y w = (least ≤ y.count → Looked mounted v x y w) × (y.count < least → w ≡ v)

-- a publication: the list is then one entry longer
abbrev pub Added : Entry → View → Version → Version → View → Type 0
Added e v x y w = w ≡ newcomer (v.seen ++ e ∷ [])

-- the placeholder for an entry that is not picked
abbrev pub no_entry : Entry
no_entry = record { session = 0; nth = 0; who = record { group = 0; member = 0 }; request = request.List (record { number = 0; sequence = 0 }); answer = answer.Done }
