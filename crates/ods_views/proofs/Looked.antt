-- A version's blocks show the catalogue of its list, and no other.
use Rattle.std.proofs.Common.{◌≡◌, List, ℕ, Ok, Err, false, is_some, refl, sym, ap, ◌∙◌, subst}
use Rattle.std.specs.Prelude.{Result, MatchResult}
use Rattle.ods_base.specs.declared.file_id.Uic.{Uic}
use Rattle.ods_space.specs.Layout.{VolumeLayout}
use Rattle.ods_request.specs.declared.answers.Answer.{Answer}
use Rattle.ods_request.specs.declared.answers.Entry.{Entry}
use Rattle.ods_request.specs.declared.refusals.Refusal.{Refusal}
use Rattle.ods_request.specs.declared.requests.Query.{Query}
use Rattle.ods_request.specs.declared.requests.Query.TheVariants as query
use Rattle.ods_request.specs.Catalogue.{Catalogue}
use Rattle.ods_request.specs.Queries.{request_of}
use Rattle.ods_request.specs.Steps.{step}
use Rattle.ods_request.specs.Table.{creates, moves_blocks, takes_memory}
use Rattle.ods_request.proofs.StepLaws.{stepped}
use Rattle.ods_state.specs.Change.{IsAnsweredBy}
use Rattle.ods_state.specs.Contents.{ShowsBy}
use Rattle.ods_state.specs.Served.{IsRefusalOf}
use Rattle.ods_state.specs.Version.{IsReplay, IsVersionBy}
use Rattle.ods_state.proofs.One.{replay_is_one}
use Rattle.ods_state.proofs.Served.{fault_alone, lacks_nothing}
use Rattle.ods_views.specs.Versions.{AnswersBy}

-- a query makes no file, takes no block and no memory
makes_none : (q : Query) → creates (request_of q) ≡ false
makes_none (query.LookUp dir name pick) = refl
makes_none (query.Read file vbn) = refl
makes_none (query.Stat file) = refl

moves_none : (q : Query) → moves_blocks (request_of q) ≡ false
moves_none (query.LookUp dir name pick) = refl
moves_none (query.Read file vbn) = refl
moves_none (query.Stat file) = refl

takes_none : (q : Query) → takes_memory (request_of q) ≡ false
takes_none (query.LookUp dir name pick) = refl
takes_none (query.Read file vbn) = refl
takes_none (query.Stat file) = refl

module _ (M : List (List ℕ)) (E : List Entry) (V : List (List ℕ)) (L : VolumeLayout) (version : IsVersionBy M E V L) where
  -- the catalogue of the list is shown
  shown : (C : Catalogue) → IsReplay M E C → ShowsBy V L C
  shown C replayed = subst (λ D. ShowsBy V L D) (replay_is_one M E version.catalogue C version.replayed replayed) version.shown

  pub looked : (who : Uic) (q : Query) (answer : Result Answer Refusal)
      → MatchResult answer (IsAnsweredBy V L who (request_of q)) (IsRefusalOf V L who (request_of q)) → AnswersBy M E who q answer
  looked who q (Ok a) answers C replayed =
      let known = answers C (shown C replayed) in
      ap is_some (ap (step C who (request_of q)) (sym known.1) ∙ stepped C who (request_of q) (makes_none q) known.0)
  looked who q (Err f) refuses C replayed =
      let r = request_of q in
      fault_alone V L who r f (lacks_nothing V L r (moves_none q) f) (takes_none q) refuses C (shown C replayed)
