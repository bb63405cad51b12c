-- What a contract sees of a desk with its writer, and of a viewer.
use Rattle.std.specs.Prelude.{◌≡◌, ℕ, ◌≤◌, List, [], ◌∷◌, ◌++◌, Option, Result, Ok, Err, fold, length}
use Rattle.atomic_table.specs.declared.shared.Seat.{Seat}
use Rattle.left_right.specs.declared.part.Part.{Part}
use Rattle.left_right.specs.declared.board.Doing.{Doing}
use Rattle.ods_base.specs.declared.file_id.Uic.{Uic}
use Rattle.ods_request.specs.declared.answers.Answer.{Answer}
use Rattle.ods_request.specs.declared.answers.Entry.{Entry}
use Rattle.ods_request.specs.declared.requests.Query.{Query}
use Rattle.ods_request.specs.declared.refusals.Refusal.{Refusal}
use Rattle.ods_request.specs.Catalogue.{Catalogue}
use Rattle.ods_request.specs.Lists.{Begins}
use Rattle.ods_state.specs.Version.{State, IsReplay}
use Rattle.ods_views.specs.Versions.{AnswersBy, led_on}
use Rattle.ods_views.specs.declared.version.Version.{Version}
use Rattle.ods_views.specs.declared.version.Change.{Change}
use Rattle.ods_views.specs.declared.rule.View.{View}
use Rattle.ods_views.specs.declared.viewer.ViewFault.{ViewFault}
use Rattle.ods_views.specs.declared.viewer.ViewFault.TheVariants.{Refused, Closed}

-- the record of a reader or writer at the table
abbrev pub Place : Type 0
Place = Seat (Option (Part Version)) (Doing Version View)

abbrev pub seen_by : Place → List Entry
seen_by s = s.me.0.client.seen

-- the volume is over this mounted image, and its list begins with these entries
pub record IsOpened (mounted : List (List ℕ)) (opening : List Entry) (v : State) : Type 0 where
  pub named : v.mounted ≡ mounted
  pub begun : Begins opening v.entries

-- the writer has seen the volume's list, the version that it shows is the volume's, and no change is pending
abbrev pub IsTied : Place → Version → List Change → State → Type 0
IsTied p x pending v = (seen_by p ≡ v.entries) × (x.image ≡ v.image) × (x.layout ≡ v.layout) × (x.count ≡ length v.entries) × (pending ≡ [])

-- the volume is over this mounted image, and its list is the seen list followed by this entry
abbrev pub IsOneOn : List (List ℕ) → List Entry → Entry → State → Type 0
IsOneOn mounted seen e v = (v.mounted ≡ mounted) × (v.entries ≡ seen ++ e ∷ [])

-- the pending changes turn this version into the volume's blocks and layout, with the number of the volume's entries
abbrev pub LeadsTo : Version → List Change → State → Type 0
LeadsTo x pending v = let next = fold led_on x pending in
    (next.count ≡ length v.entries) × (next.image ≡ v.image) × (next.layout ≡ v.layout)

-- a viewer: the entries that it has seen, and the number of entries that it has learned of
pub record Viewed : Type 0 where
  pub seen : List Entry
  pub least : ℕ

abbrev pub newly : List Entry → Viewed
newly es = record { seen = es; least = 0 }

-- the list has a replay from the mounted image
abbrev pub LeadsOn : List (List ℕ) → List Entry → Type 0
LeadsOn M E = (C : Catalogue) × IsReplay M E C

-- the list has at least the number of entries that the viewer has learned of, has a replay, and gives this result
abbrev pub AnswersFrom : List (List ℕ) → Viewed → Uic → Query → Result Answer Refusal → Type 0
AnswersFrom mounted v who q r = (v.least ≤ length v.seen) × LeadsOn mounted v.seen × AnswersBy mounted v.seen who q r

-- the viewer before and after an `ask`: after Closed it is unchanged
abbrev pub Asked : List (List ℕ) → Viewed → Viewed → Uic → Query → Result Answer ViewFault → Type 0
Asked mounted before after who q (Ok a) = AnswersFrom mounted after who q (Ok a)
Asked mounted before after who q (Err (Refused f)) = AnswersFrom mounted after who q (Err f)
Asked mounted before after who q (Err Closed) = after ≡ before
