-- A session as its code keeps it: its context, and the room for its calls.
use Rattle.std.specs.Prelude.{◌≡◌, ◌≤◌, ◌+◌, ◌++◌, ◌∷◌, [], ℕ, List, Ok, Err}
use Rattle.std.specs.List.{sum_by}
use Rattle.ods_base.specs.declared.file_id.Uic.{Uic}
use Rattle.ods_request.specs.declared.requests.Request.{Request}
use Rattle.ods_request.specs.declared.requests.Query.{Query}
use Rattle.ods_request.specs.declared.answers.Entry.{Entry}
use Rattle.ods_ask.specs.declared.script.Action.{Action}
use Rattle.ods_ask.specs.declared.script.Action.TheVariants as action
use Rattle.ods_ask.specs.declared.script.Command.{Command}
use Rattle.ods_ask.specs.declared.outcome.Call.{Call}
use Rattle.ods_ask.specs.declared.outcome.Reply.{Reply}
use Rattle.ods_ask.specs.declared.outcome.Reply.TheVariants as reply
use Rattle.ods_share.specs.declared.session.Context.{Context}
use Rattle.ods_share.specs.Scripts.{Sitting, Tells, IsRefused, IsSeen, call_of, fulls_in}
use Rattle.ods_views.specs.Viewers.{Viewed}

-- a context with the calls so far, and the entries that the viewer has seen
abbrev pub sitting : Context → List Call → List Entry → Sitting
sitting s calls seen = record { who = s.who; last = s.last; calls = calls; seen = seen }

-- an answer, with its call after the others, or a refusal, which leaves the calls unchanged
abbrev pub IsReply : List (List ℕ) → ℕ → Uic → Request → Reply → List Call → List Call → Type 0
IsReply mounted nth who q (reply.Got a) was now = now ≡ was ++ call_of nth who q a ∷ []
IsReply mounted nth who q (reply.No f) was now = IsRefused mounted who q f × (now ≡ was)
IsReply mounted nth who q reply.User was now = ⊥
IsReply mounted nth who q reply.Closed was now = ⊥
IsReply mounted nth who q reply.Bad was now = ⊥

-- the result of a viewer, or why it gives none
abbrev pub IsView : List (List ℕ) → List Entry → List Entry → Uic → Query → Reply → Type 0
IsView mounted before after who q (reply.Got a) = IsSeen mounted before who q (Ok a) after
IsView mounted before after who q (reply.No f) = IsSeen mounted before who q (Err f) after
IsView mounted before after who q reply.Closed = after ≡ before
IsView mounted before after who q reply.User = ⊥
IsView mounted before after who q reply.Bad = ⊥

-- what a command finds and leaves in addition to the outcome: the context, the entries that the viewer has seen, and the number of replies that the
-- list is full
pub record Standing : Type 0 where
  pub context : Context
  pub seen : List Entry
  pub fulls : ℕ

abbrev pub stands : Context → Viewed → ℕ → Standing
stands context viewed fulls = record { context = context; seen = viewed.seen; fulls = fulls }

-- One command from context to context, and from calls to calls, with this reply. It is counted if the list is full.
abbrev pub TellsContext : List (List ℕ) → List ℕ → Command → Standing → List Call → Reply → Standing → List Call → Type 0
TellsContext mounted stamp c s was r t now =
    Tells mounted stamp (sitting s.context was s.seen) c.nth c.action r (sitting t.context now t.seen) × (s.fulls + fulls_in r ≤ t.fulls)

-- the highest number of calls of a command: one for a request
abbrev pub room_of : Action → ℕ
room_of (action.User who) = 0
room_of (action.Submit a) = 1
room_of (action.View look) = 0
room_of action.Bad = 0

-- and for a script
abbrev pub room_for : List Command → ℕ
room_for cs = sum_by (λ c. room_of c.action) cs
