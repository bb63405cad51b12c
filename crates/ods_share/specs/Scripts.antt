-- The meaning of a script: the replies and calls of its commands.
use Rattle.std.specs.Prelude.{◌≡◌, ℕ, ◌<◌, Bool, true, false, List, [], ◌∷◌, ◌++◌, length, Option, Some, None, slice_index_or, Result, Ok, Err}
use Rattle.std.specs.List.{list_any, sum_by}
use Rattle.ods_base.specs.declared.file_id.Uic.{Uic}
use Rattle.ods_base.specs.declared.file_id.FileId.{FileId}
use Rattle.ods_request.specs.declared.requests.Request.{Request}
use Rattle.ods_request.specs.declared.requests.Query.{Query}
use Rattle.ods_request.specs.declared.answers.Answer.{Answer}
use Rattle.ods_request.specs.declared.answers.Entry.{Entry}
use Rattle.ods_request.specs.declared.refusals.Refusal.{Refusal}
use Rattle.ods_request.specs.declared.refusals.Refusal.TheVariants as refusal
use Rattle.ods_request.specs.Lists.{Begins}
use Rattle.ods_state.specs.Version.{State, IsLawful}
use Rattle.ods_views.specs.Versions.{AnswersBy}
use Rattle.ods_views.specs.Viewers.{LeadsOn, Viewed, newly}
use Rattle.ods_share.specs.Desks.{IsDeskReason}
use Rattle.ods_ask.specs.Asked.{last_after, query_of, request_of}
pub use Rattle.ods_ask.specs.Asked.{CanBeObeyed, CanBeRun}
use Rattle.ods_ask.specs.declared.script.Action.{Action}
use Rattle.ods_ask.specs.declared.script.Action.TheVariants as action
use Rattle.ods_ask.specs.declared.script.Command.{Command}
use Rattle.ods_ask.specs.declared.script.Script.{Script}
use Rattle.ods_ask.specs.declared.outcome.Reply.{Reply}
use Rattle.ods_ask.specs.declared.outcome.Reply.TheVariants as reply
use Rattle.ods_ask.specs.declared.outcome.Call.{Call}
use Rattle.ods_ask.specs.declared.outcome.Outcome.{Outcome}

-- a session so far: the user in force, the value of `$`, the accepted calls, and the entries that its last view has seen
pub record Sitting : Type 0 where
  pub who : Uic
  pub last : Option FileId
  pub calls : List Call
  pub seen : List Entry

-- an accepted call
abbrev pub call_of : ℕ → Uic → Request → Answer → Call
call_of nth who r a = record { nth = nth; who = who; request = r; answer = a }

-- why a request of this user is refused: a lawful volume over the mounted image M has the reason
pub record IsRefused (M : List (List ℕ)) (who : Uic) (q : Request) (f : Refusal) : Type 0 where
  pub volume : State
  pub mounted : volume.mounted ≡ M
  pub lawful : IsLawful volume
  pub reason : IsDeskReason volume who q f

-- The list that a view of this user reads: it begins with the entries seen before, has a replay from the mounted image M, and gives this result.
pub record IsSeen (M : List (List ℕ)) (before : List Entry) (who : Uic) (q : Query) (answer : Result Answer Refusal) (after : List Entry) : Type 0 where
  pub later : Begins before after
  pub leads : LeadsOn M after
  pub answers : AnswersBy M after who q answer

-- If `$` stands for no file the reply is BAD. Otherwise it is an accepted call, with the answer of the reply, or a refusal, which is not a call.
abbrev pub Submits : List (List ℕ) → Sitting → ℕ → Option Request → Reply → Sitting → Type 0
Submits M s nth None r t = (r ≡ reply.Bad) × (t ≡ s)
Submits M s nth (Some q) (reply.Got a) t = t ≡ record { who = s.who; last = last_after s.last a; calls = s.calls ++ call_of nth s.who q a ∷ []; seen = s.seen }
Submits M s nth (Some q) (reply.No f) t = IsRefused M s.who q f × (t ≡ s)
Submits M s nth (Some q) reply.User t = ⊥
Submits M s nth (Some q) reply.Closed t = ⊥
Submits M s nth (Some q) reply.Bad t = ⊥

-- If `$` stands for no file the reply is BAD. Otherwise it is an answer, which sets `$` as after a request, a refusal, or Closed. It is not a call.
abbrev pub Views : List (List ℕ) → Sitting → Option Query → Reply → Sitting → Type 0
Views M s None r t = (r ≡ reply.Bad) × (t ≡ s)
Views M s (Some q) (reply.Got a) t = IsSeen M s.seen s.who q (Ok a) t.seen × (t ≡ record { who = s.who; last = last_after s.last a; calls = s.calls; seen = t.seen })
Views M s (Some q) (reply.No f) t = IsSeen M s.seen s.who q (Err f) t.seen × (t ≡ record { who = s.who; last = s.last; calls = s.calls; seen = t.seen })
Views M s (Some q) reply.Closed t = t ≡ s
Views M s (Some q) reply.User t = ⊥
Views M s (Some q) reply.Bad t = ⊥

-- One command with its reply, on the mounted image M.
abbrev pub Tells : List (List ℕ) → List ℕ → Sitting → ℕ → Action → Reply → Sitting → Type 0
Tells M stamp s nth (action.User who) r t = (r ≡ reply.User) × (t ≡ record { who = who; last = s.last; calls = s.calls; seen = s.seen })
Tells M stamp s nth (action.Submit a) r t = Submits M s nth (request_of stamp s.last a) r t
Tells M stamp s nth (action.View l) r t = Views M s (query_of s.last l) r t
Tells M stamp s nth action.Bad r t = (r ≡ reply.Bad) × (t ≡ s)

-- one reply for each command, in order
abbrev pub Runs : List (List ℕ) → List ℕ → Sitting → List Command → List Reply → Sitting → Type 0
Runs M stamp s [] [] t = t ≡ s
Runs M stamp s [] (r ∷ rs) t = ⊥
Runs M stamp s (c ∷ cs) [] t = ⊥
Runs M stamp s (c ∷ cs) (r ∷ rs) t = (u : Sitting) × Tells M stamp s c.nth c.action r u × Runs M stamp u cs rs t

-- whether a command reads without the lock
abbrev pub is_view : Action → Bool
is_view (action.View look) = true
is_view (action.User who) = false
is_view (action.Submit a) = false
is_view action.Bad = false

-- whether one of these commands reads without the lock
abbrev pub looks_beside : List Command → Bool
looks_beside cs = list_any (λ c. is_view c.action) cs

-- a session begins as user [1,1], with what its viewer has seen
abbrev pub start : List Entry → Sitting
start seen = record { who = record { group = 1; member = 1 }; last = None; calls = []; seen = seen }

-- 1 if the reply is that the list is full, otherwise 0
abbrev pub fulls_in : Reply → ℕ
fulls_in (reply.No refusal.ListFull) = 1
fulls_in r = 0

-- the number of such replies
abbrev pub fulls_of : List Reply → ℕ
fulls_of rs = sum_by fulls_in rs

-- The outcome of a script whose viewer had seen this list: one reply for each command, and exactly the accepted calls. The reply that the list is
-- full comes only if the list was filled.
pub record IsOutcome (M : List (List ℕ)) (stamp : List ℕ) (seen : List Entry) (filled : Type 0) (cs : List Command) (o : Outcome) : Type 0 where
  pub last : Sitting
  pub runs : Runs M stamp (start seen) cs o.replies.items last
  pub calls : o.calls.items ≡ last.calls
  pub full : 0 < fulls_of o.replies.items → filled

-- the list that the viewer of script k has seen, if there are as many viewers as scripts
abbrev pub seen_first : List Viewed → ℕ → List Entry
seen_first viewers k = (slice_index_or viewers k (newly [])).seen

-- each viewer has seen this list
abbrev pub all_saw : List Entry → ℕ → List Entry
all_saw seen k = seen

-- outcome k is that of script k, whose viewer had seen the list `seen k`
abbrev pub EachOutcome : List (List ℕ) → List ℕ → (ℕ → List Entry) → Type 0 → List Script → List Outcome → Type 0
EachOutcome M stamp seen filled ss os = (k : ℕ) (s : Script) (o : Outcome) → k < length ss → IsOutcome M stamp (seen k) filled (slice_index_or ss k s).commands.items (slice_index_or os k o)
