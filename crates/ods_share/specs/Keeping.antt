-- The result of a session, by what it kept of its replies.
use Rattle.std.specs.Prelude.{◌≡◌, ℕ, ◌<◌, List, [], ◌∷◌, ◌++◌, length, Result, IfOk, slice_index_or}
use Rattle.std.specs.declared.vec.Vec.{Vec}
use Rattle.std.specs.declared.alloc.Global.{Global}
use Rattle.std.specs.declared.alloc.AllocError.{AllocError}
use Rattle.ods_request.specs.declared.answers.Entry.{Entry}
use Rattle.ods_ask.specs.declared.script.Command.{Command}
use Rattle.ods_ask.specs.declared.script.Script.{Script}
use Rattle.ods_ask.specs.declared.outcome.Reply.{Reply}
use Rattle.ods_ask.specs.declared.outcome.Outcome.{Outcome}
use Rattle.ods_share.specs.declared.keeping.Ended.{Ended}
use Rattle.ods_share.specs.declared.session.Sat.{Sat}
use Rattle.ods_share.specs.Scripts.{Sitting, Runs, start, fulls_of}
use Rattle.ods_share.specs.Sittings.{Standing, TellsContext}

-- the replies themselves are kept
abbrev pub AreReplies : List Command → List Reply → Vec Reply Global → Type 0
AreReplies cs rs v = v.items ≡ rs

-- one command more: its reply is kept after the others
abbrev pub KeepsOn : {K : Type 0} → (List Command → List Reply → K → Type 0) → Command → Reply → K → K → Type 0
KeepsOn keeps c r old new = (cs : List Command) (rs : List Reply) → keeps cs rs old → keeps (cs ++ c ∷ []) (rs ++ r ∷ []) new

-- One command: its call, if there is one, is after the others, and its reply is kept.
abbrev pub TellsOn : {K : Type 0} → (List Command → List Reply → K → Type 0) → List (List ℕ) → List ℕ → Command → Standing → Ended K → Standing → Ended K → Type 0
TellsOn keeps mounted stamp c s was t now =
    (r : Reply) × TellsContext mounted stamp c s was.calls.items r t now.calls.items × KeepsOn keeps c r was.kept now.kept

-- The result of a script whose viewer had seen this list. There is one reply for each command, and the accepted calls are exactly those of the
-- result. This value is kept of the replies. The reply that the list is full comes only if the list was filled.
pub record IsEnded {K : Type 0} (keeps : List Command → List Reply → K → Type 0) (M : List (List ℕ)) (stamp : List ℕ) (seen : List Entry) (filled : Type 0) (cs : List Command) (e : Ended K) : Type 0 where
  pub replies : List Reply
  pub last : Sitting
  pub runs : Runs M stamp (start seen) cs replies last
  pub calls : e.calls.items ≡ last.calls
  pub kept : keeps cs replies e.kept
  pub full : 0 < fulls_of replies → filled

-- result k is that of script k, whose viewer had seen the list `seen k`
abbrev pub EachEnded : {K : Type 0} → (List Command → List Reply → K → Type 0) → List (List ℕ) → List ℕ → (ℕ → List Entry) → Type 0 → List Script → List (Ended K) → Type 0
EachEnded {K} keeps M stamp seen filled ss es = (k : ℕ) (s : Script) (e : Ended K) → k < length ss → IsEnded keeps M stamp (seen k) filled (slice_index_or ss k s).commands.items (slice_index_or es k e)

-- the result of a session at its end is that; its share counts each reply that the list is full
abbrev pub IsSat : {K L : Type 0} → (List Command → List Reply → K → Type 0) → List (List ℕ) → List ℕ → List Entry → List Command → Sat K L → Type 0
IsSat keeps M stamp seen cs sat = IsEnded keeps M stamp seen (0 < sat.fulls.amount) cs sat.ended

-- the same for each session that came to its end
abbrev pub EachIfOk : {K L : Type 0} → (List Command → List Reply → K → Type 0) → List (List ℕ) → List ℕ → (ℕ → List Entry) → List Script → List (Result (Sat K L) AllocError) → Type 0
EachIfOk {K} {L} keeps M stamp seen ss rs =
    (k : ℕ) (s : Script) (r : Result (Sat K L) AllocError) → k < length ss → IfOk (slice_index_or rs k r) (IsSat keeps M stamp (seen k) (slice_index_or ss k s).commands.items)

-- the outcome, if the replies themselves were kept
abbrev pub outcome_of : Ended (Vec Reply Global) → Outcome
outcome_of e = record { calls = e.calls; replies = e.kept }
