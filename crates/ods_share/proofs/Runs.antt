-- One command more, and what came of all sessions.
use Rattle.std.proofs.Common.{◌≡◌, ℕ, zero, suc, List, [], ◌∷◌, ◌++◌, ◌<◌, ◌≤◌, length, map, Ok, refl, sym, ap, ◌∙◌, subst, arith}
use Rattle.std.specs.Prelude.{All, slice_index_or, vec_len, Result, Err, IfOk}
use Rattle.std.specs.declared.alloc.AllocError.{AllocError}
use Rattle.std.specs.declared.alloc.Global.{Global}
use Rattle.std.specs.declared.vec.Vec.{Vec}
use Rattle.ods_ask.specs.declared.script.Command.{Command}
use Rattle.ods_ask.specs.declared.script.Script.{Script}
use Rattle.ods_share.specs.declared.keeping.Ended.{Ended}
use Rattle.ods_ask.specs.declared.outcome.Outcome.{Outcome}
use Rattle.ods_ask.specs.declared.outcome.Reply.{Reply}
use Rattle.ods_request.specs.declared.answers.Entry.{Entry}
use Rattle.ods_views.specs.Viewers.{Viewed, newly}
use Rattle.ods_share.specs.Keeping.{AreReplies, EachEnded, EachIfOk, IsEnded, IsSat, outcome_of}
use Rattle.ods_share.specs.declared.session.Sat.{Sat}
use Rattle.ods_state.specs.Version.{State}
use Rattle.ods_share.specs.Scripts.{Sitting, Tells, Runs, IsOutcome, EachOutcome, all_saw, fulls_of, seen_first, start}

pub runs_snoc : (M : List (List ℕ)) (stamp : List ℕ) (s : Sitting) (cs : List Command) (rs : List Reply) (t : Sitting) (c : Command) (r : Reply) (u : Sitting) → Runs M stamp s cs rs t → Tells M stamp t c.nth c.action r u → Runs M stamp s (cs ++ c ∷ []) (rs ++ r ∷ []) u
runs_snoc M stamp s [] [] t c r u is tells = (u, subst (λ (x : Sitting). Tells M stamp x c.nth c.action r u) is tells, refl)
runs_snoc M stamp s [] (q ∷ qs) t c r u is tells = absurd is
runs_snoc M stamp s (d ∷ ds) [] t c r u is tells = absurd is
runs_snoc M stamp s (d ∷ ds) (q ∷ qs) t c r u is tells = (is.0, is.1, runs_snoc M stamp is.0 ds qs t c r u is.2 tells)

-- one that came to its end
abbrev fine : {X : Type 0} → X → Result X AllocError
fine x = Ok x

index_map : {X Y : Type 0} (f : X → Y) (xs : List X) (k : ℕ) (x : X) → slice_index_or (map f xs) k (f x) ≡ f (slice_index_or xs k x)
index_map f [] k x = refl
index_map f (y ∷ ys) zero x = refl
index_map f (y ∷ ys) (suc k) x = index_map f ys k x

pub map_len : {X Y : Type 0} (f : X → Y) (xs : List X) → length (map f xs) ≡ length xs
map_len f [] = refl
map_len f (x ∷ xs) = ap suc (map_len f xs)

-- all came to their ends
pub sat : {K L : Type 0} (keeps : List Command → List Reply → K → Type 0) (M : List (List ℕ)) (stamp : List ℕ) (seen : ℕ → List Entry) (ss : List Script) (rs : List (Result (Sat K L) AllocError)) (all : List (Sat K L)) →
    rs ≡ map fine all → EachIfOk keeps M stamp seen ss rs → (k : ℕ) (s : Script) (x : Sat K L) → k < length ss → IsSat keeps M stamp (seen k) (slice_index_or ss k s).commands.items (slice_index_or all k x)
sat {K} {L} keeps M stamp seen ss rs all is each k s x lt =
    let at : IfOk (slice_index_or rs k (fine x)) (IsSat keeps M stamp (seen k) (slice_index_or ss k s).commands.items) = each k s (fine x) lt in
    let here : slice_index_or rs k (fine x) ≡ fine (slice_index_or all k x) =
    subst (λ (l : List (Result (Sat K L) AllocError)). slice_index_or l k (fine x) ≡ fine (slice_index_or all k x)) (sym is) (index_map fine all k x) in
    subst (λ (r : Result (Sat K L) AllocError). IfOk r (IsSat keeps M stamp (seen k) (slice_index_or ss k s).commands.items)) here at

pub sat_len : {K L : Type 0} (rs : List (Result (Sat K L) AllocError)) (all : List (Sat K L)) → rs ≡ map fine all → length all ≡ length rs
sat_len rs all is = sym (ap length is ∙ map_len fine all)

-- where its share has counted no more than all of them, and the list was filled if they have counted any
is_filled : {K L : Type 0} (keeps : List Command → List Reply → K → Type 0) (M : List (List ℕ)) (stamp : List ℕ) (seen : List Entry) (filled : Type 0) (cs : List Command) (x : Sat K L) (total : ℕ) →
    x.fulls.amount ≤ total → (0 < total → filled) → IsSat keeps M stamp seen cs x → IsEnded keeps M stamp seen filled cs x.ended
is_filled keeps M stamp seen filled cs x total few list is = record {
  replies = is.replies;
  last = is.last;
  runs = is.runs;
  calls = is.calls;
  kept = is.kept;
  full = λ some. list (omega (arith, is.full some, few));
}

-- so it is with all
pub ended : {K L : Type 0} (keeps : List Command → List Reply → K → Type 0) (M : List (List ℕ)) (stamp : List ℕ) (seen : ℕ → List Entry) (filled : Type 0) (ss : List Script) (all : List (Sat K L)) (es : List (Ended K)) (total : ℕ) →
    es ≡ map (λ (s : Sat K L). s.ended) all → length ss ≤ length all → All (λ (s : Sat K L). s.fulls.amount ≤ total) all → (0 < total → filled)
    → ((k : ℕ) (s : Script) (x : Sat K L) → k < length ss → IsSat keeps M stamp (seen k) (slice_index_or ss k s).commands.items (slice_index_or all k x))
    → EachEnded keeps M stamp seen filled ss es
ended {K} {L} keeps M stamp seen filled ss [] es total is enough few list each k s e lt = absurd (omega (arith, lt, enough))
ended {K} {L} keeps M stamp seen filled ss (one ∷ more) es total is enough few list each k s e lt =
    let all : List (Sat K L) = one ∷ more in
    let d : Sat K L = record { ended = e; fulls = one.fulls } in
    let at : Sat K L = slice_index_or all k d in
    let here : slice_index_or es k e ≡ at.ended =
    subst (λ (l : List (Ended K)). slice_index_or l k e ≡ at.ended) (sym is) (index_map (λ (s : Sat K L). s.ended) all k d) in
    subst (λ (x : Ended K). IsEnded keeps M stamp (seen k) filled (slice_index_or ss k s).commands.items x) (sym here)
    (is_filled keeps M stamp (seen k) filled (slice_index_or ss k s).commands.items at total (few k d (omega (arith, lt, enough))) list (each k s d lt))

-- at a desk that was opened for them all viewers have seen its list
of_viewers : {K : Type 0} (keeps : List Command → List Reply → K → Type 0) (M : List (List ℕ)) (stamp : List ℕ) (filled : Type 0) (viewers : List Viewed) (E : List Entry) (ss : List Script) (es : List (Ended K)) →
    All (λ (v : Viewed). v ≡ newly E) viewers → length ss ≤ length viewers → EachEnded keeps M stamp (seen_first viewers) filled ss es → EachEnded keeps M stamp (all_saw E) filled ss es
of_viewers keeps M stamp filled viewers E ss es all enough each k s e lt =
    subst (λ (seen : List Entry). IsEnded keeps M stamp seen filled (slice_index_or ss k s).commands.items (slice_index_or es k e))
    (ap (λ (v : Viewed). v.seen) (all k (newly []) (omega (arith, lt, enough)))) (each k s e lt)

-- the same of a run at it, said by its volume in place of its name
pub at_new_desk : {K F : Type 0} (keeps : List Command → List Reply → K → Type 0) (M N : List (List ℕ)) (limit most : ℕ) (stamp : List ℕ) (viewers : List Viewed) (E : List Entry) (ss : List Script)
    (r : Result (State × Vec (Ended K) Global) F) → M ≡ N → limit ≡ most → All (λ (v : Viewed). v ≡ newly E) viewers → length ss ≤ length viewers →
    IfOk r (λ p. (vec_len p.1 ≡ length ss) × EachEnded keeps M stamp (seen_first viewers) (length p.0.entries ≡ limit) ss p.1.items) →
    IfOk r (λ p. (vec_len p.1 ≡ length ss) × EachEnded keeps N stamp (all_saw E) (length p.0.entries ≡ most) ss p.1.items)
at_new_desk {K} keeps M N limit most stamp viewers E ss (Ok p) same bound all enough is = (
  is.0,
  subst (λ (m : List (List ℕ)). EachEnded keeps m stamp (all_saw E) (length p.0.entries ≡ most) ss p.1.items) same
      (subst (λ (n : ℕ). EachEnded keeps M stamp (all_saw E) (length p.0.entries ≡ n) ss p.1.items) bound (of_viewers keeps M stamp (length p.0.entries ≡ limit) viewers E ss p.1.items all enough is.1)),
)
at_new_desk keeps M N limit most stamp viewers E ss (Err f) same bound all enough is = tt

-- what a session kept of its replies is that outcome, where it kept the replies
an_outcome : (M : List (List ℕ)) (stamp : List ℕ) (seen : List Entry) (filled : Type 0) (cs : List Command) (e : Ended (Vec Reply Global)) → IsEnded AreReplies M stamp seen filled cs e → IsOutcome M stamp seen filled cs (outcome_of e)
an_outcome M stamp seen filled cs e is = record {
  last = is.last;
  runs = subst (λ (rs : List Reply). Runs M stamp (start seen) cs rs is.last) (sym is.kept) is.runs;
  calls = is.calls;
  full = λ some. is.full (subst (λ (rs : List Reply). 0 < fulls_of rs) is.kept some);
}

-- so it is with all
pub outcomes : (M : List (List ℕ)) (stamp : List ℕ) (seen : ℕ → List Entry) (filled : Type 0) (ss : List Script) (es : List (Ended (Vec Reply Global))) (os : List Outcome) →
    os ≡ map outcome_of es → EachEnded AreReplies M stamp seen filled ss es → EachOutcome M stamp seen filled ss os
outcomes M stamp seen filled ss es os is each k s o lt =
    let e : Ended (Vec Reply Global) = record { calls = o.calls; kept = o.replies } in
    let here : slice_index_or os k o ≡ outcome_of (slice_index_or es k e) =
    subst (λ (l : List Outcome). slice_index_or l k o ≡ outcome_of (slice_index_or es k e)) (sym is) (index_map outcome_of es k e) in
    subst (λ (x : Outcome). IsOutcome M stamp (seen k) filled (slice_index_or ss k s).commands.items x) (sym here) (an_outcome M stamp (seen k) filled _ _ (each k s e lt))

pub outcomes_len : (es : List (Ended (Vec Reply Global))) (os : List Outcome) → os ≡ map outcome_of es → length os ≡ length es
outcomes_len es os is = ap length is ∙ map_len outcome_of es

-- as many viewers as places are enough for no more scripts
pub enough_viewers : {D F : Type 0} (n places : ℕ) (E : List Entry) (r : Result (D × Vec Viewed Global) F) → n ≤ places → IfOk r (λ p. (vec_len p.1 ≡ places) × All (λ (v : Viewed). v ≡ newly E) p.1.items)
    → IfOk r (λ p. (n ≤ vec_len p.1) × All (λ (v : Viewed). v ≡ newly E) p.1.items)
enough_viewers n places E (Ok p) enough is = (omega (arith, is.0, enough), is.1)
enough_viewers n places E (Err e) enough is = tt
