-- Requests that are made one after another: one more, all, and those up to one that is refused.
use Rattle.std.proofs.Common.{◌≡◌, ◌≢◌, ◌≤◌, ◌<◌, ◌+◌, ◌∙◌, refl, sym, ap, subst, ℕ, List, [], ◌∷◌, ◌++◌, length, drop, drop-cons, get_or, add-one, append_assoc, append-nil}
use Rattle.std.proofs.lemmas.List.{drop_all}
use Rattle.ods_request.specs.declared.refusals.Refusal.{Refusal}
use Rattle.ods_request.specs.declared.refusals.Refusal.TheVariants as refusal
use Rattle.ods_request.specs.declared.requests.Request.{Request}
use Rattle.ods_filing.specs.Filed.{Filed}
use Rattle.ods_repair.specs.Asked.{AsksAll, IsMade, IsNotMade, StopsAt}

module _ {X : Type 0} (request : X → Request) (old : Filed) where
  -- one more
  asks_more : (from mid new : Filed) (before : List X) (x : X) → AsksAll request from before mid → IsMade mid (request x) new → AsksAll request from (before ++ x ∷ []) new
  asks_more from mid new [] x same done = (new, subst (λ f. IsMade f (request x) new) same done, refl)
  asks_more from mid new (y ∷ before) x first done = (first.0, first.1, asks_more first.0 mid new before x first.2 done)

  -- the first i of them are made
  pub record IsPartly (all : List X) (i : ℕ) (mid : Filed) : Type 0 where
    pub before : List X
    pub whole : all ≡ before ++ drop i all
    pub asked : AsksAll request old before mid

  pub partly_none : (all : List X) → IsPartly all 0 old
  partly_none all = record { before = []; whole = refl; asked = refl }

  -- what is left from a place on begins with what stands there
  left_from : (all : List X) (i : ℕ) (x : X) → i < length all → x ≡ get_or all i x → drop i all ≡ x ∷ drop (i + 1) all
  left_from all i x within is = drop-cons all i x within ∙ (λ j. sym is j ∷ drop (sym (add-one i) j) all)

  pub partly_more : (all : List X) (i : ℕ) (x : X) (mid new : Filed) → i < length all → x ≡ get_or all i x → IsPartly all i mid → IsMade mid (request x) new → IsPartly all (i + 1) new
  partly_more all i x mid new within is p done = record {
    before = p.before ++ x ∷ [];
    whole = p.whole ∙ ap (λ l. p.before ++ l) (left_from all i x within is) ∙ sym (append_assoc p.before (x ∷ []) (drop (i + 1) all));
    asked = asks_more old mid new p.before x p.asked done;
  }

  pub partly_all : (all : List X) (i : ℕ) (new : Filed) → length all ≤ i → IsPartly all i new → AsksAll request old all new
  partly_all all i new end p = subst (λ l. AsksAll request old l new) (sym (p.whole ∙ ap (λ l. p.before ++ l) (drop_all i all end) ∙ append-nil p.before)) p.asked

  pub partly_stops : (all : List X) (i : ℕ) (x : X) (mid new : Filed) (reason : Refusal) → i < length all → x ≡ get_or all i x → IsPartly all i mid → reason ≢ refusal.Denied → IsNotMade mid (request x) new reason → StopsAt request old all new x reason
  partly_stops all i x mid new reason within is p undenied left = record {
    before = p.before;
    behind = drop (i + 1) all;
    order = p.whole ∙ ap (λ l. p.before ++ l) (left_from all i x within is);
    mid = mid;
    asked = p.asked;
    undenied = undenied;
    left = left;
  }
