use Rattle.std.proofs.Common.{rules, ◌≡◌, ℕ, ◌+◌, ◌<◌, ◌≤◌, sym, ap, ◌∙◌, subst, Bool, List, [], ◌∷◌, map, length, get_or, arith}
use Rattle.std.specs.Prelude.{IsPermutation, IsSortedByKey}
use Rattle.std.specs.Ordering.{is_lt}
use Rattle.std.specs.List.Sorted.{IsSortedBy}
use Rattle.std.proofs.lemmas.List.{take_all, get_or-map, length-map}
use Rattle.std.proofs.lemmas.List.Sorted.{ranks_by, answers_always, IsPermutation-map}
use Rattle.ods_base.specs.declared.listed.Listed.{Listed}
use Rattle.ods_paths.specs.Order.{listing_cmp}
use Rattle.ods_paths.proofs.ListingOrder.{listing_total}
use Rattle.ods_walk.specs.declared.ordering.Titled.{Titled}
use Rattle.ods_walk.specs.Listing.{shown}
use Rattle.ods_walk.proofs.ordering.in_order.Goals as goal
use Rattle.ods_walk.proofs.ordering.in_order.Goals.{After-drop-titled-2}

-- what is in order by a test of their entries has its entries in that order
sorted_map : (f : Titled → Listed) (lt : Listed → Listed → Bool) (xs : List Titled) → IsSortedBy (λ x y. lt (f x) (f y)) xs → IsSortedBy lt (map f xs)
sorted_map f lt [] up k d low within = absurd (omega arith)
sorted_map f lt (x ∷ xs) up k d low within =
    let size = length-map (x ∷ xs) f in
    let at : (j : ℕ) → j < length (map f (x ∷ xs)) → get_or (map f (x ∷ xs)) j d ≡ f (get_or (x ∷ xs) j x) = λ j small. get_or-map f (x ∷ xs) j x d (subst (λ n. j < n) size small) in
    (λ i. lt (at (k + 1) within i) (at k (omega arith) i)) ∙ up k x low (subst (λ n. k + 1 < n) size within)

-- the lines are those that were put in order
lines_are : (c : After-drop-titled-2) → c.loop-line.lines.items ≡ map (λ (t : Titled). t.entry) c.sort_unstable_by.new.self.items
lines_are c =
    let past : length c.deref-line-items.result.now ≤ c.loop-line.line-index = search rules in
    c.loop-line.invariant ∙ ap (map (λ (t : Titled). t.entry)) (take_all c.loop-line.line-index c.deref-line-items.result.now past ∙ c.deref-line-items.ensures.value)

pub returns-clause-permutation : goal.returns-clause-permutation
returns-clause-permutation c =
    let past : length c.args.entries.now ≤ c.loop-entry.entry-index = search rules in
    let all : map (λ (t : Titled). t.entry) c.loop-entry.titled.items ≡ c.args.entries.now = c.loop-entry.invariant ∙ take_all c.loop-entry.entry-index c.args.entries.now past in
    subst (λ l. IsPermutation c.args.entries.now l) (sym (lines_are (goal.at.returns-clause-permutation c).After-drop-titled-2))
    (subst (λ l. IsPermutation l (map (λ (t : Titled). t.entry) c.sort_unstable_by.new.self.items)) all (IsPermutation-map (λ (t : Titled). t.entry) c.loop-entry.titled.items c.sort_unstable_by.new.self.items c.sort_unstable_by.ensures.permutation))

pub returns-clause-order : goal.returns-clause-order
returns-clause-order c =
    subst (IsSortedByKey shown listing_cmp) (sym (lines_are (goal.at.returns-clause-order c).After-drop-titled-2))
    (sorted_map (λ (t : Titled). t.entry) (λ x y. is_lt (listing_cmp (shown x) (shown y))) c.sort_unstable_by.new.self.items
    (c.sort_unstable_by.ensures.sorted (λ x y. is_lt (listing_cmp (shown x.entry) (shown y.entry))) (ranks_by listing_total (λ (t : Titled). shown t.entry)) (answers_always _ _ _ (λ f a r g h. search rules))))
