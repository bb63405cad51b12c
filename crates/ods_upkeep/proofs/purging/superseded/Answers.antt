use Rattle.std.proofs.Common.{rules, ◌≡◌, ◌≤◌, ◌<◌, ◌⊎◌, ◌∙◌, ap, inl, inr, subst, true, false, [], ◌∷◌, ◌++◌, append_assoc, min, arith}
use Rattle.ods_shell.specs.Passed.{is_passed_over}
use Rattle.ods_shell.specs.declared.found.Found.{Found}
use Rattle.ods_upkeep.specs.NameCounts.{AreCounted, IsCountedAlso, count_in, most}
use Rattle.ods_upkeep.specs.Purged.{count_named, name_key}
use Rattle.ods_upkeep.proofs.Superseding.{counted_more, one_goes, one_stays}
use Rattle.ods_upkeep.proofs.purging.superseded.Goals as goal
use Rattle.ods_upkeep.proofs.purging.superseded.Goals.{else-behind-keep-via-then-behind-keep+else-not-is_passed_over, else-behind-keep-via-else-behind-keep}

pub loop-found-preserved-then-not-is_passed_over : goal.loop-found-preserved-then-not-is_passed_over
loop-found-preserved-then-not-is_passed_over c =
    let so_far = c.loop-found.invariant in
    let f : Found = c.in-Some.found in
    let old = c.loop-found.counts.entries in
    let new = c.count_one.new.counts.entries in
    let behind : c.in_ok-behind.behind ≡ min (count_named (name_key f.place) so_far.0) most = c.in_ok-behind.ensures.before ∙ ap (count_in old) c.key.ensures ∙ so_far.2 (name_key f.place) in
    let small : c.args.keep ≤ most = omega (arith, c.ranges.keep.fits) in
    let plain : is_passed_over f.facts ≡ false = search rules in (
      f ∷ so_far.0,
      so_far.1 ∙ ap (λ l. l ++ so_far.0) c.in-Some.ensures.items ∙ append_assoc c.pop.new.self.items (f ∷ []) so_far.0,
      counted_more old new so_far.0 f so_far.2 (subst (λ k. IsCountedAlso old k new) c.key.ensures c.in_ok-behind.ensures.after),
      one_goes c.args.keep f so_far.0 c.loop-found.going.items c.push.new.self.items c.in_ok-behind.behind behind small c.if-behind-keep.true plain so_far.3 c.in_ok-push.ensures.items,
    )

pub loop-found-preserved : goal.loop-found-preserved
loop-found-preserved c =
    let so_far = c.loop-found.invariant in
    let f : Found = c.in-Some.found in
    let old = c.loop-found.counts.entries in
    let new = c.count_one.new.counts.entries in
    let behind : c.in_ok-behind.behind ≡ min (count_named (name_key f.place) so_far.0) most = c.in_ok-behind.ensures.before ∙ ap (count_in old) c.key.ensures ∙ so_far.2 (name_key f.place) in
    let small : c.args.keep ≤ most = omega (arith, c.ranges.keep.fits) in
    let why : (c.in_ok-behind.behind < c.args.keep) ⊎ (is_passed_over f.facts ≡ true) = elim c.else-behind-keep.branch [
      | else-behind-keep-via-then-behind-keep+else-not-is_passed_over w ↦ inr (search rules)
      | else-behind-keep-via-else-behind-keep w ↦ inl (omega (arith, w.if-behind-keep.false))
    ] in (
      f ∷ so_far.0,
      so_far.1 ∙ ap (λ l. l ++ so_far.0) c.in-Some.ensures.items ∙ append_assoc c.pop.new.self.items (f ∷ []) so_far.0,
      counted_more old new so_far.0 f so_far.2 (subst (λ k. IsCountedAlso old k new) c.key.ensures c.in_ok-behind.ensures.after),
      one_stays c.args.keep f so_far.0 c.loop-found.going.items c.in_ok-behind.behind behind small why so_far.3,
    )
