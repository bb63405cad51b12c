use Rattle.std.proofs.Common.{◌≡◌, ◌+◌, ◌++◌, ◌∷◌, [], length, refl, ap, sym, ◌∙◌, subst, arith}
use Rattle.std.proofs.lemmas.List.{append_assoc}
use Rattle.ods_space.specs.Free.{is_free_block, free_blocks}
use Rattle.ods_alloc.specs.Counts.{ShowsNone, free_in}
use Rattle.ods_alloc.proofs.Counted.{free_none}
use Rattle.ods_alloc.proofs.FreeTests.{free_inside, lowest_few}
use Rattle.ods_alloc.proofs.Scans.{AreFound, all_found, found_first, one_more_found, picked_behind, start_found}
use Rattle.ods_alloc.proofs.free.pick_blocks_behind.Goals as goal

pub start_behind-from-requires : goal.start_behind-from-requires
start_behind-from-requires c = lowest_few c.args.disk.now.image.now c.args.disk.now.layout.now c.args.lowest.now c.requires.lowest c.len.ensures.image.size

pub loop-k-init : goal.loop-k-init
unfolding free_blocks
loop-k-init c =
    start_found (is_free_block c.args.disk.now.image.now c.args.disk.now.layout.now) (length c.args.disk.now.image.now) c.args.lowest.now c.new-blocks.result.items c.start_behind-from.result
    c.requires.lowest c.new-blocks.ensures.items c.start_behind-from.ensures

pub loop-k-preserved : goal.loop-k-preserved
loop-k-preserved c =
    let I = c.args.disk.now.image.now in
    let p = is_free_block I c.args.disk.now.layout.now in
    let next = c.in-Some.ensures.some in
    let inside = free_inside I c.args.disk.now.layout.now c.in-Some.lbn next.passes in
    let lowest = c.args.lowest.now in
    let blocks = c.loop-k.blocks.items in
    let pushed = ap (λ l. lowest ++ l) c.in_ok-push.ensures.items ∙ sym (append_assoc lowest blocks (c.in-Some.lbn ∷ [])) in
    let count : (length lowest + c.loop-k._k) + 1 ≡ length lowest + (c.loop-k._k + 1) = omega arith in
    subst (AreFound p 0 (length I) _ (c.in-Some.lbn + 1)) count
    (one_more_found p 0 (length I) (lowest ++ blocks) _ c.loop-k.from (length lowest + c.loop-k._k) c.in-Some.lbn (omega (arith, inside)) c.loop-k.invariant next pushed)

pub returns-in_default-clause-err : goal.returns-in_default-clause-err
unfolding free_blocks
returns-in_default-clause-err c =
    let I = c.args.disk.now.image.now in
    let all = all_found (is_free_block I c.args.disk.now.layout.now) 0 (length I) (c.args.lowest.now ++ c.loop-k.blocks.items) c.loop-k.from (length c.args.lowest.now + c.loop-k._k) c.loop-k.invariant c.in_default.ensures.none in
    (refl, omega (arith, all, c.loop-k-test.true))

pub returns-clause-ok : goal.returns-clause-ok
unfolding free_blocks
returns-clause-ok c =
    let I = c.args.disk.now.image.now in
    let L = c.args.disk.now.layout.now in
    let lowest = c.args.lowest.now in
    let first = found_first (is_free_block I L) 0 (length I) (lowest ++ c.loop-k.blocks.items) c.loop-k.from (length lowest + c.loop-k._k) (length lowest + c.args.count) c.loop-k.invariant
    (omega (arith, c.loop-k.auto._k-end, c.loop-k-test.false)) in
    (picked_behind lowest c.loop-k.blocks.items (free_blocks I L) c.args.count first.0, first.1)

pub next_free-requires : goal.next_free-requires
next_free-requires c =
    subst (λ l. ShowsNone l (free_in c.args.disk.now.image.now c.args.disk.now.layout.now)) (sym (c.as_slice.ensures ∙ ap (λ v. v.blocks) c.requires.counts)) (free_none c.args.disk.now.image.now c.args.disk.now.layout.now)
