use Rattle.std.proofs.Common.{refl, ap, sym, ◌∙◌, subst, arith}
use Rattle.ods_space.specs.Free.{is_open_number}
use Rattle.ods_alloc.proofs.Scans.{none_found, one_more_found, all_found, found_first}
use Rattle.ods_alloc.proofs.FreeTests.{open_number}
use Rattle.ods_alloc.specs.Counts.{ShowsNone, clear_in}
use Rattle.ods_alloc.proofs.Counted.{clear_none}
use Rattle.ods_alloc.proofs.numbers.pick_up_to.Goals as goal

pub loop-k-init : goal.loop-k-init
loop-k-init c = none_found (is_open_number c.args.disk.now.image.now c.args.disk.now.layout.now c.args.most) 1 c.args.most _ c.new-numbers.ensures.items

pub loop-k-preserved : goal.loop-k-preserved
loop-k-preserved c =
    let next = c.in-Some.ensures.some in
    let inside = (open_number c.args.disk.now.image.now c.args.disk.now.layout.now c.args.most c.in-Some.number next.passes).high in
    one_more_found (is_open_number c.args.disk.now.image.now c.args.disk.now.layout.now c.args.most) 1 c.args.most c.loop-k.numbers.items _ c.loop-k.from c.loop-k._k c.in-Some.number (omega (arith, inside)) c.loop-k.invariant next c.in_ok-push.ensures.items

pub returns-in_default-clause-err : goal.returns-in_default-clause-err
returns-in_default-clause-err c =
    let all = all_found (is_open_number c.args.disk.now.image.now c.args.disk.now.layout.now c.args.most) 1 c.args.most c.loop-k.numbers.items c.loop-k.from c.loop-k._k c.loop-k.invariant c.in_default.ensures.none in
    (refl, omega (arith, all, c.loop-k-test.true))

pub returns-clause-ok : goal.returns-clause-ok
returns-clause-ok c =
    found_first (is_open_number c.args.disk.now.image.now c.args.disk.now.layout.now c.args.most) 1 c.args.most c.loop-k.numbers.items c.loop-k.from c.loop-k._k c.args.count c.loop-k.invariant (omega (arith, c.loop-k.auto._k-end, c.loop-k-test.false))

pub next_open_number-requires-clause-counts : goal.next_open_number-requires-clause-counts
next_open_number-requires-clause-counts c =
    subst (λ l. ShowsNone l (clear_in c.args.disk.now.image.now c.args.disk.now.layout.now.home)) (sym (c.numbers.ensures ∙ ap (λ v. v.numbers) c.requires.counts)) (clear_none c.args.disk.now.image.now c.args.disk.now.layout.now.home)
