use Rattle.std.proofs.Common.{ℕ, ◌∙◌, get_or, refl, sym, arith}
use Rattle.std.proofs.lemmas.Option.{slice_get-get_or}
use Rattle.ods_repair.proofs.Apart.{all_apart, one_apart}
use Rattle.ods_repair.proofs.spare.check_apart.Goals as goal

pub returns-then-is_fixed_place-clause-err : goal.returns-then-is_fixed_place-clause-err
returns-then-is_fixed_place-clause-err c =
    let i = c.loop-i.i in
    (refl, (i, c.loop-i.invariant.some, slice_get-get_or c.args.blocks.now i 0 c.loop-i-test.true), c.if-is_fixed_place.ensures)

pub returns-then-contains-clause-err : goal.returns-then-contains-clause-err
returns-then-contains-clause-err c =
    let i = c.loop-i.i in
    let b : ℕ = get_or c.args.blocks.now i 0 in
    (refl, (i, c.loop-i.invariant.some, slice_get-get_or c.args.blocks.now i 0 c.loop-i-test.true), c.in_ok-others.ensures.only b (sym c.contains.ensures ∙ c.if-contains.true))

pub loop-i-preserved : goal.loop-i-preserved
loop-i-preserved c =
    let i = c.loop-i.i in
    let xs = c.args.blocks.now in
    let some = c.loop-i.invariant.some in
    record {
      some = omega (arith, some);
      apart = one_apart c.args.disk.now.image.now c.args.disk.now.layout.now c.args.file xs c.args.first i (get_or xs i 0) c.loop-i.invariant.apart (slice_get-get_or xs i 0 c.loop-i-test.true) c.if-is_fixed_place.ensures
          (λ held. let clash = sym (c.in_ok-others.ensures.all (get_or xs i 0) held) ∙ sym c.contains.ensures ∙ c.if-contains.false in absurd (cc));
    }

pub returns-clause-ok : goal.returns-clause-ok
returns-clause-ok c =
    all_apart c.args.disk.now.image.now c.args.disk.now.layout.now c.args.file c.args.blocks.now c.args.first c.loop-i.i (let end = c.loop-i-test.false in omega (arith, end)) c.loop-i.invariant.apart
