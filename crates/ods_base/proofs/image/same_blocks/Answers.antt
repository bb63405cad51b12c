use Rattle.std.proofs.Common.{rules, ◌≡◌, length, [], arith}
use Rattle.std.proofs.lemmas.List.{ext_get_or}
use Rattle.ods_base.proofs.image.same_blocks.Goals as goal

pub returns : goal.returns
returns c =
    let long : length c.args.one.now ≡ length c.args.other.now = search (rules) in
    let end = c.len-lbn-end.ensures.value in
    ext_get_or [] c.args.one.now c.args.other.now long (λ k inside. c.loop-lbn.invariant k (omega (arith, inside, end, c.loop-lbn.auto.lbn-end, c.loop-lbn-test.false)))
