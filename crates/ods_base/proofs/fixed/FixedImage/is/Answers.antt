use Rattle.std.proofs.Common.{rules, ◌≡◌, length, [], refl, arith}
use Rattle.std.proofs.lemmas.List.{ext_get_or}
use Rattle.ods_base.proofs.fixed.FixedImage.is.Goals as goal

pub returns : goal.returns
returns c =
    let long : length c.args.image.now ≡ length c.args.self.now = search (rules) in
    let end = c.len-lbn-end.ensures.value in (
      λ is. ext_get_or [] c.args.image.now c.args.self.now long (λ k inside. c.loop-lbn.invariant k (omega (arith, inside, end, c.loop-lbn.auto.lbn-end, c.loop-lbn-test.false))),
      λ same. refl,
    )
