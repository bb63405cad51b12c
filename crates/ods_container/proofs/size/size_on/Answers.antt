use Rattle.std.proofs.Common.{ℕ, subst, sym}
use Rattle.ods_container.specs.Size.{AreMappedBelow}
use Rattle.ods_container.proofs.Sizes.{one_size}
use Rattle.ods_container.proofs.size.size_on.Goals as goal

pub returns-else-are_mapped_below-clause-none : goal.returns-else-are_mapped_below-clause-none
returns-else-are_mapped_below-clause-none c S believed =
    let I = c.args.disk.now.image.now in
    let L = c.args.disk.now.layout.now in
    let P : ℕ → Type 0 = λ s. AreMappedBelow I L s in
    c.if-are_mapped_below.ensures (subst P (one_size I L S c.in_ok-size.size believed.0 c.in_ok-size.ensures.some) believed.1)
