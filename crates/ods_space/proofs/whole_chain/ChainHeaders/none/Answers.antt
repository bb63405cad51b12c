use Rattle.std.proofs.Common.{refl, arith}
use Rattle.ods_space.specs.Chain.{headers_along}
use Rattle.ods_space.proofs.whole_chain.ChainHeaders.none.Goals as goal

pub invariant_of-result : goal.invariant_of-result
unfolding headers_along
invariant_of-result c = (λ some. absurd (some refl), λ k d low. absurd (omega (arith, low)))

pub returns : goal.returns
unfolding headers_along
returns c = refl
