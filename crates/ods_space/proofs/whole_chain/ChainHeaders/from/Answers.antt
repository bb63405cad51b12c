use Rattle.std.proofs.Common.{refl}
use Rattle.ods_space.specs.Chain.{headers_of}
use Rattle.ods_space.proofs.Wholes.{chain_seen, valid_along}
use Rattle.ods_space.proofs.whole_chain.ChainHeaders.from.Goals as goal

pub invariant_of-result : goal.invariant_of-result
invariant_of-result c =
    let chain = c.requires.chain in
    let seen = chain_seen c.args.disk.now.image.now c.args.disk.now.layout.now c.args.number chain.0 chain.1 c.len.ensures.image c.requires.layout chain.2 in
    (λ _. c.requires.first, valid_along c.args.disk.now.image.now c.args.disk.now.layout.now c.args.number chain.0 chain.1 seen)

pub returns : goal.returns
unfolding headers_of
returns c = refl
