use Rattle.std.proofs.Common.{◌-◌, ℕ, ap, arith, refl, sym, subst}
use Rattle.std.specs.Prelude.{IfSome}
use Rattle.ods_header.specs.Header.{IsLaidOut}
use Rattle.ods_state.specs.Ends.{IsEndKnown}
use Rattle.ods_change.proofs.ChainCuts.{cut_in_last}
use Rattle.ods_change.proofs.KnownEnds.{chain_known, chain_laid_out}
use Rattle.ods_change.proofs.truncate_file.last_place.Goals as goal
use Rattle.ods_change.proofs.truncate_file.last_place.Goals.{In-Some-header_block}

-- what is noted is true
noted : (c : In-Some-header_block) → IsEndKnown c.args.disk.now.image.now c.args.disk.now.layout.now c.in-Some.end
noted c = subst (λ o. IfSome o (IsEndKnown c.args.disk.now.image.now c.args.disk.now.layout.now)) c.in-Some.is c.requires.known

pub pointer_sum-has-requires : goal.pointer_sum-has-requires
pointer_sum-has-requires c =
    let chain = c.requires.chain in
    subst IsLaidOut (sym c.in-Some-header_block.ensures.some)
    (chain_laid_out c.args.disk.now.image.now c.args.disk.now.layout.now c.args.number c.in-Some.end (noted c) c.if-end-number.true chain.0 chain.1 c.len.ensures.image c.requires.layout chain.2)

pub overflow_sub-gone : goal.overflow_sub-gone
overflow_sub-gone c =
    let at = (goal.at.overflow_sub-gone c).In-Some-header_block in
    let chain = c.requires.chain in
    let k = chain_known c.args.disk.now.image.now c.args.disk.now.layout.now c.args.number c.in-Some.end (noted at) c.if-end-number.true chain.0 chain.1 chain.2 in
    omega (arith, k.1, chain.3)

pub returns-then-gone-has : goal.returns-then-gone-has
returns-then-gone-has c =
    let at = (goal.at.returns-then-gone-has c).In-Some-header_block in
    let I = c.args.disk.now.image.now in
    let L = c.args.disk.now.layout.now in
    let chain = c.requires.chain in
    let has = c.pointer_sum-has.result in
    let gone : ℕ = c.in-Some.end.blocks - c.args.count in
    let k = chain_known I L c.args.number c.in-Some.end (noted at) c.if-end-number.true chain.0 chain.1 chain.2 in
    cut_in_last I L c.args.number c.args.count chain.0 chain.1 (record { number = c.in-Some.end.last; header = c.in-Some-header_block.header; left = has - gone; behind = c.none.result }) has gone c.len.ensures.image c.requires.layout
    chain.2 chain.3 k.2 c.in-Some-header_block.ensures.some c.none.ensures c.pointer_sum-has.ensures.count (ap (λ b. b - c.args.count) k.1) c.if-gone-has.true refl
