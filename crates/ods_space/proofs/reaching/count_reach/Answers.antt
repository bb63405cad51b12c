use Rattle.std.proofs.Common.{◌≡◌, ℕ, true, length, None, sym, ap, subst, arith}
use Rattle.ods_space.specs.Chain.{index_for}
use Rattle.ods_space.specs.Reach.{Reaches}
use Rattle.ods_space.specs.Walk.{IsPast}
use Rattle.ods_space.proofs.AsFar.{is_past, whole_is_chain}
use Rattle.ods_space.proofs.Sizes.{chain_size}
use Rattle.ods_space.proofs.reaching.count_reach.Goals as goal

pub overflow_cast-result : goal.overflow_cast-result
overflow_cast-result c =
    let few = chain_size c.args.disk.now.image.now c.args.disk.now.layout.now.home None 1 c.requires.0 c.args.disk.now.layout.now.index c.len-len.ensures.image c.requires.1 in
    let size = ap length c.index-index.ensures in
    omega arith

pub returns-then-number-eq1-clause-some : goal.returns-then-number-eq1-clause-some
returns-then-number-eq1-clause-some c =
    let I = c.args.disk.now.image.now in
    let L = c.args.disk.now.layout.now in
    let P : ℕ → Type 0 = λ n. Reaches I L.home (index_for L n) n L.index true in
    let reached = (whole_is_chain I L.home None 1 L.index).1 c.requires.0 c.requires.1 in
    let past = is_past I c.index-index.result.now c.outside.result c.outside.ensures.some c.outside.ensures.none in
    (L.index, subst P (sym c.if-number-eq1.true) reached, record { count = ap length c.index-index.ensures; past = subst (λ l. IsPast (length I) l c.outside.result) c.index-index.ensures past })
