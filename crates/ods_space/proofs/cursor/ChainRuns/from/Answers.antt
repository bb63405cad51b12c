use Rattle.std.proofs.Common.{◌∙◌, ap, arith}
use Rattle.ods_space.specs.Chain.{named_by}
use Rattle.ods_space.proofs.Located.{laid_out, none_behind}
use Rattle.ods_space.proofs.cursor.ChainRuns.from.Goals as goal

pub pointer_count-requires : goal.pointer_count-requires
pointer_count-requires c =
    let chain = c.requires.chain in
    laid_out c.args.disk.now.image.now c.args.disk.now.layout.now c.args.number chain.0 chain.1 c.args.first.now c.requires.layout chain.2 c.requires.first

pub invariant_of-result : goal.invariant_of-result
invariant_of-result c =
    let chain = c.requires.chain in
    let count = c.pointer_count.ensures.count in
    (laid_out c.args.disk.now.image.now c.args.disk.now.layout.now c.args.number chain.0 chain.1 c.args.first.now c.requires.layout chain.2 c.requires.first, omega (arith, count))

pub returns : goal.returns
returns c =
    let count = c.pointer_count.ensures.count in
    none_behind c.args.first.now c.pointer_count.result (named_by c.from-headers.result) (omega (arith, count)) ∙ ap named_by c.from-headers.ensures
