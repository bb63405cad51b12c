use Rattle.std.proofs.Common.{◌-◌, ◌*◌, ◌++◌, length, take, drop, ap, ◌∙◌}
use Rattle.ods_base.specs.Block.{zeros, with_bytes}
use Rattle.ods_filing.proofs.Blocks.{filled, rest_is}
use Rattle.ods_upkeep.proofs.appending.block_of.Goals as goal

pub returns : goal.returns
returns c =
    let bytes = c.args.bytes.now in
    let rest = take (length bytes - 512 * c.args.k) (drop (512 * c.args.k) bytes) in
    let here = take c.min.result rest in
    c.set_bytes.ensures.changed ∙ ap (λ z. with_bytes z 0 here) c.zeros-block.ensures.value
    ∙ filled rest here (ap (λ n. take n rest) c.min.ensures) ∙ ap (λ l. take 512 (l ++ zeros)) (rest_is (512 * c.args.k) bytes)
