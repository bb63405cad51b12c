use Rattle.std.proofs.Common.{◌≡◌, ◌≤◌, ◌-◌, ◌*◌, ℕ, [], sym, length, min, get_or, arith}
use Rattle.std.proofs.lemmas.List.{get_or-map, length-map}
use Rattle.ods_base.specs.Image.{block_at}
use Rattle.ods_mount.specs.Faults.{contents_of}
use Rattle.ods_walk.proofs.NamedEntries.{all_blocks, one_block_more}
use Rattle.ods_walk.proofs.named.named_in.Goals as goal

pub loop-lbn-preserved : goal.loop-lbn-preserved
loop-lbn-preserved c =
    let image = c.args.image.now in
    let lbns = c.args.lbns.now in
    let i : ℕ = c.loop-lbn.lbn-index in
    let here : c.min-here.result ≡ min (c.args.mark - 512 * i) 512 = omega (arith, c.loop-lbn.invariant.0, c.min-here.ensures) in (
      omega (arith, c.loop-lbn.invariant.0, c.min-here.ensures),
      one_block_more c.args.name.now (contents_of image lbns) c.args.mark (block_at image (get_or lbns i 0)) i c.min-here.result c.loop-lbn.found.items c.add_named.new.found.items
          (sym (get_or-map (block_at image) lbns i 0 [] c.loop-lbn-test.true)) here c.loop-lbn.invariant.1 c.in_ok-add_named.ensures,
    )

pub returns : goal.returns
returns c =
    let end : length c.args.lbns.now ≤ c.loop-lbn.lbn-index = omega (arith, c.loop-lbn-test.false) in
    all_blocks c.args.name.now (contents_of c.args.image.now c.args.lbns.now) c.args.mark c.loop-lbn.lbn-index (omega (arith, c.requires.mark, end)) c.loop-lbn.found.items c.loop-lbn.invariant.1
