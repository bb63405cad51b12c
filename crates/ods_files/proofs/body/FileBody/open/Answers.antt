use Rattle.std.proofs.Common.{◌∙◌, ap}
use Rattle.ods_header.specs.Header.{attributes_of}
use Rattle.ods_space.specs.Chain.{index_for}
use Rattle.ods_space.proofs.Sizes.{chain_size}
use Rattle.ods_files.proofs.FirstBytes.{inside_blocks}
use Rattle.ods_files.proofs.body.FileBody.open.Goals as goal

pub invariant_of-result : goal.invariant_of-result
invariant_of-result c =
    let has = c.in-Ok.ensures.ok in
    chain_size c.args.disk.now.image.now c.args.disk.now.layout.now.home (index_for c.args.disk.now.layout.now c.args.number) c.args.number has.others c.in-Ok.lbns.items c.len.ensures.image has.whole.chain

pub returns-in-Ok-clause-ok : goal.returns-in-Ok-clause-ok
returns-in-Ok-clause-ok c =
    let has = c.in-Ok.ensures.ok in
    record {
      lbns = c.in-Ok.lbns.items;
      held = has;
      blocks = inside_blocks c.args.disk.now.image.now c.in-Ok.lbns.items has.whole.inside;
      attributes = c.attributes.ensures ∙ ap attributes_of c.in-Some.ensures.some.1;
    }
