use Rattle.std.proofs.Common.{◌≡◌, ◌∙◌, ap, length, map, arith}
use Rattle.ods_base.specs.Image.{block_at}
use Rattle.ods_space.specs.Chain.{index_for}
use Rattle.ods_space.proofs.Sizes.{chain_size}
use Rattle.ods_walk.proofs.Directories.{no_bad_chain, none_outside, read_as, IsReadAs}
use Rattle.ods_upkeep.proofs.Hiding.{hides_as}
use Rattle.ods_upkeep.proofs.hidden.directory_hides.Goals as goal
use Rattle.ods_upkeep.proofs.hidden.directory_hides.Goals.{After-mark_of-mark}

pub unreachable-requires-in-Err-BadChain : goal.unreachable-requires-in-Err-BadChain
unreachable-requires-in-Err-BadChain c = no_bad_chain c.requires.sound c.in-Err-BadChain.field-0 c.in-Err-BadChain.field-0-is c.requires.directory.0 c.in-Err-BadChain.ensures.err

pub unreachable-requires-in-Err-OutsideVolume : goal.unreachable-requires-in-Err-OutsideVolume
unreachable-requires-in-Err-OutsideVolume c = none_outside c.requires.sound c.in-Err-OutsideVolume.field-0 _ c.in-Err-OutsideVolume.field-0-is c.requires.directory.0 c.in-Err-OutsideVolume.ensures.err

pub new-blocks-requires-clause-inside : goal.new-blocks-requires-clause-inside
new-blocks-requires-clause-inside c = rw c.deref.ensures.value c.in-Ok.ensures.ok.whole.inside

pub new-blocks-requires-clause-few : goal.new-blocks-requires-clause-few
new-blocks-requires-clause-few c =
    let has = c.in-Ok.ensures.ok in
    let size : length c.deref.result.now ≡ length c.in-Ok.lbns.items = ap length c.deref.ensures.value in
    let small = chain_size c.args.disk.now.image.now c.args.disk.now.layout.now.home (index_for c.args.disk.now.layout.now c.args.number) c.args.number has.others c.in-Ok.lbns.items c.len.ensures.image has.whole.chain in
    omega arith

here : (c : After-mark_of-mark) → IsReadAs c.args.disk.now.image.now c.args.disk.now.layout.now c.args.number c.in-Ok.lbns.items (map (block_at c.new-blocks.result.image.now) c.new-blocks.result.lbns.now) c.mark_of-mark.result
here c =
    read_as c.requires.sound c.new-blocks.result.image.now c.in-Ok.lbns.items c.new-blocks.result.lbns.now c.in-Some.header.now c.attributes.result c.count.result c.mark_of-mark.result c.requires.directory c.in-Ok.ensures.ok
    c.new-blocks.ensures.0 (c.new-blocks.ensures.1 ∙ c.deref.ensures.value) c.in-Some.ensures.some.1 c.attributes.ensures c.count.ensures c.mark_of-mark.ensures

pub returns : goal.returns
returns c =
    let is = here (goal.at.returns c).After-mark_of-mark in
    hides_as c.args.disk.now.image.now c.args.disk.now.layout.now c.args.number c.in-Ok.lbns.items _ _ c.has_hidden.result c.requires.directory c.in-Ok.ensures.ok is c.has_hidden.ensures
