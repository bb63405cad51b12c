use Rattle.std.proofs.Common.{◌≡◌, length, ap, ◌∙◌, subst, sym, ◌*◌, ◌≤◌, arith}
use Rattle.ods_directory.specs.Mark.{mark_in}
use Rattle.ods_space.specs.Chain.{index_for}
use Rattle.ods_space.proofs.Sizes.{chain_size}
use Rattle.ods_mount.specs.Faults.{mark_at}
use Rattle.ods_directory.proofs.Marks.{mark_inside}
use Rattle.ods_check.proofs.directory.end_mark.Goals as goal

pub overflow_cast-lbns : goal.overflow_cast-lbns
overflow_cast-lbns c =
    let has = c.requires.whole in
    let small = chain_size c.args.disk.now.image.now c.args.disk.now.layout.now.home (index_for c.args.disk.now.layout.now c.args.number) c.args.number has.others c.args.lbns.now c.len.ensures.image has.whole.chain in
    omega arith

pub returns : goal.returns
returns c =
    let has = c.requires.whole in
    let xs = c.args.lbns.now in
    let small = chain_size c.args.disk.now.image.now c.args.disk.now.layout.now.home (index_for c.args.disk.now.layout.now c.args.number) c.args.number has.others xs c.len.ensures.image has.whole.chain in
    record {
      file = c.requires.directory;
      has = has;
      few = omega arith;
      end = c.mark_of.ensures ∙ ap (λ a. mark_in a (length xs)) c.requires.attributes;
      within = subst (λ m. m ≤ 512 * length xs) (sym c.mark_of.ensures) (mark_inside c.args.attributes.now (length xs));
    }
