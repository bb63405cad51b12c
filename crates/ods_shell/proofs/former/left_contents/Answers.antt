use Rattle.std.proofs.Common.{◌≡◌, ◌∙◌, ap, arith, length, subst}
use Rattle.ods_header.specs.Header.{attributes_of}
use Rattle.ods_files.specs.Body.{Body, body_at}
use Rattle.ods_shell.proofs.Bounds.{former_few}
use Rattle.ods_shell.proofs.former.left_contents.Goals as goal

pub contents_of_blocks-requires : goal.contents_of_blocks-requires
contents_of_blocks-requires c =
    let D = c.args.disk.now in
    let words = c.last_number.ensures in
    let few = former_few D.image.now D.layout.now c.len.ensures.image (omega (arith, words)) c.args.number c.args.chain.now c.requires in
    let size = c.in_ok-lbns.ensures.size in
    let own = ap length c.deref.ensures.value in
    omega (arith, few, size, own)
