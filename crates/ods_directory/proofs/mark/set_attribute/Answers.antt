use Rattle.std.proofs.Common.{◌≡◌, ◌*◌, ◌-◌, ◌/◌, ◌%◌, ◌∷◌, arith, ◌∙◌, ap, drop}
use borrow.Rule.Slice.PartMut.{mid_of}
use Rattle.ods_base.proofs.Blocks.{put_two, mid_rest}
use Rattle.ods_directory.proofs.mark.set_attribute.Goals as goal

pub returns : goal.returns
returns c =
    let high : c.args.value / 256 % 256 ≡ c.args.value / 256 = omega arith in
    put_two c.args.attributes.now c.write_u16.new.buf _ (2 * c.args.k) (32 - 2 * c.args.k) (c.args.value % 256) (c.args.value / 256) (omega arith) (omega arith)
    (c.write_u16.ensures ∙ ap (λ h. c.args.value % 256 ∷ h ∷ drop 2 (mid_of (2 * c.args.k) (32 - 2 * c.args.k) c.args.attributes.now)) high)
    (mid_rest 2 (2 * c.args.k) (32 - 2 * c.args.k) c.args.attributes.now (omega arith))
