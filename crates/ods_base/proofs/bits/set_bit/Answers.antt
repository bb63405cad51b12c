use Rattle.std.proofs.Common.{◌*◌, ◌%◌, ◌^◌, Bool, sym, ap, subst, ◌∙◌}
use Rattle.std.specs.Prelude.{bit_and, bit_or}
use Rattle.std.specs.Int.{bit_not, w8}
use Rattle.ods_base.specs.Bits.{HasBit}
use Rattle.ods_base.proofs.OneBit.{bit_set, bit_cleared}
use Rattle.ods_base.proofs.bits.set_bit.Goals as goal
use Rattle.ods_base.proofs.bits.set_bit.Goals.{then-value, else-value}

pub returns-clause-bits : goal.returns-clause-bits
returns-clause-bits c =
    let b = c.args.block.now in
    let i = c.args.i in
    let after = c.set_bytes.new.self in
    let P : Bool → Type 0 = λ v. HasBit b i v after in
    elim c.if-value.branch [
      | then-value w ↦ subst P (sym w.if-value.true) (bit_set b after i c.if-value.byte c.bytes.ensures.block c.requires c.set_bytes.ensures.changed
          (w.byte-is ∙ ap (λ x. bit_or x (1 * 2 ^ (i % 8) % 2 ^ 8)) c.byte-old.ensures))
      | else-value w ↦ subst P (sym w.if-value.false) (bit_cleared b after i c.if-value.byte c.bytes.ensures.block c.requires c.set_bytes.ensures.changed
          (w.byte-is ∙ ap (λ x. bit_and x (bit_not w8 (1 * 2 ^ (i % 8) % 2 ^ 8))) c.byte-old.ensures))
    ]
