use Rattle.std.proofs.Common.{◌<◌, ◌∙◌, ℕ, length, Option, sym, ap, subst}
use Rattle.std.specs.Prelude.{IfSome}
use Rattle.ods_base.specs.Block.{has_bit}
use Rattle.ods_space.specs.Draft.{applied}
use Rattle.ods_alloc.specs.Marks.{Puts}
use Rattle.ods_alloc.proofs.OneBit.{no_other, puts_bit, stands_so}
use Rattle.ods_alloc.proofs.bitmap.put_bit.Goals as goal

pub returns-in_ok-put_bit : goal.returns-in_ok-put_bit
returns-in_ok-put_bit c =
    let I = c.args.image.now in
    let P : Option (ℕ × ℕ) → Type 0 = λ p. Puts (applied I c.args.draft.now) p c.args.value (applied I c.put_bit.new.self) in
    let Q : Option (ℕ × ℕ) → Type 0 = λ p. IfSome p (λ bit. (bit.0 < length I) × (bit.1 < 4096)) in
    subst P (sym c.in-Some.is) (puts_bit I c.args.draft.now c.put_bit.new.self c.in-Some.lbn c.in-Some.i c.args.value (subst Q c.in-Some.is c.requires).0 c.in_ok-put_bit.ensures.ok)

pub returns-else-bit-value : goal.returns-else-bit-value
returns-else-bit-value c =
    let I = c.args.image.now in
    let P : Option (ℕ × ℕ) → Type 0 = λ p. Puts (applied I c.args.draft.now) p c.args.value (applied I c.args.draft.now) in
    let Q : Option (ℕ × ℕ) → Type 0 = λ p. IfSome p (λ bit. (bit.0 < length I) × (bit.1 < 4096)) in
    subst P (sym c.in-Some.is) (stands_so I c.args.draft.now c.in-Some.lbn c.in-Some.i c.args.value (subst Q c.in-Some.is c.requires).0
    (ap (λ b. has_bit b c.in-Some.i) (sym c.block.ensures.value) ∙ sym c.bit.ensures ∙ no_other c.bit.result c.args.value c.if-bit-value.false))
