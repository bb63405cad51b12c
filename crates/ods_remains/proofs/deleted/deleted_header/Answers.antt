use Rattle.std.proofs.Common.{◌∙◌, refl, sym, ap, subst, arith}
use Rattle.ods_remains.specs.Deleted.{IsLeftOf, restored}
use Rattle.ods_remains.proofs.deleted.deleted_header.Goals as goal

pub returns-then-is_left : goal.returns-then-is_left
returns-then-is_left c =
    let n = c.args.number in
    let some = c.in_ok-block.ensures.some in
    let last = c.last_number.ensures in
    let within = c.if-last_number-number.false in
    let above = c.if-number-lt6.false in (
      record { low = omega (arith, above); high = omega (arith, last, within); free = sym c.in_use.ensures ∙ c.if-in_use.false; left = subst (λ b. IsLeftOf b n) some (c.if-is_left.ensures.0 refl) },
      c.restored.ensures ∙ ap (λ b. restored b n) some,
    )
