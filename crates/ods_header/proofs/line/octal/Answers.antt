use Rattle.std.proofs.Common.{◌∙◌, ap, sym, arith}
use Rattle.ods_header.specs.Text.{octal_digits}
use Rattle.ods_header.proofs.Octal.{octal_1, octal_2, octal_3}
use Rattle.ods_header.proofs.line.octal.Goals as goal
use Rattle.ods_header.proofs.line.octal.Goals.{in-0-to-7, in-8-to-63, in_default}

pub returns : goal.returns
returns c =
    elim c.if-byte-lt8.branch [
      | in-0-to-7 w ↦ c.octal_digits.ensures ∙ ap (λ d. octal_digits d c.args.byte) w.digits-is ∙ sym (octal_1 c.args.byte (omega arith))
      | in-8-to-63 w ↦ c.octal_digits.ensures ∙ ap (λ d. octal_digits d c.args.byte) w.digits-is ∙ sym (octal_2 c.args.byte (omega arith) (omega arith))
      | in_default w ↦ c.octal_digits.ensures ∙ ap (λ d. octal_digits d c.args.byte) w.digits-is ∙ sym (octal_3 c.args.byte (omega arith) (omega arith))
    ]
