use Rattle.std.proofs.Common.{◌≡◌, ◌+◌, ◌-◌, ◌/◌, ◌≤◌, ◌∙◌, ap, length, length-append, lit<, arith}
use Rattle.std.proofs.lemmas.Str.{encode_ascii}
use Rattle.std.specs.Prelude.{encode_utf8}
use Rattle.ods_header.specs.Text.{octal_digits}
use Rattle.ods_header.proofs.Octal.{length-octal_digits}
use Rattle.ods_header.proofs.line.+push_octal.Goals as goal

pub push-requires : goal.push-requires
push-requires t c =
    let one : length (encode_utf8 c.from.result) ≡ 1 = ap length (encode_ascii c.from.result (omega (arith, c.from.ensures))) in
    let before : length c.push_octal.new.text.bytes ≡ length c.args.text.now.bytes + (c.args.digits - 1) =
    ap length c.push_octal.ensures ∙ length-append c.args.text.now.bytes (octal_digits (c.args.digits - 1) (c.args.number / 8)) ∙ ap (λ n. length c.args.text.now.bytes + n) (length-octal_digits (c.args.digits - 1) (c.args.number / 8)) in
    let room : length c.push_octal.new.text.bytes + length (encode_utf8 c.from.result) ≤ 6 = omega (arith, c.if-digits-gt0.true, c.requires) in
    (lit< tt, room)
