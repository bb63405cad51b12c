use Rattle.std.proofs.Common.{arith}
use Rattle.ods_text.proofs.Numerals.{the_number, zero_is_read, number_begins, number_is_text, number_is_read, read_from_digits}
use Rattle.ods_text.proofs.decimal.read_large.Goals as goal

pub returns-then-is_text : goal.returns-then-is_text
returns-then-is_text c = the_number c.args.digits.now 0 (zero_is_read c.args.digits.now (c.is_text.ensures.0 c.if-is_text.true))

pub returns-in_default : goal.returns-in_default
returns-in_default c = λ y p.
    let begins = number_begins c.args.digits.now y p (λ e. let t = c.is_text.ensures.1 e in cc (t, c.if-is_text.false)) in
    absurd (omega (arith, begins.0))

pub returns-in_default-2 : goal.returns-in_default-2
returns-in_default-2 c = λ y p.
    let begins = number_begins c.args.digits.now y p (λ e. let t = c.is_text.ensures.1 e in cc (t, c.if-is_text.false)) in
    absurd (omega (arith, begins.1, begins.2))

pub returns-in_default-3 : goal.returns-in_default-3
returns-in_default-3 c = λ y p.
    let begins = number_begins c.args.digits.now y p (λ e. let t = c.is_text.ensures.1 e in cc (t, c.if-is_text.false)) in
    absurd (omega (arith, begins.1, begins.2))

pub returns-in_default-from_utf8 : goal.returns-in_default-from_utf8
returns-in_default-from_utf8 c = λ y p. absurd (c.in_default-from_utf8.ensures.cases.0 (number_is_text c.args.digits.now y p))

pub returns-in-Ok-parse : goal.returns-in-Ok-parse
returns-in-Ok-parse c =
    the_number c.args.digits.now c.in-Ok-parse.number
    (number_is_read c.args.digits.now c.in-Ok.text.now c.in-Ok-parse.number c.parse.result c.in-Ok.ensures.cases.0 (omega arith) (omega arith) (omega arith) c.parse.ensures.value.0 c.in-Ok-parse.is)

pub returns-in-Err : goal.returns-in-Err
returns-in-Err c = λ y p.
    let read = read_from_digits c.args.digits.now c.in-Ok.text.now y c.parse.result c.in-Ok.ensures.cases.0 p c.parse.ensures.value.0 in
    cc (c.in-Err.is, read)
