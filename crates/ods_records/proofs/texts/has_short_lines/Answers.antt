use Rattle.std.proofs.Common.{rules, ◌≡◌, length, refl}
use Rattle.ods_records.proofs.ShortLines.{short_more, short_all}
use Rattle.ods_records.proofs.texts.has_short_lines.Goals as goal

pub loop-rest-preserved : goal.loop-rest-preserved
loop-rest-preserved c =
    short_more c.args.text.now c.loop-rest.rest.now c.first_line.result.0.now c.first_line.result.1.now c.loop-rest.invariant c.first_line.ensures.lines c.if-line-gt-LONGEST.false

pub returns : goal.returns
returns c =
    let none : length c.loop-rest.rest.now ≡ 0 = search rules in
    (λ _. short_all c.args.text.now c.loop-rest.rest.now c.loop-rest.invariant none, λ _. refl)
