use Rattle.std.proofs.Common.{rules, sym, length}
use Rattle.std.proofs.lemmas.Iterator.Splits.{YieldsList-from_lines}
use Rattle.std.proofs.lemmas.Iterator.Consumers.{YieldsList-turn}
use Rattle.f11fs.proofs.looking.only_look.Goals as goal

pub returns-then-branch : goal.returns-then-branch
returns-then-branch c = λ _.
    let all = YieldsList-from_lines c.args.text.now (search rules) in
    let turn = YieldsList-turn all c.loop-line.yielded _ c.loop-line.yielded_by _ _ c.in-Some.line c.in-Some.is c.next.ensures.steps in
    (c.in-Some.line.now, (length c.loop-line.yielded, turn.0, sym turn.1), c.in_ok-want_mounted.ensures c.if-branch.true)
