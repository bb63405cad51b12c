use Rattle.std.proofs.Common.{[]}
use Rattle.ods_script.specs.Numbered.{numbered, lines_from}
use Rattle.ods_script.proofs.Asked.{of_lines}
use Rattle.ods_script.proofs.LineCuts.{behind_is_shorter, next_line, last_line}
use Rattle.ods_script.proofs.scripts.parse_script.Goals as goal

pub loop-line-smaller : goal.loop-line-smaller
loop-line-smaller c = behind_is_shorter 10 c.loop-line.rest.now (c.in-Some.line.now, c.in-Some.behind.now) c.in-Some.ensures.cut

pub loop-line-preserved : goal.loop-line-preserved
loop-line-preserved c = next_line c.args.text.now c.loop-line.rest.now c.in-Some.line.now c.in-Some.behind.now c.loop-line.nth c.loop-line.commands.items c.take_line.new.commands.items c.loop-line.invariant c.in-Some.ensures.cut c.in_ok-take_line.ensures

pub returns : goal.returns
returns c =
    let are = last_line c.args.text.now c.loop-line.rest.now c.loop-line.nth c.loop-line.commands.items c.take_line-2.new.commands.items c.loop-line.invariant c.in_default.ensures.cut c.in_ok-take_line-2.ensures in
    record { commands = are; asked = of_lines c.take_line-2.new.commands.items (numbered 1 (lines_from [] c.args.text.now)) are }
