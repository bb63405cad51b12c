use Rattle.std.proofs.Common.{arith}
use Rattle.ods_cli.proofs.Parsing.{as_many, can_be_run, of_texts}
use Rattle.ods_cli.proofs.script_text.parse_scripts.Goals as goal

pub returns-clause-count : goal.returns-clause-count
returns-clause-count g c =
    let n = as_many _ _ c.in_ok-scripts.ensures in
    omega (arith, n, c.in_ok-scripts.scripts.ok.0, c.in_ok-done.done.ok.0, c.in_ok-done.ensures.count)

pub returns-clause-scripts : goal.returns-clause-scripts
returns-clause-scripts g c = of_texts c.args.texts.items c.in_ok-done.done.items c.in_ok-scripts.scripts.items c.in_ok-scripts.ensures c.in_ok-done.ensures.each

pub returns-clause-can : goal.returns-clause-can
returns-clause-can g c =
    can_be_run c.args.texts.items c.in_ok-done.done.items c.in_ok-scripts.scripts.items c.in_ok-scripts.ensures
    (omega (arith, c.in_ok-done.done.ok.0, c.args.texts.ok.0, c.in_ok-done.ensures.count)) c.in_ok-done.ensures.each
