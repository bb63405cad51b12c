use Rattle.std.proofs.Common.{arith}
use Rattle.ods_check.specs.Findings.{IsHeldByNone, unheld_line}
use Rattle.ods_check.proofs.Running.{none_found, found_more, found_all}
use Rattle.ods_check.proofs.unheld_runs.push_unheld.Goals as goal

pub loop-lbn-init : goal.loop-lbn-init
loop-lbn-init c = none_found (IsHeldByNone c.args.disk.now.image.now c.args.disk.now.layout.now) unheld_line c.args.findings.now

pub go_on-requires-clause-start : goal.go_on-requires-clause-start
go_on-requires-clause-start c = c.loop-lbn.invariant.low

pub loop-lbn-preserved : goal.loop-lbn-preserved
loop-lbn-preserved c =
    found_more (IsHeldByNone c.args.disk.now.image.now c.args.disk.now.layout.now) unheld_line c.args.findings.now c.loop-lbn.findings c.go_on.new.findings c.loop-lbn.start c.loop-lbn.lbn c.loop-lbn.invariant
    c.in_ok-start.start c.in_ok-start.ensures

pub push_run-requires : goal.push_run-requires
push_run-requires c =
    let low = c.loop-lbn.invariant.low in
    omega arith

pub returns : goal.returns
returns c =
    let end = c.loop-lbn-test.false in
    let size = c.len-len.ensures.value in
    found_all (IsHeldByNone c.args.disk.now.image.now c.args.disk.now.layout.now) unheld_line c.args.findings.now c.loop-lbn.findings c.push_run.new.findings c.loop-lbn.start c.loop-lbn.lbn c.loop-lbn.invariant
    c.len-len.result (λ n h. let inside = h.marked.inside in omega arith) (omega arith) c.in_ok-push_run.ensures
