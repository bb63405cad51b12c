use Rattle.std.proofs.Common.{arith}
use Rattle.ods_check.specs.Findings.{IsOtherFound, TellsHeader}
use Rattle.ods_check.proofs.StillTold.{told_header_still}
use Rattle.ods_check.proofs.Sweeping.{sweeps_more}
use Rattle.ods_check.proofs.headers.push_bad_headers.Goals as goal

pub loop-number-preserved : goal.loop-number-preserved
loop-number-preserved c =
    let I = c.args.disk.now.image.now in
    let L = c.args.disk.now.layout.now in
    let adds = c.in_ok-push_bad_header.ensures.adds in
    sweeps_more (IsOtherFound I L) (TellsHeader I L) c.args.findings.now c.loop-number.findings c.push_bad_header.new.findings c.loop-number.number
    (λ n. told_header_still (IsOtherFound I L) I L n c.loop-number.findings c.push_bad_header.new.findings adds) c.loop-number.invariant adds c.in_ok-push_bad_header.ensures.told

pub returns-clause-all : goal.returns-clause-all
returns-clause-all c n small used =
    let low = c.header_end-number-end.ensures.in_use n small used in
    let end = c.loop-number-test.false in
    c.loop-number.invariant.told n (omega arith) used
