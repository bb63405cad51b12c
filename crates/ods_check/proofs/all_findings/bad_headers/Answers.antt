use Rattle.std.proofs.Common.{ap, ◌∙◌}
use Rattle.ods_check.specs.Findings.{IsFound, IsOtherFound}
use Rattle.ods_check.proofs.Adding.{adds_more, adds_most, all_added}
use Rattle.ods_check.proofs.RisingRuns.{found_too}
use Rattle.ods_check.proofs.StillTold.{told_header_still}
use Rattle.ods_check.proofs.all_findings.bad_headers.Goals as goal

pub returns-clause-each : goal.returns-clause-each
returns-clause-each c =
    let I = c.args.disk.now.image.now in
    let L = c.args.disk.now.layout.now in
    let both = adds_more (IsOtherFound I L) _ _ _ c.in_ok-push_bad_headers.ensures.adds c.in_ok-push_strays.ensures.adds in
    all_added (IsFound I L) c.new-found.result c.push_strays.new.findings (ap (λ l. l.0) c.new-found.ensures) (found_too I L _ _ both)

pub returns-clause-all : goal.returns-clause-all
returns-clause-all c n small =
    let I = c.args.disk.now.image.now in
    let L = c.args.disk.now.layout.now in
    told_header_still (IsOtherFound I L) I L n _ _ c.in_ok-push_strays.ensures.adds (c.in_ok-push_bad_headers.ensures.all n small)

pub returns-clause-most : goal.returns-clause-most
returns-clause-most c =
    let I = c.args.disk.now.image.now in
    let L = c.args.disk.now.layout.now in
    let both = adds_more (IsOtherFound I L) _ _ _ c.in_ok-push_bad_headers.ensures.adds c.in_ok-push_strays.ensures.adds in
    adds_most (IsOtherFound I L) c.new-found.result c.push_strays.new.findings both ∙ ap (λ l. l.1) c.new-found.ensures
