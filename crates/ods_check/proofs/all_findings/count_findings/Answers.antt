use Rattle.std.proofs.Common.{◌≡◌, length, ap, arith}
use Rattle.std.specs.Prelude.{◌-◌}
use Rattle.ods_check.proofs.all_findings.count_findings.Goals as goal

pub returns : goal.returns
returns c =
    let found = c.in_ok-found.found in
    let none : found.1 ≡ 0 = c.in_ok-found.ensures.most in
    let size = c.more.ensures in
    (found.0, (let e = ap (λ k. length found.0 - k) none in omega (arith, e)), c.in_ok-found.ensures.each, c.in_ok-found.ensures.all)
