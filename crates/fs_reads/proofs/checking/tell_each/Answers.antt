use Rattle.std.proofs.Common.{rules, ◌≡◌, true}
use Rattle.fs_reads.proofs.checking.tell_each.Goals.{in-Some-layout+in_ok-tell_findings+in_ok-tell_spoiled+in_ok-tell_long, in_default-layout}
use Rattle.fs_reads.proofs.checking.tell_each.Goals as goal

pub returns : goal.returns
returns g c = λ empty.
    let before : c.tell_faults.new.output.is_empty ≡ true = elim c.match-checked.branch [
      | in-Some-layout+in_ok-tell_findings+in_ok-tell_spoiled+in_ok-tell_long w ↦
          w.in_ok-tell_findings.ensures.stays (w.in_ok-tell_spoiled.ensures.stays (w.in_ok-tell_long.ensures.stays (search (rules, empty))))
      | in_default-layout w ↦ search (rules, empty)
    ] in
    c.in_ok-tell_faults.ensures before
