use Rattle.std.proofs.Common.{rules, ◌≡◌, ℕ, length, ap, arith}
use Rattle.std.proofs.lemmas.List.{length-take}
use Rattle.fs_reads.proofs.checking.tell_faults.Goals as goal

pub returns : goal.returns
returns g c = λ empty.
    let none : c.loop-fault.fault-index ≡ 0 = c.loop-fault.invariant.1 (c.in_ok-say_more.ensures.stays (c.in_ok-say_more-2.ensures.stays empty)) in
    omega (arith, none, ap length c.kept_lines-fault-items.ensures, c.loop-fault-test.false, c.loop-fault.auto.fault-index-end)
