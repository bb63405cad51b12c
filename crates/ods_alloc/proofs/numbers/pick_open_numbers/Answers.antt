use Rattle.std.proofs.Common.{ℕ, List, ◌≡◌, ◌≤◌, subst, length, take, IfOk, IfErr}
use Rattle.std.specs.List.{filter, range_with_len}
use Rattle.ods_space.specs.Free.{open_numbers, is_open_number}
use Rattle.ods_alloc.specs.Faults.{IsShort}
use Rattle.ods_alloc.specs.declared.fault.SpaceFault.TheVariants.{HeadersFull}
use Rattle.ods_alloc.proofs.numbers.pick_open_numbers.Goals as goal

pub returns-clause-ok : goal.returns-clause-ok
unfolding open_numbers
returns-clause-ok c =
    let found : ℕ → List ℕ = λ m. filter (is_open_number c.args.disk.now.image.now c.args.disk.now.layout.now m) (range_with_len 1 m) in
    subst (λ m. IfOk c.pick_up_to.result (λ numbers. (numbers.items ≡ take c.args.count (found m)) × (c.args.count ≤ length (found m)))) c.greatest_number.ensures c.pick_up_to.ensures.ok

pub returns-clause-err : goal.returns-clause-err
unfolding open_numbers
returns-clause-err c =
    let found : ℕ → List ℕ = λ m. filter (is_open_number c.args.disk.now.image.now c.args.disk.now.layout.now m) (range_with_len 1 m) in
    subst (λ m. IfErr c.pick_up_to.result (IsShort HeadersFull (length (found m)) c.args.count)) c.greatest_number.ensures c.pick_up_to.ensures.err
