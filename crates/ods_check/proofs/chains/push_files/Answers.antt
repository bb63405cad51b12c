use Rattle.std.proofs.Common.{List, ℕ, sym, subst, arith}
use Rattle.ods_check.specs.Holders.{IsStamped}
use Rattle.ods_check.proofs.chains.push_files.Goals as goal

pub push_each_file-requires-clause-stamps : goal.push_each_file-requires-clause-stamps
push_each_file-requires-clause-stamps c =
    let P : List ℕ → Type 0 = λ stamps. IsStamped c.args.disk.now.image.now stamps 0 in
    let size = c.in_ok-stamps.ensures.size in
    let len = c.len.ensures.value in
    subst P (sym c.deref_mut.ensures.value) (record { size = omega arith; low = λ i. (let zero = c.in_ok-stamps.ensures.zeros i in omega arith) })
