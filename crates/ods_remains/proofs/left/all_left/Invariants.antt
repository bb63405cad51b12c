use Rattle.std.proofs.Common.{◌≡◌, ◌<◌, ℕ, length, Some}
use Rattle.std.specs.Prelude.{slice_get}
use Rattle.ods_remains.specs.Deleted.{IsDeleted}
use Rattle.ods_remains.specs.Summary.{IsLeft}
use Rattle.ods_remains.specs.declared.left.Left.{Left}
use Rattle.ods_remains.proofs.left.all_left.Given as goal

abbrev pub invariant-loop-number : goal.invariant-loop-number
invariant-loop-number l =
    let I = l.fn.disk.image.now in
    let L = l.fn.disk.layout.now in
    (length l.all.items ≡ l.number) × ((n : ℕ) → n < l.number → IsDeleted I L n → (one : Left) × (slice_get l.all.items n ≡ Some one) × IsLeft I L n one)
