use Rattle.std.proofs.Common.{ℕ, ◌*◌, ◌≤◌, sym, ap, subst, arith}
use Rattle.ods_mount.proofs.Headers.{number_small, number_in_bitmap}
use Rattle.ods_check.proofs.numbers.header_end.Goals as goal

pub returns-clause-headers : goal.returns-clause-headers
returns-clause-headers c n used header =
    let I = c.args.disk.now.image.now in
    let L = c.args.disk.now.layout.now in
    let small = number_small I L n c.len.ensures.image header in
    let within = number_in_bitmap I L.home n used in
    let P : ℕ → Type 0 = λ x. n ≤ 4096 * x in
    let low : n ≤ 4096 * c.home.result.index_bitmap_size = subst P (ap (λ h. h.index_bitmap_size) (sym c.home.ensures)) within in
    let last = c.min.ensures in
    omega arith
