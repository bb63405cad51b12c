-- One piece more.
use Rattle.std.proofs.Common.{◌≡◌, ◌+◌, ◌*◌, ◌≤◌, ◌∙◌, ℕ, List, true, length, take, drop, sym, arith, subst}
use Rattle.std.specs.List.{list_all}
use Rattle.std.proofs.lemmas.List.{take_rest}
use Rattle.fs_host.specs.Compared.{is_zero}
use Rattle.fs_host.specs.Holes.{begins_in_zeros}
use Rattle.fs_host.proofs.ZeroPieces.{each_more, same, zeros_more}
use Rattle.fs_host.proofs.holes.runs.run_len.Goals as goal

pub loop-place-preserved : goal.loop-place-preserved
loop-place-preserved c =
    let bytes : List ℕ = c.args.bytes.now in
    let n : ℕ = c.loop-place.place in
    let so_far = c.loop-place.invariant in
    let found = sym c.begins_in_zeros.ensures ∙ same c.begins_in_zeros.result c.args.of_zeros c.if-begins_in_zeros-of_zeros.false in
    let next : begins_in_zeros 4096 (drop (4096 * n) bytes) ≡ c.args.of_zeros = subst (λ l. begins_in_zeros 4096 l ≡ c.args.of_zeros) (take_rest bytes (4096 * n)) found in
    let P : ℕ → Type 0 = λ at. (at ≤ length bytes) × (list_all is_zero (take at bytes) ≡ true) in
    let further : 4096 * n + 4096 ≡ 4096 * (n + 1) = omega arith in
    record {
      each = each_more 4096 bytes c.args.of_zeros n so_far.each next;
      zeros = λ z. subst P further (zeros_more 4096 (4096 * n) bytes (so_far.zeros z).0 (so_far.zeros z).1 (next ∙ z));
    }
