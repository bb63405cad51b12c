-- Each piece so far is of this kind.
use Rattle.std.proofs.Common.{◌≡◌, ◌≤◌, ◌*◌, ◌<◌, ℕ, true, length, take, drop}
use Rattle.std.specs.List.{list_all}
use Rattle.fs_host.specs.Compared.{is_zero}
use Rattle.fs_host.specs.Holes.{begins_in_zeros}
use Rattle.fs_host.proofs.holes.runs.run_len.Given as goal

abbrev pub invariant-loop-place : goal.invariant-loop-place
invariant-loop-place l = record {
  each : (k : ℕ) → k < l.place → begins_in_zeros 4096 (drop (4096 * k) l.bytes) ≡ l.of_zeros;
  zeros : l.of_zeros ≡ true → (4096 * l.place ≤ length l.bytes) × (list_all is_zero (take (4096 * l.place) l.bytes) ≡ true);
}
