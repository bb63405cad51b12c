use Rattle.std.proofs.Common.{◌≤◌, ◌^◌, All, length, vec_len}
use Rattle.f11.proofs.served.script_texts.Given as goal

abbrev pub invariant-loop-path : goal.invariant-loop-path
invariant-loop-path g l = (vec_len l.texts ≤ l.path-index) × All (λ t. length t.items ≤ 2 ^ 20) l.texts.items
