use Rattle.std.proofs.Common.{◌≡◌, false}
use Rattle.std.specs.Prelude.{None}
use Rattle.std.specs.List.{All}
use Rattle.f11fs.specs.TreeFaults.{AreKept, IsPlaced}
use Rattle.f11fs.proofs.judging_tree.judge_tree.Given as goal

-- What is kept has a place. Where nothing is told, and nothing may be left out, it is all that was looked at, and always just what of that is put.
abbrev pub invariant-loop-entry : goal.invariant-loop-entry
invariant-loop-entry g l = All IsPlaced l.entries.items × (l.skip ≡ false → l.told.status ≡ None → l.entries.items ≡ l.yielded) × AreKept l.yielded l.entries.items
