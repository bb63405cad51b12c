use Rattle.std.proofs.Common.{◌≡◌, length, take}
use Rattle.ods_remains.specs.Shared.{IsFilled}
use Rattle.ods_remains.proofs.shares.fill.Given as goal

abbrev pub invariant-loop-place : goal.invariant-loop-place
invariant-loop-place l = (length l.table ≡ length l.initial.table) × IsFilled l.number (take l.place-index l.places) l.initial.table l.table
