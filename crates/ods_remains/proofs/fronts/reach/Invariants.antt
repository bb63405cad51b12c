use Rattle.std.proofs.Common.{◌<◌, ◌≤◌, ℕ}
use Rattle.std.specs.List.{Contains}
use Rattle.ods_header.specs.Header.{blocks_of}
use Rattle.ods_remains.specs.Deleted.{IsDeleted, former}
use Rattle.ods_remains.proofs.fronts.reach.Given as goal

abbrev pub invariant-loop-before : goal.invariant-loop-before
invariant-loop-before l = (n lbn : ℕ) → n ≤ l.before → IsDeleted l.fn.disk.image.now l.fn.disk.layout.now n → Contains (blocks_of (former l.fn.disk.image.now l.fn.disk.layout.now n)) lbn → lbn < l.size
