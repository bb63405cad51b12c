use Rattle.std.proofs.Common.{◌≡◌, ◌-◌, ◌*◌, ◌/◌, min}
use Rattle.ods_directory.specs.Entry.{entry_at}
use Rattle.ods_mount.specs.Faults.{contents_of}
use Rattle.ods_walk.proofs.NamedEntries.{named_from}
use Rattle.ods_walk.proofs.named.named_in.Given as goal

abbrev pub invariant-loop-lbn : goal.invariant-loop-lbn
invariant-loop-lbn l =
    (l.left ≡ l.fn.mark - 512 * l.lbn-index)
    × (l.found.items ≡ named_from l.name (entry_at (contents_of l.image l.lbns)) 0 (min (32 * l.lbn-index) (l.fn.mark / 16)))
