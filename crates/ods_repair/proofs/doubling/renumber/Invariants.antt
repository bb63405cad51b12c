use Rattle.std.proofs.Common.{◌≡◌, length}
use Rattle.ods_directory.specs.Entry.{entry_at}
use Rattle.ods_repair.specs.Noted.{IsPartly, number_in}
use Rattle.ods_repair.proofs.doubling.renumber.Given as goal

abbrev pub invariant-loop-k : goal.invariant-loop-k
invariant-loop-k l = record {
  partly : IsPartly (entry_at l.initial.blocks) (entry_at l.blocks) l.count l.k (number_in l.highest) (number_in l.seen);
  long : length l.blocks ≡ length l.initial.blocks;
}
