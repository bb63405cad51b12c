use Rattle.std.proofs.Common.{◌≡◌, ◌<◌, ℕ, false}
use Rattle.ods_base.specs.Names.{is_of}
use Rattle.ods_directory.specs.Entry.{entry_in}
use Rattle.ods_walk.proofs.named.has_words.Given as goal

abbrev pub invariant-loop-k : goal.invariant-loop-k
invariant-loop-k l = (k : ℕ) → k < l.k → is_of l.name (entry_in l.block k).key ≡ false
