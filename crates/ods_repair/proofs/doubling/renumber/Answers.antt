use Rattle.std.proofs.Common.{ap, refl}
use Rattle.ods_directory.specs.Entry.{entry_at}
use Rattle.ods_repair.specs.Noted.{Numbers, number_in}
use Rattle.ods_repair.proofs.Renumbered.{begins}
use Rattle.ods_repair.proofs.doubling.renumber.Goals as goal

pub loop-k-init : goal.loop-k-init
loop-k-init c = record {
  partly = begins (entry_at c.args.blocks.now) c.args.count (number_in c.in_ok-highest.highest) (number_in c.new-seen.result) c.in_ok-highest.ensures (λ q. ap (λ (n : Numbers). number_in n q) c.new-seen.ensures);
  long = refl;
}
