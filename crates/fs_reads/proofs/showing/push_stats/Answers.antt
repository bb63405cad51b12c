use Rattle.std.proofs.Common.{string_bytes}
use Rattle.fs_reads.proofs.Growing.{extends_on}
use Rattle.fs_reads.proofs.showing.push_stats.Goals as goal

pub returns-in_err-push_stat : goal.returns-in_err-push_stat
returns-in_err-push_stat c =
    extends_on (string_bytes c.args.text.now) (string_bytes c.loop-found.text) (string_bytes c.push_stat.new.text)
    (extends_on (string_bytes c.args.text.now) (string_bytes c.loop-path.text) (string_bytes c.loop-found.text) c.loop-path.invariant c.loop-found.invariant) c.push_stat.ensures

pub loop-found-preserved : goal.loop-found-preserved
loop-found-preserved c = extends_on (string_bytes c.loop-path.text) (string_bytes c.loop-found.text) (string_bytes c.push_stat.new.text) c.loop-found.invariant c.push_stat.ensures

pub returns-in_err-stop_at_closed : goal.returns-in_err-stop_at_closed
returns-in_err-stop_at_closed c =
    extends_on (string_bytes c.args.text.now) (string_bytes c.loop-path.text) (string_bytes c.loop-found.text) c.loop-path.invariant c.loop-found.invariant

pub loop-path-preserved : goal.loop-path-preserved
loop-path-preserved c =
    extends_on (string_bytes c.args.text.now) (string_bytes c.loop-path.text) (string_bytes c.loop-found.text) c.loop-path.invariant c.loop-found.invariant
