use Rattle.std.proofs.Common.{is_ok, string_bytes}
use Rattle.fs_reads.proofs.Growing.{extends_on, extends_pushed}
use Rattle.fs_reads.proofs.finding.push_paths.Goals as goal

pub returns-in_err-push_str : goal.returns-in_err-push_str
returns-in_err-push_str c = extends_pushed (is_ok c.push_str.result) (string_bytes c.args.text.now) c.as_str.result.now (string_bytes c.push_str.new.self) c.push_str.ensures.bytes

pub returns-then-is_empty : goal.returns-then-is_empty
returns-then-is_empty c =
    extends_on (string_bytes c.args.text.now) (string_bytes c.push_found.new.text) (string_bytes c.push_str-then-is_empty.new.self) c.push_found.ensures
    (extends_pushed (is_ok c.push_str-then-is_empty.result) (string_bytes c.push_found.new.text) c.as_str-then-is_empty.result.now (string_bytes c.push_str-then-is_empty.new.self) c.push_str-then-is_empty.ensures.bytes)

pub returns-in_err-push_found-2 : goal.returns-in_err-push_found-2
returns-in_err-push_found-2 c = extends_on (string_bytes c.args.text.now) (string_bytes c.loop-path.text) (string_bytes c.push_found-in-loop-path.new.text) c.loop-path.invariant c.push_found-in-loop-path.ensures

pub returns-in_err-stop_at_closed-2 : goal.returns-in_err-stop_at_closed-2
returns-in_err-stop_at_closed-2 c = extends_on (string_bytes c.args.text.now) (string_bytes c.loop-path.text) (string_bytes c.push_found-in-loop-path.new.text) c.loop-path.invariant c.push_found-in-loop-path.ensures

pub loop-path-preserved : goal.loop-path-preserved
loop-path-preserved c = extends_on (string_bytes c.args.text.now) (string_bytes c.loop-path.text) (string_bytes c.push_found-in-loop-path.new.text) c.loop-path.invariant c.push_found-in-loop-path.ensures
