use Rattle.std.proofs.Common.{string_bytes}
use Rattle.std.specs.Result.{is_ok}
use Rattle.fs_reads.proofs.Growing.{extends_pushed}
use Rattle.fs_reads.proofs.showing.push_stat.Goals as goal

pub returns-in_err-push_str-2 : goal.returns-in_err-push_str-2
returns-in_err-push_str-2 c = extends_pushed (is_ok c.push_str-2.result) (string_bytes c.args.text.now) c.as_str-2.result.now (string_bytes c.push_str-2.new.self) c.push_str-2.ensures.bytes

pub returns-in_err-push_str : goal.returns-in_err-push_str
returns-in_err-push_str c = extends_pushed (is_ok c.push_str.result) (string_bytes c.args.text.now) c.as_str.result.now (string_bytes c.push_str.new.self) c.push_str.ensures.bytes
