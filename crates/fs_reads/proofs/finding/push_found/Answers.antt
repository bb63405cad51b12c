use Rattle.std.proofs.Common.{is_ok, string_bytes}
use Rattle.fs_reads.proofs.Growing.{extends_pushed}
use Rattle.fs_reads.proofs.finding.push_found.Goals as goal

pub returns : goal.returns
returns c = extends_pushed (is_ok c.push_str.result) (string_bytes c.args.text.now) c.as_str.result.now (string_bytes c.push_str.new.self) c.push_str.ensures.bytes
