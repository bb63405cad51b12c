use Rattle.std.proofs.Common.{string_bytes}
use Rattle.fs_reads.proofs.Growing.{extends_on}
use Rattle.fs_reads.proofs.comparing.push_difference.Goals as goal

pub returns : goal.returns
returns c = extends_on (string_bytes c.args.text.now) (string_bytes c.push_word.new.text) (string_bytes c.push_facts.new.text) c.in_ok-push_word.ensures c.in_ok-push_facts.ensures
