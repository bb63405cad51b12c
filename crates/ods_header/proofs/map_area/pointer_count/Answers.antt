use Rattle.std.proofs.Common.{◌/◌, ap, sym, ◌∙◌}
use Rattle.ods_header.proofs.RunsAt.{length-runs_of}
use Rattle.ods_header.proofs.map_area.pointer_count.Goals as goal

pub returns-clause-count : goal.returns-clause-count
returns-clause-count c = ap (λ n. n / 2) c.used_words.ensures ∙ sym (length-runs_of c.args.block.now)
