use Rattle.std.proofs.Common.{ap, ◌∙◌}
use Rattle.ods_plain.specs.Lines.{names_in}
use Rattle.ods_plain.proofs.LineLists.{no_names}
use Rattle.ods_plain.proofs.names.Names.new.Goals as goal

pub returns : goal.returns
returns c = ap names_in c.new.ensures.items ∙ no_names
