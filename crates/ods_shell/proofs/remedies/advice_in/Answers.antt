use Rattle.std.proofs.Common.{ap, ◌∙◌, option_map}
use Rattle.ods_shell.specs.Remedies.{advice_words}
use Rattle.ods_shell.proofs.RowsFound.{same_words}
use Rattle.ods_shell.proofs.remedies.advice_in.Goals as goal

pub returns : goal.returns
returns c = ap (option_map advice_words) c.first_of.ensures ∙ same_words c.args.name.now c.args.rows.now
