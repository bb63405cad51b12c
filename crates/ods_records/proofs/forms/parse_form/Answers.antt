use Rattle.std.proofs.Common.{refl}
use Rattle.ods_records.proofs.Forming.{no_form, the_form}
use Rattle.ods_records.proofs.forms.parse_form.Goals as goal

pub returns-in_default : goal.returns-in_default
returns-in_default c = no_form c.args.text.now c.in_default.ensures

pub returns : goal.returns
returns c = the_form c.args.text.now (c.in-Some.kind, (c.in-Some.control, c.in-Some.size)) _ (rw (c.word_bytes.ensures, c.from.ensures) refl) c.in-Some.ensures
