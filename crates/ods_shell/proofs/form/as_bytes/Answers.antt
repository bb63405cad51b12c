use Rattle.std.proofs.Common.{rules}
use Rattle.ods_shell.proofs.GotContents.{bytes_are_got}
use Rattle.ods_shell.proofs.form.as_bytes.Goals as goal

pub returns-in-Some-clause-ok : goal.returns-in-Some-clause-ok
returns-in-Some-clause-ok c = bytes_are_got c.args.wanted c.args.body c.form_got-form.result c.in-Some.field-0 c.end_remark-remark.result (search rules) c.form_got-form.ensures c.end_remark-remark.ensures
