use Rattle.ods_files.specs.Body.{bytes_in}
use Rattle.ods_shell.proofs.ComparedForms.{same_by}
use Rattle.ods_shell.proofs.comparing.have_same_bytes.Goals as goal

pub returns-clause-ok : goal.returns-clause-ok
returns-clause-ok c =
    let x = c.form_of-form.ensures in
    let y = c.form_of-other_form.ensures in (
      x.0,
      y.0,
      (c.in-Ok.body, c.in-Ok.ensures.ok, x.2),
      (c.in-Ok-body_of.body, c.in-Ok-body_of.ensures.ok, y.2),
      same_by c.is_same.result (bytes_in c.form_of-form.result c.in-Ok.body) (bytes_in c.form_of-other_form.result c.in-Ok-body_of.body) x.0 y.0 x.1 y.1 c.is_same.ensures,
    )
