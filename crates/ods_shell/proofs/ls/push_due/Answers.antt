use Rattle.std.proofs.Common.{◌∙◌, ◌++◌, ap, slice_get}
use Rattle.std.specs.Prelude.{◌==◌}
use Rattle.std.specs.String.{string_bytes}
use Rattle.ods_shell.specs.Lines.{heading}
use Rattle.ods_shell.specs.Listed.{places_from}
use Rattle.ods_shell.proofs.Headings.{heading_behind}
use Rattle.ods_shell.proofs.Places.{on_ok}
use Rattle.ods_shell.proofs.ls.push_due.Goals as goal

pub returns : goal.returns
returns c =
    let mid = c.push_empty.new.text in
    on_ok c.push_heading.result
    (λ is. heading_behind c.args.directories.now (string_bytes c.args.text.now) (string_bytes mid) (string_bytes c.push_heading.new.text) (places_from c.args.empty c.args.headed c.args.place) c.args.place
    (is ∙ ap (λ n. string_bytes mid ++ heading (n == 0) (slice_get c.args.directories.now c.args.place)) mid.bytes.ok.0) c.in_ok-push_empty.ensures) c.push_heading.ensures
