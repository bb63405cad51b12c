use Rattle.std.proofs.Common.{◌≡◌, ◌∙◌, List, ◌++◌, ap, refl, length}
use Rattle.std.specs.String.{string_bytes}
use Rattle.ods_space.specs.Free.{free_blocks, free_numbers}
use Rattle.ods_cli.specs.declared.printed.Printed.{Printed}
use Rattle.ods_cli.specs.Printed.{printed_text}
use Rattle.ods_cli.proofs.Serving.{unserved_to}
use Rattle.ods_cli.proofs.sessions.serve_none.Goals as goal

pub returns-clause-served : goal.returns-clause-served
returns-clause-served c = λ stamp limit.
    let blocks : c.free_count-blocks.result ≡ length (free_blocks c.args.mounted.now.image c.args.mounted.now.layout) =
    rw (c.disk-disk.ensures.image, c.disk-disk.ensures.layout) at c.free_count-blocks.ensures in
    let numbers : c.number_count-numbers.result ≡ length (free_numbers c.args.mounted.now.image c.args.mounted.now.layout) =
    rw (c.disk-disk.ensures.image, c.disk-disk.ensures.layout) at c.number_count-numbers.ensures in
    let text : printed_text 1 c.new-printed.result.items ++ string_bytes c.in_ok-totals.totals ≡ string_bytes c.in_ok-totals.totals =
    ap (λ (ps : List Printed). printed_text 1 ps ++ string_bytes c.in_ok-totals.totals) c.new-printed.ensures.items in
    unserved_to stamp c.args.scripts.now limit c.args.mounted.now.image c.args.mounted.now.layout (record { entries = 0; of_session = c.new.result })
    (printed_text 1 c.new-printed.result.items ++ string_bytes c.in_ok-totals.totals) c.requires
    (rw (c.disk-disk.ensures.image, c.disk-disk.ensures.layout) at c.disk-disk.ensures.sound) refl c.new.ensures.items
    (text ∙ rw (blocks, numbers) at c.in_ok-totals.ensures)
