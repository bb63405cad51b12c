use Rattle.std.proofs.Common.{refl}
use Rattle.std.specs.String.{string_bytes}
use Rattle.std.proofs.lemmas.Option.{slice_get_read}
use Rattle.ods_shell.proofs.Listed.{objects_next}
use Rattle.ods_shell.proofs.json.ls_objects.Goals as goal

pub loop-line-preserved : goal.loop-line-preserved
loop-line-preserved c =
    let at = slice_get_read c.deref-line-items.result.now _ c.loop-line.line-index c.line-item.result refl c.loop-line-test.true c.line-item.is in
    objects_next c.args.disk.now.image.now c.args.disk.now.layout.now c.args.image.now c.args.found.now.directories.items c.deref-line-items.result.now c.loop-line.line-index c.line-item.result
    (string_bytes c.loop-line.text) (string_bytes c.push_found_object.new.text) c.deref.result.now at c.deref.ensures.value c.in_ok-push_found_object.ensures c.loop-line.invariant
