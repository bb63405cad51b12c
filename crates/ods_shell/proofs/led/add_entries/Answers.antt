use Rattle.std.proofs.Common.{refl, ap, ◌∙◌, [], ◌∷◌, ◌++◌, append_assoc, List}
use Rattle.ods_shell.specs.declared.found.Found.{Found}
use Rattle.ods_shell.specs.Named.{IsOne}
use Rattle.ods_shell.proofs.WaysLists.{each_next}
use Rattle.ods_shell.proofs.led.add_entries.Goals as goal

pub loop-entry-preserved : goal.loop-entry-preserved
loop-entry-preserved c =
    let here = c.loop-entry.invariant in
    let one : Found = c.in_ok-file_at.field-0 in (
      here.0 ++ one ∷ [],
      c.in_ok-push.ensures.items ∙ ap (λ (fs : List Found). fs ++ one ∷ []) here.1 ∙ append_assoc c.args.found.now.items here.0 (one ∷ []),
      each_next (IsOne c.args.disk.now.image.now c.args.disk.now.layout.now c.args.directory.now) c.args.entries.now c.loop-entry.entry-index c.entry-item.result here.0 (one ∷ []) (here.0 ++ one ∷ []) c.loop-entry-test.true
          c.entry-item.is refl here.2 (one, refl, c.in_ok-file_at.ensures),
    )
