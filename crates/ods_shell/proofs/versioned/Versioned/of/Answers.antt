use Rattle.std.proofs.Common.{◌≡◌, ◌+◌, ◌∙◌, ap, [], ◌∷◌, ◌++◌, sym, subst, take}
use Rattle.std.proofs.lemmas.List.{take_all, take_more}
use Rattle.ods_shell.specs.declared.found.Found.{Found}
use Rattle.ods_shell.specs.Versioned.{AreKnownOf}
use Rattle.ods_shell.proofs.Joining.{known_more, none_known}
use Rattle.ods_shell.proofs.versioned.Versioned.of.Goals as goal

pub loop-file-init : goal.loop-file-init
loop-file-init c = none_known _ c.new.ensures.empty

pub loop-file-preserved : goal.loop-file-preserved
loop-file-preserved c =
    let items = c.args.files.now in
    let k = c.loop-file.file-index in
    let f : Found = c.file-item.result in
    let more : take (k + 1) items ≡ take k items ++ f ∷ [] = take_more items k f c.loop-file-test.true ∙ ap (λ x. take k items ++ x ∷ []) (sym c.file-item.is) in
    subst (λ l. AreKnownOf l c.note.new.self) (sym more) (known_more (take k items) f c.loop-file.all c.note.new.self c.loop-file.invariant c.in_ok-note.ensures)

pub returns : goal.returns
returns c = subst (λ l. AreKnownOf l c.loop-file.all) (take_all c.loop-file.file-index c.args.files.now c.loop-file-test.false) c.loop-file.invariant
