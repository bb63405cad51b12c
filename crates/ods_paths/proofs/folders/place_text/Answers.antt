use Rattle.std.proofs.Common.{◌∙◌, sym, refl, true, false}
use Rattle.ods_paths.proofs.FolderTexts.{place_part}
use Rattle.ods_paths.proofs.folders.place_text.Goals as goal

pub returns-then-ends_with : goal.returns-then-ends_with
returns-then-ends_with c = place_part c.args.text.now _ true (sym c.ends_with.ensures.value ∙ c.if-ends_with.true) refl

pub returns : goal.returns
returns c = place_part c.args.text.now c.args.text.now false (sym c.ends_with.ensures.value ∙ c.if-ends_with.false) refl
