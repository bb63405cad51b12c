use Rattle.std.proofs.Common.{rules, ◌≡◌, ℕ, List, map, sym, ◌∙◌, subst}
use Rattle.std.specs.Prelude.{MatchBool}
use Rattle.ods_base.specs.Image.{block_at}
use Rattle.ods_directory.specs.Hidden.{HasHidden}
use Rattle.ods_space.specs.Files.{HasBlocks, AreInside}
use Rattle.ods_mount.specs.Faults.{IsDirectoryFile}
use Rattle.ods_check.specs.Findings.{IsWholeDirectory}
use Rattle.ods_check.proofs.Directories.{moved, hiding_is}
use Rattle.ods_check.proofs.hidden.HidingSought.holds.Goals as goal

pub returns-in_default : goal.returns-in_default
returns-in_default c =
    let none : IsDirectoryFile c.args.disk.now.image.now c.args.disk.now.layout.now c.args.number → (blocks : List ℕ) → ¬ HasBlocks c.args.disk.now.image.now c.args.disk.now.layout.now c.args.number blocks = search rules in
    λ h. none h.file h.blocks h.has

pub new-blocks-requires-clause-inside : goal.new-blocks-requires-clause-inside
new-blocks-requires-clause-inside c =
    let d : IsWholeDirectory c.args.disk.now.image.now c.args.disk.now.layout.now c.args.number c.in-Some.directory.lbns.items c.in-Some.directory.mark = search rules in
    subst (AreInside c.args.disk.now.image.now) (sym c.deref.ensures.value) d.has.whole.inside

pub returns : goal.returns
returns c =
    let I = c.args.disk.now.image.now in
    let L = c.args.disk.now.layout.now in
    let b = c.has_hidden.result in
    let d : IsWholeDirectory I L c.args.number c.in-Some.directory.lbns.items c.in-Some.directory.mark = search rules in
    hiding_is I L c.args.number _ b d.has d.file
    (moved (λ bs m. MatchBool b (HasHidden bs m) (¬ HasHidden bs m)) I _ L c.args.number _ _ _ d c.new-blocks.ensures.0 (c.new-blocks.ensures.1 ∙ c.deref.ensures.value) c.has_hidden.ensures)
