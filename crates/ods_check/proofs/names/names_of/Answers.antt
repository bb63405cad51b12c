use Rattle.std.proofs.Common.{rules, ◌≡◌, ℕ, List, Ok, map, inl, inr, ap, sym, ◌∙◌, subst}
use Rattle.ods_base.specs.Image.{block_at}
use Rattle.ods_base.specs.Names.{lines_of}
use Rattle.ods_directory.specs.Names.{IsDirectory, HasBadEntry, HasTwins, names_of}
use Rattle.ods_directory.specs.Entry.{used_entries}
use Rattle.ods_space.specs.Files.{HasBlocks, AreInside}
use Rattle.ods_mount.specs.Faults.{IsDirectoryFile, contents_of, mark_at}
use Rattle.ods_check.specs.Findings.{IsWholeDirectory}
use Rattle.ods_check.proofs.Directories.{moved, none_are, names_are, no_names}
use Rattle.ods_check.proofs.names.names_of.Goals as goal
use Rattle.ods_check.proofs.names.names_of.Goals.{After-new-blocks}

pub returns-in_default : goal.returns-in_default
returns-in_default c =
    let none : IsDirectoryFile c.args.disk.now.image.now c.args.disk.now.layout.now c.args.number → (blocks : List ℕ) → ¬ HasBlocks c.args.disk.now.image.now c.args.disk.now.layout.now c.args.number blocks = search rules in
    none_are c.args.disk.now.image.now c.args.disk.now.layout.now c.args.number _ c.new.ensures.items (λ line h. none h.file h.blocks h.has)

pub new-blocks-requires-clause-inside : goal.new-blocks-requires-clause-inside
new-blocks-requires-clause-inside c =
    let d : IsWholeDirectory c.args.disk.now.image.now c.args.disk.now.layout.now c.args.number c.in-Some.directory.lbns.items c.in-Some.directory.mark = search rules in
    subst (AreInside c.args.disk.now.image.now) (sym c.deref.ensures.value) d.has.whole.inside

-- the directory, and what is found of the blocks at hand is so of it
whole : (c : After-new-blocks) → IsWholeDirectory c.args.disk.now.image.now c.args.disk.now.layout.now c.args.number c.in-Some.directory.lbns.items c.in-Some.directory.mark
whole c = search rules

found : (c : After-new-blocks) (P : List (List ℕ) → ℕ → Type 0) → P (map (block_at c.new-blocks.result.image.now) c.new-blocks.result.lbns.now) c.in-Some.directory.mark
    → P (contents_of c.args.disk.now.image.now c.in-Some.directory.lbns.items) (mark_at c.args.disk.now.image.now c.args.disk.now.layout.now c.args.number c.in-Some.directory.lbns.items)
found c P = moved P c.args.disk.now.image.now _ c.args.disk.now.layout.now c.args.number _ _ _ (whole c) c.new-blocks.ensures.0 (c.new-blocks.ensures.1 ∙ c.deref.ensures.value)

pub returns-in-Ok-Good : goal.returns-in-Ok-Good
returns-in-Ok-Good c =
    let all = (goal.at.returns-in-Ok-Good c).After-new-blocks in
    let d = whole all in
    let lines = c.in_ok-lines-in-Ok-Good.lines.items in
    names_are c.args.disk.now.image.now c.args.disk.now.layout.now c.args.number _ lines d.has d.file (found all IsDirectory (c.in-Ok-Good.ensures.good (ap Ok c.in-Ok-Good.field-0-is)))
    (found all (λ bs m. lines ≡ lines_of (names_of bs m)) c.in_ok-lines-in-Ok-Good.ensures)

pub returns-in-Ok-BadEntry : goal.returns-in-Ok-BadEntry
returns-in-Ok-BadEntry c =
    let all = (goal.at.returns-in-Ok-BadEntry c).After-new-blocks in
    let bad = found all (λ bs m. HasBadEntry (used_entries bs m)) (c.in-Ok-BadEntry.ensures.bad (ap Ok c.in-Ok-BadEntry.field-0-is)) in
    none_are c.args.disk.now.image.now c.args.disk.now.layout.now c.args.number _ c.new-in-Ok-BadEntry.ensures.items (no_names c.args.disk.now.image.now c.args.disk.now.layout.now c.args.number _ (whole all).has (inl bad))

pub returns-in-Ok-Twice : goal.returns-in-Ok-Twice
returns-in-Ok-Twice c =
    let all = (goal.at.returns-in-Ok-Twice c).After-new-blocks in
    let twice = found all (λ bs m. HasTwins (used_entries bs m)) (c.in-Ok-Twice.ensures.twice (ap Ok c.in-Ok-Twice.field-0-is)) in
    none_are c.args.disk.now.image.now c.args.disk.now.layout.now c.args.number _ c.new-in-Ok-Twice.ensures.items (no_names c.args.disk.now.image.now c.args.disk.now.layout.now c.args.number _ (whole all).has (inr twice))
