use Rattle.std.proofs.Common.{rules, ◌≡◌, ℕ, List, Ok, map, ap, sym, ◌∙◌, subst}
use Rattle.ods_base.specs.Image.{block_at}
use Rattle.ods_directory.specs.Names.{IsDirectory, HasBadEntry, HasTwins}
use Rattle.ods_directory.specs.Entry.{used_entries}
use Rattle.ods_space.specs.Files.{HasBlocks, AreInside}
use Rattle.ods_mount.specs.Faults.{IsDirectoryFile, contents_of, mark_at}
use Rattle.ods_check.specs.Findings.{IsWholeDirectory}
use Rattle.ods_check.proofs.Directories.{moved, read_good, unread}
use Rattle.ods_check.proofs.reading.is_read.Goals as goal
use Rattle.ods_check.proofs.reading.is_read.Goals.{After-new-blocks}

pub returns-in_default : goal.returns-in_default
returns-in_default c =
    let none : IsDirectoryFile c.args.disk.now.image.now c.args.disk.now.layout.now c.args.number → (blocks : List ℕ) → ¬ HasBlocks c.args.disk.now.image.now c.args.disk.now.layout.now c.args.number blocks = search rules in
    unread c.args.disk.now.image.now c.args.disk.now.layout.now c.args.number c.is_directory.result c.is_directory.ensures none

pub new-blocks-requires-clause-inside : goal.new-blocks-requires-clause-inside
new-blocks-requires-clause-inside c =
    let d : IsWholeDirectory c.args.disk.now.image.now c.args.disk.now.layout.now c.args.number c.in-Some.directory.lbns.items c.in-Some.directory.mark = search rules in
    subst (AreInside c.args.disk.now.image.now) (sym c.deref.ensures.value) d.has.whole.inside

-- the directory, and what is found of the blocks at hand is so of it
whole : (c : After-new-blocks) → IsWholeDirectory c.args.disk.now.image.now c.args.disk.now.layout.now c.args.number c.in-Some.directory.lbns.items c.in-Some.directory.mark
whole c = search rules

found : (c : After-new-blocks) (P : List (List ℕ) → ℕ → Type 0) → P (map (block_at c.new-blocks.result.image.now) c.new-blocks.result.lbns.now) c.in-Some.directory.mark
    → P (contents_of c.args.disk.now.image.now c.in-Some.directory.lbns.items) (mark_at c.args.disk.now.image.now c.args.disk.now.layout.now c.args.number c.in-Some.directory.lbns.items)
found c P = moved P c.args.disk.now.image.now _ c.args.disk.now.layout.now c.args.number _ _ _ (whole c) c.new-blocks.ensures.0 (c.new-blocks.ensures.1 ∙ c.deref.ensures.value)

pub returns-in-Ok-Good : goal.returns-in-Ok-Good
returns-in-Ok-Good c =
    let all = (goal.at.returns-in-Ok-Good c).After-new-blocks in
    read_good c.args.disk.now.image.now c.args.disk.now.layout.now c.args.number _ (whole all).has (found all IsDirectory (c.in-Ok-Good.ensures.good (ap Ok c.in-Ok-Good.field-0-is)))

pub returns-in-Ok-BadEntry : goal.returns-in-Ok-BadEntry
returns-in-Ok-BadEntry c =
    let all = (goal.at.returns-in-Ok-BadEntry c).After-new-blocks in
    let bad = found all (λ bs m. HasBadEntry (used_entries bs m)) (c.in-Ok-BadEntry.ensures.bad (ap Ok c.in-Ok-BadEntry.field-0-is)) in
    λ r. r.good ((whole all).file, _, (whole all).has, bad)

pub returns-in-Ok-Twice : goal.returns-in-Ok-Twice
returns-in-Ok-Twice c =
    let all = (goal.at.returns-in-Ok-Twice c).After-new-blocks in
    let twice = found all (λ bs m. HasTwins (used_entries bs m)) (c.in-Ok-Twice.ensures.twice (ap Ok c.in-Ok-Twice.field-0-is)) in
    λ r. r.distinct ((whole all).file, _, (whole all).has, twice)
