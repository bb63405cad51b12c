use Rattle.std.proofs.Common.{◌≡◌, ℕ, List, Ok, length, map, refl, ap, ◌∙◌, subst, arith}
use Rattle.std.proofs.lemmas.List.{length-map}
use Rattle.ods_base.specs.Image.{block_at}
use Rattle.ods_directory.specs.Names.{IsDirectory, HasBadEntry, HasTwins}
use Rattle.ods_directory.specs.Entry.{used_entries}
use Rattle.ods_directory.specs.Mark.{mark_in}
use Rattle.ods_space.specs.Chain.{index_for}
use Rattle.ods_space.proofs.Sizes.{chain_size}
use Rattle.ods_mount.specs.Faults.{contents_of, mark_at}
use Rattle.ods_space.proofs.Surveyed.{same_blocks}
use Rattle.ods_mount.proofs.directory.check_directory.Goals as goal
use Rattle.ods_mount.proofs.directory.check_directory.Goals.{After-mark_of-mark}

pub new-blocks-requires-clause-few : goal.new-blocks-requires-clause-few
new-blocks-requires-clause-few c =
    let has = c.in-Ok.ensures.ok in
    let size : length c.deref.result.now ≡ length c.in-Ok.lbns.items = ap length c.deref.ensures.value in
    let small = chain_size c.args.disk.now.image.now c.args.disk.now.layout.now.home (index_for c.args.disk.now.layout.now c.args.number) c.args.number has.others c.in-Ok.lbns.items c.len.ensures.image has.whole.chain in
    omega arith

-- what was found of the blocks and the mark at hand is so of those of the file
moved : (P : List (List ℕ) → ℕ → Type 0) (I J : List (List ℕ)) (xs ys : List ℕ) (attributes at_hand : List ℕ) (mark count : ℕ) → (J ≡ I) → (ys ≡ xs) → (at_hand ≡ attributes)
    → count ≡ length (map (block_at J) ys) → mark ≡ mark_in at_hand count → P (map (block_at J) ys) mark → P (map (block_at I) xs) (mark_in attributes (length xs))
moved P I J xs ys attributes at_hand mark count same_image same_blocks same_attributes count_is mark_is found =
    let size : count ≡ length xs = count_is ∙ length-map ys (block_at J) ∙ ap length same_blocks in
    let end : mark ≡ mark_in attributes (length xs) = mark_is ∙ ap (λ l. mark_in l count) same_attributes ∙ ap (mark_in attributes) size in
    let Q : ℕ → Type 0 = λ m. P (map (block_at J) ys) m in
    let R : List ℕ → Type 0 = λ l. P (map (block_at J) l) (mark_in attributes (length xs)) in
    let S : List (List ℕ) → Type 0 = λ K. P (map (block_at K) xs) (mark_in attributes (length xs)) in
    subst S same_image (subst R same_blocks (subst Q end found))

-- so it is at the end of the check
found : (c : After-mark_of-mark) (P : List (List ℕ) → ℕ → Type 0) (blocks : List ℕ) → c.in-Ok.lbns.items ≡ blocks
    → P (map (block_at c.new-blocks.result.image.now) c.new-blocks.result.lbns.now) c.mark_of-mark.result → P (contents_of c.args.disk.now.image.now blocks) (mark_at c.args.disk.now.image.now c.args.disk.now.layout.now c.args.number blocks)
found c P blocks same =
    moved P c.args.disk.now.image.now _ blocks _ _ c.args.attributes.now c.mark_of-mark.result c.count.result c.new-blocks.ensures.0 (c.new-blocks.ensures.1 ∙ c.deref.ensures.value ∙ same) c.requires.attributes
    c.count.ensures c.mark_of-mark.ensures

pub returns-in-Ok-Good-clause-ok : goal.returns-in-Ok-Good-clause-ok
returns-in-Ok-Good-clause-ok c blocks has _ =
    let same = same_blocks c.args.disk.now.image.now c.args.disk.now.layout.now c.args.number c.in-Ok.lbns.items blocks c.in-Ok.ensures.ok has in
    found (goal.at.returns-in-Ok-Good-clause-ok c).After-mark_of-mark IsDirectory blocks same (c.in-Ok-Good.ensures.good (ap Ok c.in-Ok-Good.field-0-is))

pub returns-in-Ok-BadEntry-clause-err : goal.returns-in-Ok-BadEntry-clause-err
returns-in-Ok-BadEntry-clause-err c _ =
    let bad = found (goal.at.returns-in-Ok-BadEntry-clause-err c).After-mark_of-mark (λ bs m. HasBadEntry (used_entries bs m)) _ refl (c.in-Ok-BadEntry.ensures.bad (ap Ok c.in-Ok-BadEntry.field-0-is)) in
    (c.if-not-is_directory_file.ensures, c.in-Ok.lbns.items, c.in-Ok.ensures.ok, bad)

pub returns-in-Ok-Twice-clause-err : goal.returns-in-Ok-Twice-clause-err
returns-in-Ok-Twice-clause-err c _ =
    let twice = found (goal.at.returns-in-Ok-Twice-clause-err c).After-mark_of-mark (λ bs m. HasTwins (used_entries bs m)) _ refl (c.in-Ok-Twice.ensures.twice (ap Ok c.in-Ok-Twice.field-0-is)) in
    (c.if-not-is_directory_file.ensures, c.in-Ok.lbns.items, c.in-Ok.ensures.ok, twice)

pub returns-then-not-is_directory_file-clause-ok : goal.returns-then-not-is_directory_file-clause-ok
returns-then-not-is_directory_file-clause-ok c blocks has dir = absurd (c.if-not-is_directory_file.ensures dir)
