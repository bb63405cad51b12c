use Rattle.std.proofs.Common.{rules, ◌≡◌, ◌⊎◌, ℕ, true, List, Some, slice_get, sym, subst, arith}
use Rattle.ods_space.specs.Files.{HasBlocks, AreInside}
use Rattle.ods_mount.specs.Tables.{has}
use Rattle.ods_check.specs.Findings.{HasBlock}
use Rattle.ods_check.specs.Sets.{IsSetOf}
use Rattle.ods_check.proofs.Noting.{set_same}
use Rattle.ods_check.proofs.Pairs.{blocks_more}
use Rattle.ods_check.proofs.unheld.note_blocks.Goals as goal

pub returns-in_default-clause-with : goal.returns-in_default-clause-with
returns-in_default-clause-with c =
    let none : (blocks : List ℕ) → ¬ HasBlocks c.args.disk.now.image.now c.args.disk.now.layout.now c.args.number blocks = search rules in
    set_same (HasBlock c.args.disk.now.image.now c.args.disk.now.layout.now c.args.number) c.args.held.now (λ b p. none p.1.blocks p.1.file)

pub insert_all-requires : goal.insert_all-requires
insert_all-requires c k d low =
    let own : HasBlocks c.args.disk.now.image.now c.args.disk.now.layout.now c.args.number c.in-Some.lbns.items = search rules in
    let here = subst (AreInside c.args.disk.now.image.now) (sym c.deref.ensures.value) own.whole.inside k d low in
    let room = c.requires.room in
    omega arith

pub returns-clause-with : goal.returns-clause-with
returns-clause-with c =
    let own : HasBlocks c.args.disk.now.image.now c.args.disk.now.layout.now c.args.number c.in-Some.lbns.items = search rules in
    let P : List ℕ → Type 0 = λ ys. IsSetOf (λ b. (has c.args.held.now b ≡ true) ⊎ ((j : ℕ) × (slice_get ys j ≡ Some b))) c.insert_all.new.set in
    blocks_more c.args.disk.now.image.now c.args.disk.now.layout.now c.args.number _ c.args.held.now c.insert_all.new.set own (subst P c.deref.ensures.value c.insert_all.ensures.with)
