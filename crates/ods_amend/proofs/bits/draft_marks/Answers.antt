use Rattle.std.proofs.Common.{List, ℕ, [], subst, sym}
use Rattle.ods_space.specs.Draft.{Changes, applied}
use Rattle.ods_space.specs.Files.{IsLayoutOf}
use Rattle.ods_space.proofs.Drafts.{applied_none}
use Rattle.ods_alloc.specs.Marks.{MarksBlocks}
use Rattle.ods_alloc.proofs.Places.{has_places}
use Rattle.ods_amend.proofs.Marked.{are_marked}
use Rattle.ods_state.proofs.Bookkeeping.{well_placed}
use Rattle.ods_amend.proofs.bits.draft_marks.Goals as goal

pub mark_blocks-requires : goal.mark_blocks-requires
mark_blocks-requires c = record {
  places = has_places c.args.disk.now.image.now [] c.args.disk.now.layout.now
      (subst (λ (J : List (List ℕ)). IsLayoutOf J c.args.disk.now.layout.now) (applied_none c.args.disk.now.image.now) c.requires.sound.layout) (well_placed c.args.disk.now.image.now c.args.disk.now.layout.now c.requires.sound);
}

pub returns-in-Ok : goal.returns-in-Ok
returns-in-Ok c =
    let I = c.args.disk.now.image.now in
    let L = c.args.disk.now.layout.now in
    let P : Changes → Type 0 = λ d. MarksBlocks (applied I d) L c.args.blocks.now c.args.free (applied I c.mark_blocks.new.draft) in
    are_marked I (applied I c.mark_blocks.new.draft) L c.args.blocks.now c.args.free c.requires.sound (subst (λ (J : List (List ℕ)). MarksBlocks J L c.args.blocks.now c.args.free (applied I c.mark_blocks.new.draft)) (sym (applied_none I)) (subst P c.new-draft.ensures c.in-Ok.ensures)) c.requires.loose
