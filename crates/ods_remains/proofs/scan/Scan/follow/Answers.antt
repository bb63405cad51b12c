use Rattle.std.proofs.Common.{[], ◌∷◌, ◌++◌, ◌∙◌, ap, subst, arith}
use Rattle.ods_base.specs.Image.{IsImage, block_at}
use Rattle.ods_header.specs.Header.{blocks_of}
use Rattle.ods_remains.specs.Candidates.{GoesOn, IsNext}
use Rattle.ods_remains.proofs.Following.{begun, one_further, along}
use Rattle.ods_remains.proofs.Going.{segment_small}
use Rattle.ods_remains.proofs.scan.Scan.follow.Goals as goal

pub loop-next-init : goal.loop-next-init
loop-next-init c =
    let I = c.args.self.now in
    let first = c.args.first in
    begun (block_at I) (GoesOn I) (IsNext I) first c.note.new.file.headers.items c.note.new.file.blocks.items c.note.new.file.is_cut
    (c.in_ok-note.ensures.headers ∙ ap (λ xs. xs ++ first ∷ []) c.new.ensures.items)
    (c.in_ok-note.ensures.blocks ∙ ap (λ xs. xs ++ blocks_of (block_at I first)) c.new-2.ensures.items)
    c.in_ok-note.ensures.cut

pub loop-next-preserved : goal.loop-next-preserved
loop-next-preserved c =
    let I = c.args.self.now in
    one_further (block_at I) (GoesOn I) (IsNext I) c.args.first c.loop-next.file.headers.items c.loop-next.file.blocks.items c.loop-next.file.is_cut c.loop-next.at c.loop-next.invariant c.in-Some.next c.in-Some.ensures
    c.note-in-Some.new.file.headers.items c.note-in-Some.new.file.blocks.items c.note-in-Some.new.file.is_cut
    c.in_ok-note-2.ensures.headers c.in_ok-note-2.ensures.blocks c.in_ok-note-2.ensures.cut

pub loop-next-smaller : goal.loop-next-smaller
loop-next-smaller c =
    let I = c.args.self.now in
    let image : IsImage I = subst IsImage c.self.view_is c.len.ensures.image in
    let small = segment_small I image c.in-Some.next c.in-Some.ensures.named.there in
    let further = c.in-Some.ensures.named.named.segment in
    omega (arith, small, further)

pub returns : goal.returns
returns c =
    let I = c.args.self.now in
    let so = c.loop-next.invariant in
    record {
      primary = c.requires;
      others = so.passed;
      headers = so.whole;
      chain = along (block_at I) (GoesOn I) (IsNext I) c.args.first c.loop-next.file.headers.items c.loop-next.file.blocks.items c.loop-next.file.is_cut c.loop-next.at so c.in_default.ensures;
      blocks = so.blocks;
    }
