use Rattle.std.proofs.Common.{[], ◌∷◌, ◌++◌, ◌∙◌, ap, arith, inl, inr}
use Rattle.ods_header.specs.Header.{blocks_of}
use Rattle.ods_remains.specs.Deleted.{LeadsOn, former}
use Rattle.ods_remains.proofs.Following.{begun, one_further}
use Rattle.ods_remains.proofs.FileFronts.{front_ends, front_meets}
use Rattle.ods_remains.proofs.fronts.follow_front.Goals as goal

pub loop-next-init : goal.loop-next-init
loop-next-init c =
    let I = c.args.disk.now.image.now in
    let L = c.args.disk.now.layout.now in
    let first = c.args.first in
    begun (former I L) (LeadsOn I L) (LeadsOn I L) first c.note.new.file.headers.items c.note.new.file.blocks.items c.note.new.file.is_cut
    (c.in_ok-note.ensures.headers ∙ ap (λ xs. xs ++ first ∷ []) c.new.ensures.items)
    (c.in_ok-note.ensures.blocks ∙ ap (λ xs. xs ++ blocks_of (former I L first)) c.new-2.ensures.items)
    c.in_ok-note.ensures.cut

pub loop-next-preserved : goal.loop-next-preserved
loop-next-preserved c =
    let I = c.args.disk.now.image.now in
    let L = c.args.disk.now.layout.now in
    one_further (former I L) (LeadsOn I L) (LeadsOn I L) c.args.first c.loop-next.file.headers.items c.loop-next.file.blocks.items c.loop-next.file.is_cut c.loop-next.at c.loop-next.invariant c.in-Some.next c.in-Some.ensures.next
    c.note-in-Some.new.file.headers.items c.note-in-Some.new.file.blocks.items c.note-in-Some.new.file.is_cut
    c.in_ok-note-2.ensures.headers c.in_ok-note-2.ensures.blocks c.in_ok-note-2.ensures.cut

pub loop-next-smaller : goal.loop-next-smaller
loop-next-smaller c =
    let small = c.in-Some.ensures.small in
    let further = c.in-Some.ensures.next.named.segment in
    omega (arith, small, further)

pub returns : goal.returns
returns c =
    let I = c.args.disk.now.image.now in
    let L = c.args.disk.now.layout.now in
    let file = c.loop-next.file in
    elim c.in_default.ensures.next [
      | inl none ↦ front_ends I L c.args.seen.now c.args.first file.headers.items file.blocks.items file.is_cut c.loop-next.at c.loop-next.invariant none
      | inr met ↦ front_meets I L c.args.seen.now c.args.first file.headers.items file.blocks.items file.is_cut c.loop-next.at c.loop-next.invariant c.requires.seen met.0 met.1 met.2
    ]
