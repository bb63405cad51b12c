use Rattle.std.proofs.Common.{rules, ◌≡◌, ◌∙◌, ◌<◌, ◌≤◌, ◌-◌, ℕ, List, [], get_or, ap, sym, subst, length, arith}
use Rattle.std.specs.Prelude.{slice_index}
use Rattle.std.proofs.lemmas.List.{get_or_read}
use Rattle.ods_base.specs.Block.{IsBlock}
use Rattle.ods_base.specs.Image.{IsImage, block_at}
use Rattle.ods_base.specs.Overlay.{overlaid}
use Rattle.ods_base.proofs.Overlays.{length-overlaid, reads_base, reads_own}
use Rattle.ods_base.proofs.overlay.Overlay.block.Goals as goal

-- the block at this LBN, by its seat
module _ (B : List (List ℕ)) (P : List ℕ) (C I : List (List ℕ)) (lbn seat : ℕ) (b : List ℕ) (view : overlaid B P C ≡ I) (requires : lbn < length I) (is : seat ≡ slice_index P lbn) where
  inside : lbn < length B
  inside = omega (arith, length-overlaid B P C, ap length view, requires)

  from_base : seat ≡ 0 → b ≡ block_at B lbn → b ≡ block_at I lbn
  from_base zero read = read ∙ sym (reads_base B P C lbn inside (sym is ∙ zero)) ∙ ap (λ J. block_at J lbn) view

  from_own : ((k : ℕ) → slice_index P k ≤ length C) → 0 < seat → b ≡ get_or C (seat - 1) b → b ≡ block_at I lbn
  from_own within some read =
      let w = within lbn in
      get_or_read C (seat - 1) b (omega (arith, w, is, some)) read [] ∙ ap (λ p. block_at C (p - 1)) is ∙ sym (reads_own B P C lbn inside (omega (arith, is, some))) ∙ ap (λ J. block_at J lbn) view

  whole : IsImage (overlaid B P C) → b ≡ block_at I lbn → IsBlock b
  whole image here = subst IsBlock (ap (λ J. block_at J lbn) view ∙ sym here) (image.blocks lbn [] (omega (arith, ap length view, requires)))

pub block-requires : goal.block-requires
block-requires c =
    let i = c.self.inside in
    inside i.base i.seats.items i.own.items c.args.self.now c.args.lbn c.seat_of-seat.result [] c.self.view_is c.requires (search (rules))

pub returns-then-seat-eq0-clause-value : goal.returns-then-seat-eq0-clause-value
returns-then-seat-eq0-clause-value c =
    let i = c.self.inside in
    from_base i.base i.seats.items i.own.items c.args.self.now c.args.lbn c.seat_of-seat.result c.block.result.now c.self.view_is c.requires (search (rules)) c.if-seat-eq0.true c.block.ensures.value

pub returns-else-seat-eq0-clause-value : goal.returns-else-seat-eq0-clause-value
returns-else-seat-eq0-clause-value c =
    let i = c.self.inside in
    from_own i.base i.seats.items i.own.items c.args.self.now c.args.lbn c.seat_of-seat.result c.index.result.now c.self.view_is c.requires (search (rules)) c.self.invariant.overlay.within (search (rules)) c.index.ensures

pub returns-else-seat-eq0-clause-block : goal.returns-else-seat-eq0-clause-block
returns-else-seat-eq0-clause-block c =
    let i = c.self.inside in
    whole i.base i.seats.items i.own.items c.args.self.now c.args.lbn c.seat_of-seat.result c.index.result.now c.self.view_is c.requires (search (rules))
    c.self.invariant.image (returns-else-seat-eq0-clause-value c)
