-- Whole blocks are given, or none is left.
use Rattle.std.proofs.Common.{◌≡◌, ◌*◌, ◌<◌, ◌≤◌, ◌++◌, ◌∙◌, ℕ, List, length, length-take, take, drop, sym, ap, subst, arith}
use Rattle.std.specs.Io.KnownBytes.{Consumes, IsAtEnd}
use Rattle.std.proofs.Math.Seq.{take-append_seam}
use Rattle.fs_host.specs.Blocks.{blocks_left}
use Rattle.fs_host.proofs.CutImages.{at_end, given}
use Rattle.fs_host.proofs.whole_blocks.WholeBlocksRead.read.Goals as goal
use Rattle.fs_host.proofs.whole_blocks.WholeBlocksRead.read.Goals.{else-count-eq0-via-then-count-eq0+else-self-ge-BLOCK, else-count-eq0-via-else-count-eq0}

pub returns-clause-bytes : goal.returns-clause-bytes
returns-clause-bytes g c =
    let remaining = g.R.Read.remaining in
    let was = c.args.self.now in
    let mid = c.hold_block.new.self in
    let now = c.drop_front.new.self in
    let count : ℕ = 512 * c.min-count.result in
    let copied : List ℕ = c.copy_from_slice.new.self in
    let size : length copied ≡ count = omega (arith, simp length-take at c.copy_from_slice.ensures.len, c.min-count.ensures) in
    let front : take count mid.piece ≡ copied = sym c.copy_from_slice.ensures.after in
    let few : count ≡ 0 → mid.held < 512 = λ none.
    elim c.else-count-eq0.branch [
      | else-count-eq0-via-then-count-eq0+else-self-ge-BLOCK w ↦ omega (arith, w.if-self-ge-BLOCK.false)
      | else-count-eq0-via-else-count-eq0 w ↦ absurd (omega (arith, none, w.if-count-eq0.false))
    ] in
    let left : List ℕ = take now.held now.piece in
    let taken : take count (copied ++ drop count c.args.bytes.now) ≡ copied =
    ap (λ n. take n (copied ++ drop count c.args.bytes.now)) (sym size) ∙ take-append_seam copied (drop count c.args.bytes.now) in
    let split : take mid.held mid.piece ≡ copied ++ left = c.drop_front.ensures.given ∙ ap (λ l. l ++ left) front in
    let gives = given (remaining was.reader) (remaining mid.reader) (take was.held was.piece) (take mid.held mid.piece) left copied c.min-count.result c.in_ok-hold_block.ensures.kept split size in
    let P : List ℕ → Type 0 = λ bytes. Consumes (blocks_left (take was.held was.piece) (remaining was.reader)) (blocks_left left (remaining now.reader)) bytes in
    let same : remaining mid.reader ≡ remaining now.reader = ap remaining (sym c.drop_front.ensures.reader) in (
      subst P (sym taken) (subst (λ r. Consumes (blocks_left (take was.held was.piece) (remaining was.reader)) (blocks_left left r) copied) same gives),
      λ none _.
          at_end (remaining now.reader) left
          (let long : length left ≤ now.held = simp length-take (omega arith) in let short = few none in let less = c.drop_front.ensures.fewer in omega (arith, long, short, less))
          (subst IsAtEnd same (c.in_ok-hold_block.ensures.end (few none))),
    )
