use Rattle.std.proofs.Common.{◌≡◌, ℕ, ◌++◌, List, take, refl, ap, ◌∙◌, subst}
use Rattle.std.specs.Io.KnownBytes.{Consumes}
use Rattle.std.proofs.KnownBytes.{Consumes-kept, Consumes-trans}
use Rattle.std.proofs.lemmas.List.{append-nil}
use Rattle.std.proofs.lemmas.Result.{err_from_is_err_and}
use Rattle.ods_container.proofs.reading.read_pieces.Given.{Over}
use Rattle.ods_container.proofs.reading.read_pieces.Goals as goal
use Rattle.ods_container.proofs.reading.read_pieces.Goals.{In_ok-count}

-- all bytes that were taken by then: those that stand, and those of the piece
taken : (g : Over) (c : In_ok-count g) →
    Consumes (g.R.Read.remaining c.args.reader.now) (g.R.Read.remaining c.read_piece.new.reader) (c.pieces.all.items ++ take c.in_ok-count.count c.read_piece.new.piece)
taken g c =
    let remaining = g.R.Read.remaining in
    Consumes-trans (remaining c.args.reader.now) (remaining c.pieces.reader) (remaining c.read_piece.new.reader) c.pieces.all.items (take c.in_ok-count.count c.read_piece.new.piece)
    c.pieces.invariant.taken c.in_ok-count.ensures.ok.1

pub returns-in_err-count : goal.returns-in_err-count
returns-in_err-count g c =
    let remaining = g.R.Read.remaining in
    let failed = c.in_err-count.ensures.err in
    let p = err_from_is_err_and c.from_residual.result c.from_residual.ensures.1 in (
      c.pieces.all.items,
      Consumes-kept (remaining c.args.reader.now) (remaining c.pieces.reader) (remaining c.read_piece.new.reader) c.pieces.all.items c.pieces.invariant.taken failed.1,
      rw (p.1, p.2, failed.0) c.pieces.invariant.few,
    )

pub returns-then-count-eq0 : goal.returns-then-count-eq0
returns-then-count-eq0 g c =
    let at = (goal.at.returns-then-count-eq0 g c).In_ok-count in
    let all = c.pieces.all.items in
    let none : all ++ take c.in_ok-count.count c.read_piece.new.piece ≡ all = ap (λ n. all ++ take n c.read_piece.new.piece) c.if-count-eq0.true ∙ append-nil all in
    let P : List ℕ → Type 0 = λ bytes. Consumes (g.R.Read.remaining c.args.reader.now) (g.R.Read.remaining c.read_piece.new.reader) bytes in
    (all, subst P none (taken g at), record { all = refl; few = c.pieces.invariant.few; at_end = c.in_ok-count.ensures.ok.2 c.if-count-eq0.true })

pub returns-in_err-extend_from_slice : goal.returns-in_err-extend_from_slice
returns-in_err-extend_from_slice g c =
    let at = (goal.at.returns-in_err-extend_from_slice g c).In_ok-count in
    let p = err_from_is_err_and c.from_residual-in_err-extend_from_slice.result c.from_residual-in_err-extend_from_slice.ensures.1 in
    (_, taken g at, rw (p.1, p.2) tt)
