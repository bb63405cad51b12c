-- A block more is held.
use Rattle.std.proofs.Common.{◌≡◌, ◌∙◌, ◌++◌, [], ap, arith, length, take}
use Rattle.fs_host.proofs.Comparing.{gives_none, held_more}
use Rattle.fs_host.proofs.comparing_bytes.hold.Goals as goal

pub returns-then-now-lt-PIECE-clause-given : goal.returns-then-now-lt-PIECE-clause-given
returns-then-now-lt-PIECE-clause-given g c =
    let e = c.copy_from_slice.ensures.after ∙ c.bytes.ensures.value in
    let size : length c.copy_from_slice.new.self ≡ 512 = ap length e ∙ c.bytes.ensures.block.size in (
      [],
      gives_none c.args.ends_in_zeros (g.R.Read.remaining c.args.reader.now),
      held_more c.args.piece.now c.copy_from_slice.new.self _ c.args.held (omega (arith, c.requires.size, c.requires.room)) size ∙ ap (λ b. take c.args.held c.args.piece.now ++ b) e,
    )
