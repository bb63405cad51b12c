-- The bytes that came stand behind those that are held.
use Rattle.std.proofs.Common.{◌≡◌, ◌-◌, ◌≤◌, arith, sym, take, length, length-take, length-drop}
use Rattle.ods_base.proofs.Pieces.{read_behind}
use Rattle.fs_host.proofs.whole_blocks.read_behind.Goals as goal

pub returns-in-Ok-clause-ok : goal.returns-in-Ok-clause-ok
returns-in-Ok-clause-ok g c =
    let bound = c.in-Ok.ensures.bound in
    let size : length c.read.new.buf ≡ length c.args.piece.now - c.args.held = omega (arith, simp (length-take, length-drop) at c.read.auto.buf) in
    let few : c.in-Ok.count ≤ length c.read.new.buf = bound.0 in (
      omega (arith, c.requires),
      record {
        got = take c.in-Ok.count c.read.new.buf;
        size = sym bound.1;
        consumed = c.in-Ok.ensures.bytes.0;
        behind = read_behind c.args.piece.now c.read.new.buf c.args.held (length c.args.piece.now - c.args.held) c.in-Ok.count (omega (arith, c.requires)) few;
        at_end = λ none. c.in-Ok.ensures.bytes.1 none (omega (arith, c.requires, size));
      },
    )
