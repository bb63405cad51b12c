use Rattle.std.proofs.Common.{Some, ap, sym, ◌∙◌, arith}
use Rattle.ods_header.proofs.RunsAt.{length-runs_of, slice_get-runs_of}
use Rattle.ods_header.proofs.map_area.pointer_at.Goals as goal

pub pointer-requires-clause-inside : goal.pointer-requires-clause-inside
pointer-requires-clause-inside c =
    let map = c.byte.ensures in
    omega (arith, length-runs_of c.args.block.now, c.requires.layout.fits, c.requires.inside)

pub returns-clause-value : goal.returns-clause-value
returns-clause-value c = slice_get-runs_of c.args.block.now c.args.k c.requires.inside ∙ ap Some (sym c.pointer.ensures)
