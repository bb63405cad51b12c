use Rattle.std.proofs.Common.{sym, subst}
use Rattle.std.specs.Prelude.{IfSome}
use Rattle.ods_header.specs.Header.{IsLaidOut}
use Rattle.ods_state.specs.Ends.{IsEndKnown}
use Rattle.ods_change.proofs.KnownEnds.{known_laid_out}
use Rattle.ods_change.proofs.known_end.cut_end.Goals as goal

-- the noted last header has its parts in place
pub pointer_sum-requires : goal.pointer_sum-requires
pointer_sum-requires c =
    let noted = subst (λ o. IfSome o (IsEndKnown c.args.disk.now.image.now c.args.disk.now.layout.now)) c.in-Some.is c.requires.known in
    subst IsLaidOut (sym c.in-Some-header_block.ensures.some) (known_laid_out c.args.disk.now.image.now c.args.disk.now.layout.now c.args.number c.in-Some.end noted c.if-end-number.true c.len.ensures.image c.requires.layout c.requires.whole)
