use Rattle.std.proofs.Common.{ap, ◌∙◌, length, subst}
use Rattle.std.specs.Prelude.{IfSome}
use Rattle.ods_look.proofs.BlockPlaces.{blocks_are_one}
use Rattle.ods_state.specs.Ends.{IsEndKnown}
use Rattle.ods_change.proofs.KnownEnds.{chain_known}
use Rattle.ods_change.proofs.known_end.known_count.Goals as goal

-- what is noted is true
pub returns-then-end-number : goal.returns-then-end-number
returns-then-end-number c = λ held is.
    let noted = subst (λ o. IfSome o (IsEndKnown c.args.disk.now.image.now c.args.disk.now.layout.now)) c.in-Some.is c.requires.known in
    (chain_known c.args.disk.now.image.now c.args.disk.now.layout.now c.args.number c.in-Some.end noted c.if-end-number.true is.others held is.whole.chain).1

pub returns : goal.returns
returns c = λ held is.
    let seen = c.count_whole.ensures in
    seen.2 ∙ ap length (blocks_are_one seen.1 is)
