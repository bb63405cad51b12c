use Rattle.std.proofs.Common.{sym, subst}
use Rattle.std.specs.Prelude.{IfSome}
use Rattle.ods_header.specs.Header.{IsLaidOut}
use Rattle.ods_state.specs.Ends.{IsEndKnown}
use Rattle.ods_change.proofs.KnownEnds.{chain_known, known_few, known_laid_out, known_measured}
use Rattle.ods_change.proofs.known_end.known_end.Goals as goal
use Rattle.ods_change.proofs.known_end.known_end.Goals.{In-Some-header_block}

-- what is noted is true
noted : (c : In-Some-header_block) → IsEndKnown c.args.disk.now.image.now c.args.disk.now.layout.now c.in-Some.end
noted c = subst (λ o. IfSome o (IsEndKnown c.args.disk.now.image.now c.args.disk.now.layout.now)) c.in-Some.is c.requires.known

pub room_words-requires : goal.room_words-requires
room_words-requires c =
    let at = (goal.at.room_words-requires c).In-Some-header_block in
    subst IsLaidOut (sym c.in-Some-header_block.ensures.some) (known_laid_out c.args.disk.now.image.now c.args.disk.now.layout.now c.args.number c.in-Some.end (noted at) c.if-end-number.true c.len.ensures.image c.requires.layout c.requires.whole)

pub returns-in-Some-header_block-clause-end : goal.returns-in-Some-header_block-clause-end
returns-in-Some-header_block-clause-end c =
    let at = (goal.at.returns-in-Some-header_block-clause-end c).In-Some-header_block in
    known_measured c.args.disk.now.image.now c.args.disk.now.layout.now c.args.number c.in-Some.end (noted at) c.if-end-number.true c.in-Some-header_block.block.now c.room_words.result c.in-Some-header_block.ensures.some c.room_words.ensures

pub returns-in-Some-header_block-clause-last : goal.returns-in-Some-header_block-clause-last
returns-in-Some-header_block-clause-last c =
    let at = (goal.at.returns-in-Some-header_block-clause-last c).In-Some-header_block in
    record {
      number = λ others blocks chain. (chain_known c.args.disk.now.image.now c.args.disk.now.layout.now c.args.number c.in-Some.end (noted at) c.if-end-number.true others blocks chain).2;
      last = c.in-Some-header_block.ensures.some;
    }

pub returns-in-Some-header_block-clause-few : goal.returns-in-Some-header_block-clause-few
returns-in-Some-header_block-clause-few c =
    let at = (goal.at.returns-in-Some-header_block-clause-few c).In-Some-header_block in
    (known_few c.args.disk.now.image.now c.args.disk.now.layout.now c.args.number c.in-Some.end (noted at) c.if-end-number.true c.len.ensures.image c.requires.layout c.requires.whole).0

pub returns-in-Some-header_block-clause-small : goal.returns-in-Some-header_block-clause-small
returns-in-Some-header_block-clause-small c =
    let at = (goal.at.returns-in-Some-header_block-clause-small c).In-Some-header_block in
    (known_few c.args.disk.now.image.now c.args.disk.now.layout.now c.args.number c.in-Some.end (noted at) c.if-end-number.true c.len.ensures.image c.requires.layout c.requires.whole).1
