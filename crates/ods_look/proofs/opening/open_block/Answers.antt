use Rattle.std.proofs.Common.{◌<◌, ◌≤◌, arith}
use Rattle.ods_look.specs.Opening.{block_check}
use Rattle.ods_look.proofs.BlocksRead.{has_no_block, has_block}
use Rattle.ods_look.proofs.opening.open_block.Goals as goal

pub locate_whole-requires-clause-whole : goal.locate_whole-requires-clause-whole
locate_whole-requires-clause-whole c = let plain = c.in-Ok.ensures.ok.0 in (plain.lbns, plain.held)

pub returns-in-Err-clause-err : goal.returns-in-Err-clause-err
returns-in-Err-clause-err c = λ C shown. c.in-Err.ensures.err C (block_check c.args.vbn) shown

pub returns-in-Some-clause-ok : goal.returns-in-Some-clause-ok
returns-in-Some-clause-ok c =
    let plain = c.in-Ok.ensures.ok.0 in
    let low : 2 ≤ c.args.reserved = c.requires.maps in
    let above : c.args.reserved < c.args.file.number = plain.number in
    let high : 2 < c.args.file.number = omega arith in
    record {
      plain = plain;
      held = c.in-Some.ensures.found;
      fine = λ C shown. has_block plain.held (plain.passes C shown) c.args.vbn high plain.kind c.in-Some.lbn c.in-Some.ensures.found;
    }

pub returns-in-None-clause-err : goal.returns-in-None-clause-err
returns-in-None-clause-err c = λ C shown.
    let plain = c.in-Ok.ensures.ok.0 in
    let low : 2 ≤ c.args.reserved = c.requires.maps in
    let above : c.args.reserved < c.args.file.number = plain.number in
    let high : 2 < c.args.file.number = omega arith in
    has_no_block plain.held (plain.passes C shown) c.args.vbn high plain.kind c.in-None.ensures.none
