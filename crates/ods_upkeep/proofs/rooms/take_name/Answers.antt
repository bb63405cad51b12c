use Rattle.std.proofs.Common.{◌≡◌, rules, true}
use Rattle.std.specs.Prelude.{slice_index}
use Rattle.ods_upkeep.proofs.Lists.{if_done}
use Rattle.ods_upkeep.proofs.Making.{file_goes, file_stays}
use Rattle.ods_upkeep.proofs.Stopping.{if_failed}
use Rattle.ods_upkeep.proofs.Storing.{file_is_kept}
use Rattle.ods_upkeep.proofs.rooms.take_name.Goals as goal

pub returns-then-count-eq0-clause-gone : goal.returns-then-count-eq0-clause-gone
returns-then-count-eq0-clause-gone c =
    let there : c.args.is_there ≡ true = search (rules, c.if-not-is_there.false) in
    if_done c.delete.result
    (file_goes c.args.filing.now c.delete.new.filing c.args.is_there (slice_index c.args.names.now) (slice_index c.take.new.self) c.args.file c.count.result there c.take.ensures c.count.ensures c.if-count-eq0.true)
    c.delete.ensures.done

pub returns-then-count-eq0-clause-err : goal.returns-then-count-eq0-clause-err
returns-then-count-eq0-clause-err c =
    let there : c.args.is_there ≡ true = search (rules, c.if-not-is_there.false) in
    if_failed c.delete.result
    (file_is_kept c.args.filing.now c.delete.new.filing c.args.is_there (slice_index c.args.names.now) (slice_index c.take.new.self) c.args.file c.count.result there c.take.ensures c.count.ensures c.if-count-eq0.true)
    c.delete.ensures.unchanged c.delete.ensures.refused

pub returns-clause-gone : goal.returns-clause-gone
returns-clause-gone c =
    let there : c.args.is_there ≡ true = search (rules, c.if-not-is_there.false) in
    file_stays c.args.filing.now c.args.is_there (slice_index c.args.names.now) (slice_index c.take.new.self) c.args.file c.count.result there c.take.ensures c.count.ensures c.if-count-eq0.false
