use Rattle.std.proofs.Common.{subst, sym}
use Rattle.ods_upkeep.specs.Unput.{IsNotPut}
use Rattle.ods_upkeep.proofs.PutLists.{own_put, put_is}
use Rattle.ods_upkeep.proofs.putting.Putting.put.Goals as goal

pub returns-in-Ok-clause-volume : goal.returns-in-Ok-clause-volume
returns-in-Ok-clause-volume c = put_is c.args.self.now c.put_one.new.self c.args.host.now.name.now c.args.host.now.bytes.now c.args.filing.now c.put_one.new.filing c.in-Ok.ensures.done

pub returns-in-Ok-clause-own : goal.returns-in-Ok-clause-own
returns-in-Ok-clause-own c =
    own_put c.args.self.now c.put_one.new.self c.args.host.now.name.now c.args.host.now.bytes.now c.args.filing.now c.put_one.new.filing c.in-Ok.ensures.done

pub returns-in-Err-clause-refused : goal.returns-in-Err-clause-refused
returns-in-Err-clause-refused c = (
  subst (IsNotPut c.args.self.now c.args.host.now.name.now c.args.host.now.bytes.now c.args.filing.now c.put_one.new.filing) (sym c.of_path.ensures.why) c.in-Err.ensures.refused,
  c.of_path.ensures.path,
)
