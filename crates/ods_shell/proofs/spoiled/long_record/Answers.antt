use Rattle.ods_shell.proofs.Bodies.{no_long_of_file, none_told, none_whole, none_some, none_none}
use Rattle.ods_shell.proofs.spoiled.long_record.Goals as goal

pub returns-in-Ok-clause-none : goal.returns-in-Ok-clause-none
returns-in-Ok-clause-none c = none_told c.long_in.result _ _ (no_long_of_file c.args.disk.now.image.now c.args.disk.now.layout.now c.args.number c.in-Ok.body c.in-Ok.ensures.ok) c.long_in.ensures.none

pub returns-in-Err-clause-some : goal.returns-in-Err-clause-some
returns-in-Err-clause-some c = none_some c.none_of.result _ _ c.none_of.ensures

pub returns-in-Err-clause-none : goal.returns-in-Err-clause-none
returns-in-Err-clause-none c =
    none_none c.none_of.result _ _ (λ other at size long. none_whole c.args.disk.now.image.now c.args.disk.now.layout.now c.args.number c.in-Err.fault long.0 other c.in-Err.ensures.err long.1) c.none_of.ensures
