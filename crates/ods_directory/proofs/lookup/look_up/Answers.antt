use Rattle.ods_directory.proofs.Picked.{finds, finds_none}
use Rattle.ods_directory.proofs.lookup.look_up.Goals as goal

pub returns-in-Some : goal.returns-in-Some
returns-in-Some g c = record { ok = finds (g.B.DirBlocks.blocks c.args.blocks.now) c.args.mark c.args.name.now c.args.pick c.in-Some.found c.requires.directory c.in-Some.ensures.found; err = tt }

pub returns-in-None : goal.returns-in-None
returns-in-None g c = record { ok = tt; err = finds_none (g.B.DirBlocks.blocks c.args.blocks.now) c.args.mark c.args.name.now c.args.pick c.in-None.ensures.found }
