use Rattle.ods_volume.proofs.noted.has_so_many.Goals as goal

pub count_whole-requires-clause-whole : goal.count_whole-requires-clause-whole
count_whole-requires-clause-whole c = c.requires.sound.chains c.args.number c.in-Some.ensures.some.0
