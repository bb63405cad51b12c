use Rattle.std.proofs.Common.{ap, nat_lt}
use Rattle.ods_change.proofs.truncate_file.has_fewer.Goals as goal

pub known_count-requires-clause-whole : goal.known_count-requires-clause-whole
known_count-requires-clause-whole c = c.requires.sound.chains c.args.number c.requires.file

pub returns : goal.returns
returns c = λ held is. ap (λ k. nat_lt k c.args.count) (c.known_count.ensures held is)
