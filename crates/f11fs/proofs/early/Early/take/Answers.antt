use Rattle.std.proofs.Common.{rules}
use Rattle.f11fs.proofs.Places.{taken_there}
use Rattle.f11fs.proofs.Taking.{read_there}
use Rattle.f11fs.proofs.early.Early.take.Goals as goal

pub returns-in-Some-clause-some : goal.returns-in-Some-clause-some
returns-in-Some-clause-some c = λ place one first at.
    taken_there c.args.self.now.taken.items c.remove.new.self.items c.in-Some.place place one c.remove.result _ c.place_at.result (search rules) c.in-Some.is c.remove.ensures.items c.remove.ensures.value first at

pub returns-in-Some-clause-out : goal.returns-in-Some-clause-out
returns-in-Some-clause-out c =
    let there = read_there c.args.self.now.taken.items c.args.path.now c.in-Some.place c.remove.result c.place_at.result (search rules) c.in-Some.is c.remove.ensures.value in
    (c.in-Some.place, c.remove.result, there.0, search rules, there.1, c.remove.ensures.items, search rules)
