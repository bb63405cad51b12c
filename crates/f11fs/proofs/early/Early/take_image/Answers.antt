use Rattle.std.proofs.Common.{rules}
use Rattle.f11fs.proofs.Places.{image_there}
use Rattle.f11fs.proofs.Taking.{image_found}
use Rattle.f11fs.proofs.early.Early.take_image.Goals as goal

pub returns-in-Some-clause-some : goal.returns-in-Some-clause-some
returns-in-Some-clause-some c = λ place one first at.
    image_there c.args.self.now.images.items c.remove.new.self.items c.in-Some.place place one c.remove.result _ c.image_at.result (search rules) c.in-Some.is c.remove.ensures.items c.remove.ensures.value first at

pub returns-in-Some-clause-out : goal.returns-in-Some-clause-out
returns-in-Some-clause-out c =
    let there = image_found c.args.self.now.images.items c.args.path.now c.in-Some.place c.remove.result c.image_at.result (search rules) c.in-Some.is c.remove.ensures.value in
    (c.in-Some.place, c.remove.result, there.0, search rules, there.1, c.remove.ensures.items, search rules)
