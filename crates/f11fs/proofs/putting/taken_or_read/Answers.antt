use Rattle.f11fs.proofs.Taking.{taken_out}
use Rattle.f11fs.proofs.putting.taken_or_read.Goals as goal

pub returns-in-Some-clause-taken : goal.returns-in-Some-clause-taken
returns-in-Some-clause-taken g c =
    let out = c.in-Some.ensures.out in
    (taken_out (g.R.Host.gives c.args.rt.now) c.args.path.now c.args.early.now c.take.new.self out.0 out.1 c.requires out.2 out.4 out.5 out.6).1
