use Rattle.std.proofs.Common.{subst}
use Rattle.ods_repair.specs.Noted.{Numbers, Sets, number_in}
use Rattle.ods_repair.proofs.Keys.{key_put}
use Rattle.ods_repair.proofs.noted.Noted.put.Goals as goal

pub returns : goal.returns
returns c = subst (λ (n : Numbers). Sets (number_in n) c.args.key c.args.number (number_in c.insert.new.self.entries)) c.self.view_is (key_put c.self.inside.numbers c.insert.new.self c.args.key c.args.number c.in_ok-insert.ensures.updates)
