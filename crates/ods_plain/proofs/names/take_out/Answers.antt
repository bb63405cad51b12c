use Rattle.std.proofs.Common.{not, nat_eq, rules}
use Rattle.std.proofs.lemmas.Fn.{filter_same}
use lib.Pointwise.{pointwise}
use Rattle.ods_base.specs.Name.{key_of}
use Rattle.ods_plain.proofs.names.take_out.Goals as goal

pub returns : goal.returns
returns c = filter_same _ (λ l. not (pointwise nat_eq (key_of l.name l.version) c.args.wanted.now)) _ (λ x b g called. search rules) _ _ c.retain.ensures.filtered
