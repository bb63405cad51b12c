use Rattle.std.proofs.Common.{not, rules}
use Rattle.std.proofs.lemmas.Fn.{filter_same}
use Rattle.ods_request.specs.Equal.{same_id}
use Rattle.ods_plain.proofs.rows.take_out.Goals as goal

pub returns : goal.returns
returns c = filter_same _ (λ r. not (same_id r.0 c.args.id)) _ (λ x b g called. search rules) _ _ c.retain.ensures.filtered
