use Rattle.std.proofs.Common.{ℕ, List, subst, ◌↔◌}
use Rattle.std.specs.Bool.{IsTrue}
use Rattle.ods_text.specs.Cuts.{Has}
use Rattle.ods_upkeep.proofs.parts.has_dot.Goals as goal

pub returns : goal.returns
returns c = subst (λ (l : List ℕ). IsTrue c.has_byte.result ↔ Has 46 l) c.last_part.ensures c.has_byte.ensures
