use denote.Enum.Bare.{same_false}
use Rattle.std.proofs.Common.{sym, arith}
use Rattle.ods_shell.specs.contracts.facts.Kind.{the_type}
use Rattle.ods_upkeep.proofs.truncating.to_be_cut.Goals as goal

pub returns : goal.returns
returns c = record {
  is = c.in-Some.is;
  plain = same_false the_type _ _ (sym c.if-eq.ensures);
  above = c.if-facts-le5.false;
  within = c.if-bytes-facts.false;
  held = omega (arith, c.saturating_mul.ensures, c.from.ensures, c.if-bytes-saturating_mul.false);
}
