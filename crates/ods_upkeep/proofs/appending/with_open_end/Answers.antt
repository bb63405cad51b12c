use denote.Enum.Bare.{same_false}
use Rattle.std.proofs.Common.{sym, ◌∙◌, arith}
use Rattle.ods_shell.specs.contracts.facts.Kind.{the_type}
use Rattle.ods_upkeep.proofs.appending.with_open_end.Goals as goal

pub returns : goal.returns
returns c = record {
  is = c.in-Some.is;
  plain = same_false the_type _ _ (sym c.if-eq.ensures);
  above = c.if-facts-le5.false;
  ended = sym c.are_zeros.ensures ∙ c.if-are_zeros.false;
  kind = omega (arith, c.kind_number-kind.ensures, c.if-kind-gt2.false);
}
