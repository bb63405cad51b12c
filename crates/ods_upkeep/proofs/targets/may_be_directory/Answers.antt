use Rattle.std.proofs.Common.{ap, sym, length}
use Rattle.std.proofs.lemmas.Bool.{eqb-true, eqb-false}
use Rattle.std.proofs.lemmas.List.{nil_from_length}
use Rattle.ods_upkeep.proofs.MayBe.{no_type, with_type}
use Rattle.ods_upkeep.proofs.targets.may_be_directory.Goals as goal

pub returns-then-is_empty : goal.returns-then-is_empty
returns-then-is_empty c = no_type c.args.path.now c.args.kind.now c.has_dot.result (nil_from_length c.args.kind.now (eqb-true (length c.args.kind.now) 0 (sym c.if-is_empty.ensures))) c.has_dot.ensures

pub returns : goal.returns
returns c = with_type c.args.path.now c.args.kind.now c.eq_ignore_ascii_case.result (λ none. eqb-false (length c.args.kind.now) 0 (sym c.if-is_empty.ensures) (ap length none)) c.eq_ignore_ascii_case.ensures.test
