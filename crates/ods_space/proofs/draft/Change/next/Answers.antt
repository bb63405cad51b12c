use Rattle.std.proofs.Common.{ap, arith, inl, inr}
use Rattle.std.specs.Prelude.{is_some}
use Rattle.std.proofs.lemmas.Bool.{cases_lt}
use Rattle.ods_space.proofs.Drafts.{of_inside, of_outside}
use Rattle.ods_space.proofs.draft.Change.next.Goals as goal

pub returns-then-at-end : goal.returns-then-at-end
returns-then-at-end c =
    let at = c.max-at.ensures in
    let next = c.min.ensures in
    let less = c.if-at-end.true in
    let order = c.requires in
    record {
      above = omega (arith, at, next, order);
      below = omega (arith, next);
      passed = λ x above below. of_outside c.args.self.now x (inl (omega (arith, at, next, above, below)));
      stops = λ stops. ap is_some (of_inside c.args.self.now c.min.result (omega (arith, at, next, stops)) (omega (arith, at, next, less, stops)));
    }

pub returns-else-at-end : goal.returns-else-at-end
returns-else-at-end c =
    let at = c.max-at.ensures in
    let past = c.if-at-end.false in
    record {
      above = c.requires;
      below = omega arith;
      passed = λ x above below. of_outside c.args.self.now x (elim (cases_lt x c.args.self.now.run.lbn) [
        | inl low ↦ inl low
        | inr high ↦ inr (omega (arith, at, past, above, high))
      ]);
      stops = λ stops. absurd (omega (arith, stops));
    }
