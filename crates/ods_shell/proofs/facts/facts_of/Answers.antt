use Rattle.std.proofs.Common.{◌≡◌, ◌∙◌, ap, subst, sym, ℕ, List, length}
use Rattle.ods_space.specs.Layout.{header_at}
use Rattle.ods_shell.specs.Facts.{HasCondition, facts_in}
use Rattle.ods_shell.specs.declared.facts.Facts.{Facts}
use Rattle.ods_shell.proofs.Reached.{begins, index_of_layout}
use Rattle.ods_shell.proofs.facts.facts_of.Goals as goal

pub returns : goal.returns
returns c =
    let I = c.args.disk.now.image.now in
    let n = c.args.number in
    let some = c.in-Some-count_reach.ensures.some in
    let lbns : List ℕ = some.0 in
    let whole = c.in-Some-count_reach.reach.is_whole in
    let facts = c.facts_in.result in
    let condition : facts.condition ≡ c.condition_in.result = ap (λ (f : Facts). f.condition) c.facts_in.ensures in
    let header : c.in-Some.header.now ≡ header_at I c.args.disk.now.layout.now n = c.in-Some.ensures.some.1 in
    let count : c.in-Some-count_reach.reach.count ≡ length lbns = some.2.count in
    record {
      file = c.in-Some.ensures.some.0;
      lbns = lbns;
      whole = whole;
      reached = some.1;
      condition = subst (HasCondition (length I) lbns whole) (sym condition) (c.condition_in.ensures (length I) lbns some.2);
      are = c.facts_in.ensures ∙ (λ i. facts_in n (header i) (count i) (sym condition i));
    }

pub count_reach-requires : goal.count_reach-requires
count_reach-requires c = index_of_layout c.requires

pub returns-in_default-count_reach : goal.returns-in_default-count_reach
returns-in_default-count_reach c = λ file. c.in_default-count_reach.ensures.none (begins c.args.disk.now.image.now c.args.disk.now.layout.now c.args.number c.requires file)
