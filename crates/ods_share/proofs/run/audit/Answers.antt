use Rattle.std.proofs.Common.{◌≡◌, ◌≤◌, ◌∙◌, ◌∷◌, ◌++◌, [], true, not, ap, sym, arith, map, subst}
use Rattle.std.specs.List.{All}
use Rattle.std.specs.Prelude.{if◌then◌else◌, is_ok}
use Rattle.std.proofs.lemmas.List.Elements.{All-nil, All-cons, All-append, All-map}
use Rattle.std.proofs.lemmas.Iterator.{items_from_drains}
use Rattle.std.proofs.lemmas.Iterator.Adapters.{YieldsList-from_vec}
use Rattle.std.proofs.lemmas.List.{map-append}
use Rattle.ods_share.specs.declared.session.Sat.{Sat}
use Rattle.ods_share.proofs.run.audit.Goals as goal

pub loop-one-preserved : goal.loop-one-preserved
loop-one-preserved g c =
    let inv = c.loop-one.invariant in
    let fine : is_ok c.push.result ≡ true = c.is_err.ensures.negation ∙ ap not c.if-is_err.false in
    let added : c.push.new.self.items ≡ c.loop-one.ended.items ++ c.in-Some.one.ended ∷ [] =
    c.push.ensures.items ∙ ap (λ b. if b then c.loop-one.ended.items ++ c.in-Some.one.ended ∷ [] else c.loop-one.ended.items) fine in
    let few : Sat g.row.K.Denot g.row.L.Denot → Type 0 = λ s. s.fulls.amount ≤ c.args.fulls.total in (
      added ∙ (ap (λ l. l ++ c.in-Some.one.ended ∷ []) inv.0 ∙ sym (map-append (λ (s : Sat g.row.K.Denot g.row.L.Denot). s.ended) c.loop-one.yielded (c.in-Some.one ∷ []))),
      All-append few c.loop-one.yielded (c.in-Some.one ∷ []) inv.1 (All-cons few c.in-Some.one [] (omega (arith, c.audit.ensures.bound, inv.2)) (All-nil few)),
      c.audit.ensures.total ∙ inv.2,
    )

pub returns-clause-bound : goal.returns-clause-bound
returns-clause-bound g c =
    let given = c.into_iter-one-iterator.ensures.into_iter_gives in
    let all = YieldsList-from_vec c.args.all.items given.0 (omega (arith, given.1, c.args.all.ok.0)) in
    let whole : map (λ x. x) c.loop-one.yielded ≡ c.args.all.items = items_from_drains c.loop-one.yielded (_, c.loop-one.yielded_by, λ end. (c.next.new.self, c.in-None.ensures.steps)) all in
    subst (All (λ s. s.fulls.amount ≤ c.args.fulls.total)) whole (All-map (λ s. s.fulls.amount ≤ c.args.fulls.total) (λ x. x) c.loop-one.yielded c.loop-one.invariant.1)
