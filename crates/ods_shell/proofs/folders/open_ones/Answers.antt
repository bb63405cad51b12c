use Rattle.std.proofs.Common.{◌≡◌, ◌∷◌, [], ◌∙◌, sym, subst, List, map, arith}
use Rattle.std.proofs.lemmas.Iterator.{items_from_drains}
use Rattle.std.proofs.lemmas.Iterator.Adapters.{YieldsList-from_vec}
use Rattle.ods_shell.specs.declared.folders.Directory.{Directory}
use Rattle.ods_shell.specs.Ways.{AreMet, AreOpen, CountAsClosed}
use Rattle.ods_shell.proofs.BelowClosed.{counts_before, met_then, same_now}
use Rattle.ods_shell.proofs.folders.open_ones.Goals as goal

pub loop-start-preserved : goal.loop-start-preserved
loop-start-preserved c =
    let closed = c.args.closed.now.numbers.now in
    let inv = c.loop-start.invariant in
    let same = same_now c.loop-start.closed.numbers c.args.closed.now.numbers inv.same in
    let more : AreMet closed c.loop-start.closed.met.items c.add_open.new.closed.met.items =
    subst (λ n. AreMet n c.loop-start.closed.met.items c.add_open.new.closed.met.items) same c.in_ok-add_open.ensures.met in
    record {
      same = c.in_ok-add_open.ensures.same ∙ inv.same;
      met = met_then closed c.args.closed.now.met.items c.loop-start.closed.met.items c.add_open.new.closed.met.items inv.met more;
      some = λ shut counts.
          c.in_ok-add_open.ensures.found shut c.loop-start.yielded (subst (λ n. CountAsClosed n c.add_open.new.closed.met.items shut) (sym same) counts)
          (inv.some shut (counts_before closed shut c.loop-start.closed.met.items c.add_open.new.closed.met.items more counts));
    }

pub returns-clause-found : goal.returns-clause-found
returns-clause-found c = λ shut counts.
    let given = c.into_iter-start-iterator.ensures.into_iter_gives in
    let all = YieldsList-from_vec c.args.starts.items given.0 (omega (arith, given.1, c.args.starts.ok.0)) in
    let whole : map (λ x. x) c.loop-start.yielded ≡ c.args.starts.items = items_from_drains c.loop-start.yielded (_, c.loop-start.yielded_by, λ end. (c.next.new.self, c.in-None.ensures.steps)) all in
    let these : c.loop-start.yielded ≡ c.args.starts.items = sym (map_same c.loop-start.yielded) ∙ whole in
    subst (λ (ds : List Directory). AreOpen shut ds c.loop-start.found.items) these (c.loop-start.invariant.some shut counts)
  where
    map_same : (xs : List Directory) → map (λ x. x) xs ≡ xs
    map_same [] = λ i. []
    map_same (x ∷ xs) = λ i. x ∷ map_same xs i
