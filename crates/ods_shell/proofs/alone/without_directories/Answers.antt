use Rattle.std.proofs.Common.{◌≡◌, ◌∙◌, [], ◌∷◌, sym, subst, List, map, arith}
use Rattle.std.proofs.lemmas.Iterator.{items_from_drains}
use Rattle.std.proofs.lemmas.Iterator.Adapters.{YieldsList-from_vec}
use Rattle.ods_shell.specs.declared.found.Found.{Found}
use Rattle.ods_shell.specs.Choosing.{AreThose}
use Rattle.ods_shell.specs.Named.{IsNoDirectory}
use Rattle.ods_shell.proofs.alone.without_directories.Goals as goal

pub loop-found-preserved : goal.loop-found-preserved
loop-found-preserved c = c.in_ok-add_file.ensures c.loop-found.yielded c.loop-found.invariant

pub returns : goal.returns
returns c =
    let given = c.into_iter-found-iterator.ensures.into_iter_gives in
    let all = YieldsList-from_vec c.args.all.items given.0 (omega (arith, given.1, c.args.all.ok.0)) in
    let whole : map (λ x. x) c.loop-found.yielded ≡ c.args.all.items = items_from_drains c.loop-found.yielded (_, c.loop-found.yielded_by, λ end. (c.next.new.self, c.in-None.ensures.steps)) all in
    subst (λ l. AreThose IsNoDirectory l c.loop-found.files.items) (sym (map_same c.loop-found.yielded) ∙ whole) c.loop-found.invariant
  where
    map_same : (xs : List Found) → map (λ x. x) xs ≡ xs
    map_same [] = λ i. []
    map_same (x ∷ xs) = λ i. x ∷ map_same xs i
