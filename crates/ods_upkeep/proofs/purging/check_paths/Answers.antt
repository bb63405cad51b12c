use Rattle.std.proofs.Common.{◌≡◌, ◌+◌, ◌∷◌, [], List, ℕ, drop, get_or, inr, subst, sym}
use Rattle.std.specs.Borrow.{Bor}
use Rattle.std.specs.List.{All}
use Rattle.std.proofs.lemmas.List.Elements.{All-cons}
use Rattle.ods_upkeep.specs.Purged.{HasNoVersion, IsFirstNotOfNames}
use Rattle.ods_upkeep.proofs.Stopping.{left_from, other_default}
use Rattle.ods_upkeep.proofs.purging.check_paths.Goals as goal

pub loop-path-preserved : goal.loop-path-preserved
loop-path-preserved c =
    let k = c.loop-path.path-index in
    let paths = c.args.paths.now in
    let path : Bor (List ℕ) = get_or paths k (record { ref_ptr = (0, 0); now = [] }) in
    let here : drop k paths ≡ path ∷ drop (k + 1) paths = left_from paths k path c.loop-path-test.true (other_default paths k _ path c.loop-path-test.true) in
    record {
      all = λ rest. c.loop-path.invariant.all (subst (All (λ p. HasNoVersion p.now)) (sym here) (All-cons (λ p. HasNoVersion p.now) path (drop (k + 1) paths) c.in_default.ensures rest));
      first = λ failure rest. c.loop-path.invariant.first failure (subst (λ l. IsFirstNotOfNames l failure) (sym here) (inr (c.in_default.ensures, rest)));
    }
