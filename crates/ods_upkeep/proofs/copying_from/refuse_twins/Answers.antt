use Rattle.std.proofs.Common.{◌≡◌, ◌+◌, ℕ, List, [], ◌∷◌, ◌++◌, sym, subst, take, get_or}
use Rattle.std.specs.Borrow.{Bor}
use Rattle.std.specs.List.{All}
use Rattle.std.proofs.lemmas.List.{take_more, take_all}
use Rattle.std.proofs.lemmas.List.Elements.{All-append, All-cons, All-nil, Contains-get_or}
use Rattle.ods_upkeep.specs.CopiedFrom.{FindsNoTwins}
use Rattle.ods_upkeep.specs.UncopiedFrom.{IsTwinned}
use Rattle.ods_upkeep.proofs.copying_from.refuse_twins.Goals as goal

pub loop-path-init : goal.loop-path-init
loop-path-init c = All-nil (λ path. FindsNoTwins c.args.other.now.image.now c.args.other.now.layout.now path.now)

pub loop-path-preserved : goal.loop-path-preserved
loop-path-preserved c =
    let I = c.args.other.now.image.now in
    let L = c.args.other.now.layout.now in
    let k = c.loop-path.path-index in
    let paths = c.args.paths.now in
    let path : Bor (List ℕ) = get_or paths k (record { ref_ptr = (0, 0); now = [] }) in
    let one : FindsNoTwins I L path.now = c.in_default.ensures in
    let more : take (k + 1) paths ≡ take k paths ++ path ∷ [] = take_more paths k _ c.loop-path-test.true in
    subst (All (λ p. FindsNoTwins I L p.now)) (sym more)
    (All-append (λ p. FindsNoTwins I L p.now) (take k paths) (path ∷ []) c.loop-path.invariant (All-cons (λ p. FindsNoTwins I L p.now) path [] one (All-nil (λ p. FindsNoTwins I L p.now))))

pub returns-clause-none : goal.returns-clause-none
returns-clause-none c =
    subst (All (λ path. FindsNoTwins c.args.other.now.image.now c.args.other.now.layout.now path.now)) (take_all c.loop-path.path-index c.args.paths.now c.loop-path-test.false) c.loop-path.invariant

pub returns-in-Err-clause-some : goal.returns-in-Err-clause-some
returns-in-Err-clause-some c =
    let I = c.args.other.now.image.now in
    let L = c.args.other.now.layout.now in
    let k = c.loop-path.path-index in
    let paths = c.args.paths.now in
    let path : Bor (List ℕ) = get_or paths k (record { ref_ptr = (0, 0); now = [] }) in
    (path, Contains-get_or paths k _ c.loop-path-test.true, subst (IsTwinned I L path.now) (sym c.of_path.ensures.why) c.in-Err.ensures, c.of_path.ensures.path)
