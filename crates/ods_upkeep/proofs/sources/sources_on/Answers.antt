use Rattle.std.proofs.Common.{◌≡◌, ◌+◌, ℕ, List, [], ◌∷◌, ◌++◌, ◌∙◌, sym, subst, inl, inr, take, get_or, reverse}
use Rattle.std.specs.Borrow.{Bor}
use Rattle.std.proofs.lemmas.List.{take_more, take_all}
use Rattle.ods_upkeep.specs.Sources.{AreOfPath, AreOfPaths}
use Rattle.ods_shell.specs.declared.found.Found.{Found}
use Rattle.ods_upkeep.proofs.Naming.{first_none, paths_more}
use Rattle.ods_upkeep.proofs.Stopping.{no_path, other_default}
use Rattle.ods_upkeep.proofs.sources.sources_on.Goals as goal

pub loop-path-preserved : goal.loop-path-preserved
loop-path-preserved c =
    let I = c.args.disk.now.image.now in
    let L = c.args.disk.now.layout.now in
    let k = c.loop-path.path-index in
    let paths = c.args.paths.now in
    let path : Bor (List ℕ) = get_or paths k (record { ref_ptr = (0, 0); now = [] }) in
    let told : (here : List Found) × AreOfPath I L c.args.unsaid path.now here × (c.add_found.new.all.items ≡ c.loop-path.all.items ++ reverse here) = c.in_default.ensures in
    let more : take (k + 1) paths ≡ take k paths ++ path ∷ [] = take_more paths k _ c.loop-path-test.true in
    subst (λ all. AreOfPaths I L c.args.unsaid (take (k + 1) paths) all) (sym told.2)
    (subst (λ ps. AreOfPaths I L c.args.unsaid ps (c.loop-path.all.items ++ reverse told.0)) (sym more) (paths_more I L c.args.unsaid (take k paths) path c.loop-path.all.items told.0 c.loop-path.invariant told.1))

pub returns-in-Ok : goal.returns-in-Ok
returns-in-Ok c = (
  c.loop-path.all.items,
  subst (λ ps. AreOfPaths c.args.disk.now.image.now c.args.disk.now.layout.now c.args.unsaid ps c.loop-path.all.items) (take_all c.loop-path.path-index c.args.paths.now c.loop-path-test.false) c.loop-path.invariant,
  c.in-Ok.ensures,
)

pub returns-in-Err : goal.returns-in-Err
returns-in-Err c =
    let k = c.loop-path.path-index in
    let paths = c.args.paths.now in
    let path : Bor (List ℕ) = get_or paths k (record { ref_ptr = (0, 0); now = [] }) in
    inl (first_none c.args.disk.now.image.now c.args.disk.now.layout.now c.args.unsaid paths k path c.loop-path.all.items c.in-Err.why c.of_path.result c.loop-path-test.true (other_default paths k _ path c.loop-path-test.true)
    c.loop-path.invariant c.in-Err.ensures c.of_path.ensures.why c.of_path.ensures.path)

pub returns-in-Err-each_once : goal.returns-in-Err-each_once
returns-in-Err-each_once c = inr (no_path c.of_path-in-Err-each_once.result c.of_path-in-Err-each_once.ensures.path (c.of_path-in-Err-each_once.ensures.why ∙ c.into.ensures))
