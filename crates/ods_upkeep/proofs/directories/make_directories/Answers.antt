use Rattle.std.proofs.Common.{◌≡◌, ◌+◌, ◌∙◌, List, ℕ, [], ◌∷◌, ◌++◌, ap, drop, sym, subst, take, get_or}
use Rattle.std.specs.Borrow.{Bor}
use Rattle.std.proofs.lemmas.List.{drop_more, take-append-drop, take_all, take_more}
use Rattle.ods_upkeep.specs.Made.{AreMade}
use Rattle.ods_upkeep.proofs.Made.{own_left, one_more}
use Rattle.ods_upkeep.specs.Unmade.{AreNotMade, IsNotMade}
use Rattle.ods_upkeep.proofs.Unmaking.{stops_at}
use Rattle.ods_upkeep.proofs.directories.make_directories.Goals as goal

pub loop-path-preserved : goal.loop-path-preserved
loop-path-preserved c =
    let k = c.loop-path.path-index in
    let paths = c.args.paths.now in
    let path : Bor (List ℕ) = get_or paths k (record { ref_ptr = (0, 0); now = [] }) in
    let more : take (k + 1) paths ≡ take k paths ++ path ∷ [] = take_more paths k _ c.loop-path-test.true in
    subst (λ ps. AreMade c.args.owner c.args.names c.args.stamp ps c.args.filing.now c.make_directory.new.filing) (sym more)
    (one_more c.args.owner c.args.names c.args.stamp (take k paths) path c.args.filing.now c.loop-path.filing c.make_directory.new.filing c.loop-path.invariant c.in_default.ensures)

all : (c : goal.After-loop-path) → AreMade c.args.owner c.args.names c.args.stamp c.args.paths.now c.args.filing.now c.loop-path.filing
all c =
    subst (λ ps. AreMade c.args.owner c.args.names c.args.stamp ps c.args.filing.now c.loop-path.filing) (take_all c.loop-path.path-index c.args.paths.now c.loop-path-test.false) c.loop-path.invariant

pub returns-clause-made : goal.returns-clause-made
returns-clause-made c = all c

pub returns-clause-own : goal.returns-clause-own
returns-clause-own c = λ own. own_left c.args.owner c.args.names c.args.stamp c.args.paths.now c.args.filing.now c.loop-path.filing (all c) own

pub returns-in-Err-clause-refused : goal.returns-in-Err-clause-refused
returns-in-Err-clause-refused c =
    let k = c.loop-path.path-index in
    let paths = c.args.paths.now in
    let path : Bor (List ℕ) = get_or paths k (record { ref_ptr = (0, 0); now = [] }) in
    let whole : paths ≡ take k paths ++ path ∷ drop (k + 1) paths = sym (take-append-drop k paths) ∙ ap (λ l. take k paths ++ l) (drop_more paths k _ c.loop-path-test.true) in
    let none = subst (IsNotMade c.args.owner c.args.names c.args.stamp path.now c.loop-path.filing c.make_directory.new.filing) (sym c.of_path.ensures.why) c.in-Err.ensures in
    subst (λ ps. AreNotMade c.args.owner c.args.names c.args.stamp ps c.args.filing.now c.make_directory.new.filing c.of_path.result) (sym whole)
    (stops_at c.args.owner c.args.names c.args.stamp (take k paths) path (drop (k + 1) paths) c.args.filing.now c.loop-path.filing c.make_directory.new.filing c.of_path.result c.loop-path.invariant none c.of_path.ensures.path)
