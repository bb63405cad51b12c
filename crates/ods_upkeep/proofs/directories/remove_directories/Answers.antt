use Rattle.std.proofs.Common.{◌≡◌, ◌+◌, ◌∙◌, List, ℕ, [], ◌∷◌, ◌++◌, ap, drop, refl, sym, subst, take, get_or}
use Rattle.std.specs.Borrow.{Bor}
use Rattle.std.proofs.lemmas.List.{drop_more, take-append-drop, take_all, take_more}
use Rattle.std.proofs.lemmas.Result.{err_from_is_err_and}
use Rattle.ods_filing.proofs.Led.{stays, then_led}
use Rattle.ods_upkeep.specs.Emptied.{AreEmptied}
use Rattle.ods_upkeep.proofs.Emptying.{one_more}
use Rattle.ods_upkeep.specs.Unemptied.{AreNotEmptied}
use Rattle.ods_upkeep.proofs.Unemptying.{stops_at}
use Rattle.ods_upkeep.proofs.directories.remove_directories.Goals as goal

pub loop-path-init : goal.loop-path-init
loop-path-init c = record { led = stays c.args.filing.now; gone = refl }

pub loop-path-preserved : goal.loop-path-preserved
loop-path-preserved c =
    let k = c.loop-path.path-index in
    let paths = c.args.paths.now in
    let path : Bor (List ℕ) = get_or paths k (record { ref_ptr = (0, 0); now = [] }) in
    let more : take (k + 1) paths ≡ take k paths ++ path ∷ [] = take_more paths k _ c.loop-path-test.true in
    record {
      led = then_led c.loop-path.invariant.led c.remove_path.ensures.led;
      gone = subst (λ ps. AreEmptied ps c.args.filing.now c.remove_path.new.filing) (sym more)
          (one_more (take k paths) path c.args.filing.now c.loop-path.filing c.remove_path.new.filing c.loop-path.invariant.gone c.in_ok-remove_path.ensures.done);
    }

pub returns-clause-led : goal.returns-clause-led
returns-clause-led c = c.loop-path.invariant.led

pub returns-clause-done : goal.returns-clause-done
returns-clause-done c =
    subst (λ ps. AreEmptied ps c.args.filing.now c.loop-path.filing) (take_all c.loop-path.path-index c.args.paths.now c.loop-path-test.false) c.loop-path.invariant.gone

pub returns-in_err-remove_path-clause-led : goal.returns-in_err-remove_path-clause-led
returns-in_err-remove_path-clause-led c = then_led c.loop-path.invariant.led c.remove_path.ensures.led

pub returns-in_err-remove_path-clause-refused : goal.returns-in_err-remove_path-clause-refused
returns-in_err-remove_path-clause-refused c =
    let k = c.loop-path.path-index in
    let paths = c.args.paths.now in
    let path : Bor (List ℕ) = get_or paths k (record { ref_ptr = (0, 0); now = [] }) in
    let whole : paths ≡ take k paths ++ path ∷ drop (k + 1) paths = sym (take-append-drop k paths) ∙ ap (λ l. take k paths ++ l) (drop_more paths k _ c.loop-path-test.true) in
    let failure = c.in_err-remove_path.field-0.0 in
    let p = err_from_is_err_and c.from_residual.result c.from_residual.ensures.1 in
    rw (p.1, p.2)
    (subst (λ ps. AreNotEmptied ps c.args.filing.now c.remove_path.new.filing failure) (sym whole)
    (stops_at (take k paths) path (drop (k + 1) paths) c.args.filing.now c.loop-path.filing c.remove_path.new.filing failure c.loop-path.invariant.gone c.in_err-remove_path.ensures.refused))
