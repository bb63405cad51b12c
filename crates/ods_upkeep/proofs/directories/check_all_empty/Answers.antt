use Rattle.std.proofs.Common.{◌≡◌, ◌+◌, ◌∙◌, ◌∷◌, ◌++◌, ap, drop, subst, sym, take}
use Rattle.std.specs.List.{All}
use Rattle.std.proofs.lemmas.List.{drop_more, take-append-drop, take_all}
use Rattle.std.proofs.lemmas.List.Elements.{All-nil}
use Rattle.ods_upkeep.specs.Emptied.{IsEmptyDirectory}
use Rattle.ods_upkeep.specs.Refused.{HasPath}
use Rattle.ods_upkeep.specs.Unemptied.{IsNotEmpty}
use Rattle.ods_upkeep.proofs.Emptying.{all_more}
use Rattle.ods_upkeep.proofs.directories.check_all_empty.Goals as goal

pub loop-found-init : goal.loop-found-init
loop-found-init c = All-nil (IsEmptyDirectory c.args.volume.now.image c.args.volume.now.layout)

pub loop-found-preserved : goal.loop-found-preserved
loop-found-preserved c =
    all_more (IsEmptyDirectory c.args.volume.now.image c.args.volume.now.layout) c.args.all.now c.loop-found.found-index c.found-item.result c.loop-found-test.true c.found-item.is c.loop-found.invariant c.in_default.ensures

pub returns : goal.returns
returns c = subst (All (IsEmptyDirectory c.args.volume.now.image c.args.volume.now.layout)) (take_all c.loop-found.found-index c.args.all.now c.loop-found-test.false) c.loop-found.invariant

pub returns-in-Err : goal.returns-in-Err
returns-in-Err c =
    let k = c.loop-found.found-index in
    let all = c.args.all.now in
    let one = c.found-item.result in
    let whole : all ≡ take k all ++ one ∷ drop (k + 1) all =
    sym (take-append-drop k all) ∙ ap (λ l. take k all ++ l) (drop_more all k one c.loop-found-test.true ∙ ap (λ x. x ∷ drop (k + 1) all) (sym c.found-item.is)) in (
      take k all,
      one,
      drop (k + 1) all,
      whole,
      c.loop-found.invariant,
      subst (IsNotEmpty c.args.volume.now.image c.args.volume.now.layout one) (sym c.of_path.ensures.why) c.in-Err.ensures,
      subst (HasPath c.of_path.result) c.deref.ensures c.of_path.ensures.path,
    )
