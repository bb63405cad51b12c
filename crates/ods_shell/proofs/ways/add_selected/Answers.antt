use Rattle.std.proofs.Common.{◌≡◌, ◌+◌, ◌++◌, [], ◌∷◌, sym, subst, take}
use Rattle.ods_base.specs.declared.listed.Listed.{Listed}
use Rattle.ods_shell.specs.Choosing.{AreThose}
use Rattle.ods_paths.specs.Views.{step}
use Rattle.ods_shell.specs.Ways.{IsWayBy}
use Rattle.ods_shell.proofs.OneName.{those_more, those_as_before}
use Rattle.ods_shell.proofs.WaysLists.{front_more}
use Rattle.ods_shell.proofs.ways.add_selected.Goals as goal

pub returns-in_ok-push : goal.returns-in_ok-push
returns-in_ok-push c = λ are.
    let P = IsWayBy (step c.args.step.now) c.args.ways.now in
    let x : Listed = c.index-ways-place.result in
    let took : take (c.args.place + 1) c.args.ways.now ≡ take c.args.place c.args.ways.now ++ x ∷ [] = front_more c.args.ways.now c.args.place x c.requires.inside c.index-ways-place.is in
    subst (λ t. AreThose P t c.push.new.self.items) (sym took)
    (subst (λ f. AreThose P (take c.args.place c.args.ways.now ++ x ∷ []) f) (sym c.in_ok-push.ensures.items) (those_more P (take c.args.place c.args.ways.now) c.args.those.now.items x c.if-is_selected.ensures are))

pub returns-else-is_selected : goal.returns-else-is_selected
returns-else-is_selected c = λ are.
    let P = IsWayBy (step c.args.step.now) c.args.ways.now in
    let x : Listed = c.index-ways-place.result in
    let took : take (c.args.place + 1) c.args.ways.now ≡ take c.args.place c.args.ways.now ++ x ∷ [] = front_more c.args.ways.now c.args.place x c.requires.inside c.index-ways-place.is in
    subst (λ t. AreThose P t c.args.those.now.items) (sym took) (those_as_before P (take c.args.place c.args.ways.now) c.args.those.now.items x c.if-is_selected.ensures are)
