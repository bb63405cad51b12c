use Rattle.std.proofs.Common.{◌≡◌, ◌+◌, ◌++◌, [], ◌∷◌, refl, sym, ap, ◌∙◌, subst, take, length, Some}
use Rattle.std.specs.Prelude.{slice_get}
use Rattle.std.proofs.lemmas.List.{take_more}
use Rattle.std.proofs.lemmas.Option.{get_or_from_slice_get, slice_get_read}
use Rattle.ods_base.specs.declared.listed.Listed.{Listed}
use Rattle.ods_shell.specs.Choosing.{AreThose, IsPicked}
use Rattle.ods_shell.proofs.OneName.{those_more, those_as_before}
use Rattle.ods_shell.proofs.matched.add_picked.Goals as goal

pub returns-in_ok-push : goal.returns-in_ok-push
returns-in_ok-push c = λ are.
    let P = IsPicked c.args.versions c.args.lines.now in
    let x : Listed = c.index-lines-place.result in
    let here : slice_get c.args.lines.now c.args.place ≡ Some x = slice_get_read c.args.lines.now (length c.args.lines.now) c.args.place x refl c.requires.inside c.index-lines-place.is in
    let took : take (c.args.place + 1) c.args.lines.now ≡ take c.args.place c.args.lines.now ++ x ∷ [] =
    take_more c.args.lines.now c.args.place x c.requires.inside ∙ ap (λ y. take c.args.place c.args.lines.now ++ y ∷ []) (get_or_from_slice_get c.args.lines.now c.args.place x x here) in
    subst (λ t. AreThose P t c.push.new.self.items) (sym took)
    (subst (λ f. AreThose P (take c.args.place c.args.lines.now ++ x ∷ []) f) (sym c.in_ok-push.ensures.items) (those_more P (take c.args.place c.args.lines.now) c.args.found.now.items x c.if-is_picked.ensures are))

pub returns-else-is_picked : goal.returns-else-is_picked
returns-else-is_picked c = λ are.
    let P = IsPicked c.args.versions c.args.lines.now in
    let x : Listed = c.index-lines-place.result in
    let here : slice_get c.args.lines.now c.args.place ≡ Some x = slice_get_read c.args.lines.now (length c.args.lines.now) c.args.place x refl c.requires.inside c.index-lines-place.is in
    let took : take (c.args.place + 1) c.args.lines.now ≡ take c.args.place c.args.lines.now ++ x ∷ [] =
    take_more c.args.lines.now c.args.place x c.requires.inside ∙ ap (λ y. take c.args.place c.args.lines.now ++ y ∷ []) (get_or_from_slice_get c.args.lines.now c.args.place x x here) in
    subst (λ t. AreThose P t c.args.found.now.items) (sym took) (those_as_before P (take c.args.place c.args.lines.now) c.args.found.now.items x c.if-is_picked.ensures are)
