use Rattle.std.proofs.Common.{rules, ◌≡◌, ◌≤◌, ◌++◌, ◌∷◌, [], ◌∙◌, ap, sym, subst, length, None}
use Rattle.ods_walk.specs.Entering.{IsEntering}
use Rattle.ods_walk.specs.declared.tables.Entered.{Entered}
use Rattle.ods_walk.proofs.TableGrows.{all_read, none_read}
use Rattle.ods_walk.proofs.entering.enter_all.Goals as goal

pub places-init : goal.places-init
places-init c =
    let master : Entered = record { number = 4; from = None } in
    let table : c.push.new.self.items ≡ master ∷ [] = c.in_ok-push.ensures.items ∙ ap (λ l. l ++ master ∷ []) c.new-directories.ensures.items in
    subst (λ t. IsEntering c.args.disk.now.image.now c.args.disk.now.layout.now c.in_ok-is_entered.is_entered.items t 0) (sym table)
    (none_read c.in_ok-is_entered.is_entered.items c.in_ok-is_entered.ensures c.requires)

pub returns-clause-reached : goal.returns-clause-reached
returns-clause-reached c =
    let past : length c.places.directories.items ≤ c.places.place = search rules in
    all_read c.places.is_entered.items c.places.directories.items c.places.place c.places.invariant past
