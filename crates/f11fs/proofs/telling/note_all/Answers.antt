use Rattle.std.proofs.Common.{rules, ◌≡◌, ◌≤◌, ◌∙◌, subst, length}
use Rattle.std.proofs.lemmas.List.{take_all}
use Rattle.f11fs.proofs.AllTold.{Notes, none_noted, note_next}
use Rattle.f11fs.proofs.telling.note_all.Goals as goal

pub loop-one-preserved : goal.loop-one-preserved
loop-one-preserved c = (
  c.note_named.ensures.length ∙ c.loop-one.invariant.0,
  note_next c.args.volume.now c.args.all.now c.loop-one.one-index c.one-item.result c.args.named.now.items c.loop-one.named.items c.note_named.new.named.items
      c.loop-one-test.true c.one-item.is c.loop-one.invariant.0 c.loop-one.invariant.1 c.note_named.ensures.noted c.note_named.ensures.kept c.note_named.ensures.alone,
)

pub returns-clause-noted : goal.returns-clause-noted
returns-clause-noted c =
    let past : length c.args.all.now ≤ c.loop-one.one-index = search rules in
    subst (λ paths. Notes c.args.volume.now paths c.args.named.now.items c.loop-one.named.items) (take_all c.loop-one.one-index c.args.all.now past) c.loop-one.invariant.1
