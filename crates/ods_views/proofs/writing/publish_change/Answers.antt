use Rattle.std.proofs.Common.{◌≡◌, [], ◌∷◌, ◌++◌, drop, fold, sym, ap, ◌∙◌}
use Rattle.ods_request.specs.declared.answers.Entry.{Entry}
use Rattle.ods_views.specs.Viewers.{seen_by}
use Rattle.ods_views.specs.declared.rule.View.{View}
use Rattle.ods_views.specs.declared.version.Version.{Version}
use Rattle.ods_views.proofs.Sides.{ok_side}
use Rattle.ods_views.specs.Versions.{led_on}
use Rattle.ods_views.proofs.Ties.{publishes}
use Rattle.ods_views.proofs.writing.publish_change.Goals as goal

pub publish_as-writer-requires : goal.publish_as-writer-requires
publish_as-writer-requires g c next is =
    publishes g.J.Naming.mounted g.J.Naming.opening _ _ c.args.plan.value.entry g.N.Adding.entry c.args.volume.now c.args.writer.desk.shown.value next (fold led_on c.args.writer.desk.shown.value (drop c.args.writer.behind c.args.writer.log.items))
    c.requires.named c.requires.volume c.requires.before c.requires.pending c.image.ensures.version is

pub returns : goal.returns
returns g c =
    let shown = ok_side _ _ c.publish_as-writer.result.1 (c.publish_as-writer.ensures.succeeds tt) c.publish_as-writer.ensures.values in
    let volume = c.args.volume.now in
    let pending = c.requires.pending in
    let seen : seen_by c.publish_as-writer.result.0.desk.place ≡ seen_by c.args.writer.desk.place ++ g.N.Adding.entry ∷ [] =
    ap (λ (v : View). v.seen) (ok_side _ _ c.publish_as-writer.result.1 (c.publish_as-writer.ensures.succeeds tt) c.publish_as-writer.ensures.rule) in (
      seen ∙ (ap (λ (e : Entry). seen_by c.args.writer.desk.place ++ e ∷ []) (sym c.requires.named) ∙ sym c.requires.volume.1),
      ap (λ (x : Version). x.image) shown.0 ∙ pending.1,
      ap (λ (x : Version). x.layout) shown.0 ∙ pending.2,
      ap (λ (x : Version). x.count) shown.0 ∙ pending.0,
      shown.1,
    )
