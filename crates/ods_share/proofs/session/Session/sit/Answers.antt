use Rattle.std.proofs.Common.{◌≡◌, ◌+◌, ◌∷◌, [], ◌++◌, List, drop, take, length, arith, sym, subst, ap, ◌∙◌}
use Rattle.std.specs.Vec.{vec_capacity}
use Rattle.std.proofs.lemmas.List.{take_more, drop_more}
use Rattle.ods_ask.specs.declared.script.Command.{Command}
use Rattle.ods_ask.specs.declared.outcome.Reply.{Reply}
use Rattle.ods_share.specs.Keeping.{TellsOn}
use Rattle.ods_share.specs.Sittings.{sitting, stands}
use Rattle.ods_share.specs.Scripts.{Runs, fulls_in, start}
use Rattle.std.proofs.lemmas.List.Sums.{sum_by_push}
use Rattle.ods_share.proofs.Rooms.{room_left}
use Rattle.ods_share.proofs.Runs.{runs_snoc}
use Rattle.ods_share.proofs.session.Session.sit.Goals as goal

pub loop-command-preserved : goal.loop-command-preserved
loop-command-preserved g c =
    let stamp = c.args.self.now.stamp in
    let cs = c.args.script.now in
    let i = c.loop-command.command-index in
    let d : Command = c.command-item.result in
    let was = c.loop-command.ended in
    let now = c.take_turn.new.ended in
    let next : take (i + 1) cs ≡ take i cs ++ d ∷ [] = take_more cs i d (omega arith) ∙ ap (λ x. take i cs ++ x ∷ []) (sym c.command-item.is) in
    let left : drop i cs ≡ d ∷ drop (i + 1) cs = drop_more cs i d (omega arith) ∙ ap (λ x. x ∷ drop (i + 1) cs) (sym c.command-item.is) in
    let before = c.loop-command.chair in
    let after = c.take_turn.new.chair in
    let inv = c.loop-command.invariant in
    let t : TellsOn g.K.Keep.keeps g.J.Naming.mounted stamp d (stands c.loop-command.context before.viewer before.fulls.amount) was (stands c.take_turn.new.context after.viewer after.fulls.amount) now =
    c.in_ok-take_turn.ensures.tells in
    let rs : List Reply = inv.2.0 in (
      room_left (drop i cs) d (drop (i + 1) cs) (length was.calls.items) (length now.calls.items) (vec_capacity was.calls) (vec_capacity now.calls) left inv.0
          c.in_ok-take_turn.ensures.calls c.in_ok-take_turn.ensures.room,
      omega (arith, inv.1, c.take_turn.ensures.part),
      (
        rs ++ t.0 ∷ [],
        subst (λ (xs : List Command). Runs g.J.Naming.mounted stamp (start c.args.chair.viewer.seen) xs (rs ++ t.0 ∷ []) (sitting c.take_turn.new.context now.calls.items after.viewer.seen)) (sym next)
            (runs_snoc g.J.Naming.mounted stamp (start c.args.chair.viewer.seen) (take i cs) rs (sitting c.loop-command.context was.calls.items before.viewer.seen) d t.0
            (sitting c.take_turn.new.context now.calls.items after.viewer.seen) inv.2.1 t.1.0),
        subst (λ (xs : List Command). g.K.Keep.keeps xs (rs ++ t.0 ∷ []) now.kept) (sym next) (t.2 (take i cs) rs inv.2.2),
        omega (arith, sum_by_push fulls_in rs t.0, inv.2.3, t.1.1),
      ),
    )
