use Rattle.std.proofs.Common.{rules, ◌≡◌, ◌≤◌, ◌∙◌, false, List, [], length, take, refl, sym, subst}
use Rattle.std.specs.Prelude.{replicate}
use Rattle.std.specs.String.{string_bytes}
use Rattle.std.proofs.lemmas.List.{take_all}
use Rattle.std.proofs.lemmas.Option.{slice_get_read}
use Rattle.std.proofs.lemmas.Result.{IfOk-weaker}
use Rattle.ods_walk.specs.declared.tables.Line.{Line}
use Rattle.ods_shell.specs.There.{AreFlags, IsAmong, IsNotAmong, IsUnnoted, ids_in}
use Rattle.ods_shell.proofs.Flags.{among_next, flags_none, none_of_none}
use Rattle.ods_shell.proofs.Unreached.{unnoted_not_among, unreached_same}
use Rattle.ods_shell.proofs.find.unreached_lines.Goals as goal

pub loop-line-init : goal.loop-line-init
loop-line-init c =
    let clear : c.in_ok-is_reached.is_reached.items ≡ replicate 65536 false = c.in_ok-is_reached.ensures.items_if_clones_equal (λ y same. same) in
    flags_none (IsAmong c.args.disk.now.image.now c.args.disk.now.layout.now []) c.in_ok-is_reached.is_reached.items 65536 clear refl (λ n among. none_of_none _ among.1)

pub loop-line-preserved : goal.loop-line-preserved
loop-line-preserved c =
    let at = slice_get_read c.deref-line-items.result.now _ c.loop-line.line-index c.line-item.result refl c.loop-line-test.true c.line-item.is in
    among_next c.args.disk.now.image.now c.args.disk.now.layout.now (λ (l : Line). l.entry.file) [] c.deref-line-items.result.now c.loop-line.line-index c.line-item.result
    c.loop-line.is_reached.items c.note.new.is_named.items at c.note.ensures c.loop-line.invariant

pub returns : goal.returns
returns c =
    let I = c.args.disk.now.image.now in
    let L = c.args.disk.now.layout.now in
    let ids = ids_in c.args.found.now.lines.items in
    let past : length c.deref-line-items.result.now ≤ c.loop-line.line-index = search rules in
    let whole : take c.loop-line.line-index c.deref-line-items.result.now ≡ c.args.found.now.lines.items = take_all c.loop-line.line-index c.deref-line-items.result.now past ∙ c.deref-line-items.ensures.value in
    let same : c.deref.result.now ≡ c.loop-line.is_reached.items = c.deref.ensures.value in
    let flags = subst (AreFlags (IsAmong I L ids)) (sym same) (subst (λ (ls : List Line). AreFlags (IsAmong I L (ids_in ls)) c.loop-line.is_reached.items) whole c.loop-line.invariant) in
    IfOk-weaker c.unnamed_lines.result _ _ (λ text are. unreached_same I L (IsUnnoted I L c.deref.result.now) (IsNotAmong I L ids) c.args.json c.args.image.now (string_bytes text)
    (unnoted_not_among I L c.unnamed_lines.ensures.few c.deref.result.now ids flags) are) c.unnamed_lines.ensures.text
