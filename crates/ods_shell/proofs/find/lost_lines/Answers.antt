use Rattle.std.proofs.Common.{◌≡◌, ◌≤◌, false, [], refl, sym, subst, arith}
use Rattle.std.specs.Prelude.{replicate}
use Rattle.std.specs.String.{string_bytes}
use Rattle.std.proofs.lemmas.Result.{IfOk-weaker}
use Rattle.ods_space.specs.Layout.{last_number}
use Rattle.ods_shell.specs.There.{IsAmong, IsNamedByNone, IsUnnoted}
use Rattle.ods_shell.proofs.Flags.{flags_none, none_of_none}
use Rattle.ods_shell.proofs.Unreached.{AreNoted, noted_next, noted_none, unnoted_by_none, unreached_same}
use Rattle.ods_shell.proofs.find.lost_lines.Goals as goal

pub loop-before-init : goal.loop-before-init
loop-before-init c =
    let I = c.args.disk.now.image.now in
    let L = c.args.disk.now.layout.now in
    let clear : c.in_ok-is_named.is_named.items ≡ replicate 65536 false = c.in_ok-is_named.ensures.items_if_clones_equal (λ y same. same) in
    noted_none I L c.in_ok-is_named.is_named.items (flags_none (IsAmong I L []) c.in_ok-is_named.is_named.items 65536 clear refl (λ n among. none_of_none _ among.1))

pub loop-before-preserved : goal.loop-before-preserved
loop-before-preserved c = noted_next c.args.disk.now.image.now c.args.disk.now.layout.now c.loop-before.before c.loop-before.is_named.items c.note_names.new.is_named.items c.in_ok-note_names.ensures c.loop-before.invariant

pub returns : goal.returns
returns c =
    let I = c.args.disk.now.image.now in
    let L = c.args.disk.now.layout.now in
    let bound : c.last_number-before-end.result ≡ last_number L = c.last_number-before-end.ensures in
    let all : last_number L ≤ c.loop-before.before = omega (arith, bound, c.loop-before-test.false) in
    let flags : c.deref.result.now ≡ c.loop-before.is_named.items = c.deref.ensures.value in
    let noted = subst (AreNoted I L c.loop-before.before) (sym flags) c.loop-before.invariant in
    IfOk-weaker c.unnamed_lines.result _ _ (λ text are. unreached_same I L (IsUnnoted I L c.deref.result.now) (IsNamedByNone I L) c.args.json c.args.image.now (string_bytes text)
    (unnoted_by_none I L c.unnamed_lines.ensures.few c.deref.result.now c.loop-before.before all noted) are) c.unnamed_lines.ensures.text
