use Rattle.std.proofs.Common.{◌≡◌, ◌+◌, ◌≤◌, arith, subst}
use Rattle.std.specs.String.{string_bytes}
use Rattle.ods_space.specs.Layout.{last_number}
use Rattle.ods_shell.specs.Named.{id_of}
use Rattle.ods_shell.specs.There.{IsUnnoted, unreached_text}
use Rattle.ods_shell.proofs.Unreached.{AreTexts, texts_next}
use Rattle.ods_shell.proofs.find.unnamed_lines.Goals as goal

pub loop-before-preserved : goal.loop-before-preserved
loop-before-preserved c =
    let L = c.args.disk.now.layout.now in
    let bound : c.last_number-before-end.result ≡ last_number L = c.last_number-before-end.ensures in
    let less : c.loop-before.before + 1 ≤ last_number L = omega (arith, bound, c.loop-before-test.true) in (
      texts_next (IsUnnoted c.args.disk.now.image.now L c.args.is_named.now) (λ n. unreached_text c.args.json c.args.image.now (id_of c.args.disk.now.image.now L n))
          c.loop-before.before (string_bytes c.loop-before.text) (string_bytes c.push_if_unnoted.new.text) c.in_ok-push_if_unnoted.ensures c.loop-before.invariant.0,
      less,
    )

pub returns-clause-text : goal.returns-clause-text
returns-clause-text c =
    let L = c.args.disk.now.layout.now in
    let bound : c.last_number-before-end.result ≡ last_number L = c.last_number-before-end.ensures in
    let all : c.loop-before.before ≡ last_number L = omega (arith, bound, c.loop-before-test.false, c.loop-before.invariant.1) in
    subst (λ k. AreTexts (IsUnnoted c.args.disk.now.image.now L c.args.is_named.now) (λ n. unreached_text c.args.json c.args.image.now (id_of c.args.disk.now.image.now L n)) k (string_bytes c.loop-before.text))
    all c.loop-before.invariant.0
