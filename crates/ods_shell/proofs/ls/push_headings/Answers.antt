use Rattle.std.proofs.Common.{◌≡◌, ◌≤◌, ◌-◌, ◌∙◌, ◌++◌, ap, arith, slice_get, subst}
use Rattle.std.specs.Prelude.{◌==◌}
use Rattle.std.specs.List.{range_with_len}
use Rattle.std.specs.String.{string_bytes}
use Rattle.ods_shell.specs.Lines.{heading, with_headings}
use Rattle.ods_shell.proofs.Headings.{headings_next}
use Rattle.ods_shell.proofs.ls.push_headings.Goals as goal

pub loop-place-init : goal.loop-place-init
loop-place-init c =
    let none : 0 ≡ c.args.from - c.args.from = omega arith in
    (ap (λ n. with_headings c.args.directories.now (string_bytes c.args.text.now) (range_with_len c.args.from n)) none, omega arith, omega arith)

pub loop-place-preserved : goal.loop-place-preserved
loop-place-preserved c =
    let k = c.loop-place.place in
    let low : c.args.from ≤ k = c.loop-place.invariant.1 in
    let less = c.loop-place-test.true in
    let pushed = c.in_ok-push_heading.ensures ∙ ap (λ n. string_bytes c.loop-place.text ++ heading (n == 0) (slice_get c.args.directories.now k)) c.loop-place.text.bytes.ok.0 in (
      headings_next c.args.directories.now (string_bytes c.args.text.now) (string_bytes c.loop-place.text) (string_bytes c.push_heading.new.text) c.args.from k low pushed c.loop-place.invariant.0,
      omega (arith, low),
      omega (arith, less),
    )

pub returns : goal.returns
returns c =
    let k = c.loop-place.place in
    let end = c.loop-place-test.false in
    let low = c.loop-place.invariant.1 in
    let high = c.loop-place.invariant.2 in
    let same : k - c.args.from ≡ c.args.to - c.args.from = omega (arith, end, low, high) in
    subst (λ n. string_bytes c.loop-place.text ≡ with_headings c.args.directories.now (string_bytes c.args.text.now) (range_with_len c.args.from n)) same c.loop-place.invariant.0
