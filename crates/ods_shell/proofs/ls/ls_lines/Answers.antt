use Rattle.std.proofs.Common.{rules, ◌≡◌, ◌∙◌, ◌++◌, refl, subst, List, [], length, take, arith}
use Rattle.std.specs.String.{string_bytes}
use Rattle.std.proofs.lemmas.List.{take_all}
use Rattle.std.proofs.lemmas.Option.{slice_get_read}
use Rattle.ods_walk.specs.declared.tables.Line.{Line}
use Rattle.ods_shell.specs.Listed.{AreListed, AreListedUnder, total_line}
use Rattle.ods_shell.proofs.Listed.{listed_next, under_next}
use Rattle.ods_shell.proofs.ls.ls_lines.Goals as goal

pub loop-line-preserved : goal.loop-line-preserved
loop-line-preserved c =
    let at = slice_get_read c.deref-line-items.result.now _ c.loop-line.line-index c.line-item.result refl c.loop-line-test.true c.line-item.is in (
      λ plain. listed_next c.args.disk.now.image.now c.args.disk.now.layout.now c.args.columns c.deref-line-items.result.now c.loop-line.line-index c.line-item.result
          (string_bytes c.loop-line.text) (string_bytes c.push_before.new.text) (string_bytes c.push_listed.new.text) c.loop-line.blocks c.in_ok-blocks.blocks
          at (c.loop-line.invariant.0 plain) (c.in_ok-headed.ensures.plain plain) c.in_ok-blocks.ensures,
      λ under. under_next c.args.disk.now.image.now c.args.disk.now.layout.now c.args.columns c.args.found.now.directories.items c.deref-line-items.result.now c.loop-line.line-index c.line-item.result
          (string_bytes c.loop-line.text) (string_bytes c.push_before.new.text) (string_bytes c.push_listed.new.text) c.loop-line.headed c.in_ok-headed.headed c.loop-line.blocks c.in_ok-blocks.blocks
          at (c.loop-line.invariant.1 under) (c.in_ok-headed.ensures.text under) (c.in_ok-headed.ensures.next under) c.in_ok-blocks.ensures,
    )

pub returns-clause-plain : goal.returns-clause-plain
returns-clause-plain c = λ plain.
    let lines = c.args.found.now.lines.items in
    let all : take c.loop-line.line-index c.deref-line-items.result.now ≡ lines = take_all c.loop-line.line-index c.deref-line-items.result.now (omega (arith, c.loop-line-test.false)) ∙ c.deref-line-items.ensures.value in
    let files : c.len.result ≡ length lines = search rules in
    let said = c.in_ok-push_total.ensures ∙ (λ i. c.in_ok-push_after.ensures.plain plain i ++ total_line (files i) c.loop-line.blocks) in (
      string_bytes c.loop-line.text,
      c.loop-line.blocks,
      subst (λ (ls : List Line). AreListed c.args.disk.now.image.now c.args.disk.now.layout.now c.args.columns ls (string_bytes c.loop-line.text) c.loop-line.blocks) all (c.loop-line.invariant.0 plain),
      said,
    )

pub returns-clause-under : goal.returns-clause-under
returns-clause-under c = λ under.
    let lines = c.args.found.now.lines.items in
    let all : take c.loop-line.line-index c.deref-line-items.result.now ≡ lines = take_all c.loop-line.line-index c.deref-line-items.result.now (omega (arith, c.loop-line-test.false)) ∙ c.deref-line-items.ensures.value in
    let files : c.len.result ≡ length lines = search rules in
    let said = c.in_ok-push_total.ensures ∙ (λ i. c.in_ok-push_after.ensures.text under i ++ total_line (files i) c.loop-line.blocks) in (
      string_bytes c.loop-line.text,
      c.loop-line.headed,
      c.loop-line.blocks,
      subst (λ (ls : List Line). AreListedUnder c.args.disk.now.image.now c.args.disk.now.layout.now c.args.columns c.args.found.now.directories.items [] 0 ls (string_bytes c.loop-line.text) c.loop-line.headed c.loop-line.blocks) all (c.loop-line.invariant.1 under),
      said,
    )
