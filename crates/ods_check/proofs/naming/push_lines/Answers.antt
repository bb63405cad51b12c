use Rattle.std.proofs.Common.{◌≡◌, Some, slice_get, sym, ap, ◌∙◌, arith}
use Rattle.std.proofs.lemmas.Option.{slice_get_within, slice_get-get_or}
use Rattle.ods_check.specs.Findings.{IsOtherFound, NamesAt}
use Rattle.ods_check.proofs.Noting.{grown_more, grown_all}
use Rattle.ods_check.proofs.Sweeping.{sweeps_more}
use Rattle.ods_check.proofs.StillTold.{TellsLine, told_line_still}
use Rattle.ods_check.proofs.Directories.{line_named, line_told}
use Rattle.ods_check.proofs.naming.push_lines.Goals as goal

pub loop-i-preserved : goal.loop-i-preserved
loop-i-preserved c =
    let I = c.args.disk.now.image.now in
    let L = c.args.disk.now.layout.now in
    let d = c.args.directory in
    let lines = c.args.lines.now in
    let i = c.loop-i.i in
    let mid = c.loop-i.findings in
    let new = c.push_line.new.findings in
    let x = c.index-lines-i.result in
    let at : slice_get lines i ≡ Some x = slice_get-get_or lines i x c.loop-i-test.true ∙ ap Some (sym c.index-lines-i.is) in
    let told = c.in_ok-push_line.ensures in
    record {
      told = sweeps_more (IsOtherFound I L) (TellsLine I L d lines) c.args.findings.now mid new i (λ k. told_line_still I L mid new told.adds d lines k) c.loop-i.invariant.told told.adds (line_told I L lines i x at d new.0 told.told);
      named = grown_more (NamesAt I L lines) c.args.named.now i c.loop-i.named c.push_line.new.named c.loop-i.invariant.named (line_named I L lines i x at c.loop-i.named c.push_line.new.named told.named);
      room = told.room ∙ c.loop-i.invariant.room;
    }

pub returns-clause-names : goal.returns-clause-names
returns-clause-names c i line at =
    let low = slice_get_within c.args.lines.now i line at in
    let end = c.loop-i-test.false in
    c.loop-i.invariant.told.told i (omega arith) line at

pub returns-clause-named : goal.returns-clause-named
returns-clause-named c =
    let end = c.loop-i-test.false in
    grown_all (NamesAt c.args.disk.now.image.now c.args.disk.now.layout.now c.args.lines.now) c.args.named.now c.loop-i.i c.loop-i.named
    (λ m b h. let low = slice_get_within c.args.lines.now m h.0 h.1 in omega arith) c.loop-i.invariant.named
