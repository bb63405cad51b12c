use Rattle.std.proofs.Common.{sym, subst, List, take, ℕ}
use Rattle.ods_base.specs.declared.listed.Listed.{Listed}
use Rattle.ods_paths.specs.Views.{files}
use Rattle.ods_shell.specs.Choosing.{AreThose}
use Rattle.ods_shell.specs.Matched.{IsMatchedLine}
use Rattle.ods_shell.proofs.WaysLists.{front_more}
use Rattle.ods_shell.proofs.matched.keep_matched.Goals as goal

pub loop-entry-preserved : goal.loop-entry-preserved
loop-entry-preserved c =
    let all : List Listed = c.args.entries.now in
    let n : ℕ = c.loop-entry.entry-index in
    let x : Listed = c.entry-item.result in
    subst (λ (ls : List Listed). AreThose (IsMatchedLine (files c.args.files.now)) ls c.add_matched.new.those.items) (sym (front_more all n x c.loop-entry-test.true c.entry-item.is)) (c.in_ok-add_matched.ensures (take n all) c.loop-entry.invariant)
