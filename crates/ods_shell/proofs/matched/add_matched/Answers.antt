use Rattle.std.proofs.Common.{◌++◌, [], ◌∷◌, sym, subst}
use Rattle.ods_paths.specs.Views.{files}
use Rattle.ods_shell.specs.Choosing.{AreThose}
use Rattle.ods_shell.specs.Matched.{IsMatchedLine}
use Rattle.ods_shell.proofs.OneName.{those_more, those_as_before}
use Rattle.ods_shell.proofs.matched.add_matched.Goals as goal

pub returns-in_ok-push : goal.returns-in_ok-push
returns-in_ok-push c = λ before are.
    let P = IsMatchedLine (files c.args.files.now) in
    subst (λ f. AreThose P (before ++ c.args.entry.now ∷ []) f) (sym c.in_ok-push.ensures.items) (those_more P before c.args.those.now.items c.args.entry.now c.if-is_sought.ensures are)

pub returns-else-is_sought : goal.returns-else-is_sought
returns-else-is_sought c = λ before are. those_as_before (IsMatchedLine (files c.args.files.now)) before c.args.those.now.items c.args.entry.now c.if-is_sought.ensures are
