use Rattle.std.proofs.Common.{rules, ◌≡◌, ◌∙◌, ap, sym, cond, true, false, [], ◌∷◌, ◌++◌}
use Rattle.ods_shell.specs.Passed.{is_passed_over}
use Rattle.ods_shell.specs.declared.found.Found.{Found}
use Rattle.ods_upkeep.proofs.copying_tree.add_file.Goals as goal

pub returns-in_ok-push : goal.returns-in_ok-push
returns-in_ok-push c =
    let f : Found = c.in_ok-found.found in
    let plain : is_passed_over f.facts ≡ false = search rules in
    (f, c.in_ok-found.ensures, c.in_ok-push.ensures.items ∙ ap (λ b. cond b c.args.files.now.items (c.args.files.now.items ++ f ∷ [])) (sym plain))

pub returns-else-not-is_passed_over : goal.returns-else-not-is_passed_over
returns-else-not-is_passed_over c =
    let f : Found = c.in_ok-found.found in
    let passed : is_passed_over f.facts ≡ true = search rules in
    (f, c.in_ok-found.ensures, ap (λ b. cond b c.args.files.now.items (c.args.files.now.items ++ f ∷ [])) (sym passed))
