use Rattle.std.proofs.Common.{rules, ◌≡◌, ◌∙◌, ℕ, ◌++◌, OnOk, ap, subst, sym}
use Rattle.std.specs.String.{string_bytes}
use Rattle.ods_base.specs.Name.{title as title_of}
use Rattle.ods_paths.specs.Numbers.{IsNumberedName}
use Rattle.ods_shell.proofs.Numbered.{shown_by_name}
use Rattle.ods_shell.proofs.Places.{on_ok}
use Rattle.ods_shell.proofs.texts.push_directory_name.Goals as goal

pub returns-in-None : goal.returns-in-None
returns-in-None c =
    let whole : c.as_bytes.result.now ≡ title_of c.args.name.now = search rules in
    let same = shown_by_name (title_of c.args.name.now) (subst (λ t. (group member : ℕ) → IsNumberedName t group member → ⊥) whole c.in-None.ensures) in
    let pushed : OnOk c.push_str.result (string_bytes c.push_str.new.self ≡ string_bytes c.args.text.now ++ title_of c.args.name.now) = search rules in
    on_ok c.push_str.result (λ is. is ∙ ap (λ t. string_bytes c.args.text.now ++ t) (sym same)) pushed
