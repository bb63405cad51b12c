use Rattle.std.proofs.Common.{rules, ◌≡◌, ℕ, List, [], ◌∷◌, ◌++◌, ap, ◌∙◌, string_bytes}
use Rattle.std.specs.Prelude.{codes}
use Rattle.std.specs.Fmt.{decimal}
use Rattle.fs_reads.specs.Shown.{findings_line}
use Rattle.fs_reads.proofs.Lines.{many_findings}
use Rattle.fs_reads.proofs.checking.push_count.Goals as goal

pub returns-in_ok-writeln-in_default : goal.returns-in_ok-writeln-in_default
returns-in_ok-writeln-in_default c =
    let written : string_bytes c.writeln.new.self ≡ string_bytes c.args.text.now ++ (decimal c.args.count ++ (codes " findings that a mount does not refuse; check --all lists them" ++ 10 ∷ [])) = c.in_ok-writeln-in_default.ensures.bytes in
    let none : ¬ (c.args.count ≡ 0) = search rules in
    let one : ¬ (c.args.count ≡ 1) = search rules in
    written ∙ ap (λ l. string_bytes c.args.text.now ++ l) (many_findings c.args.count none one)
