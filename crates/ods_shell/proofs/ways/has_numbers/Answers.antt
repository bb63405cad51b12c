use Rattle.std.proofs.Common.{rules, ◌≡◌, subst}
use Rattle.ods_base.specs.Name.{title}
use Rattle.ods_paths.specs.Numbers.{IsNumberedName}
use Rattle.ods_shell.proofs.ways.has_numbers.Goals as goal

pub returns-in-None : goal.returns-in-None
returns-in-None c = λ has.
    let shown : title c.args.entry.now.name ≡ c.as_bytes.result.now = search rules in
    c.in-None.ensures has.0 has.1 (subst (λ t. IsNumberedName t has.0 has.1) shown has.2)
