use Rattle.std.proofs.Common.{◌≡◌, ◌⊎◌, ℕ, true, List, subst}
use Rattle.ods_base.specs.declared.listed.Listed.{Listed}
use Rattle.ods_mount.specs.Tables.{has}
use Rattle.ods_check.specs.Sets.{IsSetOf}
use Rattle.ods_check.specs.Findings.{NamesAt}
use Rattle.ods_check.proofs.StillTold.{TellsLine}
use Rattle.ods_check.proofs.Directories.{names_told, names_noted}
use Rattle.ods_check.proofs.naming.push_names.Goals as goal

pub returns-clause-names : goal.returns-clause-names
returns-clause-names c line none =
    let I = c.args.disk.now.image.now in
    let L = c.args.disk.now.layout.now in
    let d = c.args.directory in
    let found = c.push_lines.new.findings in
    let lines = c.in_ok-lines.lines.items in
    let P : List Listed → Type 0 = λ ls. (k : ℕ) → TellsLine I L d ls k found.0 in
    let told : P lines = subst P c.deref.ensures.value c.in_ok-push_lines.ensures.names in
    names_told I L d lines c.in_ok-lines.ensures found.0 told line none.0 none.1

pub returns-clause-named : goal.returns-clause-named
returns-clause-named c =
    let I = c.args.disk.now.image.now in
    let L = c.args.disk.now.layout.now in
    let lines = c.in_ok-lines.lines.items in
    let P : List Listed → Type 0 = λ ls. IsSetOf (λ n. (has c.args.named.now n ≡ true) ⊎ ((k : ℕ) × NamesAt I L ls k n)) c.push_lines.new.named in
    names_noted I L c.args.directory lines c.in_ok-lines.ensures c.args.named.now c.push_lines.new.named (subst P c.deref.ensures.value c.in_ok-push_lines.ensures.named)
