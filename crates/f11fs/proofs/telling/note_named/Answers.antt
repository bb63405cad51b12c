use Rattle.std.proofs.Common.{rules, ◌≡◌, true, false, is_some, sym, ◌∙◌}
use Rattle.ods_shell.specs.Facts.{AreFacts}
use Rattle.f11fs.proofs.Notes.{named_or_not}
use Rattle.f11fs.proofs.telling.note_named.Goals as goal

pub returns-else-is_some-clause-noted : goal.returns-else-is_some-clause-noted
returns-else-is_some-clause-noted c = λ named low.
    let yes : is_some c.facts_by_id.result ≡ true = named_or_not (AreFacts c.args.volume.now.image c.args.volume.now.layout c.args.one.now.file.number) c.args.one.now.file c.facts_by_id.result c.facts_by_id.ensures named in
    let no : is_some c.facts_by_id.result ≡ false = sym c.is_some.ensures ∙ c.if-is_some.false in
    let wrong : true ≡ false = sym yes ∙ no in
    absurd (cc)
