use Rattle.std.proofs.Common.{◌≡◌, ◌∙◌, ◌++◌, ◌%◌, ◌+◌, List, ℕ, length, replicate, subst, sym, Ok, Err, true, false}
use Rattle.ods_records.specs.Records.{Spells}
use Rattle.ods_records.specs.declared.kind.RecordKind.TheVariants.{Variable}
use Rattle.ods_upkeep.proofs.Padding.{pad_to_block, pad_to_word}
use Rattle.ods_upkeep.proofs.appending.pad_behind.Goals as goal

pub returns-in-Ok-clause-ok : goal.returns-in-Ok-clause-ok
returns-in-Ok-clause-ok c =
    pad_to_block c.args.old.now c.as_slice.result.now (c.in_default.ensures.ok.0, c.in_default.ensures.ok.1) (c.as_slice.ensures.value ∙ c.in_ok-longer.ensures) (c.in-Ok.ensures.ok.0, c.in-Ok.ensures.ok.1)

pub returns-clause-ok : goal.returns-clause-ok
returns-clause-ok c =
    pad_to_word c.args.old.now c.as_slice.result.now (c.in_default.ensures.ok.0, c.in_default.ensures.ok.1) (c.as_slice.ensures.value ∙ c.in_ok-longer.ensures)
    (λ records spelled. (let both : Err c.in-Err-survey_records.field-0 ≡ Ok _ = sym c.in-Err-survey_records.is ∙ c.survey_records-2.ensures.only records spelled in absurd (cc)))
