use Rattle.std.proofs.Common.{[], refl, ◌∙◌, ap, sym}
use Rattle.ods_request.specs.declared.answers.Answer.TheVariants.{Names}
use Rattle.ods_request.specs.declared.requests.Request.TheVariants.{List as Lines}
use Rattle.ods_request.proofs.FaultTable.{fault_list}
use Rattle.ods_state.proofs.Served.{refused_by_fault, refused_for_memory}
use Rattle.ods_look.proofs.OpenDirectories.{lines_there}
use Rattle.ods_look.proofs.directory.list.Goals as goal

pub returns-in-Err : goal.returns-in-Err
returns-in-Err c =
    refused_by_fault c.args.disk.now.image.now c.args.disk.now.layout.now c.args.who (Lines c.args.dir) c.in-Err.refusal
    (λ C shown. fault_list C c.args.who c.args.dir ∙ c.in-Err.ensures.err C (λ d. []) shown)

pub returns-in-Ok-entries : goal.returns-in-Ok-entries
returns-in-Ok-entries c = λ C shown.
    let o = c.in-Ok.ensures.ok in (
      fault_list C c.args.who c.args.dir ∙ (o.passes C shown).left (λ d. []),
      lines_there o shown ∙ ap Names (sym (c.new.ensures ∙ c.in-Ok-entries.ensures)),
    )

pub returns-in-Err-entries : goal.returns-in-Err-entries
returns-in-Err-entries c =
    refused_for_memory c.args.disk.now.image.now c.args.disk.now.layout.now c.args.who (Lines c.args.dir) refl (λ C shown. fault_list C c.args.who c.args.dir ∙ (c.in-Ok.ensures.ok.passes C shown).left (λ d. []))
