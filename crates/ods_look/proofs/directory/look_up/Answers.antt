use Rattle.std.proofs.Common.{◌∙◌}
use Rattle.ods_request.specs.declared.refusals.Refusal.TheVariants as refusal
use Rattle.ods_request.specs.declared.requests.Request.TheVariants.{LookUp}
use Rattle.ods_request.proofs.FaultTable.{fault_look_up}
use Rattle.ods_state.proofs.Served.{refused_by_fault}
use Rattle.ods_look.proofs.OpenDirectories.{name_check, not_found, no_fault, found_is}
use Rattle.ods_look.proofs.directory.look_up.Goals as goal

pub returns-in-Err : goal.returns-in-Err
returns-in-Err c =
    refused_by_fault c.args.disk.now.image.now c.args.disk.now.layout.now c.args.who (LookUp c.args.dir c.args.name c.args.pick) c.in-Err.refusal
    (λ C shown. fault_look_up C c.args.who c.args.dir c.args.name c.args.pick ∙ c.in-Err.ensures.err C (name_check c.args.name c.args.pick) shown)

pub returns-in-Ok-look_up : goal.returns-in-Ok-look_up
returns-in-Ok-look_up c = λ C shown.
    let found = c.in-Ok-look_up.found in (
      fault_look_up C c.args.who c.args.dir c.args.name c.args.pick
          ∙ no_fault c.in-Ok.ensures.ok shown c.args.name c.words.ensures.name.three c.args.pick found.0 found.1 c.in-Ok-look_up.ensures.ok,
      found_is c.in-Ok.ensures.ok shown c.args.name c.words.ensures.name.three c.args.pick found.0 found.1 c.in-Ok-look_up.ensures.ok,
    )

pub returns-in-Err-look_up : goal.returns-in-Err-look_up
returns-in-Err-look_up c =
    refused_by_fault c.args.disk.now.image.now c.args.disk.now.layout.now c.args.who (LookUp c.args.dir c.args.name c.args.pick) refusal.NoSuchName (λ C shown.
    fault_look_up C c.args.who c.args.dir c.args.name c.args.pick
    ∙ not_found c.in-Ok.ensures.ok shown c.args.name c.words.ensures.name.three c.args.pick c.in-Err-look_up.field-0 c.in-Err-look_up.ensures.err)
