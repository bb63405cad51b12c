use Rattle.std.proofs.Common.{[], ◌∙◌, ap}
use Rattle.ods_request.specs.declared.refusals.Refusal.TheVariants as refusal
use Rattle.ods_request.specs.declared.requests.Request.TheVariants.{Stat as StatRequest}
use Rattle.ods_request.specs.Faults.{on_file}
use Rattle.ods_request.proofs.FaultTable.{fault_stat}
use Rattle.ods_state.proofs.Served.{refused_by_fault}
use Rattle.ods_look.proofs.FilesFound.{no_such_file, found_there}
use Rattle.ods_look.proofs.StatAnswers.{stat_is}
use Rattle.ods_look.proofs.shown.stat.Goals as goal

pub returns-in_default : goal.returns-in_default
returns-in_default c = λ who.
    refused_by_fault c.args.disk.now.image.now c.args.disk.now.layout.now who (StatRequest c.args.file) refusal.NoSuchFile
    (λ C shown. fault_stat C who c.args.file ∙ no_such_file c.args.disk.now.image.now c.args.disk.now.layout.now C shown c.args.file c.in_default.ensures.none (λ f. []))

pub returns : goal.returns
returns c = λ who C shown.
    let known = c.in-Some.ensures.some in
    let whole = c.requires.chains c.args.file.number known.0.0 in
    let there = found_there shown c.args.file known.0 whole in (
      fault_stat C who c.args.file ∙ ap (λ o. on_file o (λ f. [])) there,
      stat_is c.args.disk.now.image.now c.args.disk.now.layout.now C c.args.file whole.0 whole.1 there c.in-Some.block.now known.1
          c.ident.result c.owner.result c.protection.result c.user_char.result c.system_char.result c.kind.result
          c.ident.ensures c.owner.ensures c.protection.ensures c.user_char.ensures c.system_char.ensures c.kind.ensures,
    )
