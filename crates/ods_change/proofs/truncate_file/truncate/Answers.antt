use Rattle.std.proofs.Common.{◌≢◌, refl, arith}
use Rattle.ods_request.specs.declared.requests.Request.TheVariants.{Truncate}
use Rattle.ods_space.specs.Draft.{applied}
use Rattle.ods_state.proofs.Served.{refused_by_fault, refused_for_memory}
use Rattle.ods_change.proofs.CutEnds.{cut_then}
use Rattle.ods_change.proofs.CuttingFile.{truncate_is_step, enough_of}
use Rattle.ods_change.proofs.truncate_file.truncate.Goals as goal

pub returns-in-Err-clause-step : goal.returns-in-Err-clause-step
returns-in-Err-clause-step c = refused_by_fault c.args.disk.now.image.now c.args.disk.now.layout.now c.args.who (Truncate c.args.file c.args.count) c.in-Err.refusal c.in-Err.ensures.err

pub cut_off-requires-clause-enough : goal.cut_off-requires-clause-enough
cut_off-requires-clause-enough c = enough_of c.in-Ok.ensures.ok.0

pub cut_end-requires-clause-whole : goal.cut_end-requires-clause-whole
cut_end-requires-clause-whole c = let o = c.in-Ok.ensures.ok.0 in (o.held.others, o.lbns, o.held.whole)

pub returns-in-Ok-cut_off-clause-end : goal.returns-in-Ok-cut_off-clause-end
returns-in-Ok-cut_off-clause-end c =
    let J = applied c.args.disk.now.image.now c.in-Ok-cut_off.draft in
    let o = c.in-Ok.ensures.ok.0 in
    let high : c.args.file.number ≢ 1 = λ e. absurd (omega (arith, o.number, e)) in
    cut_then c.args.disk.now.image.now J c.args.disk.now.layout.now c.args.file.number c.args.count c.noted_end-noted.result c.cut_end.result high
    (truncate_is_step c.requires.sound o J c.in-Ok-cut_off.ensures).moves c.noted_end-noted.ensures c.cut_end.ensures

pub returns-in-Ok-cut_off-clause-step : goal.returns-in-Ok-cut_off-clause-step
returns-in-Ok-cut_off-clause-step c = truncate_is_step c.requires.sound c.in-Ok.ensures.ok.0 (applied c.args.disk.now.image.now c.in-Ok-cut_off.draft) c.in-Ok-cut_off.ensures

pub returns-in-Err-cut_off-clause-step : goal.returns-in-Err-cut_off-clause-step
returns-in-Err-cut_off-clause-step c = refused_for_memory c.args.disk.now.image.now c.args.disk.now.layout.now c.args.who (Truncate c.args.file c.args.count) refl c.in-Ok.ensures.ok.0.fine
