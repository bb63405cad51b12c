use Rattle.ods_amend.proofs.GivenAccess.{fault_refuses, memory_refuses}
use Rattle.ods_amend.proofs.access.draft_access.Goals as goal

pub returns-in-Err : goal.returns-in-Err
returns-in-Err c = fault_refuses c.args.disk.now.image.now c.args.disk.now.layout.now c.args.who c.args.file c.in-Err.refusal c.in-Err.ensures.err

pub returns-in-Ok-draft_header : goal.returns-in-Ok-draft_header
returns-in-Ok-draft_header c = record { allowed = c.in-Ok.ensures.ok.0.allowed; set = c.in-Ok-draft_header.ensures }

pub returns-in-Err-draft_header : goal.returns-in-Err-draft_header
returns-in-Err-draft_header c = memory_refuses c.in-Ok.ensures.ok.0
