use Rattle.std.proofs.Common.{sym, subst, ◌+◌, ◌∷◌, ◌++◌, [], ap, ◌∙◌, arith}
use Rattle.ods_space.specs.Files.{HasBlocks}
use Rattle.ods_mount.specs.declared.fault.MountFault.{MountFault}
use Rattle.ods_mount.specs.declared.fault.MountFault.TheVariants.{BadChain}
use Rattle.ods_mount.specs.Faults.{IsTrueOf}
use Rattle.ods_check.specs.declared.fault_line.FaultLine.TheVariants.{Plain}
use Rattle.ods_check.specs.Faults.{Tells}
use Rattle.ods_check.specs.Lines.{IsLineOf}
use Rattle.ods_check.proofs.Adding.{adds_none, adds_one, adds_more, told_one, told_still}
use Rattle.ods_check.proofs.FileFaults.{no_file, bad_file, whole_file, chain_true, chain_in_turn}
use Rattle.ods_check.specs.Turns.{turn_of, file_turn}
use Rattle.ods_check.proofs.Turning.{turn_none, turn_within, turn_more}
use Rattle.ods_check.proofs.Holding.{stamped_more}
use Rattle.ods_check.proofs.chains.push_file.Goals as goal

pub returns-in_default-clause-adds : goal.returns-in_default-clause-adds
returns-in_default-clause-adds c = adds_none (IsLineOf c.args.disk.now.image.now c.args.disk.now.layout.now) c.args.faults.now

pub returns-in_default-clause-file : goal.returns-in_default-clause-file
returns-in_default-clause-file c = no_file c.args.disk.now.image.now c.args.disk.now.layout.now c.args.number c.args.faults.now.0 c.in_default.ensures.none

pub push_sharing-requires-clause-file : goal.push_sharing-requires-clause-file
push_sharing-requires-clause-file c = c.in-Some.ensures.some.0

pub returns-in-Err-clause-adds : goal.returns-in-Err-clause-adds
returns-in-Err-clause-adds c =
    let I = c.args.disk.now.image.now in
    let L = c.args.disk.now.layout.now in
    let P = IsLineOf I L in
    let mid = c.push_sharing.new.faults in
    adds_more P c.args.faults.now mid c.push.new.self c.in_ok-push_sharing.ensures.adds
    (adds_one P mid _ (Plain c.chain_fault.result) c.in_ok-push.ensures
    (subst (IsTrueOf I L) (sym c.chain_fault.ensures) (chain_true I L c.args.number c.in-Err.fault c.in-Some.ensures.some.0 c.in-Err.ensures.err c.in-Err.ensures.memory)))

pub returns-in-Err-clause-file : goal.returns-in-Err-clause-file
returns-in-Err-clause-file c =
    let I = c.args.disk.now.image.now in
    let L = c.args.disk.now.layout.now in
    let P = IsLineOf I L in
    let n = c.args.number in
    let mid = c.push_sharing.new.faults in
    let end = c.push.new.self in
    let told = told_one mid end (Plain c.chain_fault.result) c.in_ok-push.ensures in
    let added = adds_one P mid end (Plain c.chain_fault.result) c.in_ok-push.ensures
    (subst (IsTrueOf I L) (sym c.chain_fault.ensures) (chain_true I L n c.in-Err.fault c.in-Some.ensures.some.0 c.in-Err.ensures.err c.in-Err.ensures.memory)) in
    bad_file I L n end.0 (λ s. told_still P mid end (Plain (BadChain n)) added (c.in_ok-push_sharing.ensures.shares s)) c.in-Err.fault c.in-Err.ensures.err c.in-Err.ensures.memory
    (subst (λ (f : MountFault). Tells end.0 f) c.chain_fault.ensures told)

pub push_whole-requires-clause-whole : goal.push_whole-requires-clause-whole
push_whole-requires-clause-whole c = subst (HasBlocks c.args.disk.now.image.now c.args.disk.now.layout.now c.args.number) (sym c.deref.ensures.value) c.in-Ok.ensures.ok

pub returns-in_ok-push_whole-in-Ok-clause-adds : goal.returns-in_ok-push_whole-in-Ok-clause-adds
returns-in_ok-push_whole-in-Ok-clause-adds c =
    adds_more (IsLineOf c.args.disk.now.image.now c.args.disk.now.layout.now) c.args.faults.now c.push_sharing.new.faults c.push_whole.new.faults c.in_ok-push_sharing.ensures.adds c.in_ok-push_whole-in-Ok.ensures.adds

pub returns-in_ok-push_whole-in-Ok-clause-file : goal.returns-in_ok-push_whole-in-Ok-clause-file
returns-in_ok-push_whole-in-Ok-clause-file c =
    let I = c.args.disk.now.image.now in
    let L = c.args.disk.now.layout.now in
    let n = c.args.number in
    let mid = c.push_sharing.new.faults in
    let end = c.push_whole.new.faults in
    whole_file I L n end.0 (λ s. told_still (IsLineOf I L) mid end (Plain (BadChain n)) c.in_ok-push_whole-in-Ok.ensures.adds (c.in_ok-push_sharing.ensures.shares s)) c.in-Ok.blocks.items c.in-Ok.ensures.ok c.in_ok-push_whole-in-Ok.ensures.file

pub returns-in_default-clause-once : goal.returns-in_default-clause-once
returns-in_default-clause-once c = turn_none turn_of _ _ c.args.faults.now

pub returns-in_default-clause-stamps : goal.returns-in_default-clause-stamps
returns-in_default-clause-stamps c = stamped_more _ _ _ _ c.requires.stamps (omega arith)

pub returns-in-Err-clause-once : goal.returns-in-Err-clause-once
returns-in-Err-clause-once c =
    let f = file_turn c.args.number in
    let start = c.args.faults.now in
    let mid = c.push_sharing.new.faults in
    let new = c.push.new.self in
    let is = c.in_ok-push.ensures ∙ ap (λ (fault : MountFault). (mid.0 ++ Plain fault ∷ [], mid.1)) c.chain_fault.ensures in
    turn_within turn_of f (f + 2) f (f + 6) start new (omega arith) (omega arith)
    (chain_in_turn c.args.disk.now.image.now c.args.disk.now.layout.now c.args.number start mid new c.in-Err.fault c.in-Err.ensures.err c.in-Err.ensures.memory c.in_ok-push_sharing.ensures.only c.in_ok-push_sharing.ensures.once is)

pub returns-in-Err-clause-stamps : goal.returns-in-Err-clause-stamps
returns-in-Err-clause-stamps c = stamped_more _ _ _ _ c.requires.stamps (omega arith)

pub returns-in_ok-push_whole-in-Ok-clause-once : goal.returns-in_ok-push_whole-in-Ok-clause-once
returns-in_ok-push_whole-in-Ok-clause-once c =
    let f = file_turn c.args.number in
    let mid = c.push_sharing.new.faults in
    let new = c.push_whole.new.faults in
    turn_more turn_of f (f + 1) (f + 6) c.args.faults.now mid new (omega arith) (omega arith) c.in_ok-push_sharing.ensures.once
    (turn_within turn_of (f + 2) (f + 6) (f + 1) (f + 6) mid new (omega arith) (omega arith) c.in_ok-push_whole-in-Ok.ensures.once)
