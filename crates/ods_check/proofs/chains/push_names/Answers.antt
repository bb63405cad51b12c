use Rattle.std.proofs.Common.{ℕ, List, map, arith, ◌+◌}
use Rattle.std.specs.Prelude.{MatchBool}
use Rattle.ods_base.specs.Image.{block_at}
use Rattle.ods_directory.specs.Names.{HasBadEntry, HasTwins}
use Rattle.ods_directory.specs.Entry.{used_entries}
use Rattle.ods_mount.specs.Faults.{IsTrueOf, contents_of, mark_at}
use Rattle.ods_mount.specs.declared.fault.MountFault.TheVariants.{BadDirectory, DuplicateName}
use Rattle.ods_check.specs.declared.fault_line.FaultLine.TheVariants.{Plain}
use Rattle.ods_check.specs.Lines.{IsLineOf}
use Rattle.ods_check.proofs.Adding.{adds_none, adds_more, adds_if, told_if, told_still}
use Rattle.ods_check.proofs.Telling.{true_holds, holds_true}
use Rattle.ods_check.proofs.Directories.{moved, directory_is, whether_bad, whether_alike}
use Rattle.ods_check.proofs.chains.push_names.Goals as goal
use Rattle.ods_check.specs.Turns.{turn_of, file_turn}
use Rattle.ods_check.proofs.Turning.{turn_none, turn_if, turn_more}
use Rattle.ods_check.proofs.chains.push_names.Goals.{In_ok-twins}

-- so it is at the end of the check
found : (c : In_ok-twins) (P : List (List ℕ) → ℕ → Type 0)
    → P (map (block_at c.new-blocks.result.image.now) c.new-blocks.result.lbns.now) c.end_mark-mark.result → P (contents_of c.args.disk.now.image.now c.args.lbns.now) (mark_at c.args.disk.now.image.now c.args.disk.now.layout.now c.args.number c.args.lbns.now)
found c P = moved P c.args.disk.now.image.now _ c.args.disk.now.layout.now c.args.number c.args.lbns.now _ c.end_mark-mark.result c.end_mark-mark.ensures c.new-blocks.ensures.0 c.new-blocks.ensures.1

pub returns-then-not-is_directory_file-clause-adds : goal.returns-then-not-is_directory_file-clause-adds
returns-then-not-is_directory_file-clause-adds c = adds_none (IsLineOf c.args.disk.now.image.now c.args.disk.now.layout.now) c.args.faults.now

pub returns-then-not-is_directory_file-clause-names : goal.returns-then-not-is_directory_file-clause-names
returns-then-not-is_directory_file-clause-names c t = absurd (c.if-not-is_directory_file.ensures t.0)

pub returns-then-not-is_directory_file-clause-twins : goal.returns-then-not-is_directory_file-clause-twins
returns-then-not-is_directory_file-clause-twins c t = absurd (c.if-not-is_directory_file.ensures t.0)

-- what the two tests say of the file
bad_of : (c : In_ok-twins) → MatchBool c.has_bad_entry-bad.result (IsTrueOf c.args.disk.now.image.now c.args.disk.now.layout.now (BadDirectory c.args.number)) (¬ IsTrueOf c.args.disk.now.image.now c.args.disk.now.layout.now (BadDirectory c.args.number))
bad_of c =
    let b = c.has_bad_entry-bad.result in
    directory_is c.args.disk.now.image.now c.args.disk.now.layout.now (λ bs m. HasBadEntry (used_entries bs m)) c.args.number c.args.lbns.now b c.requires.whole c.if-not-is_directory_file.ensures
    (found c (λ bs m. MatchBool b (HasBadEntry (used_entries bs m)) (¬ HasBadEntry (used_entries bs m))) (whether_bad _ b c.has_bad_entry-bad.ensures))

alike_of : (c : In_ok-twins) → MatchBool c.in_ok-twins.twins (IsTrueOf c.args.disk.now.image.now c.args.disk.now.layout.now (DuplicateName c.args.number)) (¬ IsTrueOf c.args.disk.now.image.now c.args.disk.now.layout.now (DuplicateName c.args.number))
alike_of c =
    let b = c.in_ok-twins.twins in
    directory_is c.args.disk.now.image.now c.args.disk.now.layout.now (λ bs m. HasTwins (used_entries bs m)) c.args.number c.args.lbns.now b c.requires.whole c.if-not-is_directory_file.ensures
    (found c (λ bs m. MatchBool b (HasTwins (used_entries bs m)) (¬ HasTwins (used_entries bs m))) (whether_alike _ b c.in_ok-twins.ensures))

pub returns-clause-adds : goal.returns-clause-adds
returns-clause-adds c =
    let P = IsLineOf c.args.disk.now.image.now c.args.disk.now.layout.now in
    let all = (goal.at.returns-clause-adds c).In_ok-twins in
    let mid = c.push_if.new.list in
    adds_more P c.args.faults.now mid c.push_if-2.new.list
    (adds_if P c.args.faults.now mid (Plain (BadDirectory c.args.number)) c.has_bad_entry-bad.result c.in_ok-push_if.ensures (λ e. true_holds _ _ (bad_of all) e))
    (adds_if P mid c.push_if-2.new.list (Plain (DuplicateName c.args.number)) c.in_ok-twins.twins c.in_ok-push_if-2.ensures (λ e. true_holds _ _ (alike_of all) e))

pub returns-clause-names : goal.returns-clause-names
returns-clause-names c t =
    let P = IsLineOf c.args.disk.now.image.now c.args.disk.now.layout.now in
    let all = (goal.at.returns-clause-names c).In_ok-twins in
    let mid = c.push_if.new.list in
    told_still P mid c.push_if-2.new.list (Plain (BadDirectory c.args.number))
    (adds_if P mid c.push_if-2.new.list (Plain (DuplicateName c.args.number)) c.in_ok-twins.twins c.in_ok-push_if-2.ensures (λ e. true_holds _ _ (alike_of all) e))
    (told_if c.args.faults.now mid (Plain (BadDirectory c.args.number)) c.has_bad_entry-bad.result c.in_ok-push_if.ensures (holds_true _ _ (bad_of all) t))

pub returns-clause-twins : goal.returns-clause-twins
returns-clause-twins c t =
    let all = (goal.at.returns-clause-twins c).In_ok-twins in
    told_if c.push_if.new.list c.push_if-2.new.list (Plain (DuplicateName c.args.number)) c.in_ok-twins.twins c.in_ok-push_if-2.ensures (holds_true _ _ (alike_of all) t)

pub returns-then-not-is_directory_file-clause-once : goal.returns-then-not-is_directory_file-clause-once
returns-then-not-is_directory_file-clause-once c = turn_none turn_of _ _ c.args.faults.now

pub returns-clause-once : goal.returns-clause-once
returns-clause-once c =
    let n = c.args.number in
    let start = c.args.faults.now in
    let mid = c.push_if.new.list in
    let new = c.push_if-2.new.list in
    let f = file_turn n in
    turn_more turn_of (f + 4) (f + 5) (f + 6) start mid new (omega arith) (omega arith)
    (turn_if turn_of (f + 4) (f + 5) start mid (Plain (BadDirectory n)) c.has_bad_entry-bad.result c.in_ok-push_if.ensures (omega arith) (omega arith))
    (turn_if turn_of (f + 5) (f + 6) mid new (Plain (DuplicateName n)) c.in_ok-twins.twins c.in_ok-push_if-2.ensures (omega arith) (omega arith))
