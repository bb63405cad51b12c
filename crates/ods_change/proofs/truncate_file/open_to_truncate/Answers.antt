use Rattle.std.proofs.Common.{true, false, sym, ◌∙◌, refl}
use Rattle.ods_request.specs.declared.rights.Right.TheVariants as right
use Rattle.ods_request.proofs.FaultTable.{fault_truncate}
use Rattle.ods_look.proofs.FilesFound.{right_seen}
use Rattle.ods_look.proofs.Rows.{holds, passes}
use Rattle.ods_change.proofs.CuttingFile.{enough_there, fewer_seen, truncate_rows}
use Rattle.ods_change.proofs.truncate_file.open_to_truncate.Goals as goal

pub returns-in-Err-clause-err : goal.returns-in-Err-clause-err
returns-in-Err-clause-err c = λ C shown.
    fault_truncate C c.args.who c.args.file c.args.count ∙ c.in-Err.ensures.err C (truncate_rows c.args.count c.args.who) shown

pub returns-then-has_fewer-clause-err : goal.returns-then-has_fewer-clause-err
returns-then-has_fewer-clause-err c = λ C shown.
    let plain = c.in-Ok.ensures.ok.0 in
    fault_truncate C c.args.who c.args.file c.args.count
    ∙ (plain.passes C shown).left (truncate_rows c.args.count c.args.who)
    ∙ holds _ (fewer_seen c.args.disk.now.image.now c.args.disk.now.layout.now c.args.file plain.lbns c.args.count c.has_fewer.result true plain.number plain.kind (c.has_fewer.ensures plain.lbns plain.held) c.if-has_fewer.true)

pub returns-then-not-is_granted-clause-err : goal.returns-then-not-is_granted-clause-err
returns-then-not-is_granted-clause-err c = λ C shown.
    let known = c.in-Ok.ensures.ok in
    let plain = known.0 in
    fault_truncate C c.args.who c.args.file c.args.count
    ∙ (plain.passes C shown).left (truncate_rows c.args.count c.args.who)
    ∙ passes _ (fewer_seen c.args.disk.now.image.now c.args.disk.now.layout.now c.args.file plain.lbns c.args.count c.has_fewer.result false plain.number plain.kind (c.has_fewer.ensures plain.lbns plain.held) c.if-has_fewer.false)
    (holds _ (right_seen c.args.file known.1 (plain.lbns, plain.held) c.args.who right.Extend c.is_granted.result false c.is_granted.ensures c.if-not-is_granted.true))

pub returns-clause-ok : goal.returns-clause-ok
returns-clause-ok c =
    let id = c.args.file in
    let known = c.in-Ok.ensures.ok in
    let plain = known.0 in
    let fewer = c.has_fewer.ensures plain.lbns plain.held in (
      record {
        file = plain.file;
        number = plain.number;
        kind = plain.kind;
        lbns = plain.lbns;
        held = plain.held;
        enough = enough_there _ c.args.count (sym fewer ∙ c.if-has_fewer.false);
        there = λ C shown. (plain.passes C shown).there;
        fine = λ C shown.
            fault_truncate C c.args.who id c.args.count
            ∙ (plain.passes C shown).left (truncate_rows c.args.count c.args.who)
            ∙ passes _ (fewer_seen c.args.disk.now.image.now c.args.disk.now.layout.now id plain.lbns c.args.count c.has_fewer.result false plain.number plain.kind fewer c.if-has_fewer.false)
            (passes _ (right_seen id known.1 (plain.lbns, plain.held) c.args.who right.Extend c.is_granted.result true c.is_granted.ensures c.if-not-is_granted.false) refl);
      },
      known.1,
    )
