use Rattle.std.proofs.Common.{true, false, sym, ◌∙◌, refl}
use Rattle.ods_request.specs.declared.rights.Right.TheVariants as right
use Rattle.ods_request.proofs.FaultTable.{fault_extend}
use Rattle.ods_look.proofs.FilesFound.{right_seen}
use Rattle.ods_look.proofs.Rows.{holds, passes}
use Rattle.ods_change.proofs.ExtendingFile.{extend_rows, few_enough}
use Rattle.ods_change.proofs.extend_file.open_to_extend.Goals as goal

pub returns-in-Err-clause-err : goal.returns-in-Err-clause-err
returns-in-Err-clause-err c = λ C shown.
    fault_extend C c.args.who c.args.file c.args.count ∙ c.in-Err.ensures.err C (extend_rows c.args.count c.args.who) shown

pub returns-then-is_bad_count-clause-err : goal.returns-then-is_bad_count-clause-err
returns-then-is_bad_count-clause-err c = λ C shown.
    fault_extend C c.args.who c.args.file c.args.count
    ∙ (c.in-Ok.ensures.ok.0.passes C shown).left (extend_rows c.args.count c.args.who)
    ∙ holds _ (sym c.is_bad_count.ensures ∙ c.if-is_bad_count.true)

pub returns-then-not-is_granted-clause-err : goal.returns-then-not-is_granted-clause-err
returns-then-not-is_granted-clause-err c = λ C shown.
    let known = c.in-Ok.ensures.ok in
    fault_extend C c.args.who c.args.file c.args.count
    ∙ (known.0.passes C shown).left (extend_rows c.args.count c.args.who)
    ∙ passes _ (sym c.is_bad_count.ensures ∙ c.if-is_bad_count.false)
    (holds _ (right_seen c.args.file known.1 (known.0.lbns, known.0.held) c.args.who right.Extend c.is_granted.result false c.is_granted.ensures c.if-not-is_granted.true))

pub returns-clause-ok : goal.returns-clause-ok
returns-clause-ok c =
    let id = c.args.file in
    let known = c.in-Ok.ensures.ok in
    let plain = known.0 in (
      record {
        file = plain.file;
        number = plain.number;
        kind = plain.kind;
        count_fits = few_enough c.args.count (sym c.is_bad_count.ensures ∙ c.if-is_bad_count.false);
        lbns = plain.lbns;
        held = plain.held;
        there = λ C shown. (plain.passes C shown).there;
        fine = λ C shown.
            fault_extend C c.args.who id c.args.count
            ∙ (plain.passes C shown).left (extend_rows c.args.count c.args.who)
            ∙ passes _ (sym c.is_bad_count.ensures ∙ c.if-is_bad_count.false)
            (passes _ (right_seen id known.1 (plain.lbns, plain.held) c.args.who right.Extend c.is_granted.result true c.is_granted.ensures c.if-not-is_granted.false) refl);
      },
      known.1,
    )
