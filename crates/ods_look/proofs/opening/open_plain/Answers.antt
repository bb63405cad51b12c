use Rattle.std.proofs.Common.{true, false, ◌∙◌, refl}
use Rattle.ods_look.specs.Opening.{right_check}
use Rattle.ods_look.proofs.Rows.{holds, passes}
use Rattle.ods_look.proofs.FilesFound.{right_seen}
use Rattle.ods_look.proofs.opening.open_plain.Goals as goal

pub returns-in-Err-clause-err : goal.returns-in-Err-clause-err
returns-in-Err-clause-err c = λ C rest shown. c.in-Err.ensures.err C (right_check c.args.who c.args.right rest) shown

pub returns-then-not-is_granted-clause-err : goal.returns-then-not-is_granted-clause-err
returns-then-not-is_granted-clause-err c = λ C rest shown.
    let known = c.in-Ok.ensures.ok in
    (known.0.passes C shown).left (right_check c.args.who c.args.right rest)
    ∙ holds _ (right_seen c.args.file known.1 (known.0.lbns, known.0.held) c.args.who c.args.right c.is_granted.result false c.is_granted.ensures c.if-not-is_granted.true)

pub returns-clause-ok : goal.returns-clause-ok
returns-clause-ok c =
    let known = c.in-Ok.ensures.ok in
    let plain = known.0 in (
      record {
        file = plain.file;
        number = plain.number;
        kind = plain.kind;
        lbns = plain.lbns;
        held = plain.held;
        passes = λ C shown. record {
          there = (plain.passes C shown).there;
          left = λ rest.
              (plain.passes C shown).left (right_check c.args.who c.args.right rest)
              ∙ passes _ (right_seen c.args.file known.1 (plain.lbns, plain.held) c.args.who c.args.right c.is_granted.result true c.is_granted.ensures c.if-not-is_granted.false) refl;
        };
      },
      known.1,
    )
