use Rattle.std.proofs.Common.{true, false, ap, sym, ◌∙◌, refl, Some}
use Rattle.std.specs.Prelude.{not}
use Rattle.ods_header.specs.Header.{is_directory_header}
use Rattle.ods_request.specs.declared.refusals.Refusal.TheVariants as refusal
use Rattle.ods_request.specs.Faults.{first_of}
use Rattle.ods_look.specs.Opening.{file_shown, directory_checks}
use Rattle.ods_look.proofs.Rows.{holds, passes}
use Rattle.ods_look.proofs.FilesFound.{no_such_file, found_there, checked, kind_seen, right_seen}
use Rattle.ods_look.proofs.opening.directory_header.Goals as goal

pub returns-in_default-clause-err : goal.returns-in_default-clause-err
returns-in_default-clause-err c = λ C rest shown. no_such_file c.args.disk.now.image.now c.args.disk.now.layout.now C shown c.args.dir c.in_default.ensures.none _

pub returns-then-not-is_directory-clause-err : goal.returns-then-not-is_directory-clause-err
returns-then-not-is_directory-clause-err c = λ C rest shown.
    let known = c.in-Some.ensures.some in
    let whole = c.requires.chains c.args.dir.number known.0.0 in
    checked shown c.args.dir known.0 whole (directory_checks c.args.who c.args.right rest) (Some refusal.NotADirectory)
    (holds _ (ap not (kind_seen c.args.dir known.1 whole c.is_directory.result false c.is_directory.ensures c.if-not-is_directory.true)))

pub returns-then-not-is_granted-clause-err : goal.returns-then-not-is_granted-clause-err
returns-then-not-is_granted-clause-err c = λ C rest shown.
    let known = c.in-Some.ensures.some in
    let whole = c.requires.chains c.args.dir.number known.0.0 in
    checked shown c.args.dir known.0 whole (directory_checks c.args.who c.args.right rest) (Some refusal.Denied)
    (passes _ (ap not (kind_seen c.args.dir known.1 whole c.is_directory.result true c.is_directory.ensures c.if-not-is_directory.false))
    (holds _ (right_seen c.args.dir known.1 whole c.args.who c.args.right c.is_granted.result false c.is_granted.ensures c.if-not-is_granted.true)))

pub returns-clause-ok : goal.returns-clause-ok
returns-clause-ok c =
    let id = c.args.dir in
    let known = c.in-Some.ensures.some in (
      record {
        file = known.0;
        kind = ap (is_directory_header id.number) (sym known.1) ∙ sym c.is_directory.ensures ∙ c.if-not-is_directory.false;
        passes = λ lbns held C shown. record {
          there = found_there shown id known.0 (lbns, held);
          left = λ rest. checked shown id known.0 (lbns, held) (directory_checks c.args.who c.args.right rest) (first_of (rest (file_shown c.args.disk.now.image.now c.args.disk.now.layout.now id lbns)))
              (passes _ (ap not (kind_seen id known.1 (lbns, held) c.is_directory.result true c.is_directory.ensures c.if-not-is_directory.false))
              (passes _ (right_seen id known.1 (lbns, held) c.args.who c.args.right c.is_granted.result true c.is_granted.ensures c.if-not-is_granted.false) refl));
        };
      },
      known.1,
    )
