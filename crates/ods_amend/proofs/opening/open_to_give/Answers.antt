use Rattle.std.proofs.Common.{true, false, refl, None, Some}
use borrow.Author.Tests.{lt-leb, le-leb}
use Rattle.ods_request.specs.declared.refusals.Refusal.TheVariants as refusal
use Rattle.ods_look.proofs.Rows.{holds, passes}
use Rattle.ods_look.proofs.FilesFound.{no_such_file, checked}
use Rattle.ods_amend.specs.Access.{access_checks}
use Rattle.ods_amend.proofs.AccessChecked.{owner_seen}
use Rattle.ods_amend.proofs.opening.open_to_give.Goals as goal

pub returns-in_default-clause-err : goal.returns-in_default-clause-err
returns-in_default-clause-err c = λ C shown.
    no_such_file c.args.disk.now.image.now c.args.disk.now.layout.now C shown c.args.file c.in_default.ensures.none (access_checks c.args.who c.args.file)

pub returns-then-file-le-RESERVED-clause-err : goal.returns-then-file-le-RESERVED-clause-err
returns-then-file-le-RESERVED-clause-err c = λ C shown.
    let is = c.in-Some.ensures.some.0 in
    checked shown c.args.file is (c.requires.chains c.args.file.number is.0) (access_checks c.args.who c.args.file) (Some refusal.Reserved)
    (holds _ (le-leb c.args.file.number 5 c.if-file-le-RESERVED.true))

pub returns-then-not-may_give-clause-err : goal.returns-then-not-may_give-clause-err
returns-then-not-may_give-clause-err c = λ C shown.
    let known = c.in-Some.ensures.some in
    let whole = c.requires.chains c.args.file.number known.0.0 in
    checked shown c.args.file known.0 whole (access_checks c.args.who c.args.file) (Some refusal.Denied)
    (passes _ (lt-leb c.args.file.number 5 c.if-file-le-RESERVED.false)
    (holds _ (owner_seen c.args.file known.1 whole c.args.who c.owner.result c.may_give.result false c.owner.ensures c.may_give.ensures c.if-not-may_give.true)))

pub returns-clause-ok : goal.returns-clause-ok
returns-clause-ok c =
    let known = c.in-Some.ensures.some in
    let whole = c.requires.chains c.args.file.number known.0.0 in (
      record {
        file = known.0;
        number = c.if-file-le-RESERVED.false;
        allowed = λ C shown. checked shown c.args.file known.0 whole (access_checks c.args.who c.args.file) None
            (passes _ (lt-leb c.args.file.number 5 c.if-file-le-RESERVED.false)
            (passes _ (owner_seen c.args.file known.1 whole c.args.who c.owner.result c.may_give.result true c.owner.ensures c.may_give.ensures c.if-not-may_give.false) refl));
      },
      known.1,
    )
