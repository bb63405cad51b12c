use Rattle.std.proofs.Common.{true, false, ◌∙◌, refl, None, Some}
use borrow.Author.Tests.{lt-leb, le-leb}
use Rattle.ods_request.specs.declared.refusals.Refusal.TheVariants as refusal
use Rattle.ods_request.specs.declared.rights.Right.TheVariants as right
use Rattle.ods_request.proofs.FaultTable.{fault_delete}
use Rattle.ods_look.proofs.Rows.{holds, passes}
use Rattle.ods_look.proofs.FilesFound.{no_such_file, checked, right_seen}
use Rattle.ods_change.proofs.Deleting.{delete_checks, names_seen}
use Rattle.ods_change.proofs.delete_file.open_to_delete.Goals as goal

pub returns-in_default-clause-err : goal.returns-in_default-clause-err
returns-in_default-clause-err c = λ C shown.
    fault_delete C c.args.who c.args.file ∙ no_such_file c.args.disk.now.image.now c.args.disk.now.layout.now C shown c.args.file c.in_default.ensures.none (delete_checks c.args.file c.args.who)

pub returns-then-file-le5-clause-err : goal.returns-then-file-le5-clause-err
returns-then-file-le5-clause-err c = λ C shown.
    let known = c.in-Some.ensures.some in
    fault_delete C c.args.who c.args.file
    ∙ checked shown c.args.file known.0 (c.requires.chains c.args.file.number known.0.0) (delete_checks c.args.file c.args.who) (Some refusal.Reserved)
    (holds _ (le-leb c.args.file.number 5 c.if-file-le5.true))

pub returns-then-not-is_granted-clause-err : goal.returns-then-not-is_granted-clause-err
returns-then-not-is_granted-clause-err c = λ C shown.
    let known = c.in-Some.ensures.some in
    let whole = c.requires.chains c.args.file.number known.0.0 in
    fault_delete C c.args.who c.args.file
    ∙ checked shown c.args.file known.0 whole (delete_checks c.args.file c.args.who) (Some refusal.Denied)
    (passes _ (lt-leb c.args.file.number 5 c.if-file-le5.false)
    (holds _ (right_seen c.args.file known.1 whole c.args.who right.Delete c.is_granted.result false c.is_granted.ensures c.if-not-is_granted.true)))

pub returns-then-is_used_directory-clause-err : goal.returns-then-is_used_directory-clause-err
returns-then-is_used_directory-clause-err c = λ C shown.
    let known = c.in-Some.ensures.some in
    let whole = c.requires.chains c.args.file.number known.0.0 in
    fault_delete C c.args.who c.args.file
    ∙ checked shown c.args.file known.0 whole (delete_checks c.args.file c.args.who) (Some refusal.NotEmpty)
    (passes _ (lt-leb c.args.file.number 5 c.if-file-le5.false)
    (passes _ (right_seen c.args.file known.1 whole c.args.who right.Delete c.is_granted.result true c.is_granted.ensures c.if-not-is_granted.false)
    (holds _ (names_seen c.args.file known.1 whole c.is_used_directory.result true (c.is_used_directory.ensures whole.0 whole.1) c.if-is_used_directory.true))))

pub returns-clause-ok : goal.returns-clause-ok
returns-clause-ok c =
    let known = c.in-Some.ensures.some in
    let whole = c.requires.chains c.args.file.number known.0.0 in (
      known.0,
      c.if-file-le5.false,
      known.1,
      λ C shown.
          fault_delete C c.args.who c.args.file
          ∙ checked shown c.args.file known.0 whole (delete_checks c.args.file c.args.who) None
          (passes _ (lt-leb c.args.file.number 5 c.if-file-le5.false)
          (passes _ (right_seen c.args.file known.1 whole c.args.who right.Delete c.is_granted.result true c.is_granted.ensures c.if-not-is_granted.false)
          (passes _ (names_seen c.args.file known.1 whole c.is_used_directory.result false (c.is_used_directory.ensures whole.0 whole.1) c.if-is_used_directory.false) refl))),
    )
