use Rattle.ods_header.specs.Header.{is_directory_header}
use Rattle.std.proofs.Common.{true, false, ap, sym, ◌∙◌, refl, Some}
use borrow.Author.Tests.{lt-leb, le-leb}
use Rattle.ods_request.specs.declared.refusals.Refusal.TheVariants as refusal
use Rattle.ods_request.specs.Faults.{first_of}
use Rattle.ods_look.specs.Opening.{file_shown, kind_checks}
use Rattle.ods_look.proofs.Rows.{holds, passes}
use Rattle.ods_look.proofs.FilesFound.{no_such_file, found_there, checked, kind_seen}
use Rattle.ods_look.proofs.opening.plain_header.Goals as goal

pub returns-in_default-clause-err : goal.returns-in_default-clause-err
returns-in_default-clause-err c = λ C rest shown. no_such_file c.args.disk.now.image.now c.args.disk.now.layout.now C shown c.args.file c.in_default.ensures.none _

pub returns-then-file-reserved-clause-err : goal.returns-then-file-reserved-clause-err
returns-then-file-reserved-clause-err c = λ C rest shown.
    let is = c.in-Some.ensures.some.0 in
    checked shown c.args.file is (c.requires.chains c.args.file.number is.0) (kind_checks c.args.file c.args.reserved rest) (Some refusal.Reserved)
    (holds _ (le-leb c.args.file.number c.args.reserved c.if-file-reserved.true))

pub returns-then-is_directory-clause-err : goal.returns-then-is_directory-clause-err
returns-then-is_directory-clause-err c = λ C rest shown.
    let known = c.in-Some.ensures.some in
    let whole = c.requires.chains c.args.file.number known.0.0 in
    checked shown c.args.file known.0 whole (kind_checks c.args.file c.args.reserved rest) (Some refusal.IsDirectory)
    (passes _ (lt-leb c.args.file.number c.args.reserved c.if-file-reserved.false)
    (holds _ (kind_seen c.args.file known.1 whole c.is_directory.result true c.is_directory.ensures c.if-is_directory.true)))

pub returns-clause-ok : goal.returns-clause-ok
returns-clause-ok c =
    let id = c.args.file in
    let known = c.in-Some.ensures.some in
    let whole = c.requires.chains id.number known.0.0 in (
      record {
        file = known.0;
        number = c.if-file-reserved.false;
        kind = ap (is_directory_header id.number) (sym known.1) ∙ sym c.is_directory.ensures ∙ c.if-is_directory.false;
        lbns = whole.0;
        held = whole.1;
        passes = λ C shown. record {
          there = found_there shown id known.0 whole;
          left = λ rest. checked shown id known.0 whole (kind_checks id c.args.reserved rest) (first_of (rest (file_shown c.args.disk.now.image.now c.args.disk.now.layout.now id whole.0)))
              (passes _ (lt-leb id.number c.args.reserved c.if-file-reserved.false)
              (passes _ (kind_seen id known.1 whole c.is_directory.result false c.is_directory.ensures c.if-is_directory.false) refl));
        };
      },
      known.1,
    )
