use Rattle.std.proofs.Common.{◌≡◌, ◌∙◌, ◌<◌, ◌≤◌, subst, sym, length, arith}
use Rattle.std.proofs.lemmas.Bool.{ltb-false}
use Rattle.std.proofs.lemmas.Option.{get_or_from_slice_get, slice_get_within}
use Rattle.ods_shell.specs.Named.{IsEntryOf}
use Rattle.ods_shell.proofs.found.add_line.Goals as goal

pub returns : goal.returns
returns c =
    λ directory at.
    let same : c.in-Some.directory.now ≡ directory = c.in-Some.ensures.lookup.1 ∙ get_or_from_slice_get c.args.directories.now c.args.line.now.directory directory c.in-Some.directory.now at in (
      c.in_ok-file_at.field-0,
      c.in_ok-push.ensures.items,
      subst (λ d. IsEntryOf c.args.disk.now.image.now c.args.disk.now.layout.now d c.args.line.now.entry c.in_ok-file_at.field-0) same c.in_ok-file_at.ensures,
    )

pub returns-in_default : goal.returns-in_default
returns-in_default c =
    λ directory there.
    let past : length c.args.directories.now ≤ c.args.line.now.directory = ltb-false c.args.line.now.directory (length c.args.directories.now) (sym c.in_default.ensures.lookup.0) in
    let within : c.args.line.now.directory < length c.args.directories.now = slice_get_within c.args.directories.now c.args.line.now.directory directory there in
    absurd (omega (arith, past, within))
