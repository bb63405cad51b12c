use Rattle.std.proofs.Common.{◌≡◌, Bool, false, ap, sym, ◌∙◌, arith}
use Rattle.std.specs.Prelude.{◌==◌, not}
use Rattle.std.specs.Cmp.Lexicographic.{slice_cmp}
use Rattle.std.specs.FinMap.{len, len-empty}
use Rattle.std.specs.Ordering.{nat_cmp}
use Rattle.ods_base.specs.declared.file_id.FileId.{FileId}
use Rattle.ods_header.specs.Header.{is_directory_header}
use Rattle.ods_mount.specs.Faults.{contents_of}
use Rattle.ods_request.specs.Catalogue.{Body, names_of}
use Rattle.ods_state.specs.Contents.{body_of}
use Rattle.ods_look.proofs.BlockPlaces.{blocks_are_one}
use Rattle.ods_look.proofs.FileBodies.{plain_body}
use Rattle.ods_look.proofs.OpenDirectories.{open_body}
use Rattle.ods_change.proofs.delete_file.is_used_directory.Goals as goal

pub returns-then-not-is_directory : goal.returns-then-not-is_directory
returns-then-not-is_directory c = λ held is.
    let kind : is_directory_header c.args.number c.args.first.now ≡ false = sym c.is_directory.ensures ∙ c.if-not-is_directory.true in
    sym (ap (λ b. not (len (names_of b) == 0)) (plain_body c.args.number c.args.first.now (contents_of c.args.disk.now.image.now held) (omega (arith, c.requires.above)) kind)
    ∙ ap (λ k. not (k == 0)) (len-empty (slice_cmp nat_cmp) FileId))

pub returns : goal.returns
returns c = λ held is.
    let any : Body → Bool = λ b. not (len (names_of b) == 0) in
    let seen = c.of-directory.ensures in
    c.has_names.ensures ∙ sym (ap any (open_body seen))
    ∙ (λ i. any (body_of c.args.number (sym c.requires.header i) (contents_of c.args.disk.now.image.now (blocks_are_one seen.held is i))))
