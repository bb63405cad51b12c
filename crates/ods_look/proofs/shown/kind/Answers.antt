use Rattle.ods_header.specs.Header.{is_directory_header}
use Rattle.std.proofs.Common.{◌≡◌, false, ap, sym, ◌∙◌, length, arith}
use Rattle.std.proofs.lemmas.List.{length-map}
use borrow.Author.Tests.{le-leb}
use Rattle.ods_base.specs.Image.{block_at}
use Rattle.ods_mount.specs.Faults.{contents_of}
use Rattle.ods_request.specs.declared.answers.Kind.TheVariants as kind
use Rattle.ods_request.specs.Steps.{kind_of}
use Rattle.ods_state.specs.Contents.{body_of}
use Rattle.ods_look.proofs.BlockPlaces.{blocks_are_one}
use Rattle.ods_state.proofs.Shown.{system_body}
use Rattle.ods_look.proofs.FileBodies.{plain_body}
use Rattle.ods_look.proofs.OpenDirectories.{open_body}
use Rattle.ods_look.proofs.StatAnswers.{few_names}
use Rattle.ods_look.proofs.shown.kind.Goals as goal

pub returns-then-number-le2 : goal.returns-then-number-le2
returns-then-number-le2 c = λ held is. sym (ap kind_of (system_body c.args.number c.args.block.now (contents_of c.args.disk.now.image.now held) (le-leb c.args.number 2 (omega arith))))

pub overflow_cast-result : goal.overflow_cast-result
overflow_cast-result c =
    let opened = c.of-directory.result in
    let is = c.of-directory.ensures in
    omega (arith, few_names opened.blocks opened.mark is.directory is.inside is.few, c.name_count.ensures)

pub returns-then-is_directory : goal.returns-then-is_directory
returns-then-is_directory c = λ held holds.
    let I = c.args.disk.now.image.now in
    let n = c.args.number in
    let is = c.of-directory.ensures in
    ap kind.Directory c.name_count.ensures
    ∙ sym (ap kind_of (open_body is))
    ∙ (λ i. kind_of (body_of n (sym c.requires.header i) (contents_of I (blocks_are_one is.held holds i))))

pub count_whole-requires-clause-whole : goal.count_whole-requires-clause-whole
count_whole-requires-clause-whole c = c.requires.sound.chains c.args.number c.requires.file

pub returns : goal.returns
returns c = λ held is.
    let plain : is_directory_header c.args.number c.args.block.now ≡ false = sym c.is_directory.ensures ∙ c.if-is_directory.false in
    let count : c.count_whole.result ≡ length (contents_of c.args.disk.now.image.now held) =
    c.count_whole.ensures.2 ∙ ap length (blocks_are_one c.count_whole.ensures.1 is)
    ∙ sym (length-map held (block_at c.args.disk.now.image.now)) in
    (λ i. kind.Plain (count i) (c.attributes.ensures i)) ∙ sym (ap kind_of (plain_body c.args.number c.args.block.now (contents_of c.args.disk.now.image.now held) (omega arith) plain))
