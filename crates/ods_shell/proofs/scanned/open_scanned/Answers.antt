use Rattle.std.proofs.Common.{◌∙◌, ap, subst}
use Rattle.ods_header.specs.Header.{attributes_of}
use Rattle.ods_files.specs.Body.{body_at}
use Rattle.ods_shell.specs.Scanned.{IsKeptPart, IsMissing}
use Rattle.ods_shell.proofs.Bounds.{scanned_few}
use Rattle.ods_shell.proofs.scanned.open_scanned.Goals as goal

pub of_blocks-body-requires : goal.of_blocks-body-requires
of_blocks-body-requires c = scanned_few c.args.image.now c.args.first c.args.file c.len.ensures.image c.requires

pub returns : goal.returns
returns c =
    let I = c.args.image.now in
    let lbns = c.args.file.blocks.items in
    let missing = c.missing_of-missing.result in
    record {
      missing = subst (λ xs. IsMissing I xs c.args.file.is_cut missing) c.deref.ensures.value c.missing_of-missing.ensures;
      kept = subst (λ body. IsKeptPart c.args.text c.args.partial body missing c.in_ok-contents.contents)
          (c.of_blocks-body.ensures ∙ ap (body_at I lbns) (c.attributes.ensures ∙ ap attributes_of c.block-header.ensures.value))
          c.in_ok-contents.ensures;
    }
