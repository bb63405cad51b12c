use Rattle.std.proofs.Common.{◌≡◌, true, ap, sym, ◌∙◌, subst, length}
use Rattle.std.proofs.lemmas.List.{length-map}
use Rattle.ods_base.specs.Image.{block_at}
use Rattle.ods_header.specs.Header.{attributes_of, is_directory_header}
use Rattle.ods_space.specs.Layout.{header_at}
use Rattle.ods_directory.specs.Mark.{mark_in}
use Rattle.ods_directory.specs.Names.{IsDirectory}
use Rattle.ods_mount.specs.Faults.{contents_of, mark_at}
use Rattle.ods_look.proofs.OpenDirectories.{mark_inside}
use Rattle.ods_look.proofs.opening.OpenDirectory.noted.Goals as goal

pub returns : goal.returns
returns c =
    let I = c.args.disk.now.image.now in
    let L = c.args.disk.now.layout.now in
    let n = c.args.number in
    let whole = c.requires.sound.chains n c.requires.file in
    let kind : is_directory_header n (header_at I L n) ≡ true = ap (is_directory_header n) (sym c.requires.header) ∙ c.requires.directory in
    let contents : c.noted-blocks.result ≡ contents_of I whole.0 = c.noted-blocks.ensures.contents whole.0 whole.1 in
    let cut : c.mark_of-mark.result ≡ mark_in (attributes_of (header_at I L n)) (length c.noted-blocks.result) =
    c.mark_of-mark.ensures ∙ (λ i. mark_in (c.attributes.ensures i) (c.count.ensures i)) ∙ ap (λ h. mark_in (attributes_of h) (length c.noted-blocks.result)) c.requires.header in
    let mark : c.mark_of-mark.result ≡ mark_at I L n whole.0 =
    cut ∙ ap (mark_in (attributes_of (header_at I L n))) (ap length contents ∙ length-map whole.0 (block_at I)) in
    record {
      kind = kind;
      header = c.requires.header;
      lbns = whole.0;
      held = whole.1;
      contents = contents;
      few = c.noted-blocks.ensures.few;
      mark = mark;
      inside = mark_inside (attributes_of (header_at I L n)) (length c.noted-blocks.result) c.mark_of-mark.result cut;
      directory = subst (λ m. IsDirectory c.noted-blocks.result m) (sym mark) (subst (λ bs. IsDirectory bs (mark_at I L n whole.0)) (sym contents)
          (c.requires.sound.directories n whole.0 (c.requires.file, kind) whole.1));
    }
