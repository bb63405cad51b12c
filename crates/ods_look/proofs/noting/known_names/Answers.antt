use Rattle.std.proofs.Common.{◌≡◌, ◌≢◌, ◌<◌, ℕ, List, length, true, ap, sym, ◌∙◌, subst, arith}
use Rattle.ods_header.specs.Header.{is_directory_header}
use Rattle.ods_space.specs.Files.{HasBlocks}
use Rattle.ods_space.proofs.Surveyed.{same_blocks}
use Rattle.ods_look.specs.Blocks.{AreTaggedBlocks}
use Rattle.ods_look.proofs.NotedNames.{directory_is_high}
use Rattle.ods_look.proofs.noting.known_names.Goals as goal

pub count_whole-count-requires-clause-whole : goal.count_whole-count-requires-clause-whole
count_whole-count-requires-clause-whole c = c.requires.chains c.args.number c.in-Some.ensures.some.0

pub returns : goal.returns
returns c =
    let I = c.args.disk.now.image.now in
    let L = c.args.disk.now.layout.now in
    let kind : is_directory_header c.args.number c.in-Some.header.now ≡ true = sym c.is_directory.ensures ∙ c.if-not-is_directory.false in
    let held = c.in-Ok.ensures in
    let counted = c.count_whole-count.ensures in
    let many = c.if-count-lt-FEWEST.false in
    let long : length counted.0 ≡ length c.in-Ok.blocks.items = ap length (same_blocks I L c.args.number counted.0 held.0 counted.1 held.1 ∙ sym held.2) in
    record {
      index = (directory_is_high c.args.number c.in-Some.header.now kind).0;
      bitmap = (directory_is_high c.args.number c.in-Some.header.now kind).1;
      some = omega (arith, many, counted.2, long);
      held = λ no. no (subst (HasBlocks I L c.args.number) (sym held.2) held.1);
      tagged = subst (λ l. AreTaggedBlocks I l c.in-Ok.tags.items) (sym held.2) held.3;
    }
