use Rattle.std.proofs.Common.{◌≡◌, ◌≤◌, ap, sym, ◌∙◌, subst, length, List, ℕ, Some, arith}
use Rattle.std.specs.Option.{IfSome}
use Rattle.std.proofs.lemmas.List.{length-map}
use Rattle.ods_base.specs.Image.{block_at}
use Rattle.ods_mount.specs.Faults.{contents_of}
use Rattle.ods_space.specs.Chain.{chain_blocks}
use Rattle.ods_state.specs.Noted.{AreNamesKnown}
use Rattle.ods_look.specs.Blocks.{AreInOrder, blocks_in_order}
use Rattle.ods_look.proofs.BlockPlaces.{in_order, few_blocks, blocks_are_one}
use Rattle.ods_look.proofs.NotedNames.{noted_blocks, noted_tags}
use Rattle.ods_look.proofs.blocks.DirectoryBlocks.noted.Goals as goal
use Rattle.ods_look.proofs.blocks.DirectoryBlocks.noted.Goals.{After-len-2}

known : (c : After-len-2) → AreNamesKnown c.args.disk.now.image.now c.args.disk.now.layout.now c.in-Some.known.now
known c = subst (λ o. IfSome o (λ k. AreNamesKnown c.args.disk.now.image.now c.args.disk.now.layout.now k.now)) c.in-Some.is c.requires.names

same : (c : After-len-2) → AreInOrder c.args.disk.now.image.now c.args.disk.now.layout.now c.args.number c.in-Some.known.now
same c = (
  noted_blocks c.len.ensures.image c.requires.sound c.requires.file c.if-known-number.false (known c),
  noted_tags c.len.ensures.image c.requires.sound c.requires.file c.if-known-number.false (known c),
)

counted : (c : After-len-2) → c.len-2.result ≡ length (blocks_in_order c.args.disk.now.image.now c.args.disk.now.layout.now c.args.number)
counted c = c.len-2.ensures ∙ c.in-Some.known.now.blocks.ok.0 ∙ ap length (same c).0

pub overflow_cast-result : goal.overflow_cast-result
overflow_cast-result c =
    let few = few_blocks c.len.ensures.image (in_order c.len.ensures.image c.requires.sound c.requires.file) in
    omega (arith, few, counted c)

pub invariant_of-result : goal.invariant_of-result
invariant_of-result c =
    let held = in_order c.len.ensures.image c.requires.sound c.requires.file in (
      c.requires.sound,
      held,
      counted c,
      few_blocks c.len.ensures.image held,
      c.requires.header,
      c.requires.other,
      subst (λ o. IfSome o (λ k. AreInOrder c.args.disk.now.image.now c.args.disk.now.layout.now c.args.number k.now)) (sym c.in-Some.is) (same c),
    )

pub returns-clause-contents : goal.returns-clause-contents
returns-clause-contents c = λ held is. ap (contents_of c.args.disk.now.image.now) (blocks_are_one (in_order c.len.ensures.image c.requires.sound c.requires.file) is)

pub returns-clause-few : goal.returns-clause-few
returns-clause-few c =
    let held = in_order c.len.ensures.image c.requires.sound c.requires.file in
    subst (λ k. k ≤ chain_blocks) (sym (length-map (blocks_in_order c.args.disk.now.image.now c.args.disk.now.layout.now c.args.number) (block_at c.args.disk.now.image.now))) (few_blocks c.len.ensures.image held)
