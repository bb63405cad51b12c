use Rattle.std.proofs.Common.{refl, arith, subst}
use Rattle.ods_base.specs.Block.{IsBlock}
use Rattle.ods_directory.proofs.Picked.{finds, finds_none}
use Rattle.ods_directory.proofs.Removed.{entry_there, used, removed_stays, removed_names}
use Rattle.ods_directory.proofs.removal.remove.Goals as goal

pub block-requires : goal.block-requires
block-requires g c = omega (arith, c.in-Some.ensures.found.0.below)

pub returns-in-Some : goal.returns-in-Some
returns-in-Some g c =
    let blocks = g.B.DirBlocks.blocks c.args.blocks.now in
    let mark = c.args.mark in
    let name = c.args.name.now in
    let found = c.in-Some.found in
    let here = c.in-Some.ensures.found in
    let whole = subst IsBlock c.block.ensures.value c.block.ensures.block in
    record {
      found = finds blocks mark name c.args.pick found c.requires.directory here;
      position = (found.position, here.0.below, refl, entry_there blocks mark name found c.requires.directory c.requires.mark here.0 whole, used blocks mark name found c.requires.directory c.requires.mark here.0 whole);
      names = removed_names blocks mark name found c.requires.directory c.requires.mark here.0 whole;
      stays = removed_stays blocks mark name found c.requires.directory c.requires.mark here.0 whole;
      err = tt;
    }

pub returns-in-None : goal.returns-in-None
returns-in-None g c = record { found = tt; position = tt; names = tt; stays = tt; err = finds_none (g.B.DirBlocks.blocks c.args.blocks.now) c.args.mark c.args.name.now c.args.pick c.in-None.ensures.found }
