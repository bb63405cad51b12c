use Rattle.std.proofs.Common.{◌≡◌, ◌+◌, arith}
use Rattle.ods_init.specs.New.{IsVolumeOf}
use Rattle.ods_init.proofs.Building.{all_stand, none_stands, one_more_stands}
use Rattle.ods_init.proofs.SoundNew.{volume_is_sound}
use Rattle.ods_init.proofs.image.make_volume.Goals as goal

pub loop-lbn-init : goal.loop-lbn-init
loop-lbn-init c = none_stands c.args.blueprint.now _ c.in_ok-image.ensures

pub loop-lbn-preserved : goal.loop-lbn-preserved
loop-lbn-preserved c = one_more_stands c.args.blueprint.now c.loop-lbn.lbn c.loop-lbn.image c.set_block.new.self c.block_at.result c.set_block.ensures (omega (arith, c.loop-lbn-test.true, c.requires.inside)) c.block_at.ensures c.loop-lbn.invariant

pub returns : goal.returns
returns c =
    let last : c.loop-lbn.lbn ≡ c.args.blueprint.now.places.master + 1 = omega (arith, c.loop-lbn-test.false, c.loop-lbn.auto) in
    let whole : IsVolumeOf c.args.blueprint.now c.loop-lbn.image = all_stand c.args.blueprint.now c.loop-lbn.lbn c.loop-lbn.image c.requires last c.len.ensures.image c.loop-lbn.invariant in
    record { sound = volume_is_sound c.args.blueprint.now c.loop-lbn.image c.requires whole; new = whole }
