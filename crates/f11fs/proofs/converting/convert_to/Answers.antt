use Rattle.std.proofs.Common.{rules, ◌≡◌, [], false, if◌then◌else◌}
use Rattle.f11fs.specs.Stores.{HasEmptyTrack}
use Rattle.f11fs.proofs.Carried.{converted, left_out, looked, with_them, without}
use Rattle.f11fs.proofs.converting.convert_to.Goals as goal
use Rattle.f11fs.proofs.converting.convert_to.Goals.{else-not-alone-via-then-not-alone+else-has_track, else-not-alone-via-else-not-alone, then-alone, else-alone}

pub returns-in-Ok-clause-made : goal.returns-in-Ok-clause-made
returns-in-Ok-clause-made g c =
    let l = c.in_ok-read.read in
    let track : c.args.alone ≡ false → HasEmptyTrack l.floppy = elim c.else-not-alone.branch [
      | else-not-alone-via-then-not-alone+else-has_track w ↦ λ _. looked w.has_track.result (HasEmptyTrack l.floppy) w.has_track.ensures w.if-has_track.false
      | else-not-alone-via-else-not-alone w ↦ left_out c.args.alone (HasEmptyTrack l.floppy) w.if-not-alone.false
    ] in
    let behind : c.if-alone.behind.now ≡ (if c.args.alone then [] else l.contained.behind.items) = elim c.if-alone.branch [
      | then-alone w ↦ without c.args.alone c.if-alone.behind.now l.contained.behind.items w.if-alone.true (search rules)
      | else-alone w ↦ with_them c.args.alone c.if-alone.behind.now l.contained.behind.items w.if-alone.false (search rules)
    ] in
    converted c.args.alone c.in_ok-lacks_blocks.field-0 l c.of.result (g.H.Images.has c.args.images.now c.args.words.now.image.now) (g.H.Images.made c.write.new.self c.args.out.now c.args.order) c.if-alone.behind.now
    c.in_ok-read.ensures.ok c.of.ensures c.in_ok-lacks_blocks.ensures c.if-branch.false track behind c.in-Ok.ensures.ok
