use Rattle.std.specs.Option.{option_copied}
use Rattle.fs_reads.proofs.Likeness.{compared_seen}
use Rattle.fs_reads.proofs.comparing.difference_by_id.Goals as goal

pub returns : goal.returns
returns c =
    compared_seen c.args.volume.now c.args.one c.args.other.now c.args.file c.disk-disk.result c.disk-other_disk.result option_copied c.difference_of.result
    c.disk-disk.ensures.image c.disk-disk.ensures.layout c.disk-other_disk.ensures.image c.disk-other_disk.ensures.layout c.difference_of.ensures
