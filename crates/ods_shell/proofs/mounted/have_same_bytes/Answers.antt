use Rattle.std.proofs.Common.{sym}
use Rattle.ods_shell.proofs.mounted.have_same_bytes.Goals as goal

pub returns-clause-ok : goal.returns-clause-ok
returns-clause-ok c =
    rw (sym c.disk-disk.ensures.image, sym c.disk-disk.ensures.layout, sym c.disk-other_disk.ensures.image, sym c.disk-other_disk.ensures.layout) c.have_same_bytes.ensures.ok

pub returns-clause-err : goal.returns-clause-err
returns-clause-err c =
    rw (sym c.disk-disk.ensures.image, sym c.disk-disk.ensures.layout, sym c.disk-other_disk.ensures.image, sym c.disk-other_disk.ensures.layout) c.have_same_bytes.ensures.err
