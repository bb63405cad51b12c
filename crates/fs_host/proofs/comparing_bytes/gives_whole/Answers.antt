-- The image, what stands behind it, and the reader's end.
use Rattle.std.proofs.Common.{rules}
use Rattle.fs_host.proofs.Comparing.{gives_both, gives_all}
use Rattle.fs_host.proofs.comparing_bytes.gives_whole.Goals as goal

pub returns : goal.returns
returns g c =
    gives_all _ _ _ _ _ (gives_both _ _ _ _ _ _ (c.gives_image.ensures (search rules)) (c.gives.ensures (search rules))) c.is_at_end.ensures
