-- The bytes, and the reader's end.
use Rattle.std.proofs.Common.{rules}
use Rattle.fs_host.proofs.Comparing.{gives_all}
use Rattle.fs_host.proofs.comparing_bytes.gives_only.Goals as goal

pub returns : goal.returns
returns g c = gives_all _ _ _ _ _ (c.gives.ensures (search rules)) c.is_at_end.ensures
