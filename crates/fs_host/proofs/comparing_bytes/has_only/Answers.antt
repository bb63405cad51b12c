-- What is known of a file at its start is known of the file.
use Rattle.fs_host.proofs.Comparing.{from_start}
use Rattle.fs_host.proofs.comparing_bytes.has_only.Goals as goal

pub returns-in-Ok : goal.returns-in-Ok
returns-in-Ok g c = λ whole known.
    from_start _ _ _ _ _ _ _ known c.in-Ok.ensures.moves c.in-Ok.ensures.bytes (whole c.seek.new.self) c.gives_only.ensures
