-- What was read of a file from its start is all of it.
use Rattle.fs_host.specs.Found.{AreBlocks}
use Rattle.fs_host.proofs.Finding.{IsFound, known_read, found_image, found_none}
use Rattle.fs_host.proofs.containers.volume_in.Goals as goal

pub returns-in-Ok-clause-known : goal.returns-in-Ok-clause-known
returns-in-Ok-clause-known g c = λ whole start.
    let file = c.end_of.new.file in
    let read = c.in-Ok.ensures in
    known_read (λ bytes. AreBlocks bytes → IsFound bytes c.args.given c.contained_in.result) (g.F.Seek.stream_position file) (g.F.Seek.stream_bytes c.args.file.now) (g.F.Seek.stream_bytes file)
    (g.F.Read.remaining file) (g.F.Read.remaining c.read_from.new.reader) read.0 (c.in_ok-end_of.ensures.start start) c.in_ok-end_of.ensures.bytes (whole file) read.1
    (λ all rest e here blocks.
    found_image c.contained_in.result c.args.given read.0 _ rest all (g.F.Read.remaining c.read_from.new.reader) e here read.2.2 read.2.1 c.contained_in.ensures.ok c.contained_in.ensures.err)

pub returns-in-Err-clause-known : goal.returns-in-Err-clause-known
returns-in-Err-clause-known g c = λ whole start.
    let file = c.end_of.new.file in
    let read = c.in-Err.ensures in
    known_read (λ bytes. AreBlocks bytes → IsFound bytes c.args.given c.volume_in_no_image.result) (g.F.Seek.stream_position file) (g.F.Seek.stream_bytes c.args.file.now) (g.F.Seek.stream_bytes file)
    (g.F.Read.remaining file) (g.F.Read.remaining c.read_from.new.reader) read.0 (c.in_ok-end_of.ensures.start start) c.in_ok-end_of.ensures.bytes (whole file) read.1
    (λ all rest e here blocks.
    found_none c.in-Err.fault c.volume_in_no_image.result c.args.given read.0 rest all (g.F.Read.remaining c.read_from.new.reader) e here read.2 c.volume_in_no_image.ensures.failed blocks)
