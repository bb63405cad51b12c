use Rattle.std.proofs.Common.{ℕ, List, string_bytes, subst}
use Rattle.std.proofs.lemmas.Option.{IfSome_then}
use Rattle.fs_reads.specs.Near.{IsNear}
use Rattle.fs_reads.proofs.near.path_elsewhere.Goals as goal

pub returns-in-Ok : goal.returns-in-Ok
returns-in-Ok c =
    let I = c.args.disk.now.image.now in
    let L = c.args.disk.now.layout.now in
    IfSome_then c.near_path.result c.near_path.ensures
    (λ near is. (c.in-Ok.closed.items, (c.in-Ok.ensures, subst (λ (closed : List ℕ). IsNear I L closed c.args.path.now (string_bytes near)) c.as_slice.ensures.value is)))
