-- The order that is said is taken.
use Rattle.std.specs.Prelude.{Some}
use Rattle.std.proofs.Common.{refl, sym, subst}
use Rattle.fs_host.specs.Layers.{IsTaken}
use Rattle.fs_host.proofs.Ordered.{ordered_read}
use Rattle.fs_host.proofs.layers.read_as.Goals as goal

pub returns-in_ok-bytes-in-Physical-clause-ok : goal.returns-in_ok-bytes-in-Physical-clause-ok
returns-in_ok-bytes-in-Physical-clause-ok g c =
    let bytes = c.in_ok-bytes-in-Physical.bytes.items in
    let order = c.in-Physical.order in
    ordered_read c.args.layers c.args.told c.args.given (Some order) bytes c.read_bytes.result (subst (λ l. IsTaken l c.args.told bytes (Some order)) (sym c.in-Physical.is) refl) c.read_bytes.ensures.ok
