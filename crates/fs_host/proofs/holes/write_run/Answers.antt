-- What is passed over are zeros.
use Rattle.std.proofs.Common.{List, ℕ, refl, sym, subst}
use Rattle.std.specs.Io.KnownBytes.{Appends}
use Rattle.fs_host.proofs.ZeroPieces.{are_so_many}
use Rattle.fs_host.proofs.holes.write_run.Goals as goal

pub returns-then-begins_in_zeros-clause-bytes : goal.returns-then-begins_in_zeros-clause-bytes
returns-then-begins_in_zeros-clause-bytes g c =
    let count = c.run_len-count.ensures in
    let P : List ℕ → Type 0 = λ bytes. Appends (g.F.Write.contents c.args.file.now) (g.F.Write.contents c.pass_over.new.self) bytes in
    subst P (sym (are_so_many c.args.bytes.now c.run_len-count.result count.within (count.zeros refl))) c.in_ok-pass_over.ensures.bytes
