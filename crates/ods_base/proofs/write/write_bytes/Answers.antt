use Rattle.std.proofs.Common.{ℕ, ◌+◌, ◌-◌, ◌≤◌, List, subst, arith, length, take, drop, length-take, length-drop}
use Rattle.std.specs.Io.KnownBytes.{Appends}
use Rattle.std.proofs.KnownBytes.{Appends-trans}
use Rattle.ods_base.proofs.Pieces.{take_part}
use Rattle.ods_base.proofs.write.write_bytes.Goals as goal

pub loop-at-preserved : goal.loop-at-preserved
loop-at-preserved g c =
    let xs : List ℕ = c.args.bytes.now in
    let at : ℕ = c.loop-at.at in
    let n : ℕ = c.in-Ok.count in
    let taken : n ≤ length (take (length xs - at) (drop at xs)) = c.in-Ok.ensures.bound in
    let more : at + n ≤ length xs = omega (arith, simp (length-take, length-drop) at taken) in
    let contents = g.W.Write.contents in
    let P : List ℕ → Type 0 = λ bytes. Appends (contents c.args.writer.now) (contents c.write.new.self) bytes in
    record {
      within = more;
      sent = subst P (take_part at n xs more) (Appends-trans (contents c.args.writer.now) (contents c.loop-at.writer) (contents c.write.new.self) _ _ c.loop-at.invariant.sent c.in-Ok.ensures.bytes);
    }
