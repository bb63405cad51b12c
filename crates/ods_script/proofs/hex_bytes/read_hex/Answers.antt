use Rattle.std.proofs.Common.{◌≡◌, ℕ, ◌/◌, length, take, replicate, arith}
use Rattle.std.proofs.lemmas.List.{length-take, length-replicate}
use Rattle.ods_script.proofs.HexTexts.{none_without_digits, none_too_long, the_hex}
use Rattle.ods_script.proofs.hex_bytes.read_hex.Goals as goal

pub returns-then-count-eq0 : goal.returns-then-count-eq0
returns-then-count-eq0 g c = none_without_digits g.row.N c.args.text.now (omega arith)

pub returns-then-count : goal.returns-then-count
returns-then-count g c = none_too_long g.row.N c.args.text.now (omega arith)

pub returns-in-Ok : goal.returns-in-Ok
returns-in-Ok g c =
    let size : length (take (length c.args.text.now / 2) (replicate {A = ℕ} g.row.N 0)) ≡ length c.args.text.now / 2 = simp (length-take, length-replicate) (omega arith) in
    the_hex g.row.N c.args.text.now (take (length c.args.text.now / 2) (replicate g.row.N 0)) c.decode_to_slice.new.out c.decode_to_slice.result size (omega arith) (omega arith) c.decode_to_slice.ensures.value c.in-Ok.is
