-- Sectors on their tracks: the interleave and the skew, by arithmetic.
use Rattle.std.proofs.Common.{arith, refl}
use Rattle.ods_order.specs.Order.{floppy_slot, rx50_slot}
use Rattle.ods_order.specs.Laws.{IsInterleaved}

-- those of an RX01 or RX02
pub floppy_interleaved : IsInterleaved 1976 26 77 6 floppy_slot
floppy_interleaved = record {
  start = refl;
  track = λ n low on. omega arith;
  every_second = λ n low on apart. omega arith;
  middle = λ n low half. omega arith;
  next_track = λ n low. omega arith;
  skew = λ n low. omega arith;
}

-- those of an RX50
pub rx50_interleaved : IsInterleaved 800 10 80 2 rx50_slot
rx50_interleaved = record {
  start = refl;
  track = λ n low on. omega arith;
  every_second = λ n low on apart. omega arith;
  middle = λ n low half. omega arith;
  next_track = λ n low. omega arith;
  skew = λ n low. omega arith;
}
