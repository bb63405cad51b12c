-- An entry of a listing, without the addresses of its texts in memory.
use Rattle.ods_paths.specs.declared.order.Shown.{Shown}
use Rattle.ods_paths.specs.Order.{Line}

abbrev pub line : Shown → Line
line s = record { name = s.name.now; kind = s.kind.now; version = s.version }
