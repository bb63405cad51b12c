-- A name that is cut.
use Rattle.std.specs.Prelude.{◌<◌, length, string_bytes}
use Rattle.std.proofs.Common.{arith, refl}
use Rattle.fs_host.specs.Names.{IsHidden}
use Rattle.fs_host.proofs.HiddenNames.{hidden_cut, made_ok}
use Rattle.fs_host.proofs.names.hidden_name.Goals as goal

pub returns : goal.returns
returns c =
    made_ok c.format-2.result string_bytes (IsHidden c.args.path.now c.args.word.now) _ c.format-2.ensures.ok
    (hidden_cut c.args.path.now c.args.word.now c.parts.result.0.now c.parts.result.1.now c.front_of-front.result.now _ c.number_of-number.result c.saturating_sub-2.result c.parts.ensures
    (omega (arith, c.saturating_sub.ensures, c.saturating_sub-room.ensures, c.if-name-room.false)) c.number_of-number.ensures (omega (arith, c.saturating_sub.ensures, c.saturating_sub-room.ensures, c.saturating_sub-2.ensures)) c.front_of-front.ensures refl)
