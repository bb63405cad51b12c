use Rattle.std.proofs.Common.{refl}
use Rattle.ods_shell.proofs.Named.{alone}
use Rattle.ods_shell.proofs.found.named_by_id.Goals as goal

pub returns : goal.returns
returns c = (_, alone _ _ _ c.in_ok-push.ensures.items c.new-all.ensures.items, refl, refl)
