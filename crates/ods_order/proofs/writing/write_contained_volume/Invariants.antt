use Rattle.std.proofs.Common.{◌++◌}
use Rattle.ods_base.specs.Image.{image_bytes}
use Rattle.ods_order.proofs.Laying.{IsPartly}
use Rattle.ods_order.proofs.writing.write_contained_volume.Given as goal

-- the first n sectors are in their places
abbrev pub invariant-loop-n : goal.invariant-loop-n
invariant-loop-n l = IsPartly l.order l.initial.container (image_bytes l.image ++ l.behind) l.container l.n
