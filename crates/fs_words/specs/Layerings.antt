-- The names of the orders of sectors.
use Rattle.std.specs.Prelude.{◌≡◌, ℕ, List, codes}
use Rattle.ods_order.specs.Order.{order_name}
use Rattle.fs_words.specs.declared.layering.Layering.{Layering}
use Rattle.fs_words.specs.declared.layering.Layering.TheVariants.{Plain, Physical}

-- the text names the order: consecutive blocks are plain, and the surface of a floppy has the name of the floppy
abbrev pub IsLayering : List ℕ → Layering → Type 0
IsLayering text Plain = text ≡ codes "plain"
IsLayering text (Physical order) = text ≡ order_name order
