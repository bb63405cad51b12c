-- The order of the sectors of an image, as the words of a run specify it.
use Rattle.std.specs.Prelude.{◌≡◌, ◌≢◌, ℕ, List, Option, Some, None}
use Rattle.std.specs.Borrow.{Bor}
use Rattle.fs_host.specs.declared.layers.Layers.{Layers}
use Rattle.fs_host.specs.declared.layers.Layers.TheVariants as layers
use Rattle.fs_words.specs.declared.layering.Layering.{Layering}
use Rattle.fs_words.specs.declared.layering.Layering.TheVariants as layering
use Rattle.fs_reads.specs.declared.stop.Stop.{Stop}
use Rattle.fs_reads.specs.declared.stop.Stop.TheVariants as stop
use Rattle.fs_reads.specs.declared.stop.WordFault.TheVariants as word
use Rattle.ods_order.specs.Order.{block_count}
use Rattle.ods_order.specs.declared.order.Order.{Order}

-- how an image is read: in the specified order, otherwise in the detected one
abbrev pub layers_said : Option Layering → Layers
layers_said None = layers.Found
layers_said (Some layering.Plain) = layers.Plain
layers_said (Some (layering.Physical order)) = layers.Physical order

-- the order of a new floppy: the specified one, otherwise that of its device
abbrev pub new_order : Option Layering → Option Order → Option Order
new_order None device = device
new_order (Some layering.Plain) device = None
new_order (Some (layering.Physical order)) device = Some order

-- a floppy of this order has another number of blocks, and the end of the command states its own
abbrev pub HasOtherBlocks : Bor (List ℕ) → Option Order → ℕ → Stop → Type 0
HasOtherBlocks path None blocks s = ⊥
HasOtherBlocks path (Some order) blocks s = (blocks ≢ block_count order) × (s ≡ stop.Word path (word.OtherBlocks (block_count order)))
