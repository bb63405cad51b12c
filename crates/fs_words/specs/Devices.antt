-- The devices: how many blocks a volume on each has, and the order of the sectors of floppies.
use Rattle.std.specs.Prelude.{◌≡◌, ℕ, List, [], ◌∷◌, codes, if◌then◌else◌, Option, Some, None, find, option_map}
use Rattle.std.specs.Str.{str_eq_ignore_ascii_case}
use Rattle.ods_order.specs.Order.{block_count}
use Rattle.ods_order.specs.declared.order.Order.{Order}
use Rattle.ods_order.specs.declared.order.Order.TheVariants.{Rx01, Rx02}

abbrev pub devices : List (List ℕ × ℕ)
devices = (codes "RX01", 494) ∷ (codes "RX02", 988) ∷ (codes "RX50", 800) ∷ (codes "RK05", 4800) ∷ (codes "RL01", 10240) ∷ (codes "RL02", 20480) ∷ (codes "RK06", 27126) ∷ (codes "RK07", 53790) ∷ (codes "RM03", 131680) ∷ (codes "RP04", 171798) ∷ (codes "RP06", 340670) ∷ (codes "RM05", 500384) ∷ (codes "RA81", 891072) ∷ []

-- how many blocks a volume on the device of this name has; small letters count as capitals
abbrev pub device_size : List ℕ → Option ℕ
device_size name = option_map (λ (d : List ℕ × ℕ). d.1) (find (λ (d : List ℕ × ℕ). str_eq_ignore_ascii_case d.0 name) devices)

-- the order of the sectors in which emulators attach floppies of this device; of each other device they attach the blocks
abbrev pub device_order : List ℕ → Option Order
device_order name = if str_eq_ignore_ascii_case (codes "RX01") name then Some Rx01 else if str_eq_ignore_ascii_case (codes "RX02") name then Some Rx02 else None

-- A floppy of a device has as many blocks as its order.
abbrev pub FloppiesFit : Type 0
FloppiesFit = (name : List ℕ) (order : Order) → device_order name ≡ Some order → device_size name ≡ Some (block_count order)
