-- A floppy of a device has as many blocks as its order.
use Rattle.std.proofs.Common.{◌≡◌, refl, subst, ℕ, Bool, true, false, List, codes, Option, Some, None, if◌then◌else◌}
use Rattle.std.specs.Prelude.{option_map}
use Rattle.std.specs.Str.{str_eq_ignore_ascii_case}
use Rattle.ods_order.specs.Order.{block_count}
use Rattle.ods_order.specs.declared.order.Order.{Order}
use Rattle.ods_order.specs.declared.order.Order.TheVariants.{Rx01, Rx02}
use Rattle.fs_words.specs.Devices.{FloppiesFit}

-- an order that is known, by what it is
abbrev known : (o : Order) → Option Order → Type 0
known o None = ⊥
known o (Some x) = Some (block_count o) ≡ Some (block_count x)

-- the same for the answers to both names, whatever the rest of the table says
fit_by : (a b : Bool) (rest : Option (List ℕ × ℕ)) (order : Order) → (if a then Some Rx01 else if b then Some Rx02 else None) ≡ Some order
    → option_map (λ (d : List ℕ × ℕ). d.1) (if a then Some (codes "RX01", 494) else if b then Some (codes "RX02", 988) else rest) ≡ Some (block_count order)
fit_by true b rest order e = subst (known Rx01) e refl
fit_by false true rest order e = subst (known Rx02) e refl
fit_by false false rest order e = absurd (cc e)

pub fit : FloppiesFit
fit name order e = fit_by (str_eq_ignore_ascii_case (codes "RX01") name) (str_eq_ignore_ascii_case (codes "RX02") name) _ order e
