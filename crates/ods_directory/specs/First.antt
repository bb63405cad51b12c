-- The first entry of a kind.
use Rattle.std.specs.Prelude.{◌≡◌, ℕ, ◌+◌, ◌*◌, ◌/◌, ◌<◌, Bool, true, false, not, ◌&&◌, nat_le, if◌then◌else◌, is_none, Option, Some, None, MatchOption}
use Rattle.ods_directory.specs.declared.first.Kind.{Kind}
use Rattle.ods_directory.specs.declared.first.Kind.TheVariants as kind
use Rattle.ods_directory.specs.declared.first.First.{First}
use Rattle.ods_directory.specs.declared.slot.Slot.{Slot}
use Rattle.ods_directory.specs.Entry.{Entry, is_used, is_good}

-- whether an entry has this kind
abbrev pub is_kind : Kind → Entry → Bool
is_kind kind.Empty e = not (is_used e)
is_kind kind.Bad e = is_used e && not (is_good e)
is_kind kind.Used e = is_used e

-- the first position so far, after entry k
abbrev pub first_after : First → ℕ → Entry → First
first_after s k e = if is_none s.position && is_kind s.kind e then record s { position = Some k } else s

-- this is the first position below m of an entry of this kind, or there is none
abbrev pub IsFirst : Kind → (ℕ → Entry) → ℕ → Option ℕ → Type 0
IsFirst kind entry m position =
    MatchOption position ((j : ℕ) → j < m → is_kind kind (entry j) ≡ false)
    (λ k. (k < m) × (is_kind kind (entry k) ≡ true) × ((j : ℕ) → j < k → is_kind kind (entry j) ≡ false))

-- the slot for a name, from the first empty entry before the end mark and the number of blocks
abbrev pub slot_of : Option ℕ → ℕ → ℕ → Slot
slot_of (Some k) mark count = record { at = 16 * k; mark = mark; grows = false }
slot_of None mark count = record { at = 16 * (mark / 16); mark = 16 * (mark / 16) + 16; grows = nat_le (512 * count) (16 * (mark / 16)) }
