-- The rights that a protection word grants to users.
use Rattle.std.specs.Prelude.{ℕ, ◌+◌, Bool, true, ◌&&◌, ◌==◌, nat_le, List, [], ◌∷◌}
use Rattle.std.specs.List.{list_any}
use Rattle.std.specs.Int.{bit_at}
use Rattle.ods_base.specs.declared.file_id.Uic.{Uic}
use Rattle.ods_request.specs.declared.rights.Right.{Right}
use Rattle.ods_request.specs.declared.rights.Right.TheVariants.{Read, Write, Extend, Delete}

-- the classes of users
pub data Class : Type 0 where
  System : Class
  Owner : Class
  Group : Class
  World : Class

-- all classes, in the order of their bits in a protection word
abbrev pub classes : List Class
classes = System ∷ Owner ∷ Group ∷ World ∷ []

-- A system user's group is at most 10 octal. Everyone is in the world.
abbrev pub is_in_class : Class → Uic → Uic → Bool
is_in_class System who owner = nat_le who.group 8
is_in_class Owner who owner = (who.group == owner.group) && (who.member == owner.member)
is_in_class Group who owner = who.group == owner.group
is_in_class World who owner = true

-- the first of the four bits of a class in a protection word
abbrev pub first_bit : Class → ℕ
first_bit System = 0
first_bit Owner = 4
first_bit Group = 8
first_bit World = 12

-- the index of a right in the four bits
abbrev pub right_bit : Right → ℕ
right_bit Read = 0
right_bit Write = 1
right_bit Extend = 2
right_bit Delete = 3

-- the bit of the right is clear in the bits of the class, because a set bit denies
abbrev pub grants_to : Class → ℕ → Right → Bool
grants_to class protection right = bit_at protection (first_bit class + right_bit right) == 0

-- a class of the user grants the right
unfoldable pub permits : Uic → Uic → ℕ → Right → Bool
permits who owner protection right = list_any (λ class. is_in_class class who owner && grants_to class protection right) classes
