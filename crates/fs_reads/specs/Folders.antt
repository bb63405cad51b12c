-- The names in a folder of the host.
use Rattle.std.specs.Prelude.{ℕ, ◌==◌, ◌&&◌, Bool, not, List, codes, length}
use Rattle.std.specs.List.{list_any, slice_split}
use Rattle.std.specs.Str.{bytes_eq}

-- the name of a file, which is neither the folder itself nor its parent
abbrev pub is_name : List ℕ → Bool
is_name name = not (length name == 0) && not (bytes_eq name (codes ".")) && not (bytes_eq name (codes ".."))

-- one of these names, each followed by a zero, is the name of a file
abbrev pub has_name : List ℕ → Bool
has_name names = list_any is_name (slice_split (λ (b : ℕ). b == 0) names)
