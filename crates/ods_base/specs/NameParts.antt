-- The parts of the text of a name, and what they spell.
use Rattle.std.specs.Prelude.{◌≡◌, ◌≢◌, ℕ, ◌<◌, List, ◌∷◌, ◌++◌, length, slice_index}
use Rattle.std.specs.List.{All}
use Rattle.ods_base.specs.Name.{part_text}

-- A text consists of the name, the type, and the rest. The first `.` ends the name, and the first `;` after it ends the type.
pub record FallsInto (text name ext behind : List ℕ) : Type 0 where
  pub whole : text ≡ name ++ 46 ∷ (ext ++ behind)
  pub name_end : All (λ c. c ≢ 46) name
  pub ext_end : All (λ c. c ≢ 59) ext
  pub behind_start : 0 < length behind → slice_index behind 0 ≡ 59

-- cs are the codes of a part, which is the name or the type: k codes with this text
pub record IsPart (text : List ℕ) (k : ℕ) (cs : List ℕ) : Type 0 where
  pub size : length cs ≡ k
  pub each : All (λ c. c < 40) cs
  pub spelled : text ≡ part_text cs
