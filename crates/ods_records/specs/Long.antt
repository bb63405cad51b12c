-- Records that are longer than the record size of their file.
use Rattle.std.specs.Prelude.{◌≡◌, ℕ, ◌<◌, ◌≤◌, List, length, Option}
use Rattle.std.specs.List.{All, flat_map}
use Rattle.std.specs.Option.{option_to_list}
use Rattle.ods_records.specs.declared.kind.RecordKind.{RecordKind}
use Rattle.ods_records.specs.Records.{Leads, IsRecord}

-- The record at this offset has `size` bytes after its header, which are more than `most`. There are records up to it, and none of these has more.
pub record IsFirstLong (kind : RecordKind) (bytes : List ℕ) (most at size : ℕ) : Type 0 where
  pub standing : List (Option (List ℕ))
  pub record_bytes : List ℕ
  pub next : ℕ
  pub before : Leads kind bytes 0 standing at
  pub short : All (λ r. length r ≤ most) (flat_map option_to_list standing)
  pub there : IsRecord kind bytes at record_bytes next
  pub sized : size ≡ length record_bytes
  pub long : most < size
