-- Records of one size as lines, and streams as texts.
use Rattle.std.specs.Prelude.{◌≡◌, ℕ, ◌+◌, ◌*◌, ◌/◌, ◌%◌, ◌<◌, ◌≤◌, Bool, ◌&&◌, ◌==◌, nat_le, if◌then◌else◌, List, [], ◌∷◌, length, slice_index, take, drop}

-- the offset of the next line: in the next block of 512 bytes if the line would cross the end of its block, and blocks are kept
abbrev pub next_line : Bool → ℕ → ℕ → ℕ
next_line blocked size at = if blocked && nat_le 513 (at % 512 + 2 * size) then 512 * (at / 512 + 1) else at + size

-- These are the lines from an offset on: each has `size` bytes, or the rest of the bytes.
abbrev pub LinesFrom : Bool → ℕ → List ℕ → ℕ → List (List ℕ) → Type 0
LinesFrom blocked size bytes at [] = length bytes ≤ at
LinesFrom blocked size bytes at (x ∷ xs) = (at < length bytes) × (x ≡ take size (drop at bytes)) × LinesFrom blocked size bytes (next_line blocked size at) xs

-- the bytes with CR LF as LF
abbrev pub without_cr : List ℕ → List ℕ
without_cr [] = []
without_cr (b ∷ bytes) = if (b == 13) && (slice_index bytes 0 == 10) then without_cr bytes else b ∷ without_cr bytes
