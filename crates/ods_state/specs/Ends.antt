-- Notes about a file that are kept from one request to the next: the end of its chain of headers, so that the next Extend does not traverse it.
use Rattle.std.specs.Prelude.{◌≡◌, ℕ, List, ◌∷◌, length, IfSome, Option}
use Rattle.ods_space.specs.Chain.{IsChain}
use Rattle.ods_space.specs.Layout.{VolumeLayout}
use Rattle.ods_alloc.specs.Extend.{last_of}
use Rattle.ods_state.specs.declared.known_end.KnownEnd.{KnownEnd}

-- the note is correct for these blocks: the chain of the file has this number of headers, maps this number of blocks, and ends in this header
abbrev pub IsEndKnown : List (List ℕ) → VolumeLayout → KnownEnd → Type 0
IsEndKnown I L end = (others blocks : List ℕ) → IsChain I L end.file others blocks
    → (end.headers ≡ length (end.file ∷ others)) × (end.blocks ≡ length blocks) × (end.last ≡ last_of end.file others)

-- there is no note, or the note is correct
abbrev pub IsKnownIn : List (List ℕ) → VolumeLayout → Option KnownEnd → Type 0
IsKnownIn I L end = IfSome end (IsEndKnown I L)
