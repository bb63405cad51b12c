-- Tags of entries: 16 bits each. With them a pass skips most blocks that have no entry for it.
use Rattle.std.specs.Prelude.{◌≡◌, ℕ, ◌+◌, ◌*◌, ◌%◌, Bool, false, ◌||◌, ◌==◌, if◌then◌else◌, List, map, slice_index}
use Rattle.std.specs.List.{range_with_len}
use Rattle.ods_base.specs.Name.{RadName}
use Rattle.ods_directory.specs.declared.tags.Wanted.{Wanted}
use Rattle.ods_directory.specs.Entry.{Entry, entry_in, is_used}

-- the tag of a name with these words and this type, from 1 to 65,535
unfoldable pub tag_by : ℕ → ℕ → ℕ → ℕ → ℕ
tag_by first second third ext = (first + 331 * second + 4093 * third + 8191 * ext) % 65535 + 1

-- the tag of a name
abbrev pub name_tag : RadName → ℕ
name_tag n = tag_by (slice_index n.words 0) (slice_index n.words 1) (slice_index n.words 2) n.ext

-- the tag of an entry: the tag of its name, or 0 if it names no file
abbrev pub tag_of : Entry → ℕ
tag_of e = if is_used e then tag_by (slice_index e.key 0) (slice_index e.key 1) (slice_index e.key 2) (slice_index e.key 3) else 0

-- the tags of the 32 entries of a block
unfoldable pub block_tags : List ℕ → List ℕ
block_tags b = map (λ k. tag_of (entry_in b k)) (range_with_len 0 32)

-- the tags of each entry of these blocks, block by block, before and past the end mark
abbrev pub AreTags : List (List ℕ) → List (List ℕ) → Type 0
AreTags blocks tags = tags ≡ map block_tags blocks

-- whether a pass needs an entry with this tag
abbrev pub wants : Wanted → ℕ → Bool
wants w tag = w.all || tag == w.one || tag == w.other

-- only the entries that the pass needs change the state
abbrev pub WantsNoOther : {S : Type 0} → (S → ℕ → Entry → S) → S → Wanted → Type 0
WantsNoOther after s w = (k : ℕ) (e : Entry) → wants w (tag_of e) ≡ false → after s k e ≡ s
