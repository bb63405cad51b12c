-- The output of `info` for a volume: the fields of its home block, and the locations of its structures.
use Rattle.std.specs.Prelude.{◌≡◌, ◌+◌, ◌-◌, ◌==◌, ◌||◌, ℕ, Bool, List, [], ◌∷◌, ◌++◌, codes, length, map, take, slice_index, slice_range, if◌then◌else◌}
use Rattle.std.specs.List.{flat_map, range_with_len, suffix_len}
use Rattle.std.specs.Fmt.{decimal}
use Rattle.ods_base.specs.Block.{byte, word}
use Rattle.ods_base.specs.Image.{block_at}
use Rattle.ods_base.specs.declared.file_id.Uic.{Uic}
use Rattle.ods_header.specs.Home.{IsHomeAt}
use Rattle.ods_header.specs.Text.{octal}
use Rattle.ods_space.specs.Free.{free_numbers}
use Rattle.ods_space.specs.Layout.{VolumeLayout}
use Rattle.serde_json.specs.Data.{Data, Members, array, no_members, object, put}
use Rattle.serde_json.specs.View.{items_of}
use Rattle.ods_shell.specs.Json.{of_image, with_number, with_text}
use Rattle.ods_shell.specs.Stat.{blocks_line, is_run_end, owner_line, run_start, runs_text}
use Rattle.ods_shell.specs.Texts.{shown_byte, shown_date, shown_rights, shown_user}
use Rattle.ods_shell.specs.declared.info.Info.{Info}

-- H.VNAM, the label of the volume
abbrev pub label_in : List ℕ → List ℕ
label_in home = slice_range home 14 26

-- H.VOWN, the owner of the volume: the member in byte 30, and the group in byte 31
abbrev pub owner_in : List ℕ → Uic
owner_in home = record { group = byte home 31; member = byte home 30 }

-- H.VDAT, the date of creation of the volume, without its last byte
abbrev pub made_in : List ℕ → List ℕ
made_in home = slice_range home 60 73

-- the facts of a volume whose home block is at this LBN; word 6 of the home block is H.VLEV
abbrev pub info_at : List (List ℕ) → VolumeLayout → ℕ → Info
info_at I L lbn = record {
  home = lbn;
  label = label_in (block_at I lbn);
  owner = owner_in (block_at I lbn);
  level = word (block_at I lbn) 6;
  protection = L.home.protection;
  made = made_in (block_at I lbn);
  blocks = length I;
  most = L.home.max_files;
  ready = length (free_numbers I L);
  bitmap = L.home.index_bitmap_lbn;
  bitmap_blocks = L.home.index_bitmap_size;
  index_blocks = length L.index;
}

-- these are the facts of a volume: its home block is at this LBN
abbrev pub IsInfoOf : List (List ℕ) → VolumeLayout → Info → Type 0
IsInfoOf I L info = (lbn : ℕ) × IsHomeAt I lbn × (info ≡ info_at I L lbn)

-- a zero byte or a space, as padding after a label
abbrev pub is_filling : ℕ → Bool
is_filling b = (b == 0) || (b == 32)

-- a label without its padding
abbrev pub shown_label : List ℕ → List ℕ
shown_label label = map shown_byte (take (length label - suffix_len is_filling label) label)

-- the line of the label
unfoldable pub label_line : List ℕ → List ℕ
label_line label = codes "Label: " ++ shown_label label ++ 10 ∷ []

-- the line of the structure level, in octal
unfoldable pub level_line : ℕ → List ℕ
level_line level = codes "Structure level: " ++ octal level ++ 10 ∷ []

-- the text before the protection of new files
unfoldable pub default_label : List ℕ
default_label = codes "Default protection: "

-- the line of the protection of new files
unfoldable pub default_line : ℕ → List ℕ
default_line protection = default_label ++ shown_rights protection ++ 10 ∷ []

-- the line of the date of creation of the volume
unfoldable pub made_line : List ℕ → List ℕ
made_line made = codes "Made: " ++ shown_date made ++ 10 ∷ []

-- the line of the greatest file number, and of the number of ready headers
unfoldable pub most_line : ℕ → ℕ → List ℕ
most_line most ready = codes "Greatest file number: " ++ (decimal most ++ (codes ", " ++ (decimal ready ++ (codes " headers ready" ++ 10 ∷ []))))

-- the line of the LBN of the home block
unfoldable pub home_line : ℕ → List ℕ
home_line lbn = codes "Home block: LBN " ++ decimal lbn ++ 10 ∷ []

-- the line of the location of the index bitmap: its first and its last block
unfoldable pub bitmap_line : ℕ → ℕ → List ℕ
bitmap_line first last = codes "Index bitmap: LBN " ++ (decimal first ++ (codes " to " ++ (decimal last ++ 10 ∷ [])))

-- the line of the number of blocks of INDEXF.SYS, and of the LBN of its header
unfoldable pub index_line : ℕ → ℕ → List ℕ
index_line blocks header = codes "INDEXF.SYS: " ++ (decimal blocks ++ (codes " blocks, header at LBN " ++ (decimal header ++ 10 ∷ [])))

-- the line of the number of image bytes after the volume
unfoldable pub behind_line : ℕ → List ℕ
behind_line behind = codes "Bytes behind the volume: " ++ decimal behind ++ 10 ∷ []

-- the line of the result of a mount
unfoldable pub answer_line : List ℕ → List ℕ
answer_line answer = codes "Mount: " ++ answer ++ 10 ∷ []

-- the fields of the home block
abbrev pub said_text : Info → List ℕ
said_text i = label_line i.label ++ owner_line i.owner ++ level_line i.level ++ default_line i.protection ++ made_line i.made

-- the size of the volume, and the locations of its structures; the header of INDEXF.SYS is stored after the index bitmap
abbrev pub places_text : Info → List ℕ → List ℕ
places_text i index =
    blocks_line i.blocks ++ most_line i.most i.ready ++ home_line i.home ++ bitmap_line i.bitmap (i.bitmap + i.bitmap_blocks - 1)
    ++ index_line i.index_blocks (i.bitmap + i.bitmap_blocks) ++ runs_text index

-- all lines: the fields, the runs of INDEXF.SYS, the number of bytes after the volume, and the result of a mount
abbrev pub info_text : Info → List ℕ → ℕ → List ℕ → List ℕ
info_text i index behind answer = said_text i ++ places_text i index ++ behind_line behind ++ answer_line answer

-- the members, and the fields of the home block
unfoldable pub with_said : Info → Members → Members
with_said i ms =
    with_text (codes "made") (shown_date i.made) (with_text (codes "protection") (shown_rights i.protection) (with_text (codes "level") (octal i.level)
    (with_text (codes "owner") (shown_user i.owner) (with_text (codes "label") (shown_label i.label) ms))))

-- the members, and the size of the volume
unfoldable pub with_limits : ℕ → ℕ → ℕ → Members → Members
with_limits blocks most ready ms = with_number (codes "numbers_ready") ready (with_number (codes "numbers") most (with_number (codes "blocks") blocks ms))

-- the members, and the location of the index bitmap
unfoldable pub with_bitmap : ℕ → ℕ → Members → Members
with_bitmap bitmap blocks ms = with_number (codes "index_bitmap_blocks") blocks (with_number (codes "index_bitmap") bitmap ms)

-- the members, the LBN of the header of INDEXF.SYS, and the number of blocks of the file
unfoldable pub with_index : ℕ → ℕ → Members → Members
with_index header blocks ms = with_number (codes "index_blocks") blocks (with_number (codes "index_header") header ms)

-- the object of a run from index `from` to index `at`: the LBN of its first block, and its number of blocks
abbrev pub run_members : List ℕ → ℕ → ℕ → Members
run_members lbns from at = with_number (codes "lbn") (slice_index lbns at - (at - from)) (with_number (codes "blocks") (at + 1 - from) no_members)

-- the object of a run that ends with this block, if one does
abbrev pub run_ended : List ℕ → ℕ → ℕ → List Data
run_ended lbns from at = if is_run_end lbns at then object (run_members lbns from at) ∷ [] else []

-- the run that ends with this block, if one does
abbrev pub run_item : List ℕ → ℕ → List Data
run_item lbns at = run_ended lbns (run_start lbns at) at

-- the members, and the runs of INDEXF.SYS in order
unfoldable pub with_runs : List ℕ → Members → Members
with_runs lbns ms = put (codes "index_runs") (array (items_of (flat_map (run_item lbns) (range_with_len 0 (length lbns))))) ms

-- the members, the number of bytes after the volume, and the result of a mount
unfoldable pub with_answer : ℕ → List ℕ → Members → Members
with_answer behind answer ms = with_text (codes "answer") answer (with_number (codes "bytes_behind") behind ms)

-- all members in one object
abbrev pub info_members : List ℕ → Info → List ℕ → ℕ → List ℕ → Members
info_members image i index behind answer =
    with_answer behind answer (with_runs index (with_index (i.bitmap + i.bitmap_blocks) i.index_blocks (with_bitmap i.bitmap i.bitmap_blocks (with_number (codes "home_block") i.home
    (with_limits i.blocks i.most i.ready (with_said i (of_image image)))))))
