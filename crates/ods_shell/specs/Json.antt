-- The objects that are printed as JSON. Their members are in the order of their names.
use Rattle.std.specs.Prelude.{ℕ, List, [], ◌∷◌, ◌++◌, codes, Option, Some, None}
use Rattle.ods_base.specs.declared.file_id.FileId.{FileId}
use Rattle.ods_header.specs.Text.{file_id_text, ident_text}
use Rattle.serde_json.specs.Data.{Members, no_members, number, object, put, string, unsigned}
use Rattle.serde_json.specs.Written.{compact_text}
use Rattle.ods_shell.specs.Facts.{condition_word, created_in, kind_word, revised_in, revision_in}
use Rattle.ods_shell.specs.Texts.{shown_date, shown_rights, shown_user}
use Rattle.ods_shell.specs.declared.facts.Condition.{Condition}
use Rattle.ods_shell.specs.declared.facts.Condition.TheVariants.{Whole, Broken, Outside}
use Rattle.ods_shell.specs.declared.facts.Facts.{Facts}
use Rattle.ods_shell.specs.declared.space.Space.{Space}

-- the members, and a text under this name
unfoldable pub with_text : List ℕ → List ℕ → Members → Members
with_text name text ms = put name (string text) ms

-- the members, and a number under this name
unfoldable pub with_number : List ℕ → ℕ → Members → Members
with_number name n ms = put name (number (unsigned n)) ms

-- an object, and a line feed
unfoldable pub object_line : Members → List ℕ
object_line ms = compact_text (object ms) ++ 10 ∷ []

-- an object with one text, and a line feed
abbrev pub text_line : List ℕ → List ℕ → List ℕ
text_line name text = object_line (with_text name text no_members)

-- the members, and the condition of a file, unless it is whole
abbrev pub with_condition : Condition → Members → Members
with_condition Whole ms = ms
with_condition Broken ms = with_text (codes "condition") (condition_word Broken) ms
with_condition Outside ms = with_text (codes "condition") (condition_word Outside) ms

-- the members, and the facts of a file
abbrev pub with_facts : Facts → Members → Members
with_facts facts ms =
    with_condition facts.condition (with_text (codes "revised") (shown_date (revised_in facts.ident)) (with_text (codes "created") (shown_date (created_in facts.ident))
    (with_text (codes "protection") (shown_rights facts.protection) (with_text (codes "owner") (shown_user facts.owner)
    (with_text (codes "kind") (kind_word facts.kind) (with_number (codes "bytes") facts.bytes (with_number (codes "blocks") facts.blocks ms)))))))

-- the one member that names the image of an object
abbrev pub of_image : List ℕ → Members
of_image image = with_text (codes "image") image no_members

-- the members for the facts of a file that a path selects
abbrev pub stat_members : List ℕ → Facts → Members
stat_members path facts =
    with_facts facts (with_number (codes "revision") (revision_in facts.ident) (with_text (codes "name") (ident_text facts.ident)
    (with_text (codes "id") (file_id_text facts.file) (with_text (codes "path") path no_members))))

-- the members, and the number of blocks of a volume, the number of free blocks, and the longest free run
unfoldable pub with_block_counts : Space → Members → Members
with_block_counts s ms = with_number (codes "largest_free_run") s.longest (with_number (codes "free") s.free (with_number (codes "blocks") s.blocks ms))

-- the members, and the numbers of file numbers that are in use, ready, and available in total
unfoldable pub with_file_numbers : Space → Members → Members
with_file_numbers s ms = with_number (codes "numbers") s.most (with_number (codes "numbers_ready") s.ready (with_number (codes "numbers_in_use") s.numbers ms))

-- the usage of a volume
abbrev pub space_members : Space → Members
space_members s = with_file_numbers s (with_block_counts s no_members)

-- the members, and the facts of a file, if they are known
abbrev pub with_known : Option Facts → Members → Members
with_known None ms = ms
with_known (Some facts) ms = with_facts facts ms

-- the path of an entry, the ID that it names, and the facts of the file
abbrev pub entry_members : List ℕ → List ℕ → FileId → Option Facts → Members
entry_members image path file known = with_known known (with_text (codes "id") (file_id_text file) (with_text (codes "path") path (of_image image)))
