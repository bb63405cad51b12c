-- The lines of `ls`, `du`, `df` and `find`.
use Rattle.std.specs.Prelude.{ℕ, ◌-◌, ◌^◌, ◌==◌, ◌||◌, Bool, false, if◌then◌else◌, List, [], ◌∷◌, ◌++◌, codes, length, replicate, slice_get, Option, Some, None}
use Rattle.std.specs.Fmt.{decimal, padded_integral, format_spec}
use Rattle.std.specs.List.{fold}
use Rattle.ods_base.specs.Name.{name_version_text}
use Rattle.ods_base.specs.declared.file_id.Uic.{Uic}
use Rattle.ods_base.specs.declared.listed.Listed.{Listed}
use Rattle.ods_shell.specs.Facts.{created_in, kind_word}
use Rattle.ods_shell.specs.Texts.{shown_date, shown_id, shown_rights, shown_user, shown_directory}
use Rattle.ods_shell.specs.declared.facts.Condition.{Condition}
use Rattle.ods_shell.specs.declared.facts.Condition.TheVariants.{Whole, Broken, Outside}
use Rattle.ods_shell.specs.declared.facts.Facts.{Facts}
use Rattle.ods_shell.specs.declared.facts.Kind.{Kind}
use Rattle.ods_shell.specs.declared.folders.Directory.{Directory}
use Rattle.ods_shell.specs.declared.ls.Columns.{Columns}
use Rattle.ods_shell.specs.declared.space.Space.{Space}

-- a text, and spaces up to this width
abbrev pub column : ℕ → List ℕ → List ℕ
column width text = text ++ replicate (width - length text) 32

-- a number, and spaces before it up to this width
unfoldable pub number_column : ℕ → ℕ → List ℕ
number_column width n = padded_integral (format_spec 32 3 0 width (2 ^ 64 - 1)) false [] (decimal n)

-- the singular or the plural word for a count
abbrev pub counted_word : ℕ → List ℕ → List ℕ → List ℕ
counted_word count one several = if count == 1 then one else several

-- the numbers of blocks and bytes of a file, in columns
unfoldable pub size_columns : ℕ → ℕ → List ℕ
size_columns blocks bytes = codes "  " ++ number_column 7 blocks ++ codes "  " ++ number_column 10 bytes ++ codes "  "

-- the kind and the owner of a file, in columns
unfoldable pub kind_columns : Kind → Uic → List ℕ
kind_columns kind owner = column 9 (kind_word kind) ++ codes "  " ++ shown_user owner

-- a protection and the date of creation, in columns
unfoldable pub rights_columns : ℕ → List ℕ → List ℕ
rights_columns protection ident = codes "  " ++ shown_rights protection ++ codes "  " ++ shown_date (created_in ident)

-- the condition of a file as the last column, unless it is whole
unfoldable pub condition_column : Condition → List ℕ
condition_column Whole = []
condition_column Broken = codes "  chain broken"
condition_column Outside = codes "  outside"

-- the facts of a file, in columns
abbrev pub facts_columns : Facts → List ℕ
facts_columns facts = size_columns facts.blocks facts.bytes ++ kind_columns facts.kind facts.owner ++ rights_columns facts.protection facts.ident ++ condition_column facts.condition

-- the same, also for a file without facts
abbrev pub known_columns : Option Facts → List ℕ
known_columns None = codes "  no such file"
known_columns (Some facts) = facts_columns facts

-- the text after the name of an entry: its ID, or its ID in twelve columns and the facts of the file
abbrev pub columns_text : Listed → Option Facts → Bool → List ℕ
columns_text entry facts long =
    if long then codes "  " ++ column 12 (shown_id entry.file) ++ known_columns facts
    else codes "  " ++ shown_id entry.file

-- the line of an entry: only the name, or the name in 19 columns with a text after it
abbrev pub entry_line : Listed → Option Facts → Columns → List ℕ
entry_line entry facts columns =
    if columns.long || columns.ids then column 19 (name_version_text entry.name entry.version) ++ columns_text entry facts columns.long ++ 10 ∷ []
    else name_version_text entry.name entry.version ++ 10 ∷ []

-- a line with the name of a directory, after an empty line unless it is the first; nothing if there is no directory
abbrev pub heading : Bool → Option Directory → List ℕ
heading is_first None = []
heading is_first (Some d) = (if is_first then [] else 10 ∷ []) ++ shown_directory d.names.items ++ 58 ∷ 10 ∷ []

-- a text with the headings of the directories with these indices at the end
abbrev pub with_headings : List Directory → List ℕ → List ℕ → List ℕ
with_headings directories text places = fold (λ before place. before ++ heading (length before == 0) (slice_get directories place)) text places

-- the number of blocks of a volume, and the number of used blocks
unfoldable pub used_part : ℕ → ℕ → List ℕ
used_part blocks used = decimal blocks ++ codes " blocks, " ++ decimal used ++ codes " used, "

-- the text before the longest free run
unfoldable pub run_label : List ℕ
run_label = codes " free, largest free run "

-- the number of free blocks, and the length of the longest free run
unfoldable pub free_part : ℕ → ℕ → List ℕ
free_part free longest = decimal free ++ run_label ++ decimal longest ++ 10 ∷ []

-- the line of the file numbers of a volume: in use, all, and ready
unfoldable pub numbers_line : ℕ → ℕ → ℕ → List ℕ
numbers_line numbers most ready = decimal numbers ++ codes " of " ++ decimal most ++ codes " file numbers in use, " ++ decimal ready ++ codes " ready" ++ 10 ∷ []

-- the usage of a volume
abbrev pub space_text : Space → List ℕ
space_text s = used_part s.blocks (s.blocks - s.free) ++ free_part s.free s.longest ++ numbers_line s.numbers s.most s.ready

-- the number of blocks of something, in eight columns, and its name
abbrev pub usage_line : List ℕ → ℕ → List ℕ
usage_line name blocks = number_column 8 blocks ++ codes "  " ++ name ++ 10 ∷ []
