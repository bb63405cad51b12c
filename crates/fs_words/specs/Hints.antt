-- The messages for words that lack a command or name an unknown one, and the command that an unknown word is near to.
use Rattle.std.specs.Prelude.{◌≡◌, ◌≤◌, ◌<◌, ℕ, List, [], ◌∷◌, ◌++◌, codes, Option, Some, None, All, MatchBool, MatchOption, find, option_map, if◌then◌else◌, length, nat_le, nat_lt}
use Rattle.std.specs.Str.{bytes_eq, chars}
use Rattle.strsim.specs.Edits.{osa_table}
use Rattle.fs_words.specs.declared.verbs.Verb.{Verb}
use Rattle.ods_words.specs.Telling.{IsWrong}
use Rattle.ods_words.specs.declared.fault.WordsFault.{WordsFault}
use Rattle.fs_words.specs.Names.{verb_named, verb_text, verbs}

-- what other programs call the commands
abbrev pub habits : List (List ℕ × List ℕ)
habits = (codes "dir", codes "ls") ∷ (codes "list", codes "ls") ∷ (codes "type", codes "cat") ∷ (codes "show", codes "cat") ∷ (codes "extract", codes "get") ∷ (codes "copy", codes "cp")
    ∷ (codes "move", codes "mv") ∷ (codes "rename", codes "mv") ∷ (codes "del", codes "rm") ∷ (codes "delete", codes "rm") ∷ (codes "diff", codes "cmp") ∷ (codes "fsck", codes "check") ∷ []

-- how many letter changes make a word the name of a command
abbrev pub changes_to : List ℕ → Verb → ℕ
changes_to word v = (osa_table (chars word) (chars (verb_text v))).last_row (length (chars (verb_text v)))

-- at most one if the word has up to four letters, otherwise two
abbrev pub most_changes : List ℕ → ℕ
most_changes word = if nat_le (length word) 4 then 1 else 2

-- the command among these that needs the fewest changes, at most `most_changes`; none if each needs more
abbrev pub IsClosest : List ℕ → List Verb → Option Verb → Type 0
IsClosest word vs None = All (λ (u : Verb). most_changes word < changes_to word u) vs
IsClosest word vs (Some v) = (changes_to word v ≤ most_changes word) × All (λ (u : Verb). changes_to word v ≤ changes_to word u) vs

-- the name of a command, if there is one
abbrev pub name_where : Option Verb → Option (List ℕ)
name_where None = None
name_where (Some v) = Some (verb_text v)

-- what another program calls a command
abbrev pub habit_named : List ℕ → Option (List ℕ)
habit_named word = option_map (λ (h : List ℕ × List ℕ). h.1) (find (λ (h : List ℕ × List ℕ). bytes_eq word h.0) habits)

-- the name that a word is near to: what another program calls it, or the closest name; a word of more than 16 bytes is close to none
abbrev pub IsNear : List ℕ → Option (List ℕ) → Type 0
IsNear word near = MatchOption (habit_named word)
    (MatchBool (nat_lt 16 (length word)) (near ≡ None) ((v : Option Verb) × IsClosest word verbs v × (near ≡ name_where v)))
    (λ (name : List ℕ). near ≡ Some name)

-- the usage of the command line
unfoldable pub usage : List ℕ
usage = codes "usage: f11fs [OPTIONS] IMAGE COMMAND [WORD..]\nf11fs --help lists the commands"

-- a command is missing
unfoldable pub wanting_line : List ℕ
wanting_line = codes "error: no command is given\n" ++ usage

-- a word is not a command, and this one is near
unfoldable pub near_line : List ℕ → List ℕ → List ℕ
near_line word name = codes "f11fs: unknown command '" ++ (word ++ (codes "'; did you mean '" ++ (name ++ codes "'?")))

-- a word is not a command, and none is near
unfoldable pub strange_line : List ℕ → List ℕ
strange_line word = codes "f11fs: unknown command '" ++ word ++ codes "'; f11fs --help lists the commands"

abbrev pub unknown_line : List ℕ → Option (List ℕ) → List ℕ
unknown_line word (Some name) = near_line word name
unknown_line word None = strange_line word

-- a word is not a command; IMAGE comes after it
unfoldable pub misplaced_line : List ℕ → List ℕ → List ℕ
misplaced_line image word = codes "f11fs: unknown command '" ++ (word ++ (codes "'; IMAGE comes first: f11fs " ++ (word ++ (codes " " ++ image))))

-- the message for a word that is not a command
abbrev pub IsUnknown : List ℕ → WordsFault → Type 0
IsUnknown word fault = (near : Option (List ℕ)) × IsNear word near × IsWrong (unknown_line word near) fault

-- the message for it after IMAGE, which may be the name of a command
abbrev pub IsMisplaced : List ℕ → List ℕ → WordsFault → Type 0
IsMisplaced image word fault = MatchOption (verb_named image) (IsUnknown word fault) (λ (v : Verb). IsWrong (misplaced_line image word) fault)
