-- A process or a loop device that has a file open.
use Rattle.std.specs.Prelude.{◌≢◌, ℕ, ◌<◌, ◌++◌, if◌then◌else◌, List, length, take, codes, slice_index}
use Rattle.std.specs.Fmt.{decimal}
use Rattle.std.specs.Str.{is_utf8}
use Rattle.fs_host.specs.Texts.{shown_text}
use Rattle.fs_host.specs.declared.holders.Holder.{Holder}

-- no byte ends a line
abbrev pub LacksLine : List ℕ → Type 0
LacksLine text = (i : ℕ) → i < length text → slice_index text i ≢ 10

-- the name of the process
abbrev pub name_held : Holder → List ℕ
name_held holder = take holder.length holder.name

-- the text for a process: its number, and its name if it is a text
abbrev pub shown_process : Holder → List ℕ
shown_process holder =
    if is_utf8 (name_held holder) then codes "process " ++ (decimal holder.number ++ (codes " (" ++ (shown_text (name_held holder) ++ codes ")"))) else codes "process " ++ decimal holder.number

-- the text for a process or a loop device
abbrev pub shown_holder : Holder → List ℕ
shown_holder holder = if holder.is_device then codes "device loop" ++ decimal holder.number else shown_process holder
