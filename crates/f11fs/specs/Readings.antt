-- Host files: their names, and the bytes read from them.
use Rattle.std.specs.Prelude.{◌≡◌, ◌≢◌, ◌⊎◌, ℕ, List, ◌∷◌, ◌++◌, [], Option, Some, MatchOption, Bool, ◌||◌, true, false, IfOk, IfErr, ◌-◌, ◌≤◌, vec_len, codes, drop, if◌then◌else◌, nat_eq, string_bytes}
use Rattle.std.specs.List.{list_any, position, starts_with}
use Rattle.std.specs.Str.{bytes_eq}
use Rattle.std.specs.Borrow.{Bor}
use Rattle.fs_host.specs.Names.{LacksSlash}
use Rattle.fs_host.specs.declared.host_fault.HostFault.{HostFault}
use Rattle.fs_host.specs.declared.host_fault.HostFault.TheVariants as reason
use Rattle.fs_reads.specs.declared.stop.Stop.{Stop}
use Rattle.fs_reads.specs.declared.stop.Stop.TheVariants as stop
use Rattle.fs_reads.specs.declared.stop.WordFault.TheVariants as word
use Rattle.fs_words.specs.declared.actions.Action.{Action}
use Rattle.fs_words.specs.declared.actions.Action.TheVariants as action
use Rattle.fs_words.specs.declared.actions.FromWords.{FromWords}
use Rattle.fs_words.specs.declared.actions.PutWords.{PutWords}
use Rattle.fs_words.specs.declared.actions.Change.TheVariants as change
use Rattle.f11fs.specs.Given.{Bytes, HostGives, Volume}
use Rattle.f11fs.specs.declared.early.Early.{Early}
use Rattle.f11fs.specs.declared.early.OtherImage.{OtherImage}
use Rattle.f11fs.specs.declared.early.Taken.{Taken}

-- the name is the part after the last slash of a path, or the whole path without a slash
abbrev pub IsLastPart : List ℕ → List ℕ → Type 0
IsLastPart path name = LacksSlash name × ((path ≡ name) ⊎ ((folder : List ℕ) × (path ≡ folder ++ 47 ∷ name)))

-- the index of the first contents read at this path
abbrev pub first_at : List ℕ → List Taken → Option ℕ
first_at path taken = position (λ one. bytes_eq (string_bytes one.path) path) taken

-- the index of the first image read from this path
abbrev pub first_image : List ℕ → List OtherImage → Option ℕ
first_image path images = position (λ one. bytes_eq (string_bytes one.path) path) images

-- nothing is read early for another command than a put, an append, an untar or a cp --from
abbrev pub ReadsNothing : Action → Type 0
ReadsNothing asked =
    ((how : PutWords) → asked ≢ action.Change (change.Put how)) × (asked ≢ action.Change change.Append) × (asked ≢ action.Change change.Untar) × ((how : FromWords) → asked ≢ action.Change (change.CpFrom how))

-- A file was read to the end, after the files that were read before, which reduces the room for later reads. If there was no room, nothing was read.
abbrev pub AddsReading : HostGives → List ℕ → Early → Early → Type 0
AddsReading Gives path old new = MatchOption old.room (new ≡ old) (λ room.
    (one : Taken) × (new.taken.items ≡ old.taken.items ++ one ∷ []) × (string_bytes one.path ≡ path) × (new.images ≡ old.images)
    × IfOk one.bytes (λ bytes. Gives path (Bytes bytes.items) × (vec_len bytes ≤ room) × (new.room ≡ Some (room - vec_len bytes))) × IfErr one.bytes (λ _. new.room ≡ Some room))

-- Such a file was read, or nothing was.
abbrev pub MayAddReading : HostGives → List ℕ → Early → Early → Type 0
MayAddReading Gives path old new = (new ≡ old) ⊎ AddsReading Gives path old new

-- the same for each of these paths, in order
abbrev pub MayAddReadings : HostGives → List (Bor (List ℕ)) → Early → Early → Type 0
MayAddReadings Gives [] old new = new ≡ old
MayAddReadings Gives (path ∷ paths) old new = (mid : Early) × MayAddReading Gives path.now old mid × MayAddReadings Gives paths mid new

-- the other image of a cp was read from this path, after the images that were read before, and nothing else was read
abbrev pub AddsImage : HostGives → List ℕ → Early → Early → Type 0
AddsImage Gives path old new =
    (one : OtherImage) × (new.images.items ≡ old.images.items ++ one ∷ []) × (string_bytes one.path ≡ path)
    × IfOk one.opened (λ opened. Gives path (Volume opened.0)) × (new.taken ≡ old.taken) × (new.room ≡ old.room)

-- It was read, or nothing was.
abbrev pub MayAddImage : HostGives → List ℕ → Early → Early → Type 0
MayAddImage Gives path old new = (new ≡ old) ⊎ AddsImage Gives path old new

-- there is no room for the bytes of this file
abbrev pub IsTooLarge : Bor (List ℕ) → ℕ → Stop → Type 0
IsTooLarge path room s = ((size : ℕ) × (s ≡ stop.Word path (word.Large size room))) ⊎ (s ≡ stop.Word path (word.LargeStream room))

-- reading it failed
abbrev pub IsUnread : Bor (List ℕ) → Stop → Type 0
IsUnread path s = (fault : HostFault) × (s ≡ stop.Word path (word.Unread fault))

-- the commands come from standard input
abbrev pub reads_commands : Action → Bool
reads_commands (action.Commands file keep_going) = bytes_eq file.now (codes "-")
reads_commands (action.Ls long ids below) = false
reads_commands (action.Find lost deleted long) = false
reads_commands action.Stat = false
reads_commands (action.Cat wanted) = false
reads_commands (action.Get wanted target below deleted partial dated) = false
reads_commands (action.Tar text) = false
reads_commands action.Df = false
reads_commands action.Info = false
reads_commands (action.Du top) = false
reads_commands (action.Check all) = false
reads_commands (action.Rescue text scan partial) = false
reads_commands (action.Cmp all) = false
reads_commands (action.Change change) = false
reads_commands (action.Repair kinds into) = false
reads_commands (action.Init blocks files label order) = false
reads_commands (action.Convert order alone) = false

-- an untar without words reads standard input
abbrev pub untars_input : Action → List (Bor (List ℕ)) → Bool
untars_input (action.Change change.Untar) [] = true
untars_input asked words = false

-- a command reads standard input: one of its words says so, or it is an untar without words
abbrev pub takes_input : Action → List (Bor (List ℕ)) → Bool
takes_input asked words = list_any (λ path. bytes_eq path.now (codes "-")) words || untars_input asked words

-- the bytes of a byte order mark
abbrev pub order_mark : List ℕ
order_mark = 239 ∷ 187 ∷ 191 ∷ []

-- a text without the byte order mark at its front
abbrev pub behind_mark : List ℕ → List ℕ
behind_mark text = if starts_with nat_eq text order_mark then drop 3 text else text
