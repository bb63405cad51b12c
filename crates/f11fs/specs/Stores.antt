-- What a command saves: the blocks that an image has before and after, and the copies of it. An image is seen as the blocks that it has.
use Rattle.std.specs.Prelude.{◌≡◌, ◌==◌, ℕ, List, [], Bool, true, false, Option, Some, None, MatchOption, if◌then◌else◌, length, take, unwrap_or}
use Rattle.std.specs.List.{list_all}
use Rattle.std.specs.Borrow.{Bor}
use Rattle.fs_host.specs.Found.{IsRemark}
use Rattle.fs_host.specs.Times.{IsStampOfLocal}
use Rattle.fs_host.specs.declared.containers.Extent.{Extent}
use Rattle.fs_host.specs.declared.layers.Layered.{Layered}
use Rattle.fs_reads.specs.Volumes.{LacksBlocks}
use Rattle.fs_words.specs.declared.actions.Change.{Change}
use Rattle.fs_words.specs.declared.actions.Repairs.{Repairs}
use Rattle.fs_words.specs.declared.words.Words.{Words}
use Rattle.ods_filing.specs.Filed.{Filed}
use Rattle.ods_order.specs.Order.{first_track}
use Rattle.ods_order.specs.declared.order.Order.{Order}
use Rattle.ods_shell.specs.declared.status.Status.{Status}
use Rattle.ods_space.specs.Layout.{VolumeLayout}
use Rattle.std.specs.Str.Lines.{lines}
use Rattle.f11fs.specs.Changed.{AreAllDone, AreLinesEnded, IsChanged}
use Rattle.f11fs.specs.Given.{HostGives}
use Rattle.f11fs.specs.Mended.{IsMended, keeper}

-- the image keeps its blocks
abbrev pub ImageStays : (List (List ℕ) → Type 0) → (List (List ℕ) → Type 0) → Type 0
ImageStays old new = (blocks : List (List ℕ)) → old blocks → new blocks

-- no path has become a copy
abbrev pub GainsNoCopy : (List ℕ → List (List ℕ) → Type 0) → (List ℕ → List (List ℕ) → Type 0) → Type 0
GainsNoCopy old new = (path : List ℕ) → (blocks : List (List ℕ)) → new path blocks → old path blocks

-- The blocks are saved: in a copy at the path that the words specify, and the image keeps its own; or in the image.
abbrev pub IsSavedIn : Option (Bor (List ℕ)) → (List (List ℕ) → Type 0) → (List (List ℕ) → Type 0) → (List ℕ → List (List ℕ) → Type 0) → List (List ℕ) → Type 0
IsSavedIn None old new copies blocks = new blocks
IsSavedIn (Some out) old new copies blocks = ImageStays old new × copies out.now blocks

-- The image had some blocks. What a command makes of them is saved.
abbrev pub IsMadeAndSaved : (List (List ℕ) → List (List ℕ) → Type 0) → Option (Bor (List ℕ)) → (List (List ℕ) → Type 0) → (List (List ℕ) → Type 0) → (List ℕ → List (List ℕ) → Type 0) → Type 0
IsMadeAndSaved Makes out old new copies = (before : List (List ℕ)) × (after : List (List ℕ)) × old before × Makes before after × IsSavedIn out old new copies after

-- the time is the one that the words specify, otherwise a local time of the host
abbrev pub IsTimeFor : Words → List ℕ → Type 0
IsTimeFor words stamp = MatchOption words.stamp (IsStampOfLocal stamp) (λ said. stamp ≡ said)

-- a volume of these blocks, for the user that the words specify
abbrev pub volume_for : Words → List (List ℕ) → VolumeLayout → Filed
volume_for words blocks layout = record { image = blocks; layout = layout; user = unwrap_or words.user keeper }

-- the change that the words request makes these blocks of the former ones
abbrev pub MakesChange : HostGives → Change → Words → List (List ℕ) → List (List ℕ) → Type 0
MakesChange Gives change words before after = (layout : VolumeLayout) × (stamp : List ℕ) × (left : Filed)
    × IsTimeFor words stamp × IsChanged Gives change words.paths.items stamp (volume_for words before layout) left × (after ≡ left.image)

-- the repairs that the words request make these blocks of the former ones
abbrev pub MakesRepairs : Repairs → Words → Bor (List ℕ) → List (List ℕ) → List (List ℕ) → Type 0
MakesRepairs kinds words into before after = (stamp : List ℕ) × IsTimeFor words stamp × IsMended kinds stamp into before after

-- all lines of a text make these blocks of the former ones
abbrev pub MakesLines : HostGives → Bool → Words → List ℕ → List (List ℕ) → List (List ℕ) → Type 0
MakesLines Gives goes_on words text before after = (layout : VolumeLayout) × (stamp : List ℕ) × (s : Status) × (left : Filed)
    × IsTimeFor words stamp × AreAllDone Gives words.image stamp (unwrap_or words.user keeper) goes_on (lines text) s (volume_for words before layout) left
    × (after ≡ left.image)

-- no path has become a new image
abbrev pub GainsNoImage : (List ℕ → Option Order → List (List ℕ) → List ℕ → Type 0) → (List ℕ → Option Order → List (List ℕ) → List ℕ → Type 0) → Type 0
GainsNoImage old new = (path : List ℕ) → (order : Option Order) → (blocks : List (List ℕ)) → (behind : List ℕ) → new path order blocks behind → old path order blocks behind

-- the track of a floppy that is in no volume has only zeros
abbrev pub HasEmptyTrack : Option (Order × List ℕ) → Type 0
HasEmptyTrack None = Unit {0}
HasEmptyTrack (Some floppy) = list_all (λ byte. byte == 0) (take (first_track floppy.0) floppy.1) ≡ true

-- The image that is read has a volume that lacks no block. The new image has its blocks, and the bytes after them unless it is written alone.
abbrev pub IsConverted : Bool → (Layered → Type 0) → (List (List ℕ) → List ℕ → Type 0) → Type 0
IsConverted alone Has Made = (l : Layered) × (remark : Option Extent)
    × Has l × IsRemark l.contained.length (length l.contained.image) l.contained.behind.items remark × (¬ LacksBlocks remark l.contained.image)
    × (alone ≡ false → HasEmptyTrack l.floppy) × Made l.contained.image (if alone then [] else l.contained.behind.items)
