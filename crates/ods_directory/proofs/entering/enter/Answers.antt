use Rattle.std.proofs.Common.{◌≡◌, ◌/◌, ◌<◌, sym, subst, ◌∙◌, arith, false}
use Rattle.ods_base.specs.Block.{IsBlock}
use Rattle.ods_base.specs.Image.{block_at}
use Rattle.std.specs.FinMap.{insert}
use Rattle.ods_base.specs.Name.{key_of}
use Rattle.ods_base.specs.Names.{IsEntered}
use Rattle.ods_directory.specs.Mark.{IsSlot, grown, written}
use Rattle.ods_directory.specs.Names.{IsDirectory, names_of}
use Rattle.ods_directory.proofs.Firsts.{slot_of_first}
use Rattle.ods_directory.proofs.Versions.{is_entered, enter_fault, version_in_range, entered_is_new}
use Rattle.ods_directory.proofs.Rooms.{IsRoom, room_of, position_of}
use Rattle.ods_directory.proofs.Entered.{entered_so as with_entry}
use Rattle.ods_directory.proofs.entering.enter.Goals as goal
use Rattle.ods_directory.proofs.entering.enter.Given.{Over}
use Rattle.ods_directory.proofs.entering.enter.Goals.{After-bytes_of}

pub returns-in-Err-clause-err : goal.returns-in-Err-clause-err
returns-in-Err-clause-err g c = enter_fault (g.B.DirBlocks.blocks c.args.blocks.now) c.args.mark c.args.name.now c.requires.directory c.args.version c.find_room-found.result.0 c.in-Err.fault c.find_room-found.ensures.found (sym c.next_version.ensures ∙ c.in-Err.is)

entered : (g : Over) (c : After-bytes_of g) → IsEntered (names_of (g.B.DirBlocks.blocks c.args.blocks.now) c.args.mark) c.args.name.now c.args.version c.in-Ok.next
entered g c = is_entered (g.B.DirBlocks.blocks c.args.blocks.now) c.args.mark c.args.name.now c.requires.directory c.args.version c.find_room-found.result.0 c.in-Ok.next c.find_room-found.ensures.found (sym c.next_version.ensures ∙ c.in-Ok.is)

room : (g : Over) (c : After-bytes_of g) → IsRoom (g.B.DirBlocks.blocks c.args.blocks.now) c.args.mark c.slot_in-slot.result (position_of (g.B.DirBlocks.blocks c.args.blocks.now) c.args.mark c.requires.mark c.find_room-found.result.1)
room g c =
    let blocks = g.B.DirBlocks.blocks c.args.blocks.now in
    let whole = subst (λ s. s.grows ≡ false → IsBlock (block_at blocks (s.at / 512))) c.slot_in-slot.ensures.slot c.slot_in-slot.ensures.whole in
    subst (λ s. IsRoom blocks c.args.mark s (position_of blocks c.args.mark c.requires.mark c.find_room-found.result.1)) (sym c.slot_in-slot.ensures.slot) (room_of blocks c.args.mark c.requires.mark c.find_room-found.result.1 c.find_room-found.ensures.empty whole)

pub returns-clause-version : goal.returns-clause-version
returns-clause-version g c = entered g c

pub returns-clause-slot : goal.returns-clause-slot
returns-clause-slot g c =
    let blocks = g.B.DirBlocks.blocks c.args.blocks.now in
    subst (IsSlot blocks c.args.mark) (sym c.slot_in-slot.ensures.slot) (slot_of_first blocks c.args.mark c.find_room-found.result.1 c.find_room-found.ensures.empty)

-- with these bytes at the slot it stays a directory, with one name more
entered_so : (g : Over) (c : After-bytes_of g) → let blocks = g.B.DirBlocks.blocks c.args.blocks.now in let slot = c.slot_in-slot.result in
    IsDirectory (written (grown blocks slot) slot.at c.bytes_of.result) slot.mark
    × (names_of (written (grown blocks slot) slot.at c.bytes_of.result) slot.mark ≡ insert (names_of blocks c.args.mark) (key_of c.args.name.now c.in-Ok.next) c.args.file)
entered_so g c =
    let blocks = g.B.DirBlocks.blocks c.args.blocks.now in
    let range = version_in_range c.args.version c.find_room-found.result.0 c.in-Ok.next c.requires.version (sym c.next_version.ensures ∙ c.in-Ok.is) in
    let small : (c.args.file.number < 65536) × (c.args.file.sequence < 65536) = (omega arith, omega arith) in
    with_entry blocks c.args.mark c.args.name.now c.in-Ok.next c.args.file c.slot_in-slot.result (position_of blocks c.args.mark c.requires.mark c.find_room-found.result.1) c.requires.directory (room g c)
    c.bytes_of.ensures.name range c.requires.file small (entered_is_new (names_of blocks c.args.mark) c.args.name.now c.args.version c.in-Ok.next (entered g c)) c.bytes_of.result c.bytes_of.ensures.bytes

pub returns-clause-names : goal.returns-clause-names
returns-clause-names g c = (entered_so g c).1

pub returns-clause-stays : goal.returns-clause-stays
returns-clause-stays g c = (entered_so g c).0
