use Rattle.std.proofs.Common.{rules, ◌≤◌, length, refl}
use Rattle.std.proofs.lemmas.Option.{slice_get_read, slice_get_within, get_or_from_slice_get}
use Rattle.ods_shell.proofs.Noted.{begin_noting, noting_on, directory_noted}
use Rattle.ods_shell.proofs.file_names.note_listing.Goals as goal

pub loop-entry-init : goal.loop-entry-init
loop-entry-init c = begin_noting c.args.entries.now c.args.first.now.items c.requires.so

pub loop-entry-preserved : goal.loop-entry-preserved
loop-entry-preserved c =
    let entries = c.args.entries.now in
    let i = c.loop-entry.entry-index in
    let e = c.entry-item.result in
    let here = slice_get_read entries _ i e refl c.loop-entry-test.true c.entry-item.is in
    noting_on c.loop-entry.invariant e c.note_entry.new.first.items here
    (record { lines = entries; listing = c.requires.listing; among = (i, slice_get_within entries i e here, get_or_from_slice_get entries i e e here) }) c.requires.within c.note_entry.ensures.word c.note_entry.ensures.noted

pub returns : goal.returns
returns c =
    let past : length c.args.entries.now ≤ c.loop-entry.entry-index = search rules in
    directory_noted c.loop-entry.invariant c.requires.listing past
