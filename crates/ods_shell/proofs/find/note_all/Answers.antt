use Rattle.std.proofs.Common.{rules, ◌≤◌, ◌++◌, refl, length, map, subst, sym, append-nil}
use Rattle.std.proofs.lemmas.List.{take_all}
use Rattle.std.proofs.lemmas.Option.{slice_get_read}
use Rattle.ods_base.specs.declared.listed.Listed.{Listed}
use Rattle.ods_shell.specs.There.{AreFlags, IsAmong}
use Rattle.ods_shell.proofs.Flags.{among_next}
use Rattle.ods_shell.proofs.find.note_all.Goals as goal

pub loop-entry-init : goal.loop-entry-init
loop-entry-init c = λ ids are. subst (λ all. AreFlags (IsAmong c.args.disk.now.image.now c.args.disk.now.layout.now all) c.args.is_named.now.items) (sym (append-nil ids)) are

pub loop-entry-preserved : goal.loop-entry-preserved
loop-entry-preserved c = λ ids are.
    let at = slice_get_read c.args.entries.now _ c.loop-entry.entry-index c.entry-item.result refl c.loop-entry-test.true c.entry-item.is in
    among_next c.args.disk.now.image.now c.args.disk.now.layout.now (λ (e : Listed). e.file) ids c.args.entries.now c.loop-entry.entry-index c.entry-item.result
    c.loop-entry.is_named.items c.note.new.is_named.items at c.note.ensures (c.loop-entry.invariant ids are)

pub returns : goal.returns
returns c = λ ids are.
    let past : length c.args.entries.now ≤ c.loop-entry.entry-index = search rules in
    subst (λ es. AreFlags (IsAmong c.args.disk.now.image.now c.args.disk.now.layout.now (ids ++ map (λ (e : Listed). e.file) es)) c.loop-entry.is_named.items)
    (take_all c.loop-entry.entry-index c.args.entries.now past) (c.loop-entry.invariant ids are)
