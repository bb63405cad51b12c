use Rattle.std.proofs.Common.{◌≡◌, ◌≤◌, ◌++◌, ◌∙◌, sym, ap, drop, length, subst, take}
use Rattle.ods_remains.specs.Shared.{AreFirst}
use Rattle.ods_remains.proofs.Sharing.{items_back}
use Rattle.ods_remains.proofs.shares.lowest_of.Goals as goal
use Rattle.ods_remains.proofs.shares.lowest_of.Goals.{After-drop-seen-2}

-- what is handed out is the table that was noted
back : (c : After-drop-seen-2) → take c.in_ok-table.table.len (c.note_rising.new.table ++ drop (length c.note_rising.new.table) c.in_ok-table.table.items) ≡ c.note_rising.new.table
back c =
    let table = c.in_ok-table.table in
    items_back c.note_rising.new.table (drop (length c.note_rising.new.table) table.items) table.len (table.ok.0 ∙ ap length (sym c.deref_mut.ensures.value) ∙ sym c.in_ok-note_rising.ensures.size)

pub returns-clause-size : goal.returns-clause-size
returns-clause-size c = ap length (back c) ∙ c.in_ok-note_rising.ensures.size ∙ ap length c.deref_mut.ensures.value ∙ c.in_ok-table.ensures.size

pub returns-clause-lowest : goal.returns-clause-lowest
returns-clause-lowest c = subst (AreFirst c.args.disk.now.image.now c.args.disk.now.layout.now (λ m n. m ≤ n)) (sym (back c)) c.in_ok-note_rising.ensures.first
