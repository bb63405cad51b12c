use Rattle.std.proofs.Common.{◌≡◌, ◌<◌, length, slice_index_or, sym, subst, ◌∙◌, ap}
use Rattle.ods_request.specs.declared.answers.Answer.TheVariants as answer
use Rattle.ods_request.specs.declared.answers.Entry.{Entry}
use Rattle.ods_volume.specs.Entries.{answer_in, entry_in, EntryList}
use Rattle.ods_volume.proofs.Pools.{row_shows}
use Rattle.ods_volume.proofs.entries.Entries.answer.Goals as goal

pub unreachable-requires : goal.unreachable-requires
unreachable-requires c =
    let blocks = c.self.inside.block_pool.items in
    let stats = c.self.inside.stat_pool.items in
    let row = c.index.result.now in
    let e : Entry = entry_in blocks stats row in
    let place = subst (λ (l : EntryList). c.args.at < length l.items) (sym c.self.view_is) c.requires.place in
    let here = row_shows c.self.inside.rows.items blocks stats c.args.at row e place c.index.ensures in
    let shown : (slice_index_or c.args.self.now.items c.args.at e).answer ≡ answer.Names c.in-Names.field-0 =
    subst (λ (l : EntryList). (slice_index_or l.items c.args.at e).answer ≡ answer.Names c.in-Names.field-0) c.self.view_is
    (ap (λ (x : Entry). x.answer) here ∙ ap (answer_in blocks stats) c.in-Names.is) in
    c.requires.unlined e (c.in-Names.field-0, shown)
