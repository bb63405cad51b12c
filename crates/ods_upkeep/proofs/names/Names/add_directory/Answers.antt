use Rattle.std.proofs.Common.{◌≡◌, ◌^◌, ◌<◌, ◌∙◌, sym, subst, ◌++◌, length, take}
use Rattle.std.specs.Prelude.{slice_index}
use Rattle.std.proofs.lemmas.List.{append-nil, take_all}
use Rattle.ods_base.specs.Image.{IsImage}
use Rattle.ods_upkeep.specs.Counted.{AreCountsOf}
use Rattle.ods_upkeep.proofs.Counting.{counts_on, few_on, lines_few}
use Rattle.ods_upkeep.proofs.names.Names.add_directory.Goals as goal
use Rattle.ods_upkeep.proofs.names.Names.add_directory.Goals.{After-deref-entry-items}

-- a directory has few entries
short : (c : After-deref-entry-items) → length c.in_ok-lines.lines.items < 2 ^ 32
short c =
    lines_few c.args.volume.now.image c.args.volume.now.layout c.image.ensures.sound (subst IsImage c.image.ensures.value c.len.ensures.image) c.args.number c.in_ok-lines.lines.items
    (c.in_ok-lines.ensures.there, c.in_ok-lines.ensures.none)

pub loop-entry-init : goal.loop-entry-init
loop-entry-init c = λ entries few counts. subst (λ l. AreCountsOf c.args.volume.now.image c.args.volume.now.layout l (slice_index c.args.self.now)) (sym (append-nil entries)) counts

pub loop-entry-preserved : goal.loop-entry-preserved
loop-entry-preserved c = λ entries few counts.
    let items = c.deref-entry-items.result.now in
    let all : length items < 2 ^ 32 = subst (λ l. length l < 2 ^ 32) (sym c.deref-entry-items.ensures.value) (short (goal.at.loop-entry-preserved c).After-deref-entry-items) in
    counts_on c.args.volume.now.image c.args.volume.now.layout entries items c.loop-entry.entry-index c.entry-item.result (slice_index c.add_entry.new.self) c.loop-entry-test.true c.entry-item.is
    (c.add_entry.ensures (entries ++ take c.loop-entry.entry-index items) (few_on entries items c.loop-entry.entry-index c.loop-entry-test.true few all) (c.loop-entry.invariant entries few counts))

pub returns : goal.returns
returns c =
    let items = c.deref-entry-items.result.now in
    let lines = c.in_ok-lines.lines.items in
    let whole : take c.loop-entry.entry-index items ≡ lines = take_all c.loop-entry.entry-index items c.loop-entry-test.false ∙ c.deref-entry-items.ensures.value in (
      lines,
      (c.in_ok-lines.ensures.there, c.in_ok-lines.ensures.none),
      short (goal.at.returns c).After-deref-entry-items,
      λ entries few counts.
          subst (λ l. AreCountsOf c.args.volume.now.image c.args.volume.now.layout (entries ++ l) (slice_index c.loop-entry.self)) whole (c.loop-entry.invariant entries few counts),
    )
