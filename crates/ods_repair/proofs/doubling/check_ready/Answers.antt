use Rattle.std.proofs.Common.{rules, ◌<◌, ◌≡◌, ℕ, List, get_or, length, map, ap, sym, subst, ◌∙◌}
use Rattle.std.specs.List.{All}
use Rattle.ods_base.specs.Image.{block_at}
use Rattle.ods_directory.specs.Entry.{IsGoodEntry, used_entries}
use Rattle.ods_mount.specs.Faults.{contents_of}
use Rattle.ods_repair.specs.Spare.{AreSpare, IsNotSpare}
use Rattle.ods_repair.proofs.DoubledLaw.{not_spare}
use Rattle.ods_repair.proofs.doubling.check_ready.Goals as goal

pub returns-in_err-check_spare-clause-refused : goal.returns-in_err-check_spare-clause-refused
returns-in_err-check_spare-clause-refused c =
    let I = c.args.disk.now.image.now in
    let L = c.args.disk.now.layout.now in
    let why = not_spare I L c.args.directory c.args.found.now.lbns.items c.requires.whole.has c.in_err-check_spare.field-0.0
    (subst (λ xs. IsNotSpare I L c.args.directory xs 0 c.in_err-check_spare.field-0.0) c.deref.ensures.value c.in_err-check_spare.ensures.err) in
    search rules

pub new-blocks-requires-clause-inside : goal.new-blocks-requires-clause-inside
new-blocks-requires-clause-inside c =
    subst (λ xs. (k : ℕ) (d : ℕ) → k < length xs → get_or xs k d < length c.args.disk.now.image.now) (sym c.deref-2.ensures.value) c.requires.whole.has.whole.inside

pub returns-clause-ready : goal.returns-clause-ready
returns-clause-ready c =
    let I = c.args.disk.now.image.now in
    let L = c.args.disk.now.layout.now in
    let bs = c.args.found.now.lbns.items in
    let blocks : map (block_at c.new-blocks.result.image.now) c.new-blocks.result.lbns.now ≡ contents_of I bs =
    ap (λ (X : List (List ℕ)). map (block_at X) c.new-blocks.result.lbns.now) c.new-blocks.ensures.0 ∙ ap (map (block_at I)) (c.new-blocks.ensures.1 ∙ c.deref-2.ensures.value) in
    let good : All IsGoodEntry (used_entries (map (block_at c.new-blocks.result.image.now) c.new-blocks.result.lbns.now) c.args.found.now.mark) = c.if-has_bad_entry.ensures in
    record {
      file = c.requires.whole.file;
      has = c.requires.whole.has;
      spare = subst (λ xs. AreSpare I L c.args.directory xs 0) c.deref.ensures.value c.in_ok-check_spare.ensures.ok;
      good = subst (λ m. All IsGoodEntry (used_entries (contents_of I bs) m)) c.requires.whole.end (subst (λ cs. All IsGoodEntry (used_entries cs c.args.found.now.mark)) blocks good);
    }
