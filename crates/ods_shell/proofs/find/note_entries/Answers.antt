use Rattle.std.proofs.Common.{◌≡◌, map, subst, sym}
use Rattle.ods_base.specs.declared.listed.Listed.{Listed}
use Rattle.ods_walk.specs.Listing.{IsListing}
use Rattle.ods_shell.proofs.Unreached.{named_by_entries}
use Rattle.ods_shell.proofs.find.note_entries.Goals as goal

pub returns : goal.returns
returns c = λ ids are.
    let I = c.args.disk.now.image.now in
    let L = c.args.disk.now.layout.now in
    let same : c.deref.result.now ≡ c.in_ok-entries.entries.items = c.deref.ensures.value in
    let listing = subst (IsListing I L c.args.number) (sym same) (c.in_ok-entries.ensures.there c.requires) in
    (map (λ (e : Listed). e.file) c.deref.result.now, (named_by_entries I L c.args.number c.deref.result.now c.requires listing, c.note_all.ensures ids are))
