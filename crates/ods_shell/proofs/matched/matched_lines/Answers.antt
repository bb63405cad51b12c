use Rattle.std.proofs.Common.{sym, subst, List}
use Rattle.std.specs.Prelude.{IsPermutation, IsSortedByKey}
use Rattle.ods_base.specs.declared.listed.Listed.{Listed}
use Rattle.ods_paths.specs.Order.{listing_cmp}
use Rattle.ods_paths.specs.Views.{files}
use Rattle.ods_walk.specs.Listing.{shown}
use Rattle.ods_shell.specs.Choosing.{AreThose}
use Rattle.ods_shell.specs.Matched.{IsMatchedLine}
use Rattle.ods_shell.proofs.ListedWhole.{from_two, matched_of_listing}
use Rattle.ods_shell.proofs.matched.matched_lines.Goals as goal

pub returns-clause-lines : goal.returns-clause-lines
returns-clause-lines c =
    let said = files c.args.files.now in
    let likely = c.in_ok-entries.ensures in
    let some : List Listed = c.deref-2.result.now in
    let kept : AreThose (IsMatchedLine said) c.in_ok-entries.entries.items some =
    subst (λ (es : List Listed). AreThose (IsMatchedLine said) es some) c.deref.ensures.value (subst (AreThose (IsMatchedLine said) c.deref.result.now) (sym c.deref-2.ensures.value) c.in_ok-those.ensures) in
    from_two c.in_order.result (λ those. IsPermutation some those.items) (λ those. IsSortedByKey shown listing_cmp those.items) _
    (λ those moved sorted. matched_of_listing c.args.disk.now.image.now c.args.disk.now.layout.now said c.args.number likely.0 some c.if-not-is_directory_file.ensures likely.1 (likely.2 some kept) those.items moved sorted)
    c.in_order.ensures.permutation c.in_order.ensures.order
