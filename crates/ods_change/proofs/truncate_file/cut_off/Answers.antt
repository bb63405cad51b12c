use Rattle.std.proofs.Common.{◌≡◌, List, ℕ, ◌++◌, drop, ap, sym, ◌∙◌, subst}
use Rattle.std.specs.Prelude.{is_some}
use Rattle.ods_header.specs.Cutting.{IsCutTo, first_runs}
use Rattle.ods_header.specs.Header.{IsValidHeader, blocks_of, runs_of}
use Rattle.ods_header.specs.Pointing.{KeepsFields}
use Rattle.ods_space.specs.Chain.{named_by}
use Rattle.ods_space.specs.Draft.{applied}
use Rattle.ods_alloc.specs.Marks.{Deletes}
use Rattle.ods_state.proofs.Bookkeeping.{well_placed}
use Rattle.ods_change.proofs.CuttingOff.{away_are, behind_read, cuts_along, header_is, last_valid, slice_behind, valid_has_place}
use Rattle.ods_change.proofs.HeldByFiles.{places_in}
use Rattle.ods_change.proofs.ReadyToGrow.{set_is}
use Rattle.ods_change.proofs.truncate_file.cut_off.Goals as goal

pub cut_place-last-requires-clause-chain : goal.cut_place-last-requires-clause-chain
cut_place-last-requires-clause-chain c = let whole = c.requires.sound.chains c.args.number c.requires.file in (whole.1.others, whole.0, whole.1.whole.chain, c.requires.enough whole.0 whole.1)

pub delete_headers-requires-clause-places : goal.delete_headers-requires-clause-places
delete_headers-requires-clause-places c = well_placed c.args.disk.now.image.now c.args.disk.now.layout.now c.requires.sound

pub delete_headers-requires-clause-read : goal.delete_headers-requires-clause-read
delete_headers-requires-clause-read c =
    let own = c.requires.sound.chains c.args.number c.requires.file in
    behind_read c.requires.sound c.requires.above c.len.ensures.image own.1.whole c.cut_place-last.ensures

pub unwrap-lbn-requires : goal.unwrap-lbn-requires
unwrap-lbn-requires c =
    let own = c.requires.sound.chains c.args.number c.requires.file in
    ap is_some c.place.ensures ∙ valid_has_place c.args.disk.now.image.now c.args.disk.now.layout.now c.cut_place-last.result.number (last_valid c.requires.sound c.requires.above c.len.ensures.image own.1.whole c.cut_place-last.ensures)

pub mark_free-requires : goal.mark_free-requires
mark_free-requires c =
    let I = c.args.disk.now.image.now in
    record { places = places_in I c.args.disk.now.layout.now c.requires.sound.layout (well_placed I c.args.disk.now.layout.now c.requires.sound) }

pub returns : goal.returns
returns c = λ others blocks whole.
    let I = c.args.disk.now.image.now in
    let L = c.args.disk.now.layout.now in
    let S = c.requires.sound in
    let P = c.cut_place-last.ensures in
    let image = c.len.ensures.image in
    let header = c.cut_place-last.result.header.now in
    let left = c.cut_place-last.result.left in
    let is = header_is S c.requires.above image whole P in
    let noted : c.in_ok-held.held.lbns.items ≡ blocks_of header ++ named_by c.cut_place-last.result.behind =
    c.in_ok-held.ensures.held.0 ∙ ap (λ l. l ++ named_by c.cut_place-last.result.behind) (c.in_ok-push_header.ensures ∙ ap (λ l. l ++ blocks_of header) c.new-lbns.ensures.items) in
    let rewrite : List ℕ → List ℕ → Type 0 = λ b x. IsCutTo b (first_runs left (runs_of b)) x in
    cuts_along S c.requires.above image whole P c.unwrap-lbn.result (sym c.place.ensures ∙ c.unwrap-lbn.ensures) c.cut_header.result
    (applied I c.delete_headers.new.draft) (applied I c.set.new.self) (applied I c.in_ok-given.given) _ c.deref-2.result.now (subst (λ ns. Deletes I L ns (applied I c.delete_headers.new.draft)) (sym c.deref-2.ensures.value) c.in_ok-held.ensures.deleted)
    (set_is I c.delete_headers.new.draft c.set.new.self c.unwrap-lbn.result c.cut_header.result c.in_ok-set.ensures.ok)
    (c.deref-2.ensures.value ∙ c.in_ok-held.ensures.held.1) (slice_behind c.deref.result.now left ∙ ap (drop left) (c.deref.ensures.value ∙ noted) ∙ away_are S c.requires.above image whole P)
    c.in_ok-given.ensures.bits c.in_ok-given.ensures.only
    (subst (λ b. rewrite b c.cut_header.result) is c.cut_header.ensures.changed)
    (subst (λ b. KeepsFields b c.cut_header.result) is c.cut_header.ensures.fields)
    (λ m. subst (λ b. IsValidHeader b m → IsValidHeader c.cut_header.result m) is (c.cut_header.ensures.valid m))
