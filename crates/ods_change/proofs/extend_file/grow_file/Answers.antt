use Rattle.std.proofs.Common.{◌≡◌, ◌∙◌, Some, drop, ap, sym, subst}
use Rattle.std.specs.Prelude.{is_some, slice_set}
use Rattle.ods_header.specs.Contiguous.{IsWithoutContiguous, KeepsAllButContiguous}
use Rattle.ods_space.specs.Chain.{headers_of, named_by, numbers_of}
use Rattle.ods_space.specs.Draft.{applied}
use Rattle.ods_space.specs.Layout.{header_at, place_of}
use Rattle.std.specs.List.{flat_map}
use Rattle.ods_header.specs.Header.{run_blocks}
use Rattle.ods_alloc.specs.Extend.{cut}
use Rattle.ods_alloc.specs.Zeroed.{IsZeroed}
use Rattle.ods_alloc.proofs.Cuts.{cut_blocks}
use Rattle.ods_change.proofs.AttributesReplaced.{has_place}
use Rattle.ods_change.proofs.ReadyToGrow.{chain_asked, growth_asked, has_grown, headers_asked, layout_asked, set_is, walked_now}
use Rattle.ods_state.proofs.Bookkeeping.{well_placed}
use Rattle.ods_change.proofs.ChainEnds.{ends_asked}
use Rattle.ods_change.proofs.extend_file.grow_file.Goals as goal
use Rattle.ods_change.proofs.extend_file.grow_file.Goals.{In_ok-set}

pub unwrap-lbn-requires : goal.unwrap-lbn-requires
unwrap-lbn-requires c =
    let w = c.requires.wanted.3 in
    ap is_some c.place.ensures ∙ has_place (applied c.args.disk.now.image.now c.args.draft) c.args.disk.now.layout.now c.args.number w.file

place_is : (c : In_ok-set) → place_of c.args.disk.now.layout.now c.args.number ≡ Some c.unwrap-lbn.result
place_is c = sym c.place.ensures ∙ c.unwrap-lbn.ensures

changed : (c : In_ok-set) → IsWithoutContiguous (header_at (applied c.args.disk.now.image.now c.args.draft) c.args.disk.now.layout.now c.args.number) c.without_contiguous-header.result
changed c = subst (λ b. IsWithoutContiguous b c.without_contiguous-header.result) c.requires.first c.without_contiguous-header.ensures.changed

fields : (c : In_ok-set) → KeepsAllButContiguous (header_at (applied c.args.disk.now.image.now c.args.draft) c.args.disk.now.layout.now c.args.number) c.without_contiguous-header.result
fields c = subst (λ b. KeepsAllButContiguous b c.without_contiguous-header.result) c.requires.first c.without_contiguous-header.ensures.fields

zeroed : (c : In_ok-set) → IsZeroed (applied c.args.disk.now.image.now c.args.draft) c.args.growing.now.blocks.items (applied c.args.disk.now.image.now c.zero_runs.new.draft)
zeroed c =
    let w = c.requires.wanted.3 in
    subst (λ l. IsZeroed (applied c.args.disk.now.image.now c.args.draft) l (applied c.args.disk.now.image.now c.zero_runs.new.draft))
    (ap (flat_map run_blocks) (c.deref.ensures.value ∙ w.runs) ∙ cut_blocks c.args.growing.now.blocks.items) (c.in_ok-zero_runs.ensures c.args.disk.now.image.now)

set : (c : In_ok-set) → applied c.args.disk.now.image.now c.set.new.self ≡ slice_set (applied c.args.disk.now.image.now c.zero_runs.new.draft) c.unwrap-lbn.result c.without_contiguous-header.result
set c = set_is c.args.disk.now.image.now c.zero_runs.new.draft c.set.new.self c.unwrap-lbn.result c.without_contiguous-header.result c.in_ok-set.ensures.ok

pub extend_from-requires : goal.extend_from-requires
extend_from-requires c =
    let I = applied c.args.disk.now.image.now c.args.draft in
    let L = c.args.disk.now.layout.now in
    let n = c.args.number in
    let s = (goal.at.extend_from-requires c).In_ok-set in
    let headers = c.requires.wanted.0 in
    let old = c.requires.wanted.1 in
    let count = c.requires.wanted.2 in
    let w = c.requires.wanted.3 in
    let Z = applied c.args.disk.now.image.now c.zero_runs.new.draft in
    let K = applied c.args.disk.now.image.now c.set.new.self in
    let walk = walked_now I Z K L c.requires.sound n c.unwrap-lbn.result c.without_contiguous-header.result (place_is s) (changed s) (fields s) headers old count c.args.growing.now c.requires.above w (zeroed s) (set s)
    c.requires.image c.makes_image.ensures in (
      layout_asked I Z K L c.requires.sound n c.unwrap-lbn.result c.without_contiguous-header.result (place_is s) (changed s) (fields s) headers old count c.args.growing.now c.requires.above w (zeroed s) (set s),
      (
        well_placed I L c.requires.sound,
        (
          chain_asked I Z K L c.requires.sound n c.unwrap-lbn.result c.without_contiguous-header.result (place_is s) (changed s) (fields s) headers old count c.args.growing.now c.requires.above w (zeroed s) (set s)
              c.requires.image (drop 1 (numbers_of (headers_of K L n))) (named_by (headers_of K L n)) walk.0 walk.1,
          (
            growth_asked I Z K L c.requires.sound n c.unwrap-lbn.result c.without_contiguous-header.result (place_is s) (changed s) (fields s) headers old count c.args.growing.now c.requires.above w (zeroed s) (set s)
                (drop 1 (numbers_of (headers_of K L n))) c.deref-2.result.now c.deref-3.result.now walk.0 c.deref-2.ensures.value c.deref-3.ensures.value,
            (
              ends_asked I K L n headers old c.without_contiguous-header.result c.args.end.now w.has c.requires.end walk.0
                  (headers_asked I Z K L c.requires.sound n c.unwrap-lbn.result c.without_contiguous-header.result (place_is s) (changed s) (fields s) headers old count c.args.growing.now c.requires.above w (zeroed s) (set s)),
              c.deref-4.ensures.value ∙ w.runs ∙ ap cut (sym c.deref-2.ensures.value),
            ),
          ),
        ),
      ),
    )

pub returns : goal.returns
returns c = λ headers old count w.
    let I = applied c.args.disk.now.image.now c.args.draft in
    let L = c.args.disk.now.layout.now in
    let n = c.args.number in
    let s = (goal.at.returns c).In_ok-set in
    let Z = applied c.args.disk.now.image.now c.zero_runs.new.draft in
    let K = applied c.args.disk.now.image.now c.set.new.self in
    let walk = walked_now I Z K L c.requires.sound n c.unwrap-lbn.result c.without_contiguous-header.result (place_is s) (changed s) (fields s) headers old count c.args.growing.now c.requires.above w (zeroed s) (set s)
    c.requires.image c.makes_image.ensures in
    has_grown I Z K L c.requires.sound n c.unwrap-lbn.result c.without_contiguous-header.result (place_is s) (changed s) (fields s) headers old count c.args.growing.now c.requires.above w (zeroed s) (set s)
    (applied c.args.disk.now.image.now c.in_ok-grown.grown) (drop 1 (numbers_of (headers_of K L n))) (named_by (headers_of K L n)) c.deref-2.result.now c.deref-3.result.now walk.0 walk.1 c.deref-2.ensures.value c.deref-3.ensures.value
    c.in_ok-grown.ensures
