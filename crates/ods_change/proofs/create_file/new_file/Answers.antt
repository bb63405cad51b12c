use Rattle.std.proofs.Common.{ℕ, refl, ap, sym, ◌∙◌, subst, List, [], length}
use Rattle.std.specs.Prelude.{is_some}
use Rattle.ods_space.specs.Draft.{applied}
use Rattle.ods_space.specs.Layout.{VolumeLayout}
use Rattle.ods_space.proofs.Drafts.{applied_over}
use Rattle.ods_alloc.specs.Ends.{AreEnds}
use Rattle.ods_alloc.specs.Extend.{CanExtend, Extends}
use Rattle.ods_state.proofs.Bookkeeping.{well_placed}
use Rattle.ods_state.proofs.GrowthReady.{ready_layout}
use Rattle.ods_state.proofs.GrowthChain.{ready_chain}
use Rattle.ods_state.proofs.GrowthAllocates.{can_extend}
use Rattle.ods_state.specs.Growth.{IsReady}
use Rattle.ods_state.specs.Wants.{allocated_blocks}
use Rattle.std.specs.List.{flat_map}
use Rattle.ods_header.specs.Header.{run_blocks}
use Rattle.ods_alloc.specs.Zeroed.{IsZeroed}
use Rattle.ods_alloc.proofs.Cuts.{cut_blocks}
use Rattle.ods_change.proofs.FirstWritten.{IsWritten, first_place, header_written, is_ready, taken_inside, taken_written}
use Rattle.ods_change.proofs.create_file.new_file.Goals as goal
use Rattle.ods_change.proofs.create_file.new_file.Goals.{In_ok-set}

pub unwrap-first-requires : goal.unwrap-first-requires
unwrap-first-requires c = ap is_some c.place.ensures ∙ first_place (applied c.args.disk.now.image.now c.args.draft) c.args.disk.now.layout.now c.args.number (length c.args.blocks.now) c.args.others.now c.requires.taking

module _ (c : In_ok-set) where
  abbrev I : List (List ℕ)
  I = applied c.args.disk.now.image.now c.args.draft

  abbrev L : VolumeLayout
  L = c.args.disk.now.layout.now

  abbrev count : ℕ
  count = length c.args.blocks.now

  abbrev K : List (List ℕ)
  K = applied c.args.disk.now.image.now c.set.new.self

  abbrev Z : List (List ℕ)
  Z = applied c.args.disk.now.image.now c.zero_runs.new.draft

  zeroed : IsZeroed I (allocated_blocks I L count) Z
  zeroed = subst (λ bs. IsZeroed I bs Z) (ap (flat_map run_blocks) c.requires.runs ∙ cut_blocks c.args.blocks.now ∙ c.requires.lowest) (c.in_ok-zero_runs.ensures c.args.disk.now.image.now)

  written : IsWritten I Z K L c.args.number c.unwrap-first.result count c.args.header
  written = record {
    sound = c.requires.sound;
    place = sym c.place.ensures ∙ c.unwrap-first.ensures;
    long = zeroed.long;
    elsewhere = zeroed.elsewhere;
    is = ap (applied c.args.disk.now.image.now) c.in_ok-set.ensures.ok ∙ applied_over c.args.disk.now.image.now c.zero_runs.new.draft c.unwrap-first.result c.args.header;
  }

  ready : IsReady I K L c.args.number [] count
  ready = is_ready written [] c.requires.header

pub extend_from-requires : goal.extend_from-requires
extend_from-requires c =
    let I : List (List ℕ) = applied c.args.disk.now.image.now c.args.draft in
    let L : VolumeLayout = c.args.disk.now.layout.now in
    let K : List (List ℕ) = applied c.args.disk.now.image.now c.set.new.self in
    let n : ℕ = c.args.number in
    let count : ℕ = length c.args.blocks.now in
    let at = ready (goal.at.extend_from-requires c).In_ok-set in
    let there = sym (header_written (written (goal.at.extend_from-requires c).In_ok-set)) in
    let ends : AreEnds K L n [] c.args.header _ = record { first = there; number = refl; last = λ apart. there } in (
      ready_layout I K L c.requires.sound n [] [] count c.args.others.now c.requires.taking at,
      (
        well_placed I L c.requires.sound,
        (
          ready_chain I K L c.requires.sound n [] [] count c.args.others.now c.requires.taking at c.requires.image,
          (subst (λ bs. CanExtend K L n [] bs c.args.others.now) (sym c.requires.lowest) (can_extend I K L c.requires.sound n [] [] count c.args.others.now c.requires.taking at), (ends, c.requires.runs)),
        ),
      ),
    )

pub returns : goal.returns
returns c =
    let I : List (List ℕ) = applied c.args.disk.now.image.now c.args.draft in
    let L : VolumeLayout = c.args.disk.now.layout.now in
    let K : List (List ℕ) = applied c.args.disk.now.image.now c.set.new.self in
    let n : ℕ = c.args.number in
    let at = (goal.at.returns c).In_ok-set in
    record {
      ready = K;
      is_ready = ready at;
      first = header_written (written at);
      zeroed = λ y own. taken_written (written at) y own ∙ (zeroed at).zero y own (taken_inside I L (length c.args.blocks.now) y own);
      extended = subst (λ bs. Extends K L n [] [] bs c.args.others.now (applied c.args.disk.now.image.now c.in_ok-grown.grown)) c.requires.lowest c.in_ok-grown.ensures;
    }
