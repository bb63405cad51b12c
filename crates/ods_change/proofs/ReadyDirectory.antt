-- A directory that takes a block, before its chain grows: the new block stands with its entry, and the first header has the new end mark.
use Rattle.std.proofs.Common.{◌≡◌, ℕ, zero, refl, sym, ◌∙◌, subst, List, [], ◌∷◌, Some, arith}
use Rattle.std.specs.Prelude.{slice_set}
use Rattle.std.specs.List.{Contains}
use Rattle.std.proofs.lemmas.List.{get_or-set_other, get_or-set_same, length-set}
use Rattle.ods_base.specs.Image.{block_at}
use Rattle.ods_header.specs.Attributes.{IsWithAttributes}
use Rattle.ods_header.specs.Header.{IsValidHeader}
use Rattle.ods_header.proofs.AttributesSet.{attributes_are_other}
use Rattle.ods_space.specs.Layout.{VolumeLayout, header_at, place_of}
use Rattle.ods_mount.specs.Sound.{IsSoundBy}
use Rattle.ods_state.specs.Wants.{allocated_blocks}
use Rattle.ods_state.specs.Growth.{IsReady}
use Rattle.ods_state.proofs.OtherFront.{kept_first}
use Rattle.ods_change.proofs.FirstWritten.{IsWritten, header_written, is_ready as first_ready, taken_inside, taken_written}

module _ {I : List (List ℕ)} {L : VolumeLayout} (S : IsSoundBy I L) {n x y : ℕ} {new c : List ℕ} (b : List ℕ) (valid : IsValidHeader (header_at I L n) n) (place : place_of L n ≡ Some y)
    (taken : allocated_blocks I L 1 ≡ x ∷ []) (w : IsWithAttributes (header_at I L n) new c) where
  abbrev K : List (List ℕ)
  K = slice_set (slice_set I x b) y c

  own : Contains (allocated_blocks I L 1) x
  own = subst (λ bs. Contains bs x) (sym taken) (zero, omega arith, refl)

  written : IsWritten I (slice_set I x b) K L n y 1 c
  written = record {
    sound = S;
    place = place;
    long = length-set I x b;
    elsewhere = λ z far. get_or-set_other I x z b [] (λ e. far (subst (Contains (allocated_blocks I L 1)) (sym e) own));
    is = refl;
  }

  pub header_ready : header_at K L n ≡ c
  header_ready = header_written written

  pub block_ready : block_at K x ≡ b
  block_ready = taken_written written x own ∙ get_or-set_same I x b [] (taken_inside I L 1 x own)

  pub is_ready : (others : List ℕ) → IsReady I K L n (n ∷ others) 1
  is_ready others = first_ready written (n ∷ others) (kept_first (attributes_are_other (header_at I L n) new c w) n valid)
