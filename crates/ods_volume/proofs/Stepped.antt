-- A step of a sound volume, by the catalogues that its blocks show, whatever their past.
use Rattle.std.proofs.Common.{◌≡◌, refl, sym, ◌∙◌, subst, true, false, List, ℕ, Some, None, inr}
use Rattle.std.specs.Prelude.{MatchOption}
use Rattle.std.specs.FinSet as set
use Rattle.ods_base.specs.declared.file_id.Uic.{Uic}
use Rattle.ods_space.specs.Layout.{VolumeLayout}
use Rattle.ods_request.specs.declared.requests.Request.{Request}
use Rattle.ods_request.specs.declared.answers.Answer.{Answer}
use Rattle.ods_request.specs.declared.refusals.Refusal.TheVariants as refusal
use Rattle.ods_request.specs.Catalogue.{Catalogue, file_cmp}
use Rattle.ods_request.specs.Faults.{fault_of}
use Rattle.ods_request.specs.Steps.{step}
use Rattle.ods_request.specs.Table.{takes_memory}
use Rattle.ods_state.specs.Contents.{ShowsBy}
use Rattle.ods_state.specs.Served.{IsStepOf, IsRefusalOf, IsShortOf}
use Rattle.ods_state.specs.Version.{PastIsSpent}
use Rattle.ods_volume.proofs.Lawful.{left_by}
use Rattle.ods_volume.proofs.OtherPast.{with_past, fault_past, no_fault}

module _ (I : List (List ℕ)) (L : VolumeLayout) (who : Uic) (r : Request) (a : Answer) (J : List (List ℕ)) (M : VolumeLayout) (made : IsStepOf I L who r a J M) where
  -- a catalogue with nothing of its past
  abbrev new : Catalogue → Catalogue
  new C = with_past C set.empty

  shown_new : (C : Catalogue) → ShowsBy I L C → ShowsBy I L (new C)
  shown_new C s = record { there = s.there; all = s.all; default = s.default }

  unspent : (C : Catalogue) → PastIsSpent I L (new C)
  unspent C id past = let wrong : false ≡ true = sym (set.contains-empty file_cmp id) ∙ past in absurd (cc)

  -- it makes this step, and the blocks show what is left
  pub stepped : (C : Catalogue) → ShowsBy I L C → (D : Catalogue) × (step (new C) who r a ≡ Some D) × ShowsBy J M D
  stepped C s =
      let left = left_by (step (new C) who r a) (made.answered (new C) (shown_new C s) (unspent C)) in
      (left.0, left.1, (made.shown (new C) left.0 (shown_new C s) (unspent C) left.1).0)

  pub has_no_fault : (C : Catalogue) → ShowsBy I L C → fault_of C who r ≡ None
  has_no_fault C s = let at = stepped C s in sym (fault_past C set.empty who r) ∙ no_fault (new C) at.0 who r a at.1

  -- so it can be refused for want of memory alone
  pub short_of_memory : takes_memory r ≡ true → IsRefusalOf I L who r refusal.NoMemory
  short_of_memory takes C s = subst (λ o. MatchOption o (IsShortOf I L r refusal.NoMemory) (λ g. refusal.NoMemory ≡ g)) (sym (has_no_fault C s)) (inr (refl, takes))
