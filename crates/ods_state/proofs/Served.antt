-- The relations of the layers below, of a request that makes no file, are cases of the one relation for every request.
use Rattle.std.proofs.Common.{◌≡◌, ℕ, ◌≤◌, refl, ap, sym, ◌∙◌, subst, true, false, List, Option, Some, None, is_some, arith, inl, inr}
use Rattle.std.specs.Prelude.{MatchOption}
use Rattle.std.specs.FinSet as set
use Rattle.ods_base.specs.declared.file_id.Uic.{Uic}
use Rattle.ods_header.specs.Header.{sequence_of}
use Rattle.ods_space.specs.Layout.{VolumeLayout, header_at}
use Rattle.ods_request.specs.declared.requests.Request.{Request}
use Rattle.ods_request.specs.declared.answers.Answer.{Answer}
use Rattle.ods_request.specs.declared.refusals.Refusal.{Refusal}
use Rattle.ods_request.specs.declared.refusals.Refusal.TheVariants as refusal
use Rattle.ods_request.specs.Catalogue.{Catalogue}
use Rattle.ods_request.specs.Faults.{fault_of}
use Rattle.ods_request.specs.Steps.{step, after}
use Rattle.ods_request.specs.Table.{creates, moves_blocks, takes_memory}
use Rattle.ods_request.proofs.StepLaws.{past_after, stepped}
use Rattle.ods_state.specs.Change.{IsCarriedOut, IsFaultBy, IsRefusedBy}
use Rattle.ods_state.specs.Contents.{ShowsBy}
use Rattle.ods_state.specs.Served.{IsStepOf, IsRefusalOf, IsShortOf}
use Rattle.ods_state.specs.Version.{PastIsSpent}
use Rattle.ods_state.specs.Wants.{Lacks, Wants}

module _ (I : List (List ℕ)) (L : VolumeLayout) (who : Uic) (r : Request) (a : Answer) (J : List (List ℕ))
    (stays : creates r ≡ false) (enough : (f : Refusal) → ¬ Lacks I L r f) (out : IsCarriedOut I L who r a J) where
  steps : (C : Catalogue) → ShowsBy I L C → step C who r a ≡ Some (after C r)
  steps C shown = let known = out.answered C shown in ap (step C who r) (sym known.1) ∙ stepped C who r stays known.0

  -- no ID joins the past, and no sequence word falls
  spent : (C : Catalogue) → PastIsSpent I L C → PastIsSpent J L (after C r)
  spent C past id known =
      let before : id.sequence ≤ sequence_of (header_at I L id.number) = past id (ap (λ p. set.contains p id) (sym (past_after C r)) ∙ known) in
      let risen : sequence_of (header_at I L id.number) ≤ sequence_of (header_at J L id.number) = out.sequences id.number in
      omega arith

  left : (C D : Catalogue) → Some (after C r) ≡ Some D → ShowsBy J L (after C r) × PastIsSpent J L (after C r) → ShowsBy J L D × PastIsSpent J L D
  left C D e = subst (λ E. ShowsBy J L E × PastIsSpent J L E) (cc)

  -- a request that makes no file, and that is carried out, is a step, and the layout stays
  pub carried_is_step : IsStepOf I L who r a J L
  carried_is_step = record {
    answered = λ C shown past. ap is_some (steps C shown);
    shown = λ C D shown past e. left C D (sym (steps C shown) ∙ e) (out.shown C shown, spent C past);
    sound = out.sound;
    enough = enough;
    moves = out.moves;
    elsewhere = out.elsewhere;
  }

-- for a request for which no blocks are taken the volume lacks nothing
wants_nothing : (I : List (List ℕ)) (L : VolumeLayout) (r : Request) (headers blocks : List ℕ) (n : ℕ) → moves_blocks r ≡ false → ¬ Wants I L r headers blocks n
wants_nothing I L r headers blocks n h w = grind arith

pub lacks_nothing : (I : List (List ℕ)) (L : VolumeLayout) (r : Request) → moves_blocks r ≡ false → (f : Refusal) → ¬ Lacks I L r f
lacks_nothing I L r h f lacks = wants_nothing I L r lacks.headers lacks.blocks lacks.count h lacks.wants

module _ (I : List (List ℕ)) (L : VolumeLayout) (who : Uic) (r : Request) (f : Refusal) where
  -- the first fault is a refusal
  pub refused_by_fault : IsFaultBy I L who r f → IsRefusalOf I L who r f
  refused_by_fault fault C shown = subst (λ o. MatchOption o (IsShortOf I L r f) (λ g. f ≡ g)) (sym (fault C shown)) refl

  -- and so is want of memory, of a request that takes memory
  pub refused_by_memory : takes_memory r ≡ true → IsRefusedBy I L who r f → IsRefusalOf I L who r f
  refused_by_memory takes refused C shown = by (fault_of C who r) (refused C shown)
    where
      by : (o : Option Refusal) → MatchOption o (f ≡ refusal.NoMemory) (λ g. f ≡ g) → MatchOption o (IsShortOf I L r f) (λ g. f ≡ g)
      by None is = inr (is, takes)
      by (Some g) is = is

  -- where nothing is lacking, it is no other
  pub short_of_memory : ¬ Lacks I L r f → IsRefusalOf I L who r f → IsRefusedBy I L who r f
  short_of_memory there refused C shown = by (fault_of C who r) (refused C shown)
    where
      by : (o : Option Refusal) → MatchOption o (IsShortOf I L r f) (λ g. f ≡ g) → MatchOption o (f ≡ refusal.NoMemory) (λ g. f ≡ g)
      by None (inl lacks) = absurd (there lacks)
      by None (inr short) = short.0
      by (Some g) is = is

  -- where memory is not taken either, it is the first fault
  pub fault_alone : ¬ Lacks I L r f → takes_memory r ≡ false → IsRefusalOf I L who r f → IsFaultBy I L who r f
  fault_alone there none refused C shown = by (fault_of C who r) (refused C shown)
    where
      by : (o : Option Refusal) → MatchOption o (IsShortOf I L r f) (λ g. f ≡ g) → o ≡ Some f
      by None (inl lacks) = absurd (there lacks)
      by None (inr short) = let wrong : true ≡ false = sym short.1 ∙ none in absurd (cc)
      by (Some g) is = ap Some (sym is)

-- where there is no fault, want of memory is a refusal of a request that takes memory
pub refused_for_memory : (I : List (List ℕ)) (L : VolumeLayout) (who : Uic) (r : Request) → takes_memory r ≡ true → ((C : Catalogue) → ShowsBy I L C → fault_of C who r ≡ None)
    → IsRefusalOf I L who r refusal.NoMemory
refused_for_memory I L who r takes fine C shown = subst (λ o. MatchOption o (IsShortOf I L r refusal.NoMemory) (λ g. refusal.NoMemory ≡ g)) (sym (fine C shown)) (inr (refl, takes))
