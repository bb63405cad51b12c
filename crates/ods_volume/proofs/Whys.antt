-- What comes of a request before its change is made, by what its volume says of it.
use Rattle.std.proofs.Common.{◌≡◌, ◌<◌, ◌≤◌, ◌∙◌, ℕ, refl, ap, sym, true, false, length, arith}
use Rattle.std.specs.Prelude.{Ok, Err}
use Rattle.ods_base.specs.declared.file_id.Uic.{Uic}
use Rattle.ods_space.specs.Draft.{applied}
use Rattle.ods_space.specs.Layout.{with_places}
use Rattle.ods_request.specs.declared.answers.Answer.{Answer}
use Rattle.ods_request.specs.declared.refusals.Refusal.{Refusal}
use Rattle.ods_request.specs.declared.refusals.Refusal.TheVariants as refusal
use Rattle.ods_request.specs.declared.requests.Request.{Request}
use Rattle.ods_request.specs.CompactRequest.{has_block}
use Rattle.ods_request.specs.Table.{takes_memory}
use Rattle.ods_state.specs.Outcome.{list_full, no_memory}
use Rattle.ods_state.specs.Served.{IsRefusalOf}
use Rattle.ods_state.specs.Version.{State, IsLawful}
use Rattle.ods_volume.specs.Changing.{Parts}
use Rattle.ods_volume.specs.Preparing.{IsPlanned, IsPrepared, IsWhyNotPlanned, plan_of}
use Rattle.ods_volume.proofs.Lawful.{plan_is_lawful}
use Rattle.ods_volume.proofs.Reasons.{step_has_none, refusal_is_first, refusal_is_reason, refusal_is_other}

-- a block wants memory
pub block_takes_memory : (r : Request) → has_block r ≡ true → takes_memory r ≡ true
block_takes_memory r block = grind arith

module _ (v : State) (lawful : IsLawful v) (who : Uic) (r : Request) where
  -- the list is full
  pub full_is_why : v.limit ≤ length v.entries → IsWhyNotPlanned v who r refusal.ListFull
  full_is_why full session nth = record {
    full = λ e. refl;
    refused = λ C f room present e. absurd (omega (arith, full, room));
    plan = tt;
    lacking = λ f lacks. refl;
    reason = list_full (omega (arith, full, lawful.room));
    memory = λ none same. absurd (cc same);
  }

  -- the volume refuses it
  pub refusal_is_why : (f : Refusal) → length v.entries < v.limit → IsRefusalOf v.image v.layout who r f → IsWhyNotPlanned v who r f
  refusal_is_why f room why session nth = record {
    full = λ e. absurd (omega (arith, room, e));
    refused = λ C g below present e. ap Err (refusal_is_first v lawful who r f why C g present e);
    plan = tt;
    lacking = λ g lacks. refl;
    reason = refusal_is_reason v lawful who r f why;
    memory = λ none same. refusal_is_other v lawful who r f why none (cc same);
  }

  module _ (a : Answer) (p : Parts) (planned : IsPlanned v who r a p) where
    -- there is no memory for what it takes
    pub short_is_why : takes_memory r ≡ true → IsWhyNotPlanned v who r refusal.NoMemory
    short_is_why takes session nth = record {
      full = λ e. let room = planned.room in absurd (omega (arith, room, e));
      refused = λ C f room present e.
          absurd (step_has_none v lawful who r a (applied v.image p.changes) (with_places v.layout p.places) planned.change.step C f present e);
      plan = tt;
      lacking = λ f lacks. refl;
      reason = no_memory takes;
      memory = λ none same. let wrong : false ≡ true = sym none ∙ takes in absurd (cc wrong);
    }

    -- it is accepted
    pub planned_is_prepared : (session nth : ℕ) → IsPrepared v session nth who r (Ok (plan_of session nth who r a p))
    planned_is_prepared session nth = record {
      full = λ e. let room = planned.room in absurd (omega (arith, room, e));
      refused = λ C f room present e.
          absurd (step_has_none v lawful who r a (applied v.image p.changes) (with_places v.layout p.places) planned.change.step C f present e);
      plan = (plan_is_lawful v lawful session nth who r a p.changes p.places p.counts p.end planned.room planned.change.step planned.change.lawful.counted planned.change.lawful.ended, refl);
      lacking = λ f lacks. absurd (planned.change.step.enough f lacks);
      reason = tt;
      memory = λ none same. absurd (cc same);
    }
