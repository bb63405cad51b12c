-- A file of which a part is there, since its next request is refused.
use Rattle.std.proofs.Common.{◌≡◌, ℕ, ◌+◌, ◌-◌, ◌<◌, ◌≤◌, min, List, sym, subst, replicate}
use Rattle.ods_base.specs.declared.file_id.FileId.{FileId}
use Rattle.ods_request.specs.declared.refusals.Refusal.{Refusal}
use Rattle.ods_request.specs.declared.requests.Request.TheVariants.{Create, Extend, Write, SetUser}
use Rattle.ods_request.specs.Catalogue.{Plain}
use Rattle.ods_request.specs.Steps.{zero_blocks}
use Rattle.ods_filing.specs.Filed.{Filed, IsRefusedFor}
use Rattle.ods_filing.specs.Led.{Fills, IsLed}
use Rattle.ods_filing.specs.Put.{Heading, IsAdded, block_count, block_with, blocks_with, so_far}
use Rattle.ods_filing.specs.Unput.{IsInPart, IsNotFilled, IsNotGrown, IsUnput, not_attributed, not_filled, not_grown, not_made}
use Rattle.ods_filing.proofs.Led.{then_led}

-- the volume is that of another name
part_at : (old : Filed) (h : Heading) (id : FileId) (blocks : List (List ℕ)) (now new : Filed) → new ≡ now → IsInPart old h id blocks now → IsInPart old h id blocks new
part_at old h id blocks now new same part = subst (IsInPart old h id blocks) (sym same) part

-- An Extend is refused behind some that are done.
pub growing_stops : (id : FileId) (first have count more : ℕ) (start now new : Filed) → first ≤ have → have < count
    → ((old : Filed) (heading : Heading) → IsAdded old heading id (Plain (replicate 32 0) (zero_blocks first)) start → IsAdded old heading id (Plain (replicate 32 0) (zero_blocks have)) now)
    → IsLed Fills start now → more ≡ min (count - have) 65535 → new ≡ now → (reason : Refusal) → IsRefusedFor now (Extend id more) reason
    → (old : Filed) (heading : Heading) → IsInPart old heading id (zero_blocks first) start → IsNotGrown old heading id first count new reason
growing_stops id first have count more start now new least left adds led is same reason refused old heading part = (
  have,
  least,
  left,
  part_at old heading id (zero_blocks have) now new same (record { led = then_led part.led led; added = adds old heading part.added }),
  subst (λ n. IsRefusedFor new (Extend id n) reason) is (subst (λ f. IsRefusedFor f (Extend id more) reason) (sym same) refused),
)

-- A Write is refused behind some that are done.
pub filling_stops : (id : FileId) (bytes block : List ℕ) (k : ℕ) (start now new : Filed) → k < block_count bytes
    → ((old : Filed) (heading : Heading) → IsAdded old heading id (Plain (replicate 32 0) (zero_blocks (block_count bytes))) start → IsAdded old heading id (Plain (replicate 32 0) (so_far bytes (block_count bytes) k)) now)
    → IsLed Fills start now → block ≡ block_with bytes k → new ≡ now → (reason : Refusal) → IsRefusedFor now (Write id (k + 1) block) reason
    → (old : Filed) (heading : Heading) → IsInPart old heading id (zero_blocks (block_count bytes)) start → IsNotFilled old heading id bytes new reason
filling_stops id bytes block k start now new left adds led is same reason refused old heading part = (
  k,
  left,
  part_at old heading id (so_far bytes (block_count bytes) k) now new same (record { led = then_led part.led led; added = adds old heading part.added }),
  subst (λ b. IsRefusedFor new (Write id (k + 1) b) reason) is (subst (λ f. IsRefusedFor f (Write id (k + 1) block) reason) (sym same) refused),
)

-- The requests of a file with this heading, these attributes and these bytes, which are so many blocks.
module _ (h : Heading) (attributes bytes : List ℕ) (old : Filed) (count first : ℕ) (counted : count ≡ block_count bytes) (at_first : first ≡ min count 65535) where
  -- the Create is refused
  pub making_stops : (new : Filed) → new ≡ old → (reason : Refusal) → IsRefusedFor old (Create h.name h.version first h.stamp) reason → IsUnput h attributes bytes old new reason
  making_stops new same reason refused =
      not_made reason (subst (λ n. IsRefusedFor old (Create h.name h.version (min n 65535) h.stamp) reason) counted (subst (λ n. IsRefusedFor old (Create h.name h.version n h.stamp) reason) at_first refused)) same

  -- an Extend is refused
  pub then_growing_stops : (id : FileId) (now new : Filed) → IsAdded old h id (Plain (replicate 32 0) (zero_blocks first)) now → IsLed Fills old now → (reason : Refusal)
      → ((start : Filed) (heading : Heading) → IsInPart start heading id (zero_blocks first) now → IsNotGrown start heading id first count new reason) → IsUnput h attributes bytes old new reason
  then_growing_stops id now new added led reason stops =
      not_grown reason id (subst (λ n. IsNotGrown old h id (min n 65535) n new reason) counted (subst (λ n. IsNotGrown old h id n count new reason) at_first (stops old h (record { led = led; added = added }))))

  -- a Write is refused
  pub then_filling_stops : (id : FileId) (now new : Filed) → IsAdded old h id (Plain (replicate 32 0) (zero_blocks count)) now → IsLed Fills old now → (reason : Refusal)
      → ((start : Filed) (heading : Heading) → IsInPart start heading id (zero_blocks (block_count bytes)) now → IsNotFilled start heading id bytes new reason) → IsUnput h attributes bytes old new reason
  then_filling_stops id now new added led reason stops =
      not_filled reason id (stops old h (record { led = led; added = subst (λ n. IsAdded old h id (Plain (replicate 32 0) (zero_blocks n)) now) counted added }))

-- the SetUser is refused
pub then_setting_stops : (h : Heading) (attributes bytes : List ℕ) (id : FileId) (old now new : Filed) → IsAdded old h id (Plain (replicate 32 0) (blocks_with bytes)) now → IsLed Fills old now → new ≡ now
    → (reason : Refusal) → IsRefusedFor now (SetUser id attributes) reason → IsUnput h attributes bytes old new reason
then_setting_stops h attributes bytes id old now new added led same reason refused =
    not_attributed reason id (part_at old h id (blocks_with bytes) now new same (record { led = led; added = added })) (subst (λ f. IsRefusedFor f (SetUser id attributes) reason) (sym same) refused)
