-- Replies, from what was read to what is said of it and what is written.
use Rattle.std.proofs.Common.{◌≡◌, ℕ, ◌+◌, ◌^◌, ◌≤◌, Bool, List, length, Option, ap, arith, inr, subst, sym}
use Rattle.std.specs.Prelude.{Result, Ok, Err, IfOk, IsOkUnless, MatchResult}
use Rattle.std.specs.Io.KnownBytes.{Appends}
use Rattle.std.proofs.KnownBytes.{Keeps-refl}
use Rattle.ods_base.specs.Image.{IsNoReading, TookBytes}
use Rattle.ods_base.specs.declared.faults.ImageError.{ImageError}
use Rattle.ods_base.specs.declared.faults.ImageError.TheVariants.{NotWholeBlocks, TooBig, ReadFailed, NoMemory}
use Rattle.ods_base.proofs.Images.{length-concat}
use Rattle.ods_cli.specs.declared.fault.ServeFault.{ServeFault}
use Rattle.ods_cli.specs.declared.fault.ServeFault.TheVariants as fault
use Rattle.ods_cli.specs.Reply.{AreImageBytes, IsReply, IsReplyFault}
use Rattle.ods_cli.specs.Run.{EndsRun}

-- so it is where there is an image
pub most_of_image : (bytes : List ℕ) (rest : Option (List ℕ)) (I : List (List ℕ)) → AreImageBytes bytes rest I → length bytes ≤ 2 ^ 29 + 1
most_of_image bytes rest I spelled = omega (arith, length-concat I spelled.image.blocks, spelled.image.size, ap length spelled.bytes_are)

-- the reply about an image is the one about its bytes
pub reply_about_bytes : {R : Type 0} (About : List (List ℕ) → Bool → List ℕ → Type 0) (found : R → Bool) (text : R → List ℕ) (r : Result R ServeFault)
    (bytes : List ℕ) (rest : Option (List ℕ)) (I : List (List ℕ)) →
    AreImageBytes bytes rest I → IfOk r (λ reply. About I (found reply) (text reply)) → IsOkUnless r fault.NoMemory →
    MatchResult r (λ reply. IsReply About bytes rest (found reply) (text reply)) (IsReplyFault bytes)
reply_about_bytes About found text (Ok reply) bytes rest I spelled about only = inr (I, spelled, about)
reply_about_bytes About found text (Err e) bytes rest I spelled about only =
    let P : ServeFault → Type 0 = λ f. IsReplyFault bytes f in subst P (sym only) (most_of_image bytes rest I spelled)

-- without a reply nothing is written
pub no_reply : (About : List (List ℕ) → Bool → List ℕ → Type 0) (bytes : List ℕ) (rest old : Option (List ℕ)) (f : ServeFault) →
    IsReplyFault bytes f → EndsRun About bytes rest old old (Err f)
no_reply About bytes rest old fault.Read why = (why, Keeps-refl old)
no_reply About bytes rest old fault.NoMemory why = (why, Keeps-refl old)
no_reply About bytes rest old fault.Write why = absurd why
no_reply About bytes rest old (fault.Refused number) why = absurd why
no_reply About bytes rest old (fault.WriteOut part) why = absurd why
no_reply About bytes rest old fault.NoThread why = absurd why
no_reply About bytes rest old fault.Unmatched why = absurd why

-- a reply is written whole, or cut where writing failed
pub sent : (About : List (List ℕ) → Bool → List ℕ → Type 0) (bytes : List ℕ) (rest old new : Option (List ℕ)) (found : Bool) (text : List ℕ) (r : Result Bool ServeFault) →
    IsReply About bytes rest found text →
    MatchResult r (λ f. (f ≡ found) × Appends old new text) (λ e. (e ≡ fault.Write) × ((count : ℕ) × TookBytes old new text count)) →
    EndsRun About bytes rest old new r
sent About bytes rest old new found text (Ok f) is wrote =
    let P : Bool → Type 0 = λ b. IsReply About bytes rest b text in (text, subst P (sym wrote.0) is, wrote.1)
sent About bytes rest old new found text (Err e) is wrote =
    let P : ServeFault → Type 0 = λ x. EndsRun About bytes rest old new (Err x) in
    subst P (sym wrote.0) (record { found = found; reply = text; count = wrote.1.0; is_reply = is; took = wrote.1.1 })
