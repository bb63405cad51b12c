-- The end of a run with one reply.
use Rattle.std.specs.Prelude.{ℕ, Bool, List, Option, Result, Ok, Err}
use Rattle.std.specs.Io.KnownBytes.{Appends, Keeps}
use Rattle.ods_base.specs.Image.{TookBytes}
use Rattle.ods_cli.specs.declared.fault.ServeFault.{ServeFault}
use Rattle.ods_cli.specs.declared.fault.ServeFault.TheVariants.{Refused, Read, Write, WriteOut, NoMemory, NoThread, Unmatched}
use Rattle.ods_cli.specs.Reply.{IsReply, IsReplyFault}

-- a writer whose contents were `old` and are `new` took a first part of the reply, and no more
pub record IsCutReply (About : List (List ℕ) → Bool → List ℕ → Type 0) (bytes : List ℕ) (rest old new : Option (List ℕ)) : Type 0 where
  pub found : Bool
  pub reply : List ℕ
  pub count : ℕ
  pub is_reply : IsReply About bytes rest found reply
  pub took : TookBytes old new reply count

-- The end of a run over a reader that gave `bytes` and has `rest` left, with a writer whose contents were `old` and are `new`. The whole reply is
-- written. Or nothing is written, since reading failed or memory ran out. Or writing failed in the middle of the reply.
abbrev pub EndsRun : (List (List ℕ) → Bool → List ℕ → Type 0) → List ℕ → Option (List ℕ) → Option (List ℕ) → Option (List ℕ) → Result Bool ServeFault → Type 0
EndsRun About bytes rest old new (Ok found) = (reply : List ℕ) × IsReply About bytes rest found reply × Appends old new reply
EndsRun About bytes rest old new (Err Read) = IsReplyFault bytes Read × Keeps old new
EndsRun About bytes rest old new (Err NoMemory) = IsReplyFault bytes NoMemory × Keeps old new
EndsRun About bytes rest old new (Err Write) = IsCutReply About bytes rest old new
EndsRun About bytes rest old new (Err (Refused number)) = ⊥
EndsRun About bytes rest old new (Err (WriteOut fault)) = ⊥
EndsRun About bytes rest old new (Err NoThread) = ⊥
EndsRun About bytes rest old new (Err Unmatched) = ⊥
