-- The reply to a reader whose bytes are to be an image.
use Rattle.std.specs.Prelude.{◌≡◌, ℕ, ◌+◌, ◌≤◌, ◌^◌, Bool, false, ◌⊎◌, List, length, Option}
use Rattle.std.specs.Io.KnownBytes.{IsAtEnd}
use Rattle.ods_base.specs.Image.{IsImage, IsNoReading, image_bytes}
use Rattle.ods_base.specs.Refusals.{image_row}
use Rattle.ods_base.specs.declared.faults.ImageError.{ImageError}
use Rattle.ods_base.specs.declared.faults.ImageError.TheVariants as image
pub use Rattle.ods_script.specs.Texts.{refusal_line}
use Rattle.ods_cli.specs.declared.fault.ServeFault.{ServeFault}
use Rattle.ods_cli.specs.declared.fault.ServeFault.TheVariants.{Refused, Read, Write, WriteOut, NoMemory, NoThread, Unmatched}

-- the refusals of bytes that are not an image; a device's fault and out of memory are not refusals
abbrev pub IsRefusal : ImageError → Type 0
IsRefusal image.NotWholeBlocks = Unit {0}
IsRefusal image.TooBig = Unit {0}
IsRefusal image.ReadFailed = ⊥
IsRefusal image.NoMemory = ⊥

-- all bytes that a reader had, with `rest` left, are the bytes of an image
pub record AreImageBytes (bytes : List ℕ) (rest : Option (List ℕ)) (I : List (List ℕ)) : Type 0 where
  pub image : IsImage I
  pub bytes_are : image_bytes I ≡ bytes
  pub at_end : IsAtEnd rest

-- the bytes are not an image, and this is the number of a refusal that holds for them, with its line
pub record AreNoImage (bytes : List ℕ) (rest : Option (List ℕ)) (number : ℕ) (line : List ℕ) : Type 0 where
  pub refusal : ImageError
  pub is_refusal : IsRefusal refusal
  pub reason : IsNoReading bytes rest refusal
  pub number_is : number ≡ (image_row refusal).0
  pub line_is : line ≡ refusal_line (image_row refusal).0 (image_row refusal).1

-- The reply to the bytes of a reader. The bytes are not an image, or it is a reply about their image. `About` relates an image, whether the reply has
-- the requested result, and its text.
abbrev pub IsReply : (List (List ℕ) → Bool → List ℕ → Type 0) → List ℕ → Option (List ℕ) → Bool → List ℕ → Type 0
IsReply About bytes rest found reply =
    ((found ≡ false) × (number : ℕ) × AreNoImage bytes rest number reply)
    ⊎ ((I : List (List ℕ)) × AreImageBytes bytes rest I × About I found reply)

-- why there is no reply to a reader of these bytes: a device may fail, and memory run out, at any moment
abbrev pub IsReplyFault : List ℕ → ServeFault → Type 0
IsReplyFault bytes Read = length bytes ≤ 2 ^ 29
IsReplyFault bytes Write = ⊥
IsReplyFault bytes NoMemory = length bytes ≤ 2 ^ 29 + 1
IsReplyFault bytes (Refused number) = ⊥
IsReplyFault bytes (WriteOut fault) = ⊥
IsReplyFault bytes NoThread = ⊥
IsReplyFault bytes Unmatched = ⊥
