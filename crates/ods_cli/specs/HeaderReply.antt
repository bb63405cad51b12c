-- The reply to a request for one header of an image: its line, or why there is none.
use Rattle.std.specs.Prelude.{◌≡◌, ℕ, Bool, true, false, ◌⊎◌, List, [], ◌∷◌, ◌++◌, codes}
use Rattle.ods_header.specs.declared.home.Home.{Home}
use Rattle.ods_header.specs.declared.header.HeaderFault.{HeaderFault}
use Rattle.ods_header.specs.Header.{IsValidHeader, IsFirstFault, header_of}
use Rattle.ods_header.specs.Home.{IsHomeOf, HasNoHome}
use Rattle.ods_header.specs.Line.{line_block}
use Rattle.ods_header.specs.Refusals.{header_row}
use Rattle.ods_header.specs.Text.{header_text}
use Rattle.ods_cli.specs.Reply.{refusal_line}

-- the image has no home block, and this is the line of that refusal
pub record IsNoHomeLine (I : List (List ℕ)) (reply : List ℕ) : Type 0 where
  pub reason : HasNoHome I
  pub line : reply ≡ refusal_line 15 (codes "NoHome")

-- the block at the LBN of header n is not a valid header n, and this is the line with its first fault
pub record IsNoHeaderLine (I : List (List ℕ)) (n : ℕ) (reply : List ℕ) : Type 0 where
  pub home : Home
  pub fault : HeaderFault
  pub home_is : IsHomeOf I home
  pub reason : IsFirstFault (line_block I home n) n fault
  pub line : reply ≡ refusal_line (header_row fault).0 (header_row fault).1

-- the block at the LBN of header n is a valid header n, and this is its line
pub record IsHeaderLine (I : List (List ℕ)) (n : ℕ) (reply : List ℕ) : Type 0 where
  pub home : Home
  pub home_is : IsHomeOf I home
  pub valid : IsValidHeader (line_block I home n) n
  pub line : reply ≡ header_text (header_of (line_block I home n)) ++ 10 ∷ []

-- the reply about header n of an image: whether there is such a header, and the line
abbrev pub IsImageReply : ℕ → List (List ℕ) → Bool → List ℕ → Type 0
IsImageReply n I true reply = IsHeaderLine I n reply
IsImageReply n I false reply = IsNoHomeLine I reply ⊎ IsNoHeaderLine I n reply
