-- A valid header with other user characteristics or attributes links as it did, and serves as the first header of a chain that grows.
use Rattle.std.proofs.Common.{◌≡◌, ℕ, ap, sym, List}
use Rattle.std.specs.List.{flat_map}
use Rattle.ods_header.specs.declared.header.Header.{Header}
use Rattle.ods_header.specs.Header.{IsValidHeader, attributes_of, header_of, run_blocks, user_char_of}
use Rattle.ods_header.proofs.OtherFront.{IsOtherWithin, fields_kept, form_kept, rest_kept, room_kept, runs_kept, stays_valid}
use Rattle.ods_state.specs.Growth.{IsKeptFirst}
use Rattle.ods_state.specs.Links.{SameLinks}

-- two valid headers link alike both ways
pub links_turned : {b c : List ℕ} {n : ℕ} → IsValidHeader b n → SameLinks b c n → SameLinks c b n
links_turned valid s = record {
  valid = λ v. valid;
  segment = sym s.segment;
  sequence = sym s.sequence;
  next_number = sym s.next_number;
  next_sequence = sym s.next_sequence;
  next_volume = sym s.next_volume;
  blocks = sym s.blocks;
}

module _ {b c : List ℕ} {a e : ℕ} (w : IsOtherWithin b c a e) (n : ℕ) (valid : IsValidHeader b n) where
  kept : header_of c ≡ record (header_of b) { user_char = user_char_of c; attributes = attributes_of c }
  kept = fields_kept w n valid

  pub links_to : SameLinks b c n
  links_to = record {
    valid = stays_valid w n;
    segment = ap (λ (h : Header). h.segment) kept;
    sequence = ap (λ (h : Header). h.file.sequence) kept;
    next_number = ap (λ (h : Header). h.next.number) kept;
    next_sequence = ap (λ (h : Header). h.next.sequence) kept;
    next_volume = ap (λ (h : Header). h.next_volume) kept;
    blocks = ap (λ (h : Header). flat_map run_blocks h.pointers.items) kept;
  }

  pub links_back : SameLinks c b n
  links_back = links_turned valid links_to

  pub kept_first : IsKeptFirst b c n
  kept_first = record {
    links = links_to;
    back = links_back;
    form = form_kept w valid.header.layout;
    rest = rest_kept w valid.header.layout;
    pointers = runs_kept w valid.header.layout;
    room = room_kept w valid.header.layout;
  }
