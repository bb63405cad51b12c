-- What is read off a header that keeps all that says what the file is: the fields before its map area stay.
use Rattle.std.proofs.Common.{◌≡◌, ℕ, ◌+◌, ◌-◌, ◌*◌, List, length, ap, ◌∙◌, arith, inl}
use Rattle.std.specs.Prelude.{◌||◌, ◌&&◌, ◌==◌, nat_lt, slice_range}
use Rattle.ods_base.specs.Block.{word}
use Rattle.ods_base.specs.Name.{directory_type}
use Rattle.ods_header.specs.Header.{IsValidHeader, ident_ext_of, ident_word, user_char_of}
use Rattle.ods_header.specs.Pointing.{KeepsFields}
use Rattle.ods_header.proofs.Ranges.{same_range}
use Rattle.ods_change.specs.Extending.{SaysWith}

-- header c says of its file what header b says
abbrev pub SaysTheSame : List ℕ → List ℕ → Type 0
SaysTheSame b c = SaysWith (user_char_of b) b c

pub says_the_same : (b c : List ℕ) (n : ℕ) → IsValidHeader b n → length c ≡ length b → KeepsFields b c → SaysTheSame b c
says_the_same b c n valid size kept =
    let p = valid.header.layout.ident in let q = valid.header.layout.map in
    let o : ident_word c ≡ ident_word b = kept 0 (inl (omega arith)) in
    let a : ℕ = 2 * ident_word b in
    let k : ℕ = ident_word b + 3 in
    let low : 2 * k ≡ a + 6 = omega arith in
    let e : ident_ext_of c ≡ ident_ext_of b = ap (λ w. word c (w + 3)) o ∙ (λ i. kept (2 * k) (inl (omega arith)) i + 256 * kept (2 * k + 1) (inl (omega arith)) i) in
    record {
      sequence = λ i. kept 4 (inl (omega arith)) i + 256 * kept 5 (inl (omega arith)) i;
      owner = λ i. record { group = kept 9 (inl (omega arith)) i; member = kept 8 (inl (omega arith)) i };
      protection = λ i. kept 10 (inl (omega arith)) i + 256 * kept 11 (inl (omega arith)) i;
      user_char = kept 12 (inl (omega arith));
      system_char = kept 13 (inl (omega arith));
      attributes = same_range b c 14 (46 - 14) size (λ j below. kept (14 + j) (inl (omega arith)));
      ident = ap (λ w. slice_range c (2 * w) (2 * w + 46)) o ∙ same_range b c a (a + 46 - a) size (λ j below. kept (a + j) (inl (omega arith)));
      kind = λ m. ap (λ t. (m == 4) || (nat_lt 5 m && (t == directory_type))) e;
    }
