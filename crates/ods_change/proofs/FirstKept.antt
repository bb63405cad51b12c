-- The first header of a file that grows keeps its other fields when UC.CON is cleared.
use Rattle.std.proofs.Common.{◌≡◌, ℕ, ap, ◌∙◌, List}
use Rattle.std.specs.Prelude.{◌||◌, ◌&&◌, ◌==◌, nat_lt}
use Rattle.ods_base.specs.Name.{directory_type}
use Rattle.ods_header.specs.declared.header.Header.{Header}
use Rattle.ods_header.specs.Contiguous.{IsWithoutContiguous, KeepsAllButContiguous, with_user_char}
use Rattle.ods_header.specs.Header.{IsValidHeader, header_of, user_char_of}
use Rattle.ods_header.proofs.AllButOne.{one_is_other}
use Rattle.ods_header.proofs.OtherFront.{ident_ext_kept}
use Rattle.ods_change.proofs.KeptFields.{SaysTheSame}
use Rattle.ods_request.specs.Steps.{not_contiguous}
use Rattle.ods_change.specs.Extending.{SaysGrown}

module _ (b c : List ℕ) (n : ℕ) (valid : IsValidHeader b n) (changed : IsWithoutContiguous b c) (fields : KeepsAllButContiguous b c) where
  same : header_of c ≡ with_user_char (header_of b) (not_contiguous (user_char_of b))
  same = (fields n valid).1

  -- once the chain has grown by it, the first header says what it said
  pub says_grown : (d : List ℕ) → SaysTheSame c d → SaysGrown b d
  says_grown d says = record {
    sequence = says.sequence ∙ ap (λ (h : Header). h.file.sequence) same;
    owner = says.owner ∙ ap (λ (h : Header). h.owner) same;
    protection = says.protection ∙ ap (λ (h : Header). h.protection) same;
    user_char = says.user_char ∙ ap (λ (h : Header). h.user_char) same;
    system_char = says.system_char ∙ ap (λ (h : Header). h.system_char) same;
    attributes = says.attributes ∙ ap (λ (h : Header). h.attributes) same;
    ident = says.ident ∙ ap (λ (h : Header). h.ident) same;
    kind = λ m. says.kind m ∙ ap (λ e. (m == 4) || (nat_lt 5 m && (e == directory_type))) (ident_ext_kept (one_is_other b c changed) valid.header.layout);
  }
