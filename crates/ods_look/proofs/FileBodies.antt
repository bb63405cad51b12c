-- What the first header of a file says of its body: a directory, or a plain file with its blocks.
use Rattle.std.proofs.Common.{◌≡◌, ℕ, ◌<◌, ◌≤◌, refl, ap, sym, ◌∙◌, Bool, true, false, cond, List, length, arith}
use Rattle.std.specs.Prelude.{◌==◌, ◌||◌, ◌&&◌, nat_le, nat_lt}
use borrow.Author.Tests.{lt-leb, le-ltb, ne_eqb, leb-true, leb-false}
use Rattle.ods_state.proofs.Shown.{system_body}
use Rattle.ods_header.proofs.DirectoryHeaders.{above_maps}
use Rattle.ods_base.specs.Name.{directory_type}
use Rattle.ods_header.specs.Header.{attributes_of, ident_ext_of, is_directory_header}
use Rattle.ods_directory.specs.Mark.{mark_in}
use Rattle.ods_directory.specs.Names.{names_of}
use Rattle.ods_request.specs.Catalogue.{Body, System, Directory, Plain, is_directory}
use Rattle.ods_request.specs.Steps.{with_body}
use Rattle.ods_state.specs.Contents.{file_of, body_of}

-- the first header says that the file is a directory
abbrev pub SaysDirectory : ℕ → List ℕ → Type 0
SaysDirectory n b = is_directory_header n b ≡ true

-- or it does not
pub no_directory : (n : ℕ) (b : List ℕ) → is_directory_header n b ≡ false → SaysDirectory n b → ⊥
no_directory n b e says = let wrong : true ≡ false = sym says ∙ e in absurd (cc)

-- the body past the two maps
body_by : ℕ → List ℕ → List (List ℕ) → Bool → Body
body_by n b blocks d = cond d (Directory (names_of blocks (mark_in (attributes_of b) (length blocks)))) (Plain (attributes_of b) blocks)

past_maps : (n : ℕ) (b : List ℕ) (blocks : List (List ℕ)) → 2 < n → body_of n b blocks ≡ body_by n b blocks (is_directory_header n b)
unfolding body_of body_by
past_maps n b blocks high = ap (λ m. cond m System (cond (is_directory_header n b) (Directory (names_of blocks (mark_in (attributes_of b) (length blocks)))) (Plain (attributes_of b) blocks))) (lt-leb n 2 high)

pub directory_body : (n : ℕ) (b : List ℕ) (blocks : List (List ℕ)) → is_directory_header n b ≡ true → body_of n b blocks ≡ Directory (names_of blocks (mark_in (attributes_of b) (length blocks)))
unfolding body_by
directory_body n b blocks e = past_maps n b blocks (above_maps n b e) ∙ ap (body_by n b blocks) e

pub plain_body : (n : ℕ) (b : List ℕ) (blocks : List (List ℕ)) → 2 < n → is_directory_header n b ≡ false → body_of n b blocks ≡ Plain (attributes_of b) blocks
unfolding body_by
plain_body n b blocks high e = past_maps n b blocks high ∙ ap (body_by n b blocks) e

-- the body is a directory as the header says; neither map is one, by its number
pub directory_is : (n : ℕ) (b : List ℕ) (blocks : List (List ℕ)) → is_directory (body_of n b blocks) ≡ is_directory_header n b
directory_is n b blocks = by_map (nat_le n 2) (is_directory_header n b) refl refl
  where
    by_map : (m d : Bool) → nat_le n 2 ≡ m → is_directory_header n b ≡ d → is_directory (body_of n b blocks) ≡ is_directory_header n b
    by_map false true e kind = ap is_directory (directory_body n b blocks kind) ∙ sym kind
    by_map false false e kind = ap is_directory (plain_body n b blocks (leb-false n 2 e) kind) ∙ sym kind
    by_map true d e kind =
        let low : n ≤ 2 = leb-true n 2 e in
        let four : (n == 4) ≡ false = ne_eqb n 4 (λ g. absurd (omega arith)) in
        let five : nat_lt 5 n ≡ false = le-ltb 5 n (omega arith) in
        ap is_directory (system_body n b blocks e) ∙ sym (λ i. four i || (five i && (ident_ext_of b == directory_type)))

-- with other contents the file has another body, and all else stays
pub other_contents : (n : ℕ) (b : List ℕ) (old new : List (List ℕ)) (body : Body) → body_of n b new ≡ body → file_of n b new ≡ with_body (file_of n b old) body
unfolding file_of
other_contents n b old new body is = ap (with_body (file_of n b old)) is
