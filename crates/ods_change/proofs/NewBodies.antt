-- What a new file is made of: zeros, or, where its type is DIR, a directory with no name.
use Rattle.std.proofs.Common.{◌≡◌, ℕ, ◌+◌, ◌-◌, ◌*◌, ◌<◌, refl, ap, sym, ◌∙◌, subst, Bool, true, false, cond, List, [], ◌∷◌, ◌++◌, length, replicate, drop, None, Some, arith}
use Rattle.std.specs.Prelude.{◌==◌, ◌||◌, ◌&&◌, slice_get, map}
use Rattle.std.specs.List.{All, flat_map}
use Rattle.std.specs.FinMap as names
use Rattle.std.specs.Cmp.Lexicographic.{nat_list_cmp_total}
use Rattle.std.proofs.lemmas.Bool.{lt-ltb, ne_eqb}
use Rattle.std.proofs.lemmas.List.{get_or-drop, get_or-take, length-replicate}
use Rattle.std.proofs.lemmas.List.Elements.{All-nil}
use Rattle.ods_base.specs.Block.{byte, word, zeros}
use Rattle.ods_base.specs.Name.{RadName, directory_type}
use Rattle.ods_header.specs.Header.{attributes_of, ident_ext_of, ident_of, ident_word, is_directory_header}
use Rattle.ods_directory.specs.Entry.{IsGoodEntry, used_entries}
use Rattle.ods_directory.specs.Mark.{mark_in, marked}
use Rattle.ods_directory.specs.Names.{IsDirectory, names_of}
use Rattle.ods_request.specs.Catalogue.{Directory, Plain}
use Rattle.ods_request.specs.Steps.{new_body, new_ident, word_bytes, zero_blocks}
use Rattle.ods_state.specs.Contents.{body_of}
use Rattle.ods_state.specs.Moves.{new_attributes}
use Rattle.ods_look.proofs.FileBodies.{SaysDirectory, directory_body, no_directory, plain_body}
use Rattle.ods_change.proofs.Marks.{marked_is}

-- ---- a directory that ends where it begins

none_used : (blocks : List (List ℕ)) → used_entries blocks 0 ≡ []
unfolding used_entries
none_used blocks = refl

pub no_names_yet : (blocks : List (List ℕ)) → names_of blocks 0 ≡ names.empty
unfolding names_of
no_names_yet blocks =
    ap (λ es. names.from_entries (map (λ e. (e.key, e.file)) es)) (none_used blocks)
    ∙ names.same_map nat_list_cmp_total (names.slice_cmp-IsAntisymmetric names.nat_cmp-IsAntisymmetric) (names.from_entries []) names.empty
    (λ q. names.get-from_entries nat_list_cmp_total [] q ∙ sym (names.get-empty _ q))

pub empty_directory : (blocks : List (List ℕ)) → IsDirectory blocks 0
empty_directory blocks = record {
  good = subst (λ es. All IsGoodEntry es) (sym (none_used blocks)) (All-nil IsGoodEntry);
  distinct = λ i j less e f at other. let wrong : None ≡ Some e = ap (λ es. slice_get es i) (sym (none_used blocks)) ∙ at in absurd (cc);
}

-- ---- the kind of a new file

-- a byte of the ident, and its type word
ident_byte : (b : List ℕ) (j : ℕ) → j < 46 → byte (ident_of b) j ≡ byte b (2 * ident_word b + j)
ident_byte b j low =
    let a : ℕ = 2 * ident_word b in
    get_or-take (a + 46 - a) (drop a b) j 0 (omega arith) ∙ get_or-drop a b j 0

ext_in_ident : (b : List ℕ) → word (ident_of b) 3 ≡ ident_ext_of b
ext_in_ident b =
    let low : 2 * ident_word b + 6 ≡ 2 * (ident_word b + 3) = omega arith in
    let high : 2 * ident_word b + 7 ≡ 2 * (ident_word b + 3) + 1 = omega arith in
    λ i. (ident_byte b 6 (omega arith) ∙ ap (byte b) low) i + 256 * (ident_byte b 7 (omega arith) ∙ ap (byte b) high) i

module _ (name : RadName) (version count : ℕ) (stamp : List ℕ) where
  -- the name is a directory's, by its type
  abbrev of_directory : Bool
  of_directory = name.ext == directory_type

  ext_at : (ws : List ℕ) → length ws ≡ 3 → word (flat_map word_bytes (ws ++ name.ext ∷ version ∷ 1 ∷ []) ++ stamp ++ stamp ++ replicate 8 0) 3 ≡ name.ext
  ext_at (a ∷ b ∷ c ∷ []) three = omega arith
  ext_at [] three = absurd (omega arith)
  ext_at (a ∷ []) three = absurd (omega arith)
  ext_at (a ∷ b ∷ []) three = absurd (omega arith)
  ext_at (a ∷ b ∷ c ∷ d ∷ ws) three = absurd (omega arith)

  ext_is : length name.words ≡ 3 → (c : List ℕ) → ident_of c ≡ new_ident name version stamp → ident_ext_of c ≡ name.ext
  ext_is three c ident = sym (ext_in_ident c) ∙ ap (λ xs. word xs 3) ident ∙ ext_at name.words three

  -- the mark of a new directory
  mark_is : (c : List ℕ) (k : ℕ) → attributes_of c ≡ new_attributes name count → k ≡ count → of_directory ≡ true → mark_in (attributes_of c) k ≡ 0
  mark_is c k attributes few e =
      let a : List ℕ = 1 ∷ 0 ∷ 16 ∷ 0 ∷ replicate 28 0 in
      (λ i. mark_in (attributes i) (few i))
      ∙ ap (λ t. mark_in (cond t (marked a 0 count) (replicate 32 0)) count) e
      ∙ marked_is a 0 count refl (omega arith)

  -- c says of file n what the header of a new file says
  module _ (three : length name.words ≡ 3) (n : ℕ) (high : 5 < n) (c : List ℕ) (attributes : attributes_of c ≡ new_attributes name count) (ident : ident_of c ≡ new_ident name version stamp) where
    kind_is : is_directory_header n c ≡ of_directory
    kind_is =
        let apart : (n == 4) ≡ false = ne_eqb n 4 (λ e. absurd (omega arith)) in
        (λ i. apart i || (lt-ltb 5 n high i && (ext_is three c ident i == directory_type)))

    pub new_body_is : (contents : List (List ℕ)) → contents ≡ zero_blocks count → body_of n c contents ≡ new_body name count
    new_body_is contents is = by of_directory refl
      where
        long : length contents ≡ count
        long = ap length is ∙ length-replicate count zeros

        by : (t : Bool) → of_directory ≡ t → body_of n c contents ≡ new_body name count
        by true e =
            directory_body n c contents (kind_is ∙ e)
            ∙ ap Directory (ap (names_of contents) (mark_is c (length contents) attributes long e) ∙ no_names_yet contents)
            ∙ ap (λ t. cond t (Directory names.empty) (Plain (replicate 32 0) (zero_blocks count))) (sym e)
        by false e =
            plain_body n c contents (omega arith) (kind_is ∙ e)
            ∙ (λ i. Plain ((attributes ∙ ap (λ t. cond t (marked (1 ∷ 0 ∷ 16 ∷ 0 ∷ replicate 28 0) 0 count) (replicate 32 0)) e) i) (is i))
            ∙ ap (λ t. cond t (Directory names.empty) (Plain (replicate 32 0) (zero_blocks count))) (sym e)

    pub new_directory : SaysDirectory n c → (contents : List (List ℕ)) (k : ℕ) → k ≡ count → IsDirectory contents (mark_in (attributes_of c) k)
    new_directory says contents k few = by of_directory refl
      where
        by : (t : Bool) → of_directory ≡ t → IsDirectory contents (mark_in (attributes_of c) k)
        by true e = subst (IsDirectory contents) (sym (mark_is c k attributes few e)) (empty_directory contents)
        by false e = absurd (no_directory n c (kind_is ∙ e) says)
