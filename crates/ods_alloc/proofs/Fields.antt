-- The fields of a chain that grew: its pointers, its headers, and what else stays.
use Rattle.std.proofs.Common.{◌≡◌, ℕ, suc, ◌+◌, ◌-◌, ◌*◌, ◌/◌, ◌<◌, ◌≤◌, List, [], ◌∷◌, ◌++◌, length, take, drop, get_or, Some, refl, sym, ap, ◌∙◌, arith, append_assoc, inl}
use Rattle.std.specs.Prelude.{slice_range}
use Rattle.std.specs.List.{All, Contains, flat_map}
use Rattle.std.proofs.lemmas.List.{append-nil, drop-drop, length-drop, take-append-drop}
use Rattle.std.proofs.lemmas.List.FromFn.{length-map-range_with_len}
use Rattle.std.proofs.lemmas.List.Elements.{All-nil, All-cons}
use Rattle.ods_base.specs.Block.{word}
use Rattle.ods_header.specs.declared.header.Run.{Run}
use Rattle.ods_header.specs.Header.{IsValidHeader, ident_word, map_word, used_words_of, most_words_of, ident_of, runs_of, run_at, room_of, blocks_of}
use Rattle.ods_space.specs.Layout.{VolumeLayout, header_at}
use Rattle.ods_space.specs.Chain.{Follows}
use Rattle.ods_header.specs.Pointing.{KeepsFields}
use Rattle.ods_header.specs.Extension.{IsExtensionOf}
use Rattle.ods_header.proofs.Ranges.{same_range}
use Rattle.ods_alloc.specs.Extend.{last_of}
use Rattle.ods_alloc.specs.Chains.{IsLink}

-- the pointers of new headers, one after another
pub new_runs : (f : ℕ → List Run) (ns : List ℕ) (rs : List Run) → ((i : ℕ) → i < length ns → f (get_or ns i 0) ≡ take 102 (drop (102 * i) rs)) → length rs ≤ 102 * length ns → flat_map f ns ≡ rs
new_runs f [] [] each few = refl
new_runs f [] (r ∷ rs) each few = absurd (omega arith)
new_runs f (y ∷ ys) rs each few =
    let size : length (drop 102 rs) ≡ length rs - 102 = length-drop 102 rs in
    let rest = new_runs f ys (drop 102 rs) (λ i below.
    let at : 102 * suc i ≡ 102 + 102 * i = omega arith in
    each (suc i) (omega arith) ∙ ap (λ j. take 102 (drop j rs)) at ∙ ap (take 102) (sym (drop-drop (102 * i) 102 rs))) (omega arith) in
    ap (λ l. l ++ flat_map f ys) (each 0 (omega arith)) ∙ ap (λ l. take 102 rs ++ l) rest ∙ take-append-drop 102 rs

-- each header of a chain
pub all_links : (C : List (List ℕ)) (L : VolumeLayout) (P : ℕ → Type 0) → ((m k : ℕ) → IsLink C L m k → P m) → (os : List ℕ) (k m : ℕ) (front all : List ℕ) → Follows C L.home (Some L.index) front k m os all → All P (m ∷ os)
all_links C L P each [] k m front all f = All-cons P m [] (each m k f.0) (All-nil P)
all_links C L P each (y ∷ ys) k m front all f = All-cons P m (y ∷ ys) (each m k f.0) (all_links C L P each ys (suc k) y (front ++ blocks_of (header_at C L m)) all f.4)

-- the pointers of the headers that were there
pub old_runs : (C : List (List ℕ)) (L : VolumeLayout) (f g : ℕ → List Run) (K z : ℕ) (more : List Run) → ((m k : ℕ) → IsLink C L m k → k < K → f m ≡ g m) → f z ≡ g z ++ more
    → (os : List ℕ) (k m : ℕ) (front all : List ℕ) → Follows C L.home (Some L.index) front k m os all → k + length os ≡ K → last_of m os ≡ z → flat_map f (m ∷ os) ≡ flat_map g (m ∷ os) ++ more
old_runs C L f g K z more same last [] k m front all follows size is =
    append-nil (f m) ∙ ap f is ∙ last ∙ ap (λ x. g x ++ more) (sym is) ∙ ap (λ l. l ++ more) (sym (append-nil (g m)))
old_runs C L f g K z more same last (y ∷ ys) k m front all follows size is =
    ap (λ l. l ++ flat_map f (y ∷ ys)) (same m k follows.0 (omega arith))
    ∙ ap (λ l. g m ++ l) (old_runs C L f g K z more same last ys (suc k) y (front ++ blocks_of (header_at C L m)) all follows.4 (omega arith) is)
    ∙ sym (append_assoc (g m) (flat_map g (y ∷ ys)) more)

pub whole_runs : (old runs : List Run) (room : ℕ) → (old ++ take room runs) ++ drop room runs ≡ old ++ runs
whole_runs old runs room = append_assoc old (take room runs) (drop room runs) ∙ ap (λ l. old ++ l) (take-append-drop room runs)

-- the last header is one of the chain
pub last_in : (n : ℕ) (others : List ℕ) → Contains (n ∷ others) (last_of n others)
last_in n [] = (0, omega arith, refl)
last_in n (m ∷ ms) = let rest = last_in m ms in let within = rest.1 in (suc rest.0, omega arith, rest.2)

-- a header made with 102 pointers is full
pub made_full : (f b : List ℕ) (n : ℕ) → IsValidHeader b n → IsExtensionOf f b → length (runs_of b) ≡ 102 → room_of b / 2 ≡ 0
unfolding runs_of
made_full f b n valid extension count =
    let size = length-map-range_with_len (run_at b) 0 (used_words_of b / 2) in
    let even = valid.header.layout.even in
    let map : map_word b ≡ 46 = extension.form.map in
    let most : most_words_of b ≡ 204 = extension.form.most in
    omega (arith, size, count)

-- an extension of a header is one of the header with other pointers
pub extension_stays : (f g b : List ℕ) (n : ℕ) → IsValidHeader f n → length g ≡ length f → KeepsFields f g → IsExtensionOf f b → IsExtensionOf g b
extension_stays f g b n valid size kept extension =
    let p = valid.header.layout.ident in let q = valid.header.layout.map in
    let o : ident_word g ≡ ident_word f = kept 0 (inl (omega arith)) in
    let a = 2 * ident_word f in
    let ident : ident_of g ≡ ident_of f = ap (λ k. slice_range g (2 * k) (2 * k + 46)) o ∙ same_range f g a (a + 46 - a) size (λ j below. kept (a + j) (inl (omega arith))) in
    let owner : word g 4 ≡ word f 4 = λ i. kept 8 (inl (omega arith)) i + 256 * kept 9 (inl (omega arith)) i in
    let protection : word g 5 ≡ word f 5 = λ i. kept 10 (inl (omega arith)) i + 256 * kept 11 (inl (omega arith)) i in
    record {
      form = extension.form;
      copied = (
        extension.copied.0 ∙ sym owner,
        extension.copied.1 ∙ sym protection,
        extension.copied.2 ∙ sym ident,
      );
      plain = extension.plain;
    }
