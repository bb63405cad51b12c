-- From the text of a name to its words, and back.
use Rattle.std.proofs.Common.{◌≡◌, ◌≢◌, ℕ, ◌+◌, ◌-◌, ◌/◌, ◌%◌, ◌<◌, ◌==◌, List, [], ◌∷◌, ◌++◌, length, take, drop, get_or, slice_index, refl, sym, ap, ◌∙◌, arith, inl, inr, append_assoc}
use Rattle.std.specs.List.{All, suffix_len}
use Rattle.std.proofs.lemmas.Bool.{lt-ltb}
use Rattle.std.proofs.lemmas.Bool.Decides.{nat_tests}
use Rattle.std.proofs.lemmas.List.{take-append-drop, take_all, drop-drop, length-drop}
use Rattle.std.proofs.lemmas.List.Elements.{All-nil, All-cons, All-append, All-map}
use Rattle.ods_base.specs.Name.{RadName, IsName, Spells, IsVersionText, name_text, part_text, rad50_char, rad50_codes}
use Rattle.ods_base.specs.NameParts.{FallsInto, IsPart}
use Rattle.ods_base.specs.declared.name.Pick.{Pick}
use Rattle.ods_base.specs.declared.name.Pick.TheVariants.{Exact, Highest, Lowest}

-- the nine codes of three words
abbrev pub three_words : ℕ → ℕ → ℕ → List ℕ
three_words a b c = rad50_codes a ++ rad50_codes b ++ rad50_codes c

-- the nine codes of a name
abbrev pub name_codes : RadName → List ℕ
name_codes n = three_words (slice_index n.words 0) (slice_index n.words 1) (slice_index n.words 2)

-- the codes of a word that has them
codes_are : (w : ℕ) → w < 64000 → rad50_codes w ≡ w / 1600 ∷ w / 40 % 40 ∷ w % 40 ∷ []
codes_are w small = rw (lt-ltb w 64000 small) refl

all_three : (m a b c : ℕ) → a < m → b < m → c < m → All (λ x. x < m) (a ∷ b ∷ c ∷ [])
all_three m a b c low mid high = All-cons (λ x. x < m) a (b ∷ c ∷ []) low (All-cons (λ x. x < m) b (c ∷ []) mid (All-cons (λ x. x < m) c [] high (All-nil (λ x. x < m))))

codes_small : (w : ℕ) → w < 64000 → All (λ c. c < 40) (rad50_codes w)
codes_small w small = rw (codes_are w small) (all_three 40 (w / 1600) (w / 40 % 40) (w % 40) (omega arith) (omega arith) (omega arith))

-- three codes have one word
same_word : (v w : ℕ) → v < 64000 → w < 64000 → rad50_codes v ≡ rad50_codes w → v ≡ w
same_word v w low small e =
    let same : v / 1600 ∷ v / 40 % 40 ∷ v % 40 ∷ [] ≡ w / 1600 ∷ w / 40 % 40 ∷ w % 40 ∷ [] = sym (codes_are v low) ∙ e ∙ codes_are w small in
    let first : v / 1600 ≡ w / 1600 = cc in
    let second : v / 40 % 40 ≡ w / 40 % 40 = cc in
    let third : v % 40 ≡ w % 40 = cc in
    omega arith

-- the words of a name are those of three codes each
words_small : (n : RadName) → IsName n → (slice_index n.words 0 < 64000) × (slice_index n.words 1 < 64000) × (slice_index n.words 2 < 64000)
words_small n name = (name.words 0 0 (omega (arith, name.three)), name.words 1 0 (omega (arith, name.three)), name.words 2 0 (omega (arith, name.three)))

-- the parts of a name
pub name_part : (n : RadName) → IsName n → IsPart (part_text (name_codes n)) 9 (name_codes n)
name_part n name =
    let a = slice_index n.words 0 in
    let b = slice_index n.words 1 in
    let c = slice_index n.words 2 in
    let small = words_small n name in
    record {
      size = rw (codes_are a small.0, codes_are b small.1, codes_are c small.2) refl;
      each = All-append (λ x. x < 40) (rad50_codes a ++ rad50_codes b) (rad50_codes c) (All-append (λ x. x < 40) (rad50_codes a) (rad50_codes b) (codes_small a small.0) (codes_small b small.1)) (codes_small c small.2);
      spelled = refl;
    }

pub ext_part : (n : RadName) → IsName n → IsPart (part_text (rad50_codes n.ext)) 3 (rad50_codes n.ext)
ext_part n name = record { size = rw (codes_are n.ext name.ext) refl; each = codes_small n.ext name.ext; spelled = refl }

-- no character of a part is `.` or `;`
no_dot : (c : ℕ) → rad50_char c ≢ 46
no_dot c = grind (arith, nat_tests)

no_semicolon : (c : ℕ) → rad50_char c ≢ 59
no_semicolon c = grind (arith, nat_tests)

none_in : (m : ℕ) → ((c : ℕ) → rad50_char c ≢ m) → (cs : List ℕ) → All (λ x. x ≢ m) (part_text cs)
none_in m other cs =
    let kept = take (length cs - suffix_len (λ c. c == 0) cs) cs in
    All-map (λ x. x ≢ m) rad50_char kept (λ k d h. other (get_or kept k d))

-- what stands behind the type is nothing or begins with `;`
begins : (pick : Pick) (behind : List ℕ) → IsVersionText pick behind → 0 < length behind → get_or behind 0 0 ≡ 59
begins Highest behind (inl e) some = absurd (omega (arith, ap length e))
begins Highest behind (inr e) some = ap (λ l. get_or l 0 0) e
begins Lowest behind e some = ap (λ l. get_or l 0 0) e
begins (Exact v) behind h some = ap (λ l. get_or l 0 0) h.2

-- a text that spells a name falls into its parts
pub spelled_falls : (text : List ℕ) (n : RadName) (pick : Pick) (s : Spells text n pick) → FallsInto text (part_text (name_codes n)) (part_text (rad50_codes n.ext)) s.behind
unfolding name_text
spelled_falls text n pick s = record {
  whole = s.whole ∙ append_assoc (part_text (name_codes n)) (46 ∷ part_text (rad50_codes n.ext)) s.behind;
  name_end = none_in 46 no_dot (name_codes n);
  ext_end = none_in 59 no_semicolon (rad50_codes n.ext);
  behind_start = begins pick s.behind s.version;
}

three_parts : (a : ℕ) (cs : List ℕ) → length cs ≡ a + a + a → (take a cs ++ take a (drop a cs)) ++ take a (drop (a + a) cs) ≡ cs
three_parts a cs size =
    let last : take a (drop (a + a) cs) ≡ drop a (drop a cs) = take_all a (drop (a + a) cs) (omega (arith, length-drop (a + a) cs)) ∙ sym (drop-drop a a cs) in
    append_assoc (take a cs) (take a (drop a cs)) (take a (drop (a + a) cs)) ∙ ap (λ l. take a cs ++ (take a (drop a cs) ++ l)) last
    ∙ ap (λ l. take a cs ++ l) (take-append-drop a (drop a cs)) ∙ take-append-drop a cs

-- the words of the nine codes, and the word of the three
pub record AreWords (cs ds : List ℕ) (a b c e : ℕ) : Type 0 where
  pub small : (a < 64000) × (b < 64000) × (c < 64000) × (e < 64000)
  pub first : rad50_codes a ≡ take 3 cs
  pub second : rad50_codes b ≡ take 3 (drop 3 cs)
  pub third : rad50_codes c ≡ take 3 (drop 6 cs)
  pub type_word : rad50_codes e ≡ ds

-- the words that were read spell the text
pub words_spell : (text name ext behind cs ds : List ℕ) (a b c e : ℕ) (pick : Pick) → FallsInto text name ext behind → IsPart name 9 cs → IsPart ext 3 ds → AreWords cs ds a b c e → IsVersionText pick behind →
    Spells text (record { words = a ∷ b ∷ c ∷ []; ext = e }) pick
unfolding name_text
words_spell text name ext behind cs ds a b c e pick falls front back words version =
    let nine : three_words a b c ≡ cs = rw (words.first, words.second, words.third) (three_parts 3 cs front.size) in
    record {
      name = record {
        three = refl;
        words = all_three 64000 a b c words.small.0 words.small.1 words.small.2;
        ext = words.small.3;
      };
      behind = behind;
      whole =
          falls.whole ∙ ap (λ l. l ++ 46 ∷ (ext ++ behind)) (front.spelled ∙ ap part_text (sym nine)) ∙ ap (λ l. part_text (three_words a b c) ++ 46 ∷ (l ++ behind)) (back.spelled ∙ ap part_text (sym words.type_word))
          ∙ sym (append_assoc (part_text (three_words a b c)) (46 ∷ part_text (rad50_codes e)) behind);
      version = version;
    }

three_of : (ws : List ℕ) → length ws ≡ 3 → ws ≡ get_or ws 0 0 ∷ get_or ws 1 0 ∷ get_or ws 2 0 ∷ []
three_of [] h = absurd (cc)
three_of (a ∷ []) h = absurd (omega (arith, h))
three_of (a ∷ b ∷ []) h = absurd (omega (arith, h))
three_of (a ∷ b ∷ c ∷ []) h = refl
three_of (a ∷ b ∷ c ∷ d ∷ ws) h = absurd (omega (arith, h))

-- words of the codes of a name are its own
pub same_name : (n : RadName) (cs ds : List ℕ) (a b c e : ℕ) → IsName n → AreWords cs ds a b c e → cs ≡ name_codes n → ds ≡ rad50_codes n.ext → let m : RadName = record { words = a ∷ b ∷ c ∷ []; ext = e } in m ≡ n
same_name n cs ds a b c e name words is_name is_ext =
    let x = slice_index n.words 0 in
    let y = slice_index n.words 1 in
    let z = slice_index n.words 2 in
    let small = words_small n name in
    let first : take 3 (name_codes n) ≡ rad50_codes x = rw (codes_are x small.0) refl in
    let second : take 3 (drop 3 (name_codes n)) ≡ rad50_codes y = rw (codes_are x small.0, codes_are y small.1) refl in
    let third : take 3 (drop 6 (name_codes n)) ≡ rad50_codes z = rw (codes_are x small.0, codes_are y small.1, codes_are z small.2) refl in
    let same_a : a ≡ x = same_word a x words.small.0 small.0 (words.first ∙ ap (take 3) is_name ∙ first) in
    let same_b : b ≡ y = same_word b y words.small.1 small.1 (words.second ∙ ap (λ l. take 3 (drop 3 l)) is_name ∙ second) in
    let same_c : c ≡ z = same_word c z words.small.2 small.2 (words.third ∙ ap (λ l. take 3 (drop 6 l)) is_name ∙ third) in
    let same_e : e ≡ n.ext = same_word e n.ext words.small.3 name.ext (words.type_word ∙ is_ext) in
    let same_words : a ∷ b ∷ c ∷ [] ≡ n.words = rw (same_a, same_b, same_c) (sym (three_of n.words name.three)) in
    λ i. record { words = same_words i; ext = same_e i }
