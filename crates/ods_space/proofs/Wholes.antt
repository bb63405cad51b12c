-- The headers of a whole chain, seen by all blocks of INDEXF.SYS.
use Rattle.std.proofs.Common.{◌≡◌, ◌≢◌, ℕ, zero, suc, ◌+◌, ◌-◌, ◌<◌, ◌≤◌, List, [], ◌∷◌, ◌++◌, length, map, Option, Some, None, inl, inr, refl, sym, ap, ◌∙◌, subst, arith, append_assoc}
use Rattle.std.specs.Prelude.{slice_get}
use Rattle.std.specs.Option.{option_map_or}
use Rattle.std.proofs.lemmas.List.{append-nil}
use Rattle.std.proofs.lemmas.Bool.{cases_lt, cases_eq, ne_eqb, eq-eqb, lt-leb, le-leb}
use Rattle.std.proofs.lemmas.Option.{slice_get_past, slice_get_within}
use Rattle.ods_base.specs.Block.{word}
use Rattle.ods_base.specs.Image.{IsImage, block_at}
use Rattle.ods_header.specs.declared.home.Home.{Home}
use Rattle.ods_header.specs.Header.{IsValidHeader, number_of, segment_of, next_number_of, blocks_of}
use Rattle.ods_space.specs.Layout.{VolumeLayout, header_at, header_by}
use Rattle.ods_space.specs.Chain.{Follows, IsChain, index_for, known, headers_along, headers_of, numbers_of, named_by, AreValid}
use Rattle.ods_space.specs.Files.{IsLayoutOf}
use Rattle.ods_space.proofs.Chains.{front_begins, head_of, same_chain, length_of}
use Rattle.ods_space.proofs.Surveys.{slice_get-append_left}

-- these headers, each with its number
abbrev pub numbered : List (List ℕ) → VolumeLayout → List ℕ → List (ℕ × List ℕ)
numbered I L ns = map (λ n. (n, header_at I L n)) ns

-- headers above 16 are found by the blocks of INDEXF.SYS
header_above : (I : List (List ℕ)) (h : Home) (index : List ℕ) (n : ℕ) → 16 < n → header_by I h index n ≡ option_map_or (block_at I) (slice_get index (1 + h.index_bitmap_size + n)) []
header_above I h index n high =
    let e = lt-leb n 16 high in
    let z = ne_eqb n 0 (λ p. omega arith) in
    rw (z, e) refl

-- a header that is found by the first blocks of INDEXF.SYS is found by all of them
same_found : (I : List (List ℕ)) (h : Home) (front more : List ℕ) (n : ℕ) → IsValidHeader (header_by I h front n) n → 1 ≤ n → header_by I h front n ≡ header_by I h (front ++ more) n
same_found I h front more n valid some = elim (cases_lt 16 n) [
  | inr low ↦ let e = le-leb n 16 low in rw e refl
  | inl high ↦
      let at : ℕ = 1 + h.index_bitmap_size + n in
      let block : Option ℕ → List ℕ = λ o. option_map_or (block_at I) o [] in
      elim (cases_lt at (length front)) [
        | inl within ↦ header_above I h front n high ∙ ap block (sym (slice_get-append_left front more at within)) ∙ sym (header_above I h (front ++ more) n high)
        | inr past ↦
            let none : header_by I h front n ≡ [] = header_above I h front n high ∙ ap block (slice_get_past front at past) in
            let P : List ℕ → Type 0 = λ b. IsValidHeader b n in
            let zero_is : 0 ≡ n = (subst P none valid).header.numbered in
            absurd (omega arith)
      ]
]

-- What a chain says of its headers: they are those that are computed, valid, name its blocks, and each has its segment.
pub record IsSeen (I : List (List ℕ)) (L : VolumeLayout) (n : ℕ) (ns all : List ℕ) : Type 0 where
  pub headers : headers_of I L n ≡ numbered I L (n ∷ ns)
  pub valid : AreValid (numbered I L (n ∷ ns))
  pub named : all ≡ named_by (numbered I L (n ∷ ns))
  pub numbers : numbers_of (headers_of I L n) ≡ n ∷ ns
  pub segment : (j x : ℕ) → slice_get (n ∷ ns) j ≡ Some x → segment_of (header_at I L x) ≡ j

pub along_none : (I : List (List ℕ)) (L : VolumeLayout) (left n : ℕ) → n ≡ 0 → headers_along I L left n ≡ []
unfolding headers_along
along_none I L zero n none = refl
along_none I L (suc left) n none = let e = eq-eqb n 0 none in rw e refl

pub along_past : (I : List (List ℕ)) (L : VolumeLayout) (left n : ℕ) → left ≡ 0 → headers_along I L left n ≡ []
unfolding headers_along
along_past I L zero n none = refl
along_past I L (suc left) n none = absurd (omega arith)

pub along_some : (I : List (List ℕ)) (L : VolumeLayout) (left n : ℕ) → n ≢ 0 → headers_along I L (suc left) n ≡ (n, header_at I L n) ∷ headers_along I L left (next_number_of (header_at I L n))
unfolding headers_along
along_some I L left n some = let e = ne_eqb n 0 some in rw e refl

-- each of a list of valid headers, but for the first
pub valid_rest : (h : ℕ × List ℕ) (hs : List (ℕ × List ℕ)) → AreValid (h ∷ hs) → AreValid hs
valid_rest h hs all i d within = all (suc i) d (omega arith)

valid_all : (h : ℕ × List ℕ) (hs : List (ℕ × List ℕ)) → IsValidHeader h.1 h.0 → AreValid hs → AreValid (h ∷ hs)
valid_all h hs first rest zero d within = first
valid_all h hs first rest (suc i) d within = rest i d (omega arith)

module _ (I : List (List ℕ)) (L : VolumeLayout) (index : Option (List ℕ)) (all : List ℕ)
    (found : (front more : List ℕ) (n : ℕ) → all ≡ front ++ more → 1 ≤ n → IsValidHeader (header_by I L.home (known index front) n) n → header_by I L.home (known index front) n ≡ header_at I L n) where
  here : (front : List ℕ) (k n : ℕ) (ns : List ℕ) → Follows I L.home index front k n ns all → header_by I L.home (known index front) n ≡ header_at I L n
  here front k n ns f =
      let more = front_begins I L.home index front k n ns all f in
      let head = head_of I L.home index front k n ns all f in
      found front more.0 n more.1 head.first head.valid

  -- those that are computed are those of the chain
  headers_by : (front : List ℕ) (k n : ℕ) (ns : List ℕ) (left : ℕ) → length ns ≤ left → Follows I L.home index front k n ns all → headers_along I L (suc left) n ≡ numbered I L (n ∷ ns)
  headers_by front k n [] left few f =
      let P : List ℕ → Type 0 = λ b. next_number_of b ≡ 0 in
      let first = f.0.first in
      along_some I L left n (λ z. omega arith) ∙ ap (λ l. (n, header_at I L n) ∷ l) (along_none I L left (next_number_of (header_at I L n)) (subst P (here front k n [] f) f.1))
  headers_by front k n (m ∷ ms) zero few f = absurd (omega arith)
  headers_by front k n (m ∷ ms) (suc left) few f =
      let P : List ℕ → Type 0 = λ b. next_number_of b ≡ m in
      let first = (head_of I L.home index front k n (m ∷ ms) all f).first in
      let reached : List ℕ = front ++ blocks_of (header_by I L.home (known index front) n) in
      let rest = headers_by reached (suc k) m ms left (omega arith) f.4 in
      along_some I L (suc left) n (λ z. omega arith) ∙ ap (λ l. (n, header_at I L n) ∷ l) (ap (headers_along I L (suc left)) (subst P (here front k n (m ∷ ms) f) f.1) ∙ rest)

  valid_by : (front : List ℕ) (k n : ℕ) (ns : List ℕ) → Follows I L.home index front k n ns all → AreValid (numbered I L (n ∷ ns))
  valid_by front k n [] f =
      let P : List ℕ → Type 0 = λ b. IsValidHeader b n in
      valid_all (n, header_at I L n) [] (subst P (here front k n [] f) f.0.valid) (λ i d within. absurd (omega arith))
  valid_by front k n (m ∷ ms) f =
      let P : List ℕ → Type 0 = λ b. IsValidHeader b n in
      let rest = valid_by (front ++ blocks_of (header_by I L.home (known index front) n)) (suc k) m ms f.4 in
      valid_all (n, header_at I L n) (numbered I L (m ∷ ms)) (subst P (here front k n (m ∷ ms) f) f.0.valid) rest

  named_of : (front : List ℕ) (k n : ℕ) (ns : List ℕ) → Follows I L.home index front k n ns all → all ≡ front ++ named_by (numbered I L (n ∷ ns))
  named_of front k n [] f = f.2 ∙ ap (λ b. front ++ blocks_of b) (here front k n [] f) ∙ ap (λ l. front ++ l) (sym (append-nil (blocks_of (header_at I L n))))
  named_of front k n (m ∷ ms) f =
      let own : List ℕ = blocks_of (header_by I L.home (known index front) n) in
      let rest : List ℕ = named_by (numbered I L (m ∷ ms)) in
      named_of (front ++ own) (suc k) m ms f.4 ∙ append_assoc front own rest ∙ ap (λ b. front ++ (blocks_of b ++ rest)) (here front k n (m ∷ ms) f)

  numbers_back : (ns : List ℕ) → numbers_of (numbered I L ns) ≡ ns
  numbers_back [] = refl
  numbers_back (n ∷ ns) = ap (λ l. n ∷ l) (numbers_back ns)

  -- header j of the chain from segment k on
  segment_by : (front : List ℕ) (k n : ℕ) (ns : List ℕ) (j x : ℕ) → Follows I L.home index front k n ns all → slice_get (n ∷ ns) j ≡ Some x → segment_of (header_at I L x) ≡ k + j
  segment_by front k n ns zero x f at =
      let same : n ≡ x = cc in
      let P : List ℕ → Type 0 = λ b. segment_of b ≡ k in
      ap (λ y. segment_of (header_at I L y)) (sym same) ∙ subst P (here front k n ns f) (head_of I L.home index front k n ns all f).segment ∙ omega arith
  segment_by front k n [] (suc j) x f at = absurd (let within = slice_get_within [] j x at in omega arith)
  segment_by front k n (m ∷ ms) (suc j) x f at =
      let next : suc k + j ≡ k + suc j = omega arith in
      segment_by (front ++ blocks_of (header_by I L.home (known index front) n)) (suc k) m ms j x f.4 at ∙ next

  seen : (n : ℕ) (ns : List ℕ) → IsImage I → Follows I L.home index [] 0 n ns all → IsSeen I L n ns all
  unfolding headers_of
  seen n ns image f = record {
    headers = let few = length_of I L.home index [] 0 n ns all image f in headers_by [] 0 n ns 255 (omega arith) f;
    valid = valid_by [] 0 n ns f;
    named = named_of [] 0 n ns f;
    numbers = let few = length_of I L.home index [] 0 n ns all image f in ap numbers_of (headers_by [] 0 n ns 255 (omega arith) f) ∙ numbers_back (n ∷ ns);
    segment = λ j x at. segment_by [] 0 n ns j x f at ∙ omega arith;
  }

-- what a chain says of its headers
pub chain_seen : (I : List (List ℕ)) (L : VolumeLayout) (n : ℕ) (ns bs : List ℕ) → IsImage I → IsLayoutOf I L → IsChain I L n ns bs → IsSeen I L n ns bs
chain_seen I L n ns bs image layout chain = elim (cases_eq n 1) [
  | inl e ↦
      let P : ℕ → Type 0 = λ x. IsChain I L x ns bs in
      let Q : ℕ → Type 0 = λ x. IsSeen I L x ns bs in
      let own = layout.index in
      let f = subst P e chain in
      let same : bs ≡ L.index = (same_chain I L.home None [] 0 1 ns bs own.others L.index f own.whole.chain).1 in
      let found : (front more : List ℕ) (m : ℕ) → bs ≡ front ++ more → 1 ≤ m → IsValidHeader (header_by I L.home front m) m → header_by I L.home front m ≡ header_at I L m = λ front more m is some valid.
      same_found I L.home front more m valid some ∙ ap (λ xs. header_by I L.home xs m) (sym is ∙ same) in
      subst Q (sym e) (seen I L None bs found 1 ns image f)
  | inr other ↦
      let by : index_for L n ≡ Some L.index = let z = ne_eqb n 1 other in rw z refl in
      let P : Option (List ℕ) → Type 0 = λ index. Follows I L.home index [] 0 n ns bs in
      seen I L (Some L.index) bs (λ front more m is some valid. refl) n ns image (subst P by chain)
]

-- the headers that are computed are valid
pub valid_along : (I : List (List ℕ)) (L : VolumeLayout) (n : ℕ) (ns bs : List ℕ) → IsSeen I L n ns bs → AreValid (headers_along I L 256 n)
unfolding headers_of
valid_along I L n ns bs s = let P : List (ℕ × List ℕ) → Type 0 = λ hs. AreValid hs in subst P (sym s.headers) s.valid

module _ (I : List (List ℕ)) (L : VolumeLayout) (left n : ℕ) (b : List ℕ) (some : n ≢ 0) (more : left ≢ 0) (block : b ≡ header_at I L n) (valid : AreValid (headers_along I L left n)) where
  -- the next header, and those behind it
  pub next_is : headers_along I L left n ≡ (n, b) ∷ headers_along I L (left - 1) (next_number_of b)
  next_is =
      let e : left ≡ suc (left - 1) = omega arith in
      ap (λ l. headers_along I L l n) e ∙ along_some I L (left - 1) n some ∙ ap (λ c. (n, c) ∷ headers_along I L (left - 1) (next_number_of c)) (sym block)

  next_all : AreValid ((n, b) ∷ headers_along I L (left - 1) (next_number_of b))
  next_all = let P : List (ℕ × List ℕ) → Type 0 = λ hs. AreValid hs in subst P next_is valid

  pub next_valid : IsValidHeader b n
  next_valid = next_all 0 (n, b) (omega arith)

  pub next_rest : AreValid (headers_along I L (left - 1) (next_number_of b))
  next_rest = valid_rest (n, b) (headers_along I L (left - 1) (next_number_of b)) next_all

  -- there are none where the next one has no place
  pub next_none : header_at I L (next_number_of b) ≡ [] → headers_along I L (left - 1) (next_number_of b) ≡ []
  next_none nothing = elim (cases_eq (next_number_of b) 0) [
    | inl last ↦ along_none I L (left - 1) (next_number_of b) last
    | inr other ↦ by (left - 1) next_rest other
  ]
    where
      by : (l : ℕ) → AreValid (headers_along I L l (next_number_of b)) → next_number_of b ≢ 0 → headers_along I L l (next_number_of b) ≡ []
      by zero all other = along_past I L 0 (next_number_of b) refl
      by (suc l) all other =
          let m = next_number_of b in
          let P : List (ℕ × List ℕ) → Type 0 = λ hs. AreValid hs in
          let head : IsValidHeader (header_at I L m) m = (subst P (along_some I L l m other) all) 0 (m, header_at I L m) (omega arith) in
          let number : 0 ≡ m = subst (λ c. number_of c ≡ m) nothing head.header.numbered in
          absurd (other (sym number))

pub along_0 : (I : List (List ℕ)) (L : VolumeLayout) (left : ℕ) → headers_along I L left 0 ≡ []
along_0 I L left = along_none I L left 0 refl

-- a header of a chain has a place
pub first_there : (I : List (List ℕ)) (L : VolumeLayout) (n : ℕ) (ns bs : List ℕ) (b : List ℕ) → IsImage I → IsLayoutOf I L → IsChain I L n ns bs → b ≡ header_at I L n → b ≢ []
first_there I L n ns bs b image layout chain is nothing =
    let seen = chain_seen I L n ns bs image layout chain in
    let none : header_at I L n ≡ [] = sym is ∙ nothing in
    let valid : IsValidHeader (header_at I L n) n = seen.valid 0 (n, header_at I L n) (omega arith) in
    let level : ◌≡◌ {A = ℕ} 0 257 = subst (λ c. word c 3 ≡ 257) none valid.header.level in
    let clash : ⊥ = cc in
    clash
