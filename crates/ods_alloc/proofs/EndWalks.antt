-- A walk along a chain that counts its headers and its blocks, and ends at the last header.
use Rattle.std.proofs.Common.{◌≡◌, ℕ, suc, ◌+◌, ◌≤◌, List, [], ◌∷◌, ◌++◌, length, refl, sym, ap, ◌∙◌, arith}
use Rattle.std.proofs.lemmas.List.{append-nil, append_assoc, length-append}
use Rattle.std.proofs.lemmas.Grind.{flat_map-append}
use Rattle.ods_base.specs.Image.{IsImage}
use Rattle.ods_header.specs.Header.{IsLaidOut, blocks_of}
use Rattle.ods_space.specs.Layout.{VolumeLayout, header_at}
use Rattle.ods_space.specs.Chain.{chain_blocks, IsChain, headers_of, index_for, named_by}
use Rattle.ods_space.specs.Files.{IsLayoutOf, IsWhole}
use Rattle.ods_space.proofs.Chains.{length_of}
use Rattle.ods_space.proofs.Sizes.{chain_size}
use Rattle.ods_space.proofs.Wholes.{chain_seen, numbered}
use Rattle.ods_alloc.specs.Extend.{last_of}

-- the last of these headers, or the one before them
abbrev pub last_one : ℕ × List ℕ → List (ℕ × List ℕ) → ℕ × List ℕ
last_one g [] = g
last_one g (h ∷ hs) = last_one h hs

last_one-push : (g : ℕ × List ℕ) (hs : List (ℕ × List ℕ)) (h : ℕ × List ℕ) → last_one g (hs ++ h ∷ []) ≡ h
last_one-push g [] h = refl
last_one-push g (f ∷ fs) h = last_one-push f fs h

-- So many headers were met behind this one, of all of them, with so many blocks, the last of them this, and these are still to come.
pub record IsPassed (start : ℕ × List ℕ) (all rest : List (ℕ × List ℕ)) (headers blocks : ℕ) (last : ℕ × List ℕ) : Type 0 where
  pub front : List (ℕ × List ℕ)
  pub parts : all ≡ front ++ rest
  pub headers_are : headers ≡ length front
  pub blocks_are : blocks ≡ length (named_by front)
  pub last_is : last ≡ last_one start front
  pub laid_out : IsLaidOut last.1

pub passed_first : (start : ℕ × List ℕ) (all rest : List (ℕ × List ℕ)) → rest ≡ all → IsLaidOut start.1 → IsPassed start all rest 0 0 start
passed_first start all rest same laid_out = record { front = []; parts = sym same; headers_are = refl; blocks_are = refl; last_is = refl; laid_out = laid_out }

module _ (start : ℕ × List ℕ) (all old : List (ℕ × List ℕ)) (headers blocks : ℕ) (last : ℕ × List ℕ) (w : IsPassed start all old headers blocks last) where
  pub passed_next : (h : ℕ × List ℕ) (rest : List (ℕ × List ℕ)) (more : ℕ) → old ≡ h ∷ rest → more ≡ length (blocks_of h.1) → IsLaidOut h.1 → IsPassed start all rest (headers + 1) (blocks + more) h
  passed_next h rest more is maps laid_out = record {
    front = w.front ++ h ∷ [];
    parts = w.parts ∙ ap (λ hs. w.front ++ hs) is ∙ sym (append_assoc w.front (h ∷ []) rest);
    headers_are = let long = length-append w.front (h ∷ []) in let before = w.headers_are in omega (arith, long, before);
    blocks_are =
        let split : named_by (w.front ++ h ∷ []) ≡ named_by w.front ++ blocks_of h.1 = flat_map-append (λ g. blocks_of g.1) w.front (h ∷ []) ∙ ap (λ l. named_by w.front ++ l) (append-nil (blocks_of h.1)) in
        let long = ap length split ∙ length-append (named_by w.front) (blocks_of h.1) in
        let before = w.blocks_are in
        omega (arith, long, before, maps);
    last_is = sym (last_one-push start w.front h);
    laid_out = laid_out;
  }

  pub passed_few : (headers + length old ≡ length all) × (blocks ≤ length (named_by all))
  passed_few =
      let long = ap length w.parts ∙ length-append w.front old in
      let before = w.headers_are in
      let maps = ap (λ hs. length (named_by hs)) w.parts ∙ ap length (flat_map-append (λ g. blocks_of g.1) w.front old) ∙ length-append (named_by w.front) (named_by old) in
      let met = w.blocks_are in
      (omega (arith, long, before), omega (arith, maps, met))

  pub passed_all : old ≡ [] → (headers ≡ length all) × (blocks ≡ length (named_by all)) × (last ≡ last_one start all)
  passed_all none =
      let same : all ≡ w.front = w.parts ∙ ap (λ hs. w.front ++ hs) none ∙ append-nil w.front in
      (w.headers_are ∙ ap length (sym same), w.blocks_are ∙ ap (λ hs. length (named_by hs)) (sym same), w.last_is ∙ ap (last_one start) (sym same))

last_numbered : (I : List (List ℕ)) (L : VolumeLayout) (n : ℕ) (ns : List ℕ) → last_one (n, header_at I L n) (numbered I L ns) ≡ (last_of n ns, header_at I L (last_of n ns))
last_numbered I L n [] = refl
last_numbered I L n (m ∷ ms) = last_numbered I L m ms

length_numbered : (I : List (List ℕ)) (L : VolumeLayout) (ns : List ℕ) → length (numbered I L ns) ≡ length ns
length_numbered I L [] = refl
length_numbered I L (n ∷ ns) = ap suc (length_numbered I L ns)

module _ (I : List (List ℕ)) (L : VolumeLayout) (n : ℕ) (others blocks : List ℕ) (image : IsImage I) (layout : IsLayoutOf I L) (whole : IsWhole I L n others blocks) where
  -- what the headers of a file's chain are, as they are walked along
  pub walked : (length (headers_of I L n) ≡ length (n ∷ others)) × (length (named_by (headers_of I L n)) ≡ length blocks)
  walked =
      let seen = chain_seen I L n others blocks image layout whole.chain in (
        ap length seen.headers ∙ length_numbered I L (n ∷ others),
        ap (λ l. length (named_by l)) seen.headers ∙ ap length (sym seen.named),
      )

  pub walked_few : (length (headers_of I L n) ≤ 256) × (length (named_by (headers_of I L n)) ≤ chain_blocks)
  walked_few =
      let long = length_of I L.home (index_for L n) [] 0 n others blocks image whole.chain in
      let size = chain_size I L.home (index_for L n) n others blocks image whole.chain in
      let one = walked.0 in
      let two = walked.1 in
      (omega (arith, long, one), omega (arith, size, two))

  -- the first of them has its parts in place
  pub walked_first : IsLaidOut (header_at I L n)
  walked_first = ((chain_seen I L n others blocks image layout whole.chain).valid 0 (0, []) (omega arith)).header.layout

-- the last header that is walked along is the last of the chain
pub walked_last : (I : List (List ℕ)) (L : VolumeLayout) (n : ℕ) (others blocks : List ℕ) (start : ℕ × List ℕ) → IsImage I → IsLayoutOf I L → IsChain I L n others blocks
    → last_one start (headers_of I L n) ≡ (last_of n others, header_at I L (last_of n others))
walked_last I L n others blocks start image layout chain = ap (last_one start) (chain_seen I L n others blocks image layout chain).headers ∙ last_numbered I L n others
