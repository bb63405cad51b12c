-- A walk along a chain up to the header that has the last block which a file keeps.
use Rattle.std.proofs.Common.{◌≡◌, ℕ, ◌+◌, ◌-◌, ◌<◌, ◌≤◌, List, [], ◌∷◌, ◌++◌, length, inl, inr, refl, sym, ap, ◌∙◌, subst, arith}
use Rattle.std.specs.Prelude.{◌⊎◌}
use Rattle.std.proofs.lemmas.List.{append-nil, append_assoc, length-append, map-append}
use Rattle.std.proofs.lemmas.Grind.{flat_map-append}
use Rattle.ods_base.specs.Image.{IsImage}
use Rattle.ods_header.specs.Header.{IsValidHeader, blocks_of}
use Rattle.ods_space.specs.Layout.{VolumeLayout, header_at}
use Rattle.ods_space.specs.Chain.{IsChain, headers_of, named_by}
use Rattle.ods_space.specs.Files.{IsLayoutOf}
use Rattle.ods_space.proofs.Wholes.{chain_seen, numbered}
use Rattle.ods_alloc.specs.Extend.{last_of}
use Rattle.ods_alloc.proofs.Fields.{last_in}
use Rattle.ods_state.proofs.IndexEnd.{valid_in}
use Rattle.ods_change.specs.declared.truncate_file.CutPlace.{CutPlace}
use Rattle.ods_change.specs.Truncating.{IsCutPlace}

-- of all headers these are still to come, and behind the blocks of those before them so many are still wanted
pub record AreShort (all rest : List (ℕ × List ℕ)) (count left : ℕ) : Type 0 where
  pub front : List (ℕ × List ℕ)
  pub parts : all ≡ front ++ rest
  pub fewer : (front ≡ []) ⊎ (length (named_by front) < count)
  pub counted : count ≡ length (named_by front) + left

pub none_passed : (all rest : List (ℕ × List ℕ)) (count : ℕ) → rest ≡ all → AreShort all rest count count
none_passed all rest count is = let whole : count ≡ 0 + count = omega arith in record { front = []; parts = sym is; fewer = inl refl; counted = whole }

pub named_push : (front : List (ℕ × List ℕ)) (h : ℕ × List ℕ) → length (named_by (front ++ h ∷ [])) ≡ length (named_by front) + length (blocks_of h.1)
named_push front h =
    ap length (flat_map-append (λ g. blocks_of g.1) front (h ∷ []) ∙ ap (λ l. named_by front ++ l) (append-nil (blocks_of h.1))) ∙ length-append (named_by front) (blocks_of h.1)

module _ (all old : List (ℕ × List ℕ)) (count left : ℕ) (w : AreShort all old count left) where
  pub one_passed : (h : ℕ × List ℕ) (rest : List (ℕ × List ℕ)) (has : ℕ) → old ≡ h ∷ rest → has ≡ length (blocks_of h.1) → has < left → AreShort all rest count (left - has)
  one_passed h rest has is maps short =
      let long = named_push w.front h in
      let before = w.counted in
      record {
        front = w.front ++ h ∷ [];
        parts = w.parts ∙ ap (λ hs. w.front ++ hs) is ∙ sym (append_assoc w.front (h ∷ []) rest);
        fewer = inr (omega (arith, long, before, maps, short));
        counted = omega (arith, long, before, maps, short);
      }

  -- the walk ends before the headers do
  pub never_ends : (I : List (List ℕ)) (L : VolumeLayout) (n : ℕ) (others blocks : List ℕ) → IsImage I → IsLayoutOf I L → IsChain I L n others blocks → all ≡ headers_of I L n → count ≤ length blocks → old ≡ [] → ⊥
  never_ends I L n others blocks image layout chain is enough none =
      let seen = chain_seen I L n others blocks image layout chain in
      let same : all ≡ w.front = w.parts ∙ ap (λ hs. w.front ++ hs) none ∙ append-nil w.front in
      let most : length (named_by w.front) ≡ length blocks = ap (λ hs. length (named_by hs)) (sym same ∙ is ∙ seen.headers) ∙ ap length (sym seen.named) in
      elim w.fewer [
        | inl empty ↦ let wrong = ap length (sym empty ∙ sym same ∙ is ∙ seen.headers) in absurd (omega (arith, wrong))
        | inr few ↦ absurd (omega (arith, few, most, enough))
      ]

  -- the header that has the last block
  pub ends_here : (I : List (List ℕ)) (L : VolumeLayout) (n : ℕ) (place : CutPlace) (has : ℕ) → all ≡ headers_of I L n → old ≡ (place.number, place.header.now) ∷ place.behind → place.left ≡ left
      → has ≡ length (blocks_of place.header.now) → left ≤ has → IsValidHeader place.header.now place.number → IsCutPlace I L n count place
  ends_here I L n place has is next same maps fits valid = record {
    front = w.front;
    parts = sym is ∙ w.parts ∙ ap (λ hs. w.front ++ hs) next;
    fewer = w.fewer;
    left = w.counted ∙ ap (λ k. length (named_by w.front) + k) (sym same);
    has = omega (arith, same, maps, fits);
    valid = valid;
  }

-- a chain's headers are those before its last one, and that
last_split : (n : ℕ) (others : List ℕ) → (front : List ℕ) × (n ∷ others ≡ front ++ last_of n others ∷ [])
last_split n [] = ([], refl)
last_split n (m ∷ ms) = let rest = last_split m ms in (n ∷ rest.0, ap (λ l. n ∷ l) rest.1)

-- a chain whose last header keeps some of its own blocks is cut there
pub cut_in_last : (I : List (List ℕ)) (L : VolumeLayout) (n count : ℕ) (others blocks : List ℕ) (place : CutPlace) (has gone : ℕ) → IsImage I → IsLayoutOf I L → IsChain I L n others blocks → count ≤ length blocks
    → place.number ≡ last_of n others → place.header.now ≡ header_at I L place.number → place.behind ≡ [] → has ≡ length (blocks_of place.header.now) → gone ≡ length blocks - count → gone < has → place.left ≡ has - gone
    → IsCutPlace I L n count place
cut_in_last I L n count others blocks place has gone image layout chain enough number here none maps goes within left =
    let seen = chain_seen I L n others blocks image layout chain in
    let split = last_split n others in
    let front : List (ℕ × List ℕ) = numbered I L split.0 in
    let at : List (ℕ × List ℕ) = (place.number, place.header.now) ∷ [] in
    let last : numbered I L (last_of n others ∷ []) ≡ at = ap (λ m. (m, header_at I L m) ∷ []) (sym number) ∙ ap (λ b. (place.number, b) ∷ []) (sym here) in
    let all : numbered I L (n ∷ others) ≡ front ++ at = ap (numbered I L) split.1 ∙ map-append (λ m. (m, header_at I L m)) split.0 (last_of n others ∷ []) ∙ ap (λ l. front ++ l) last in
    let long : length blocks ≡ length (named_by front) + length (blocks_of place.header.now) = ap length (seen.named ∙ ap named_by all) ∙ named_push front (place.number, place.header.now) in
    record {
      front = front;
      parts = seen.headers ∙ all ∙ ap (λ l. front ++ (place.number, place.header.now) ∷ l) (sym none);
      fewer = inr (omega (arith, long, maps, goes, within, enough));
      left = omega (arith, long, maps, goes, within, enough, left);
      has = omega (arith, maps, left);
      valid =
          let valid = valid_in I L (n ∷ others) (last_of n others) seen.valid (last_in n others) in
          subst (λ b. IsValidHeader b place.number) (sym here) (subst (λ m. IsValidHeader (header_at I L m) m) (sym number) valid);
    }
