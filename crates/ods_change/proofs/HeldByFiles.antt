-- What a file has, noted header by header: its blocks, and the numbers of its headers, which are deleted as they are noted.
use Rattle.std.proofs.Common.{◌≡◌, ℕ, zero, suc, ap, refl, sym, ◌∙◌, subst, List, [], ◌∷◌, ◌++◌, append_assoc, Some, length, arith}
use Rattle.std.specs.List.{All}
use Rattle.std.specs.Option.{option_map_or}
use Rattle.std.proofs.lemmas.List.{append-nil}
use Rattle.ods_base.specs.Image.{IsImage, block_at}
use Rattle.ods_header.specs.Header.{blocks_of}
use Rattle.ods_header.specs.Writing.{deleted}
use Rattle.ods_space.specs.Layout.{VolumeLayout, header_at, place_of}
use Rattle.ods_space.specs.Draft.{Changes, applied}
use Rattle.ods_space.specs.Chain.{IsChain, headers_of, named_by, numbers_of}
use Rattle.ods_space.specs.Files.{IsLayoutOf}
use Rattle.ods_space.proofs.Drafts.{applied_none}
use Rattle.ods_space.proofs.Wholes.{chain_seen, numbered}
use Rattle.ods_alloc.specs.Extend.{IsWellPlaced}
use Rattle.ods_alloc.specs.Marks.{Deletes, HasPlaces}
use Rattle.ods_alloc.proofs.Giving.{one_deleted}
use Rattle.ods_alloc.proofs.Places.{has_places, place_inside}

-- behind the blocks that were there, the blocks and the numbers of the first of all headers are noted, and those are still to come
pub record AreNoted (start : List ℕ) (all rest : List (ℕ × List ℕ)) (blocks numbers : List ℕ) : Type 0 where
  pub named : start ++ named_by all ≡ blocks ++ named_by rest
  pub numbered : numbers_of all ≡ numbers ++ numbers_of rest

pub none_noted : (start : List ℕ) (all : List (ℕ × List ℕ)) (numbers : List ℕ) → numbers ≡ [] → AreNoted start all all start numbers
none_noted start all numbers no_number = record { named = refl; numbered = ap (λ ns. ns ++ numbers_of all) (sym no_number) }

pub one_noted : (start : List ℕ) (all hs rest : List (ℕ × List ℕ)) (blocks numbers more_blocks more_numbers : List ℕ) (h : ℕ × List ℕ) → hs ≡ h ∷ rest
    → more_blocks ≡ blocks ++ blocks_of h.1 → more_numbers ≡ numbers ++ h.0 ∷ [] → AreNoted start all hs blocks numbers → AreNoted start all rest more_blocks more_numbers
one_noted start all hs rest blocks numbers more_blocks more_numbers h next bs ns before = record {
  named = before.named ∙ ap (λ l. blocks ++ named_by l) next ∙ sym (append_assoc blocks (blocks_of h.1) (named_by rest)) ∙ ap (λ l. l ++ named_by rest) (sym bs);
  numbered = before.numbered ∙ ap (λ l. numbers ++ numbers_of l) next ∙ sym (append_assoc numbers (h.0 ∷ []) (numbers_of rest)) ∙ ap (λ l. l ++ numbers_of rest) (sym ns);
}

-- when no header is left, all are noted
pub all_noted : (start : List ℕ) (all rest : List (ℕ × List ℕ)) (blocks numbers : List ℕ) → AreNoted start all rest blocks numbers → rest ≡ []
    → (blocks ≡ start ++ named_by all) × (numbers ≡ numbers_of all)
all_noted start all rest blocks numbers noted none = (
  sym (append-nil blocks) ∙ ap (λ l. blocks ++ named_by l) (sym none) ∙ sym noted.named,
  sym (append-nil numbers) ∙ ap (λ l. numbers ++ numbers_of l) (sym none) ∙ sym noted.numbered,
)

-- of a file's chain these are its blocks and its headers
pub chain_noted : (I : List (List ℕ)) (L : VolumeLayout) (n : ℕ) (all : List (ℕ × List ℕ)) (blocks numbers : List ℕ) → IsImage I → IsLayoutOf I L → all ≡ headers_of I L n
    → blocks ≡ named_by all → numbers ≡ numbers_of all → (others held : List ℕ) → IsChain I L n others held → (blocks ≡ held) × (numbers ≡ n ∷ others)
chain_noted I L n all blocks numbers image layout is named counted others held chain =
    let seen = chain_seen I L n others held image layout chain in
    (named ∙ ap named_by (is ∙ seen.headers) ∙ sym seen.named, counted ∙ ap numbers_of is ∙ seen.numbers)

-- each of these headers stands in I under its number
abbrev pub AreRead : List (List ℕ) → VolumeLayout → List (ℕ × List ℕ) → Type 0
AreRead I L headers = All (λ h. h.1 ≡ header_at I L h.0) headers

pub numbered_read : (I : List (List ℕ)) (L : VolumeLayout) (ns : List ℕ) → AreRead I L (numbered I L ns)
numbered_read I L [] k d within = absurd (omega (arith, within))
numbered_read I L (n ∷ ns) zero d within = refl
numbered_read I L (n ∷ ns) (suc k) d within = numbered_read I L ns k d (omega (arith, within))

-- so do those of a chain
pub chain_read : (I : List (List ℕ)) (L : VolumeLayout) (n : ℕ) (rest : List (ℕ × List ℕ)) (others all : List ℕ) → IsImage I → IsLayoutOf I L → IsChain I L n others all → rest ≡ headers_of I L n → AreRead I L rest
chain_read I L n rest others all image layout chain is =
    subst (AreRead I L) (sym (is ∙ (chain_seen I L n others all image layout chain).headers)) (numbered_read I L (n ∷ others))

pub first_read : (I : List (List ℕ)) (L : VolumeLayout) (hs rest : List (ℕ × List ℕ)) (h : ℕ × List ℕ) → hs ≡ h ∷ rest → AreRead I L hs → h.1 ≡ header_at I L h.0
first_read I L hs rest h is all = subst (AreRead I L) is all 0 h (omega arith)

pub rest_read : (I : List (List ℕ)) (L : VolumeLayout) (hs rest : List (ℕ × List ℕ)) (h : ℕ × List ℕ) → hs ≡ h ∷ rest → AreRead I L hs → AreRead I L rest
rest_read I L hs rest h is all k d within = subst (AreRead I L) is all (suc k) d (omega (arith, within))

-- the places of a volume whose layout is that of I
pub places_in : (I : List (List ℕ)) (L : VolumeLayout) → IsLayoutOf I L → IsWellPlaced L → HasPlaces (length I) L
places_in I L layout places = has_places I [] L (subst (λ J. IsLayoutOf J L) (applied_none I) layout) places

-- Headers that are read in I are deleted in a draft, which began with no change.
module _ (I : List (List ℕ)) (L : VolumeLayout) (places : HasPlaces (length I) L) (d : Changes) (xs : List ℕ) (before : Deletes (applied I []) L xs (applied I d)) where
  pub one_deleted_here : (e : Changes) (x lbn : ℕ) (b c : List ℕ) → place_of L x ≡ Some lbn → b ≡ header_at I L x → c ≡ deleted b → e ≡ (lbn, c) ∷ d → Deletes (applied I []) L (xs ++ x ∷ []) (applied I e)
  one_deleted_here e x lbn b c found read makes is =
      one_deleted I [] d e L xs x lbn b c (place_inside (length I) L x lbn places found) found (read ∙ ap (λ o. option_map_or (block_at I) o []) found) makes is before
