-- A chain is determined by its first header, and has at most 256 headers.
use Rattle.std.proofs.Common.{◌≡◌, ℕ, suc, ◌+◌, ◌<◌, ◌≤◌, List, [], ◌∷◌, ◌++◌, length, Option, Some, None, refl, sym, ◌∙◌, subst, arith, append_assoc, inl, inr}
use Rattle.std.proofs.lemmas.Bool.{cases_lt}
use Rattle.std.proofs.lemmas.List.{get_or_past}
use Rattle.std.specs.Option.{option_map_or}
use Rattle.ods_base.specs.Block.{byte}
use Rattle.ods_base.specs.Image.{IsImage, block_at}
use Rattle.ods_header.specs.declared.home.Home.{Home}
use Rattle.ods_header.specs.Header.{segment_of, blocks_of}
use Rattle.ods_space.specs.Layout.{header_by, place_by}
use Rattle.ods_space.specs.Chain.{known, most, IsSegment, Follows}

-- the header at the front of a chain is good
pub head_of : (I : List (List ℕ)) (h : Home) (index : Option (List ℕ)) (front : List ℕ) (k n : ℕ) (ns all : List ℕ) → Follows I h index front k n ns all → IsSegment I h (known index front) (most h index front) n k
head_of I h index front k n [] all f = f.0
head_of I h index front k n (m ∷ ms) all f = f.0

-- two chains of one header are one
pub same_chain : (I : List (List ℕ)) (h : Home) (index : Option (List ℕ)) (front : List ℕ) (k n : ℕ) (ns all ms bll : List ℕ) →
    Follows I h index front k n ns all → Follows I h index front k n ms bll → (ns ≡ ms) × (all ≡ bll)
same_chain I h index front k n [] all [] bll f g = (refl, f.2 ∙ sym g.2)
same_chain I h index front k n [] all (m ∷ ms) bll f g =
    let good = head_of I h index _ (suc k) m ms bll g.4 in
    let zero_is : m ≡ 0 = sym g.1 ∙ f.1 in
    absurd (omega (arith, good.first))
same_chain I h index front k n (m ∷ ms) all [] bll f g =
    let good = head_of I h index _ (suc k) m ms all f.4 in
    let zero_is : m ≡ 0 = sym f.1 ∙ g.1 in
    absurd (omega (arith, good.first))
same_chain I h index front k n (m ∷ ms) all (m' ∷ ms') bll f g =
    let one : m' ≡ m = sym g.1 ∙ f.1 in
    let reached : List ℕ = front ++ blocks_of (header_by I h (known index front) n) in
    let P : ℕ → Type 0 = λ x. Follows I h index reached (suc k) x ms' bll in
    let rest = same_chain I h index reached (suc k) m ms all ms' bll f.4 (subst P one g.4) in
    (cc (rest.0, one), rest.1)

-- the blocks that the first headers name begin those that all name
pub front_begins : (I : List (List ℕ)) (h : Home) (index : Option (List ℕ)) (front : List ℕ) (k n : ℕ) (ns all : List ℕ) → Follows I h index front k n ns all → (more : List ℕ) × (all ≡ front ++ more)
front_begins I h index front k n [] all f = (blocks_of (header_by I h (known index front) n), f.2)
front_begins I h index front k n (m ∷ ms) all f =
    let b = blocks_of (header_by I h (known index front) n) in
    let rest = front_begins I h index (front ++ b) (suc k) m ms all f.4 in
    (b ++ rest.0, rest.1 ∙ append_assoc front b rest.0)

small_byte : (I : List (List ℕ)) (lbn i : ℕ) → IsImage I → byte (block_at I lbn) i < 256
small_byte I lbn i image = elim (cases_lt lbn (length I)) [
  | inl inside ↦ (image.blocks lbn [] inside).bytes i
  | inr past ↦ let e : block_at I lbn ≡ [] = get_or_past I lbn [] past in rw e (omega arith)
]

-- a byte of a header
pub small_of : (I : List (List ℕ)) (place : Option ℕ) (i : ℕ) → IsImage I → byte (option_map_or (block_at I) place []) i < 256
small_of I None i image = omega arith
small_of I (Some lbn) i image = small_byte I lbn i image

-- a chain has at most 256 headers
pub length_of : (I : List (List ℕ)) (h : Home) (index : Option (List ℕ)) (front : List ℕ) (k n : ℕ) (ns all : List ℕ) → IsImage I → Follows I h index front k n ns all → k + length ns ≤ 255
length_of I h index front k n [] all image f =
    let small : segment_of (header_by I h (known index front) n) < 256 = small_of I (place_by h (known index front) n) _ image in
    let is = f.0.segment in
    omega arith
length_of I h index front k n (m ∷ ms) all image f =
    let rest = length_of I h index (front ++ blocks_of (header_by I h (known index front) n)) (suc k) m ms all image f.4 in
    omega arith
