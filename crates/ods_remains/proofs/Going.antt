-- From header to header: which candidate is the next one, and the chain that they make.
use Rattle.std.proofs.Common.{◌≡◌, ◌≢◌, ℕ, ◌+◌, ◌*◌, ◌<◌, ◌≤◌, sym, ap, subst, List, [], length, Option, Some, None, arith, ◌∙◌}
use Rattle.std.specs.List.{Contains}
use Rattle.ods_base.specs.Block.{IsBlock, word}
use Rattle.ods_base.specs.Image.{IsImage, block_at}
use Rattle.ods_header.specs.Header.{number_of, sequence_of, segment_of, map_word, next_volume_of, next_number_of, next_sequence_of}
use Rattle.ods_remains.specs.Candidates.{IsCandidate, HasCandidate, GoesOn, IsNextOf}
use Rattle.ods_remains.specs.Keys.{key_of, place_of, place_in_chain, IsIndexOf, IsNearestOf}
use Rattle.ods_remains.proofs.Keyed.{one_lbn, one_place, within}

word_small : (b : List ℕ) → IsBlock b → (k : ℕ) → word b k < 65536
word_small b block k = let low = block.bytes (2 * k) in let high = block.bytes (2 * k + 1) in omega (arith, low, high)

-- the numbers that one place says
same_numbers : (n s g m t h : ℕ) → s < 65536 → t < 65536 → g < 256 → h < 256 → place_in_chain n s g ≡ place_in_chain m t h → (m ≡ n) × (t ≡ s) × (h ≡ g)
same_numbers n s g m t h low_s low_t low_g low_h same = (omega (arith, low_s, low_t, low_g, low_h, same), omega (arith, low_s, low_t, low_g, low_h, same), omega (arith, low_s, low_t, low_g, low_h, same))

-- the place in a chain that the header at LBN a asks of its next one
abbrev pub wanted : List (List ℕ) → ℕ → ℕ
wanted I a = place_in_chain (next_number_of (block_at I a)) (next_sequence_of (block_at I a)) (segment_of (block_at I a) + 1)

module _ (I : List (List ℕ)) (image : IsImage I) where
  block_there : (lbn : ℕ) → HasCandidate I lbn → IsBlock (block_at I lbn)
  block_there lbn there = image.blocks lbn [] (within I lbn there)

  pub low_lbn : (lbn : ℕ) → HasCandidate I lbn → lbn < 1048576
  low_lbn lbn there = let inside = within I lbn there in let size : length I ≤ 1048576 = image.size in omega (arith, inside, size)

  -- segments are bytes
  pub segment_small : (lbn : ℕ) → HasCandidate I lbn → segment_of (block_at I lbn) < 256
  segment_small lbn there = (block_there lbn there).bytes (2 * map_word (block_at I lbn))

  module _ (keys : List ℕ) (index : IsIndexOf I keys) (a : ℕ) (here : HasCandidate I a) where
    -- the header that it names has the key that is looked for
    key_there : (c : ℕ) → GoesOn I a c → Contains keys (key_of (wanted I a) c)
    key_there c goes =
        let number = goes.named.number in
        let sequence = goes.named.sequence in
        let segment = goes.named.segment in
        let same : place_of (block_at I c) ≡ wanted I a = omega (arith, number, sequence, segment) in
        subst (λ p. Contains keys (key_of p c)) same (index.all c goes.there)

    -- and a header with that key is one that it names
    goes_there : next_volume_of (block_at I a) ≡ 0 → segment_of (block_at I a) + 1 < 256 → (c : ℕ) → c < 1048576 → Contains keys (key_of (wanted I a) c) → GoesOn I a c
    goes_there volume few c low has =
        let of = index.only (key_of (wanted I a) c) has in
        let x = of.0 in
        let low_x = low_lbn x of.1 in
        let lbn : c ≡ x = one_lbn (wanted I a) (place_of (block_at I x)) c x low low_x of.2 in
        let place : wanted I a ≡ place_of (block_at I x) = one_place (wanted I a) (place_of (block_at I x)) c x low low_x of.2 in
        let numbers = same_numbers (next_number_of (block_at I a)) (next_sequence_of (block_at I a)) (segment_of (block_at I a) + 1) (number_of (block_at I x)) (sequence_of (block_at I x)) (segment_of (block_at I x))
        (word_small (block_at I a) (block_there a here) (map_word (block_at I a) + 2)) (word_small (block_at I x) (block_there x of.1) 2) few (segment_small x of.1) place in
        subst (GoesOn I a) (sym lbn) (record {
          here = here;
          there = of.1;
          named = record { volume = volume; number = numbers.0; sequence = numbers.1; segment = numbers.2 };
        })

    -- the nearest of these keys is that of the next header
    pub next_of : next_volume_of (block_at I a) ≡ 0 → segment_of (block_at I a) + 1 < 256 → (which : Option ℕ) → IsNearestOf keys (wanted I a) a which → IsNextOf I a which
    next_of volume few None none = λ c goes. none c (low_lbn c goes.there) (key_there c goes)
    next_of volume few (Some c) near = record {
      named = goes_there volume few c near.low near.there;
      nearest = λ d goes. near.nearest d (low_lbn d goes.there) (key_there d goes);
    }

  -- a header that is the last by its segment has no next
  pub none_of_last : (a : ℕ) → segment_of (block_at I a) ≡ 255 → IsNextOf I a None
  none_of_last a last = λ c goes. let small = segment_small c goes.there in let further = goes.named.segment in absurd (omega (arith, small, further, last))

-- what the nearest of some keys is, where image, keys, block and place are known by equations
pub next_by : (I J : List (List ℕ)) (keys searched : List ℕ) (a : ℕ) (b : List ℕ) (place : ℕ) (which : Option ℕ) → IsImage I → I ≡ J → IsIndexOf I keys → searched ≡ keys → b ≡ block_at I a → IsCandidate b
    → next_volume_of b ≡ 0 → segment_of b ≢ 255 → place ≡ place_in_chain (next_number_of b) (next_sequence_of b) (segment_of b + 1) → IsNearestOf searched place a which → IsNextOf J a which
next_by I J keys searched a b place which image same index are is candidate volume few at near =
    let here : HasCandidate I a = subst IsCandidate is candidate in
    let small = segment_small I image a here in
    let other : segment_of (block_at I a) ≢ 255 = subst (λ x. segment_of x ≢ 255) is few in
    let wants : place ≡ wanted I a = at ∙ ap (λ x. place_in_chain (next_number_of x) (next_sequence_of x) (segment_of x + 1)) is in
    subst (λ K. IsNextOf K a which) same
    (next_of I image keys index a here (subst (λ x. next_volume_of x ≡ 0) is volume) (omega (arith, small, other)) which
    (subst (λ p. IsNearestOf keys p a which) wants (subst (λ ks. IsNearestOf ks place a which) are near)))

pub none_by_last : (I J : List (List ℕ)) (a : ℕ) (b : List ℕ) → IsImage I → I ≡ J → b ≡ block_at I a → segment_of b ≡ 255 → IsNextOf J a None
none_by_last I J a b image same is last = subst (λ K. IsNextOf K a None) same (none_of_last I image a (subst (λ x. segment_of x ≡ 255) is last))
