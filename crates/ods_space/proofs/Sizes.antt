-- How many blocks a chain can name.
use Rattle.std.proofs.Common.{◌≡◌, ℕ, suc, ◌+◌, ◌*◌, ◌/◌, ◌<◌, ◌≤◌, List, [], ◌∷◌, ◌++◌, length, get_or, Option, ap, arith}
use Rattle.std.specs.List.{All}
use Rattle.std.proofs.lemmas.List.{length-append}
use Rattle.std.proofs.lemmas.List.Concat.{length-flat_map}
use Rattle.std.proofs.lemmas.List.Sums.{sum_by-le}
use Rattle.std.proofs.lemmas.List.FromFn.{length-range_with_len, length-map-range_with_len, get_or-map-range_with_len}
use Rattle.ods_base.specs.Block.{byte}
use Rattle.ods_base.specs.Image.{IsImage}
use Rattle.ods_header.specs.declared.home.Home.{Home}
use Rattle.ods_header.specs.Header.{IsLaidOut, map_word, used_words_of, run_at, run_blocks, runs_of, blocks_of}
use Rattle.ods_space.specs.Layout.{header_by, place_by}
use Rattle.ods_space.specs.Chain.{known, header_blocks, chain_blocks, Follows}
use Rattle.ods_space.proofs.Chains.{small_of, length_of}

runs_short : (b : List ℕ) → ((i : ℕ) → byte b i < 256) → All (λ r. length (run_blocks r) ≤ 256) (runs_of b)
unfolding runs_of
runs_short b small k d within =
    let inside : k < used_words_of b / 2 = omega (arith, within, length-map-range_with_len (run_at b) 0 (used_words_of b / 2)) in
    let is : get_or (runs_of b) k d ≡ run_at b k = get_or-map-range_with_len (run_at b) 0 (used_words_of b / 2) k k d inside (omega arith) in
    rw is (omega (arith, length-range_with_len (run_at b k).lbn (run_at b k).count, small (2 * map_word b + 11 + 4 * k)))

runs_few : (b : List ℕ) → IsLaidOut b → length (runs_of b) ≤ 102
unfolding runs_of
runs_few b layout =
    let fits = layout.fits in
    let ident = layout.ident in
    let map = layout.map in
    omega (arith, length-map-range_with_len (run_at b) 0 (used_words_of b / 2))

-- a header names at most 102 times 256 blocks
pub blocks_few : (b : List ℕ) → IsLaidOut b → ((i : ℕ) → byte b i < 256) → length (blocks_of b) ≤ header_blocks
blocks_few b layout small =
    let most = sum_by-le (λ r. length (run_blocks r)) 256 (runs_of b) (runs_short b small) in
    let size = length-flat_map run_blocks (runs_of b) in
    let few = runs_few b layout in
    omega (arith, most, size, few)

chain_few : (I : List (List ℕ)) (h : Home) (index : Option (List ℕ)) (front : List ℕ) (k n : ℕ) (ns all : List ℕ) → IsImage I → Follows I h index front k n ns all → length all ≤ length front + header_blocks * (1 + length ns)
chain_few I h index front k n [] all image f =
    let few = blocks_few (header_by I h (known index front) n) f.0.valid.header.layout (λ i. small_of I (place_by h (known index front) n) i image) in
    omega (arith, few, ap length f.2, length-append front (blocks_of (header_by I h (known index front) n)))
chain_few I h index front k n (m ∷ ms) all image f =
    let few = blocks_few (header_by I h (known index front) n) f.0.valid.header.layout (λ i. small_of I (place_by h (known index front) n) i image) in
    let b : List ℕ = blocks_of (header_by I h (known index front) n) in
    omega (arith, few, length-append front b, chain_few I h index (front ++ b) (suc k) m ms all image f.4)

-- a chain names at most 256 times as many
pub chain_size : (I : List (List ℕ)) (h : Home) (index : Option (List ℕ)) (n : ℕ) (ns all : List ℕ) → IsImage I → Follows I h index [] 0 n ns all → length all ≤ chain_blocks
chain_size I h index n ns all image f = omega (arith, chain_few I h index [] 0 n ns all image f, length_of I h index [] 0 n ns all image f)
