-- The pointers of a header as words of four bytes: how many blocks they name.
use Rattle.std.proofs.Common.{◌≡◌, ℕ, zero, suc, ◌+◌, ◌-◌, ◌*◌, ◌/◌, ◌%◌, ◌<◌, ◌≤◌, List, [], ◌∷◌, ◌++◌, length, get_or, take, drop, ap, ◌∙◌, arith}
use Rattle.std.specs.List.{flat_map}
use Rattle.std.specs.Simd.{first_chunks}
use Rattle.std.proofs.lemmas.List.{append-nil, get_or-take, get_or-drop, length-append, length-drop, length-take-le, take_more}
use Rattle.std.proofs.lemmas.List.FromFn.{length-range_with_len}
use Rattle.std.proofs.lemmas.Grind.{flat_map-append}
use Rattle.std.proofs.lemmas.Option.{get_or_from_slice_get}
use Rattle.ods_base.specs.Block.{IsBlock, byte}
use Rattle.ods_header.specs.declared.header.Run.{Run}
use Rattle.ods_header.specs.Header.{IsLaidOut, map_word, used_words_of, runs_of, run_at, run_blocks}
use Rattle.ods_header.proofs.RunsAt.{length-runs_of, slice_get-runs_of}

-- byte j of piece i
chunk_byte : (k i j : ℕ) (xs : List ℕ) → i < k → j < 4 → get_or (get_or (first_chunks 4 k xs) i []) j 0 ≡ get_or xs (4 * i + j) 0
chunk_byte zero i j xs within small = absurd (omega arith)
chunk_byte (suc k) zero j xs within small =
    let e : j ≡ 4 * 0 + j = omega arith in
    get_or-take 4 xs j 0 small ∙ ap (λ m. get_or xs m 0) e
chunk_byte (suc k) (suc i) j xs within small =
    let e : 4 + (4 * i + j) ≡ 4 * suc i + j = omega arith in
    chunk_byte k i j (drop 4 xs) (omega arith) small ∙ get_or-drop 4 xs (4 * i + j) 0 ∙ ap (λ m. get_or xs m 0) e

-- the blocks of the first pointers, with one pointer more
blocks_more : (b : List ℕ) (i : ℕ) → i < length (runs_of b) → length (flat_map run_blocks (take (i + 1) (runs_of b))) ≡ length (flat_map run_blocks (take i (runs_of b))) + (run_at b i).count
blocks_more b i within =
    let r : Run = run_at b i in
    let rs : List Run = runs_of b in
    let split = take_more rs i r within ∙ ap (λ x. take i rs ++ x ∷ []) (get_or_from_slice_get rs i r r (slice_get-runs_of b i within)) in
    let all = ap (λ l. length (flat_map run_blocks l)) split ∙ ap length (flat_map-append run_blocks (take i rs) (r ∷ [])) ∙ length-append (flat_map run_blocks (take i rs)) (run_blocks r ++ []) in
    let own = ap length (append-nil (run_blocks r)) in
    let long = length-range_with_len r.lbn r.count in
    omega (arith, all, own, long)

-- A header, and its pointers cut into pieces of four bytes.
module _ (b : List ℕ) (block : IsBlock b) (laid : IsLaidOut b) {bytes : List ℕ} {at m : ℕ} (ps : List (List ℕ)) (same : bytes ≡ b) (from : at ≡ 2 * map_word b + 10) (size : m ≡ 4 * (used_words_of b / 2))
    (front : ps ≡ first_chunks 4 (length (take m (drop at bytes)) / 4) (take m (drop at bytes)))
    (count : length ps ≡ length (take m (drop at bytes)) / 4) where
  slice_long : length (take m (drop at bytes)) ≡ m
  slice_long =
      let whole = ap length same in
      let behind = length-drop at bytes in
      let fits = laid.fits in
      let full = block.size in
      length-take-le m (drop at bytes) (omega (arith, whole, behind, fits, full, from, size))

  -- there is a piece for each pointer
  pub pieces_are : length ps ≡ length (runs_of b)
  pieces_are = let long = slice_long in let runs = length-runs_of b in omega (arith, count, long, runs, size)

  piece_byte : (i j : ℕ) → i < length ps → j < 4 → get_or (get_or ps i []) j 0 ≡ byte b (at + (4 * i + j))
  piece_byte i j within small =
      let long = slice_long in
      let within_slice : 4 * i + j < m = omega (arith, within, count, long, small) in
      ap (λ l. get_or (get_or l i []) j 0) front ∙ chunk_byte (length (take m (drop at bytes)) / 4) i j (take m (drop at bytes)) (omega (arith, within, count)) small
      ∙ get_or-take m (drop at bytes) (4 * i + j) 0 within_slice ∙ get_or-drop at bytes (4 * i + j) 0 ∙ ap (λ l. get_or l (at + (4 * i + j)) 0) same

  -- the second byte of a piece is the count of its pointer, less one; where it stands it counts 256 times
  pub piece_more : (i x sum : ℕ) → i < length ps
      → x ≡ get_or (get_or ps i []) 0 0 + get_or (get_or ps i []) 1 0 * 256 + get_or (get_or ps i []) 2 0 * 65536 + get_or (get_or ps i []) 3 0 * 16777216
      → sum + 256 * i ≡ 256 * length (flat_map run_blocks (take i (runs_of b)))
      → sum + (x % 65536 - x % 65536 % 256) + 256 * (i + 1) ≡ 256 * length (flat_map run_blocks (take (i + 1) (runs_of b)))
  piece_more i x sum within is before =
      let b0 = piece_byte i 0 within (omega arith) in
      let b1 = piece_byte i 1 within (omega arith) in
      let b2 = piece_byte i 2 within (omega arith) in
      let b3 = piece_byte i 3 within (omega arith) in
      let s0 = block.bytes (at + (4 * i + 0)) in
      let s1 = block.bytes (at + (4 * i + 1)) in
      let s2 = block.bytes (at + (4 * i + 2)) in
      let s3 = block.bytes (at + (4 * i + 3)) in
      let place : at + (4 * i + 1) ≡ 2 * map_word b + 11 + 4 * i = omega (arith, from) in
      let counts : x % 65536 - x % 65536 % 256 ≡ 256 * byte b (at + (4 * i + 1)) = omega (arith, is, b0, b1, b2, b3, s0, s1, s2, s3) in
      let own : byte b (at + (4 * i + 1)) + 1 ≡ (run_at b i).count = ap (λ n. byte b n + 1) place in
      let many = pieces_are in
      let more = blocks_more b i (omega (arith, within, many)) in
      omega (arith, before, counts, own, more)
