-- A header with one pointer led elsewhere keeps all that it says of its file, and names the same runs but that one.
use Rattle.std.proofs.Common.{◌≡◌, ◌≢◌, ℕ, zero, suc, ◌+◌, ◌-◌, ◌*◌, ◌/◌, ◌%◌, ◌^◌, ◌<◌, ◌≤◌, List, [], ◌∷◌, ◌++◌, length, map, inl, inr, refl, sym, ap, ◌∙◌, arith}
use Rattle.std.specs.Prelude.{◌⊎◌, ◌==◌, ◌&&◌, ◌||◌, Bool, nat_lt}
use Rattle.std.specs.List.{flat_map, range_with_len}
use Rattle.std.proofs.lemmas.Bool.{cases_lt}
use Rattle.std.proofs.lemmas.List.Concat.{flat_map-append}
use Rattle.ods_base.specs.Block.{IsBlock, byte, with_bytes, word}
use Rattle.ods_base.specs.Name.{directory_type}
use Rattle.ods_header.specs.declared.header.Run.{Run}
use Rattle.ods_header.specs.Header.{IsLaidOut, IsRun, attributes_of, blocks_of, ident_ext_of, ident_word, is_directory_header, map_word, next_number_of, next_sequence_of, next_volume_of, run_at, run_blocks, runs_of, segment_of, sequence_of, system_char_of, used_words_of, user_char_of}
use Rattle.ods_header.specs.Pointing.{KeepsFields}
use Rattle.ods_header.specs.Writing.{pointer_bytes, with_sum}
use Rattle.ods_header.proofs.HeaderPlaces.{IsKept, map_append, range_append, run_stays, run_written, stays_valid}
use Rattle.ods_header.proofs.OtherFront.{set_here, set_others}
use Rattle.ods_header.proofs.Ranges.{same_range}
use Rattle.ods_header.proofs.Summed.{sum_is_right}
use Rattle.ods_repair.specs.Repointed.{IsRepointed, KeepsFile, pointer_byte}

-- runs of a range that are alike
alike_from : (f g : ℕ → Run) (n a : ℕ) → ((k : ℕ) → a ≤ k → k < a + n → f k ≡ g k) → map f (range_with_len a n) ≡ map g (range_with_len a n)
alike_from f g zero a same = refl
alike_from f g (suc n) a same =
    let first : f a ≡ g a = same a (omega arith) (omega arith) in
    let rest : map f (range_with_len (a + 1) n) ≡ map g (range_with_len (a + 1) n) = alike_from f g n (a + 1) (λ k low high. same k (omega (arith, low)) (omega (arith, high))) in
    rw (first, rest) refl

-- the pointers of a header, parted at one of them
abbrev front_runs : List ℕ → ℕ → List Run
front_runs d at = map (run_at d) (range_with_len 0 at)

abbrev back_runs : List ℕ → ℕ → ℕ → List Run
back_runs d at more = map (run_at d) (range_with_len (0 + at + 1) more)

parted_runs : (d : List ℕ) (at more : ℕ) → used_words_of d / 2 ≡ at + suc more → runs_of d ≡ front_runs d at ++ run_at d at ∷ back_runs d at more
unfolding runs_of
parted_runs d at more is =
    let here : 0 + at ≡ at = omega arith in
    ap (λ n. map (run_at d) (range_with_len 0 n)) is
    ∙ ap (map (run_at d)) (range_append 0 at (suc more))
    ∙ map_append (run_at d) (range_with_len 0 at) (range_with_len (0 + at) (suc more))
    ∙ ap (λ k. front_runs d at ++ run_at d k ∷ back_runs d at more) here

-- the blocks that they name, before this pointer and behind it
abbrev pub front_of : List ℕ → ℕ → List ℕ
front_of b at = flat_map run_blocks (front_runs b at)

abbrev pub back_of : List ℕ → ℕ → ℕ → List ℕ
back_of b at more = flat_map run_blocks (back_runs b at more)

pub parted_blocks : (d : List ℕ) (at more : ℕ) → used_words_of d / 2 ≡ at + suc more → blocks_of d ≡ front_of d at ++ (run_blocks (run_at d at) ++ back_of d at more)
parted_blocks d at more is = ap (flat_map run_blocks) (parted_runs d at more is) ∙ flat_map-append run_blocks (front_runs d at) (run_at d at ∷ back_runs d at more)

-- all blocks of a header are those that all its pointers name
pub all_named : (d : List ℕ) → length (blocks_of d) ≡ length (flat_map run_blocks (map (run_at d) (range_with_len 0 (used_words_of d / 2))))
unfolding runs_of
all_named d = refl

module _ (b c : List ℕ) (laid : IsLaidOut b) (at to : ℕ) (low : at < used_words_of b / 2) (r : IsRepointed b at to c) where
  -- each byte before the pointers stays
  before : (i : ℕ) → i < pointer_byte b 0 → byte c i ≡ byte b i
  before i small = let f = laid.fits in r.others i (omega (arith, small, f)) (inl (omega (arith, small)))

  keeps_fields : KeepsFields b c
  keeps_fields i (inl a) = before i (omega (arith, a))
  keeps_fields i (inr (inl a)) = before i (omega (arith, a))
  keeps_fields i (inr (inr (inl a))) = before i (omega (arith, a))
  keeps_fields i (inr (inr (inr a))) = before i (omega (arith, a))

  map_is : map_word c ≡ map_word b
  map_is = let q = laid.map in before 1 (omega (arith, q))

  pub used_is : used_words_of c ≡ used_words_of b
  used_is = ap (λ m. byte c (2 * m + 8)) map_is ∙ before (2 * map_word b + 8) (omega arith)

  kept : IsKept b c
  kept =
      let u = used_is in let even = laid.even in let room = laid.room in let fits = laid.fits in
      record { fields = keeps_fields; checksum = r.checksum; even = omega (arith, u, even); room = omega (arith, u, room); fits = omega (arith, u, fits) }

  pub keeps_file : KeepsFile b c
  keeps_file = record { size = r.size; valid = λ n v. stays_valid b c laid kept n v; bytes = before }

  pub runs_long : used_words_of c / 2 ≡ used_words_of b / 2
  runs_long = ap (λ u. u / 2) used_is

  -- each other pointer stays
  pub other_run : (k : ℕ) → k < used_words_of b / 2 → k ≢ at → run_at c k ≡ run_at b k
  other_run k small other = run_stays b c k map_is (λ i few. let f = laid.fits in r.others (2 * map_word b + 10 + 4 * k + i) (omega (arith, small, few, f)) (by i few (cases_lt k at)))
    where
      by : (i : ℕ) → i < 4 → (k < at) ⊎ (at ≤ k) → (2 * map_word b + 10 + 4 * k + i < pointer_byte b at) ⊎ (pointer_byte b at + 4 ≤ 2 * map_word b + 10 + 4 * k + i)
      by i few (inl less) = inl (omega (arith, few, less))
      by i few (inr more) = inr (omega (arith, few, more, other))

  -- so the header names the same blocks before that pointer and behind it
  pub old_parts : (more : ℕ) → used_words_of b / 2 ≡ at + suc more → blocks_of b ≡ front_of b at ++ (run_blocks (run_at b at) ++ back_of b at more)
  old_parts more is = parted_blocks b at more is

  pub new_parts : (more : ℕ) → used_words_of b / 2 ≡ at + suc more → blocks_of c ≡ front_of b at ++ (range_with_len to (run_at b at).count ++ back_of b at more)
  new_parts more is =
      let front : front_runs c at ≡ front_runs b at = alike_from (run_at c) (run_at b) at 0 (λ k small high. other_run k (omega (arith, high, is)) (λ e. absurd (omega (arith, e, high)))) in
      let back : back_runs c at more ≡ back_runs b at more = alike_from (run_at c) (run_at b) more (0 + at + 1) (λ k small high. other_run k (omega (arith, high, is)) (λ e. absurd (omega (arith, e, small)))) in
      parted_blocks c at more (runs_long ∙ is)
      ∙ ap (λ rs. flat_map run_blocks rs ++ (run_blocks (run_at c at) ++ back_of c at more)) front
      ∙ ap (λ rs. front_of b at ++ (run_blocks (run_at c at) ++ flat_map run_blocks rs)) back
      ∙ ap (λ (x : Run). front_of b at ++ (run_blocks x ++ back_of b at more)) r.run

-- what a header says of its file and of its chain stands before its first pointer
module _ (b c : List ℕ) (laid : IsLaidOut b) (k : KeepsFile b c) where
  at_word : (w : ℕ) → w < map_word b + 5 → word c w ≡ word b w
  at_word w small = λ i. k.bytes (2 * w) (omega (arith, small)) i + 256 * k.bytes (2 * w + 1) (omega (arith, small)) i

  pub same_map : map_word c ≡ map_word b
  same_map = let q = laid.map in k.bytes 1 (omega (arith, q))

  pub same_segment : segment_of c ≡ segment_of b
  same_segment = ap (λ w. byte c (2 * w)) same_map ∙ k.bytes (2 * map_word b) (omega arith)

  pub same_sequence : sequence_of c ≡ sequence_of b
  same_sequence = let q = laid.map in at_word 2 (omega (arith, q))

  pub same_next_volume : next_volume_of c ≡ next_volume_of b
  same_next_volume = ap (λ w. byte c (2 * w + 1)) same_map ∙ k.bytes (2 * map_word b + 1) (omega arith)

  pub same_next_number : next_number_of c ≡ next_number_of b
  same_next_number = ap (λ w. word c (w + 1)) same_map ∙ at_word (map_word b + 1) (omega arith)

  pub same_next_sequence : next_sequence_of c ≡ next_sequence_of b
  same_next_sequence = ap (λ w. word c (w + 2)) same_map ∙ at_word (map_word b + 2) (omega arith)

  pub same_user_char : user_char_of c ≡ user_char_of b
  same_user_char = let q = laid.map in k.bytes 12 (omega (arith, q))

  pub same_system_char : system_char_of c ≡ system_char_of b
  same_system_char = let q = laid.map in k.bytes 13 (omega (arith, q))

  pub same_attributes : attributes_of c ≡ attributes_of b
  same_attributes = let p = laid.ident in let q = laid.map in same_range b c 14 (46 - 14) k.size (λ j small. k.bytes (14 + j) (omega (arith, p, q, small)))

  pub same_directory : (n : ℕ) → is_directory_header n c ≡ is_directory_header n b
  same_directory n = ap (is_named n) type_stays
    where
      is_named : ℕ → ℕ → Bool
      is_named m ext = (m == 4) || (nat_lt 5 m && (ext == directory_type))

      ident_is : ident_word c ≡ ident_word b
      ident_is = k.bytes 0 (omega arith)

      type_stays : ident_ext_of c ≡ ident_ext_of b
      type_stays = let q = laid.map in ap (λ w. word c (w + 3)) ident_is ∙ at_word (ident_word b + 3) (omega (arith, q))

-- the bytes of a pointer to this LBN, with the count byte that stands there
abbrev pub new_pointer : List ℕ → ℕ → ℕ → List ℕ
new_pointer b at to = (to / 65536) ∷ byte b (pointer_byte b at + 1) ∷ (to % 65536 % 256) ∷ (to % 65536 / 256 % 256) ∷ []

-- what writing them and the sum makes
pub is_repointed : (b m c : List ℕ) (at to : ℕ) → IsLaidOut b → at < used_words_of b / 2 → to < 2 ^ 24 → IsBlock b → IsBlock c → m ≡ with_bytes b (pointer_byte b at) (new_pointer b at to) → length m ≡ 512 → c ≡ with_sum m
    → IsRepointed b at to c
is_repointed b m c at to laid inside small block after middle long last =
    let new : List ℕ = new_pointer b at to in
    let place : ℕ = pointer_byte b at in
    let f = laid.fits in
    let fits : place + length new ≤ 510 = omega (arith, f, inside) in
    let here = set_here b new m c place block fits middle last in
    let others = set_others b new m c place block fits middle last in
    let map_is : map_word c ≡ map_word b = let q = laid.map in others 1 (inl (omega (arith, q))) in
    let run : Run = record { lbn = to; count = byte b (place + 1) + 1 } in
    let byte_small : byte b (place + 1) < 256 = block.bytes (place + 1) in
    let lawful : IsRun run = record { lbn = small; some = omega arith; most = omega (arith, byte_small) } in
    let first : to / 65536 ≡ to / 65536 % 256 = omega (arith, small) in
    let second : byte b (place + 1) ≡ (byte b (place + 1) + 1 - 1) % 256 = omega (arith, byte_small) in
    let third : to % 65536 % 256 ≡ to % 256 = omega arith in
    let fourth : to % 65536 / 256 % 256 ≡ to % 65536 / 256 = omega arith in
    let count_is : byte b (place + 1) + 1 ≡ (run_at b at).count = ap (λ k. byte b k + 1) (omega arith) in
    record {
      size = after.size ∙ sym block.size;
      run = run_written c (map_word b) at run map_is lawful (λ j few. here j few ∙ by first second third fourth j few) ∙ (λ i. record { lbn = to; count = count_is i });
      checksum = sum_is_right m c long last;
      others = λ i below apart. others i (elim apart [ inl before ↦ inl before | inr behind ↦ inr (omega (arith, behind), below) ]);
    }
  where
    by : to / 65536 ≡ to / 65536 % 256 → byte b (pointer_byte b at + 1) ≡ (byte b (pointer_byte b at + 1) + 1 - 1) % 256 → to % 65536 % 256 ≡ to % 256 → to % 65536 / 256 % 256 ≡ to % 65536 / 256 → (j : ℕ) → j < 4
        → byte (new_pointer b at to) j ≡ byte (pointer_bytes (record { lbn = to; count = byte b (pointer_byte b at + 1) + 1 })) j
    by first second third fourth zero few = first
    by first second third fourth (suc zero) few = second
    by first second third fourth (suc (suc zero)) few = third
    by first second third fourth (suc (suc (suc zero))) few = fourth
    by first second third fourth (suc (suc (suc (suc j)))) few = absurd (omega (arith, few))
