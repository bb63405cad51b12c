-- A file gives back blocks and headers: all that it has, or the last of them. Each other file is as it was, what goes is free, and the volume stays sound. Delete and Truncate are its two cases.
use Rattle.std.proofs.Common.{◌≡◌, ◌≢◌, ℕ, ◌+◌, ◌-◌, ◌*◌, ◌<◌, ◌≤◌, refl, ap, sym, ◌∙◌, subst, Bool, true, false, cond, IsTrue, List, [], ◌∷◌, ◌++◌, length, take, drop, Some, None, arith, inl, inr, nat_lt}
use Rattle.std.specs.Prelude.{◌⊎◌, ◌&&◌, ◌||◌, not, nat_le}
use Rattle.std.specs.List.{Contains}
use Rattle.std.proofs.Math.Bool.{and-true, and-false, or-false, or-true}
use Rattle.std.proofs.lemmas.Bool.{both_ways, cases_eq, lt-ltb, le-leb, ne_eqb}
use Rattle.std.proofs.lemmas.Option.{slice_get_within}
use Rattle.std.proofs.lemmas.List.{append-nil, get_or-set_other, length-append, length-drop, length-take, take-append-drop}
use Rattle.std.proofs.lemmas.List.Elements.{All-contains, Contains-append_right}
use Rattle.ods_header.proofs.Summed.{before_sum}
use Rattle.ods_base.specs.Block.{byte, with_word}
use Rattle.ods_header.specs.Header.{is_directory_header, sequence_of}
use Rattle.ods_header.specs.Writing.{deleted}
use Rattle.ods_space.specs.Layout.{VolumeLayout, header_at, is_in_use, last_number}
use Rattle.ods_space.specs.Chain.{IsChain, IsSegment, Follows, index_for}
use Rattle.ods_space.specs.Files.{IsFile, IsWhole, HasBlocks, Holds}
use Rattle.ods_space.specs.Free.{is_covered, storage_bit, is_free_block, is_free_number}
use Rattle.ods_alloc.specs.Extend.{ChangesOnly, GivesBits, is_one_of}
use Rattle.ods_mount.specs.Sound.{IsSoundBy}
use Rattle.ods_state.proofs.OnlyBookkeeping.{among_or_not, only_headers}
use Rattle.ods_state.proofs.Rechained as re
use Rattle.ods_state.proofs.RechainedSound.{rechained_sound, segments_along}
use Rattle.ods_state.proofs.Shown.{IsAlike}
use Rattle.ods_state.proofs.Taken.{none_empty, none_of, one_of}

-- a deleted header keeps its sequence word
pub deleted_sequence : (b : List ℕ) → sequence_of (deleted b) ≡ sequence_of b
deleted_sequence b = λ i. each 4 (omega arith) (omega arith) i + 256 * each 5 (omega arith) (omega arith) i
  where
    each : (k : ℕ) → 3 < k → k < 510 → byte (deleted b) k ≡ byte b k
    each k past below =
        before_sum (with_word b 1 0) (deleted b) k refl below
        ∙ get_or-set_other _ 3 k 0 0 (λ e. absurd (omega arith))
        ∙ get_or-set_other b 2 k 0 0 (λ e. absurd (omega arith))

-- whether a block of the image is free: inside, covered, and marked so, before or now
free_by : (a c s t o : Bool) → (o ≡ true → a ≡ true) → (c ≡ true → t ≡ (s || o)) → (a && (c && t)) ≡ ((a && (c && s)) || (o && c))
free_by a false s t o inside is = and-false a ∙ sym (λ i. and-false a i || and-false o i)
free_by a true s t false inside is = ap (λ b. a && b) (is refl ∙ or-false s) ∙ sym (or-false (a && s))
free_by a true s t true inside is = ap (λ b. a && b) (is refl ∙ or-true s) ∙ and-true a ∙ inside refl ∙ sym (or-true (a && s))

-- whether a number is free: of its header, in use before, nothing but its sequence word keeps it from that
number_by : (a q : Bool) → (a && q) ≡ ((a && false) || (a && q))
number_by true q = refl
number_by false q = refl

-- a file that is not INDEXF.SYS is found by its blocks
pub found_by : (L : VolumeLayout) (n : ℕ) → 5 < n → index_for L n ≡ Some L.index
found_by L n high = ap (λ b. cond b None (Some L.index)) (ne_eqb n 1 (λ e. absurd (omega arith)))

-- the index bits, where these numbers are given back
module _ {I J : List (List ℕ)} {L : VolumeLayout} {away gone : List ℕ} (B : GivesBits I L away gone J) where
  pub used_far : (m : ℕ) → ¬ Contains gone m → is_in_use J L.home m ≡ is_in_use I L.home m
  used_far m apart = B.index_bits m ∙ ap (λ b. is_in_use I L.home m && not b) (none_of gone m apart) ∙ and-true (is_in_use I L.home m)

  pub used_none : (m : ℕ) → Contains gone m → is_in_use J L.home m ≡ false
  used_none m among = B.index_bits m ∙ ap (λ b. is_in_use I L.home m && not b) (one_of gone m among) ∙ and-false (is_in_use I L.home m)

  -- a number in use is none of theirs any more
  pub not_gone : (m : ℕ) → IsTrue (is_in_use J L.home m) → ¬ Contains gone m
  not_gone m used among = both_ways (is_in_use J L.home m) (used_none m among) used

-- J is I where file n, which had these headers and blocks, gives back its blocks behind the first ones, so many, and the headers `gone`.
-- Those of its headers that are still in use are n and `later`, a chain that names the first blocks.
pub record Shrinks (I J : List (List ℕ)) (L : VolumeLayout) (n : ℕ) (others blocks : List ℕ) (count : ℕ) (later gone : List ℕ) : Type 0 where
  pub goes : (m : ℕ) → Contains gone m → Contains (n ∷ others) m
  pub within : (m : ℕ) → Contains (n ∷ later) m → Contains (n ∷ others) m
  pub left : (m : ℕ) → Contains (n ∷ others) m → IsTrue (is_in_use J L.home m) → IsChain J L n later (take count blocks) × Contains (n ∷ later) m
  pub sequences : (m : ℕ) → sequence_of (header_at J L m) ≡ sequence_of (header_at I L m)
  pub bits : GivesBits I L (drop count blocks) gone J
  pub only : ChangesOnly I L (n ∷ others) J

module _ {I : List (List ℕ)} {L : VolumeLayout} (S : IsSoundBy I L) {n : ℕ} (high : 5 < n) {others blocks : List ℕ} (file : IsFile I L n) (whole : IsWhole I L n others blocks) where
  pub chain : Follows I L.home (Some L.index) [] 0 n others blocks
  chain = subst (λ o. Follows I L.home o [] 0 n others blocks) (found_by L n high) whole.chain

  -- its headers were in use, and in their bounds
  pub segment_of_them : (m : ℕ) → Contains (n ∷ others) m → (j : ℕ) × IsSegment I L.home L.index (last_number L) m j
  segment_of_them m among = segments_along I L [] 0 n others blocks chain m among

  module _ {J : List (List ℕ)} {count : ℕ} {later gone : List ℕ} (G : Shrinks I J L n others blocks count later gone) where
    -- the blocks that go
    abbrev away : List ℕ
    away = drop count blocks

    -- what is free then
    pub free_now : (x : ℕ) → is_free_block J L x ≡ (is_free_block I L x || (is_one_of away x && is_covered L x))
    free_now x =
        (λ i. nat_lt x (G.only.size i) && (is_covered L x && storage_bit J L x))
        ∙ free_by (nat_lt x (length I)) (is_covered L x) (storage_bit I L x) (storage_bit J L x) (is_one_of away x) inside (G.bits.storage x)
      where
        inside : is_one_of away x ≡ true → nat_lt x (length I) ≡ true
        inside e = elim (among_or_not away x) [
          | inl p ↦ lt-ltb x (length I) (All-contains (λ b. b < length I) blocks x whole.inside (subst (λ l. Contains l x) (take-append-drop count blocks) (Contains-append_right (take count blocks) away x p.1)))
          | inr p ↦ absurd (both_ways (is_one_of away x) p.0 e)
        ]

    -- so it is a file whose chain becomes another one, which takes nothing
    pub rechained : re.Rechained I J L n (n ∷ others) later (take count blocks) away []
    rechained = record {
      above = omega (arith, high);
      there = inr high;
      long = G.only.size;
      apart = λ m ms bs ne f c x among theirs. ne (S.apart m n ms others bs blocks x f file c whole.chain among theirs);
      within = G.within;
      chain = λ m among used. let left = G.left m among used in (subst (IsChain J L n later) (sym (append-nil (take count blocks))) left.0, left.1);
      stays = only_headers I L S J (n ∷ others) G.only;
      used = λ m far. used_far G.bits m (λ c. far (G.goes m c));
      had = inl (subst (HasBlocks I L n) (sym (take-append-drop count blocks)) (record { file = file; others = others; whole = whole }));
      was_free = λ x c. absurd (none_empty x c);
      once = λ i j x e d. absurd (let within = slice_get_within [] i x e in omega (arith, within));
      free = λ x e. elim (among_or_not away x) [
        | inl p ↦ inr (p.1, high)
        | inr p ↦ inl (sym (free_now x ∙ ap (λ b. is_free_block I L x || (b && is_covered L x)) p.0 ∙ or-false (is_free_block I L x)) ∙ e, none_empty x)
      ];
      elsewhere = λ x none c. G.only.others x none;
    }

    -- what a file holds then it held, this one at most as one of the first blocks
    pub held_now : (m v x : ℕ) → Holds J L m v x → Holds I L m v x × ((m ≢ n) ⊎ (v ≤ count))
    held_now m v x h = elim (re.held_or_taken S rechained m v x h) [
      | inl p ↦ (p.0, elim p.1 [ inl ne ↦ inl ne | inr few ↦ let long = length-take count blocks in inr (omega (arith, few, long)) ])
      | inr p ↦ absurd (let within = slice_get_within [] p.0 x p.3 in omega (arith, within))
    ]

    -- and if the file is there, the other way round
    pub held_still : IsFile J L n → (m v x : ℕ) → Holds I L m v x → (m ≢ n) ⊎ (v ≤ count) → Holds J L m v x
    held_still there m v x h how = re.kept_hold S rechained there m v x h (elim how [ inl ne ↦ inl ne | inr few ↦ elim (cases_eq m n) [ inl e ↦ inr (first few (subst (λ k. Holds I L k v x) e h)) | inr ne ↦ inl ne ] ])
      where
        first : v ≤ count → Holds I L n v x → v ≤ length (take count blocks)
        first few g =
            let within = slice_get_within (take count blocks ++ away) (v - 1) x (re.had_as S rechained v x g) in
            omega (arith, few, within, length-append (take count blocks) away, length-take count blocks, length-drop count blocks)

    pub number_now : (m : ℕ) → is_free_number J L m
        ≡ (is_free_number I L m || (is_one_of gone m && (nat_lt 5 m && nat_lt (sequence_of (header_at I L m)) 65535)))
    number_now m = by (among_or_not gone m)
      where
        kept_word : (nat_lt (sequence_of (header_at J L m)) 65535) ≡ (nat_lt (sequence_of (header_at I L m)) 65535)
        kept_word = ap (λ w. nat_lt w 65535) (G.sequences m)

        by : ((is_one_of gone m ≡ true) × Contains gone m) ⊎ ((is_one_of gone m ≡ false) × ¬ Contains gone m)
            → is_free_number J L m ≡ (is_free_number I L m || (is_one_of gone m && (nat_lt 5 m && nat_lt (sequence_of (header_at I L m)) 65535)))
        by (inl p) =
            let link = (segment_of_them m (G.goes m p.1)).1 in
            let low : nat_le m (last_number L) ≡ true = le-leb m (last_number L) link.last in
            (λ i. nat_le 6 m && (low i && (not (used_none G.bits m p.1 i) && kept_word i)))
            ∙ number_by (nat_lt 5 m) (nat_lt (sequence_of (header_at I L m)) 65535)
            ∙ sym (λ i. (nat_le 6 m && (low i && (not (link.in_use i) && nat_lt (sequence_of (header_at I L m)) 65535))) || (p.0 i && (nat_lt 5 m && nat_lt (sequence_of (header_at I L m)) 65535)))
        by (inr p) =
            (λ i. nat_le 6 m && (nat_le m (last_number L) && (not (used_far G.bits m p.1 i) && kept_word i)))
            ∙ sym (or-false (is_free_number I L m))
            ∙ sym (ap (λ b. is_free_number I L m || (b && (nat_lt 5 m && nat_lt (sequence_of (header_at I L m)) 65535))) p.0)

    -- where anything is left of the file, it is no directory
    pub still_sound : (IsFile J L n → is_directory_header n (header_at J L n) ≡ false) → IsSoundBy J L
    still_sound plain = rechained_sound S rechained (λ d. absurd (both_ways (is_directory_header n (header_at J L n)) (plain d.0) d.1))

    -- each other file is as it was
    pub others_alike : (m : ℕ) → m ≢ n → IsAlike I J L m
    others_alike m ne = record {
      sequence = G.sequences m;
      has = λ bs. re.others_stay S rechained m bs ne;
      had = λ bs. re.others_were S rechained m bs ne;
      shown = λ bs. re.shown_stays S rechained m bs ne;
    }
