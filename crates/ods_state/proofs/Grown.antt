-- A file that has grown: what its volume holds, and what is free on it, is as before but for the blocks and numbers that were taken.
use Rattle.std.proofs.Common.{◌≡◌, ◌≢◌, ℕ, ◌+◌, ◌-◌, ◌<◌, ◌≤◌, ◌↔◌, refl, ap, sym, ◌∙◌, subst, Bool, true, false, not, ◌&&◌, ◌||◌, List, [], ◌++◌, length, drop, Some, arith, inl, inr, nat_le, nat_lt}
use Rattle.std.specs.Prelude.{◌⊎◌, slice_get}
use Rattle.std.specs.List.{Contains}
use Rattle.std.proofs.Math.Bool.{and-true, or-false}
use Rattle.std.proofs.lemmas.Bool.{and_left, and_parts, and_right, both_ways, cases_eq, not_from_true, or_right}
use Rattle.std.proofs.lemmas.List.{append-nil}
use Rattle.std.proofs.lemmas.Option.{slice_get_within}
use Rattle.ods_header.specs.Header.{sequence_of}
use Rattle.ods_space.specs.Layout.{VolumeLayout, header_at, is_in_use, last_number}
use Rattle.ods_space.specs.Files.{IsFile, HasBlocks, Holds, IsWhole}
use Rattle.ods_space.specs.Free.{is_covered, is_free_block, is_free_number, storage_bit}
use Rattle.ods_alloc.specs.Extend.{is_one_of}
use Rattle.ods_mount.specs.Faults.{contents_of}
use Rattle.ods_mount.specs.Sound.{IsSoundBy}
use Rattle.ods_state.specs.Growth.{IsGrowth, all_headers}
use Rattle.ods_state.specs.Wants.{allocated_blocks, allocated_numbers}
use Rattle.ods_state.proofs.Chains.{IsLinkedBut}
use Rattle.ods_state.proofs.Rechained as re
use Rattle.ods_state.proofs.Rising.{block_once}
use Rattle.ods_state.proofs.Taken as taken
pub use Rattle.ods_state.proofs.Rechained.{in_front_or_behind}

pub or_false : (b : Bool) → (b || false) ≡ b
or_false = or-false

pub and_alike : (a b c d : Bool) → (c ≡ true → d ≡ (b && a)) → (c && d) ≡ ((c && b) && a)
and_alike a b true d same = same refl
and_alike a b false d same = refl

pub and_assoc : (a b c : Bool) → ((a && b) && c) ≡ (a && (b && c))
and_assoc true b c = refl
and_assoc false b c = refl

module _ {I J : List (List ℕ)} {L : VolumeLayout} {n : ℕ} {headers old : List ℕ} {count : ℕ} {numbers : List ℕ} (S : IsSoundBy I L) (g : IsGrowth I J L n headers old count numbers) where
  -- m is a header of the file
  abbrev pub IsOwn : ℕ → Type 0
  IsOwn m = Contains (all_headers n headers numbers) m

  same_used : (m : ℕ) → ¬ IsOwn m → is_in_use J L.home m ≡ is_in_use I L.home m
  same_used m far = g.bits.index_bits m ∙ ap (λ t. is_in_use I L.home m || t) (taken.none_of (all_headers n headers numbers) m far) ∙ or_false (is_in_use I L.home m)

  own_used : (m : ℕ) → IsOwn m → is_in_use J L.home m ≡ true
  own_used m own = g.bits.index_bits m ∙ or_right (is_in_use I L.home m) (is_one_of (all_headers n headers numbers) m) (taken.one_of (all_headers n headers numbers) m own)

  -- what is free: what was free, but for what was taken
  pub free_now : (x : ℕ) → is_free_block J L x ≡ (is_free_block I L x && not (is_one_of (allocated_blocks I L count) x))
  free_now x =
      ap (λ k. nat_lt x k && (is_covered L x && storage_bit J L x)) g.long
      ∙ ap (λ t. nat_lt x (length I) && t) (and_alike (not (is_one_of (allocated_blocks I L count) x)) (storage_bit I L x) (is_covered L x) (storage_bit J L x) (g.bits.storage x))
      ∙ sym (and_assoc (nat_lt x (length I)) (is_covered L x && storage_bit I L x) (not (is_one_of (allocated_blocks I L count) x)))

  -- so it is a file whose chain becomes another one, which gives nothing back
  pub rechained : re.Rechained I J L n (all_headers n headers numbers) (drop 1 headers ++ numbers) old [] (allocated_blocks I L count)
  rechained = record {
    above = g.taking.above;
    there = inl (own_used n (taken.first_is_one S g.taking));
    long = g.long;
    apart = λ m ms bs ne f c. taken.others_apart S g.taking m ms bs f c (taken.file_is_far S g.taking m f ne);
    within = λ m c. c;
    chain = λ m c used. (g.chain, c);
    stays = g.stays;
    used = same_used;
    had = elim g.taking.before [
      | inl p ↦ inl (subst (HasBlocks I L n) (sym (append-nil old)) (taken.had_blocks S g.taking p.0))
      | inr p ↦ inr (append-nil old ∙ p.1, taken.new_is_no_file S g.taking p.0)
    ];
    was_free = taken.allocated_block_is_free I L count;
    once = block_once I L count;
    free = λ x e.
        let both = and_parts (is_free_block I L x) (not (is_one_of (allocated_blocks I L count) x)) (sym (free_now x) ∙ e) in
        inl (both.0, λ c. both_ways (not (is_one_of (allocated_blocks I L count) x)) (ap not (taken.one_of (allocated_blocks I L count) x c)) both.1);
    elsewhere = g.elsewhere;
  }

  own_file : IsFile J L n
  own_file = re.own_file S rechained (own_used n (taken.first_is_one S g.taking))

  -- the file has its old blocks, and behind them those that were taken
  pub own_whole : IsWhole J L n (drop 1 headers ++ numbers) (old ++ allocated_blocks I L count)
  own_whole = re.own_whole S rechained own_file

  pub own_blocks : HasBlocks J L n (old ++ allocated_blocks I L count)
  own_blocks = re.own_blocks S rechained own_file

  pub is_linked : IsLinkedBut I J L IsOwn
  is_linked = re.is_linked S rechained

  pub other_is_far : (m : ℕ) → IsFile I L m → m ≢ n → ¬ IsOwn m
  other_is_far = taken.file_is_far S g.taking

  pub number_high : (k : ℕ) → k < 3 → k ≢ n
  number_high = re.number_high S rechained

  pub own_contents : contents_of J old ≡ contents_of I old
  own_contents = re.kept_contents S rechained

  -- what files hold: what they held, and what the file took
  pub holds_now : (m v x : ℕ) → Holds J L m v x ↔ (Holds I L m v x ⊎ ((k : ℕ) × (m ≡ n) × (v ≡ length old + k + 1) × (slice_get (allocated_blocks I L count) k ≡ Some x)))
  holds_now m v x = (λ h. elim (re.held_or_taken S rechained m v x h) [ inl p ↦ inl p.0 | inr p ↦ inr p ], back)
    where
      kept : Holds I L m v x → (m ≢ n) ⊎ (v ≤ length old)
      kept h = elim (cases_eq m n) [
        | inr ne ↦ inl ne
        | inl e ↦ let within = slice_get_within (old ++ []) (v - 1) x (re.had_as S rechained v x (subst (λ k. Holds I L k v x) e h)) in inr (omega (arith, within, ap length (append-nil old)))
      ]

      back : Holds I L m v x ⊎ re.IsTakenAs S rechained m v x → Holds J L m v x
      back (inl h) = re.kept_hold S rechained own_file m v x h (kept h)
      back (inr p) = re.taken_hold S rechained own_file m v x p

  never_free : (K : List (List ℕ)) (m : ℕ) → is_in_use K L.home m ≡ true → is_free_number K L m ≡ false
  never_free K m used = and_right (nat_le 6 m) _ (and_right (nat_le m (last_number L)) _ (and_left (not (is_in_use K L.home m)) (nat_lt (sequence_of (header_at K L m)) 65535) (not_from_true (is_in_use K L.home m) used)))

  pub numbers_now : (m : ℕ) → is_free_number J L m ≡ (is_free_number I L m && not (is_one_of (allocated_numbers I L headers count) m))
  numbers_now m = by (taken.contains_or_not (all_headers n headers numbers) m)
    where
      by_kind : Contains headers m ⊎ Contains (allocated_numbers I L headers count) m → (is_free_number I L m && not (is_one_of (allocated_numbers I L headers count) m)) ≡ false
      by_kind (inl before) = and_left (is_free_number I L m) (not (is_one_of (allocated_numbers I L headers count) m)) (never_free I m (taken.old_in_use S g.taking m before))
      by_kind (inr got) = and_right (is_free_number I L m) (not (is_one_of (allocated_numbers I L headers count) m)) (not_from_true (is_one_of (allocated_numbers I L headers count) m) (taken.one_of (allocated_numbers I L headers count) m got))

      by : IsOwn m ⊎ (¬ IsOwn m) → is_free_number J L m ≡ (is_free_number I L m && not (is_one_of (allocated_numbers I L headers count) m))
      by (inl own) = never_free J m (own_used m own) ∙ sym (by_kind (taken.old_or_new S g.taking m own))
      by (inr far) =
          let free : is_free_number J L m ≡ is_free_number I L m = λ i. nat_le 6 m && (nat_le m (last_number L) && (not (same_used m far i) && nat_lt (sequence_of (g.stays m far i)) 65535)) in
          let none : is_one_of (allocated_numbers I L headers count) m ≡ false = taken.none_of (allocated_numbers I L headers count) m (λ c. far (taken.new_is_one S g.taking m c)) in
          free ∙ sym (ap (λ t. is_free_number I L m && not t) none ∙ and-true (is_free_number I L m))
