-- The runs of a file that are settled one behind another: what is known of its blocks, and what is left.
use Rattle.std.proofs.Common.{◌≡◌, ◌≢◌, ℕ, zero, suc, ◌+◌, ◌-◌, ◌*◌, ◌/◌, ◌<◌, ◌≤◌, refl, ap, sym, ◌∙◌, subst, true, false, List, [], ◌∷◌, length, map, arith, inl, inr}
use Rattle.std.specs.Prelude.{◌⊎◌}
use Rattle.std.specs.List.{flat_map, range_with_len}
use Rattle.std.proofs.lemmas.Bool.{cases_eq, cases_lt}
use Rattle.std.proofs.lemmas.List.{append-nil, length-append}
use Rattle.std.proofs.lemmas.List.Concat.{flat_map-append}
use Rattle.std.proofs.lemmas.List.FromFn.{length-range_with_len}
use Rattle.ods_header.specs.declared.header.Run.{Run}
use Rattle.ods_header.specs.Header.{run_at, run_blocks, used_words_of}
use Rattle.ods_header.proofs.HeaderPlaces.{map_append}
use Rattle.ods_space.specs.Layout.{VolumeLayout, header_at}
use Rattle.ods_space.specs.Files.{Holds}
use Rattle.ods_space.specs.Free.{is_free_block}
use Rattle.ods_space.proofs.Surveys.{range_push}
use Rattle.ods_amend.specs.Runs.{HasNoRun, IsFreeRun}
use Rattle.ods_check.specs.HeldFree.{IsHeldBesides}
use Rattle.ods_check.specs.Sets.{IsSetOf}
use Rattle.ods_mount.specs.Tables.{has}
use Rattle.ods_repair.specs.Moved.{CanMove, IsInRun, IsMoved, run_named}
use Rattle.ods_repair.specs.Settled.{AreSettled, HasRunToo, IsSettled, IsToldOf, MeetsRun, MissesRun, blocks_named}
use Rattle.ods_repair.specs.Unshared.{IsBetween, LacksRoom, Moves, SharesNone, SharesRun}
use Rattle.ods_repair.specs.declared.unsharing.Outcome.{Outcome}
use Rattle.ods_repair.specs.declared.unsharing.Outcome.TheVariants.{Stays, Moved, Left}
use Rattle.ods_repair.specs.declared.unsharing.Unshared.{Unshared}
use Rattle.ods_repair.proofs.Moving as moving
use Rattle.ods_repair.proofs.OneMoved as one
use Rattle.ods_repair.proofs.OwnRun.{run_held}
use Rattle.ods_repair.proofs.Repointed as repointed
use Rattle.ods_repair.proofs.Together.{further, none_moved, together}

-- one pointer more
more_named : (b : List ℕ) (at : ℕ) → length (blocks_named b (at + 1)) ≡ length (blocks_named b at) + (run_at b at).count
more_named b at =
    let here : 0 + at ≡ at = omega arith in
    ap (λ l. length (flat_map run_blocks (map (run_at b) l))) (range_push 0 at)
    ∙ ap (λ l. length (flat_map run_blocks l)) (map_append (run_at b) (range_with_len 0 at) ((0 + at) ∷ []))
    ∙ ap length (flat_map-append run_blocks (map (run_at b) (range_with_len 0 at)) (run_at b (0 + at) ∷ []))
    ∙ length-append (blocks_named b at) (flat_map run_blocks (run_at b (0 + at) ∷ []))
    ∙ ap (λ l. length (blocks_named b at) + length l) (append-nil (run_blocks (run_at b (0 + at))))
    ∙ ap (λ k. length (blocks_named b at) + length (run_blocks (run_at b k))) here
    ∙ ap (λ k. length (blocks_named b at) + k) (length-range_with_len (run_at b at).lbn (run_at b at).count)

-- headers whose pointers name as many blocks name as many together
same_size : (b c : List ℕ) (at : ℕ) → ((k : ℕ) → k < at → (run_at c k).count ≡ (run_at b k).count) → length (blocks_named c at) ≡ length (blocks_named b at)
same_size b c zero same = refl
same_size b c (suc at) same =
    let next : suc at ≡ at + 1 = omega arith in
    let last : (run_at c at).count ≡ (run_at b at).count = same at (omega arith) in
    let rest : length (blocks_named c at) ≡ length (blocks_named b at) = same_size b c at (λ k low. same k (omega (arith, low))) in
    ap (λ k. length (blocks_named c k)) next ∙ more_named c at ∙ (λ i. rest i + last i) ∙ sym (more_named b at) ∙ ap (λ k. length (blocks_named b k)) (sym next)

-- nothing is settled yet
module _ (I : List (List ℕ)) (L : VolumeLayout) (n : ℕ) (seen : List ℕ) (can : CanMove I L n) (held : IsSetOf (IsHeldBesides I L n) seen) (room : length I ≤ 64 * length seen) where
  no_early : (v b : ℕ) → v ≤ 0 → ¬ Holds I L n v b
  no_early v b low h = let first = h.first in absurd (omega (arith, low, first))

  pub none_settled : AreSettled I L n 0 (record { moved = 0; left = 0 }) 0 seen I
  none_settled = record {
    can = can;
    room = room;
    size = refl;
    moves = none_moved I L n can.layout;
    used = refl;
    counts = λ k low. refl;
    later = λ k from low. refl;
    apart = λ k low alone. refl;
    others = held.all;
    own = λ v b low h. absurd (no_early v b low h);
    only = λ b h. inl (held.only b h);
    alone = λ none v b low h. absurd (no_early v b low h);
    left = λ some. absurd (some refl);
    idle = λ shares. (refl, refl, refl);
  }

module _ (I J : List (List ℕ)) (L : VolumeLayout) (n at : ℕ) (told : Unshared) (mapped : ℕ) (seen : List ℕ) (can : CanMove I L n) (low : at < used_words_of (header_at I L n) / 2) (s : AreSettled I L n at told mapped seen J) where
  abbrev pub run : Run
  run = run_named J L n at

  abbrev pub count : ℕ
  count = run.count

  inside : at < used_words_of (header_at J L n) / 2
  inside = subst (λ u. at < u / 2) (sym s.used) low

  abbrev start : ℕ
  start = length (blocks_named (header_at J L n) at)

  start_is : mapped ≡ start
  start_is = s.size

  -- the place of a block of the run
  in_place : (v b : ℕ) → IsBetween mapped (mapped + count) v → Holds J L n v b → (k : ℕ) × (k < count) × (v ≡ mapped + k + 1) × (b ≡ run.lbn + k)
  in_place v b between h =
      let k : ℕ = v - 1 - mapped in
      let above = between.0 in
      let below = between.1 in
      let small : k < count = omega (arith, above, below) in
      let v_is : v ≡ mapped + k + 1 = omega (arith, above) in
      let v_there : start + k + 1 ≡ v = omega (arith, v_is, start_is) in
      let there : Holds J L n v (run.lbn + k) = subst (λ w. Holds J L n w (run.lbn + k)) v_there (run_held J L n at s.can inside k small) in
      (k, small, v_is, moving.one_at_place J L n s.can v b (run.lbn + k) h there)

  in_run : (k b : ℕ) → k < count → b ≡ run.lbn + k → IsInRun run b
  in_run k b small is = (omega (arith, is), omega (arith, small, is))

  -- where the run stays
  module _ (new : List ℕ) (has_run : HasRunToo new seen run) where
    own_too : (v b : ℕ) → v ≤ mapped + count → Holds J L n v b → has new b ≡ true
    own_too v b high h = elim (cases_lt mapped v) [
      | inl above ↦ let p = in_place v b (above, high) h in (has_run b).1 (inr (in_run p.0 b p.1 p.3))
      | inr below ↦ (has_run b).1 (inl (s.own v b below h))
    ]

    only_too : (b : ℕ) → has new b ≡ true → IsHeldBesides J L n b ⊎ ((v : ℕ) × (v ≤ mapped + count) × Holds J L n v b)
    only_too b h = elim ((has_run b).0 h) [
      | inl was ↦ elim (s.only b was) [
        | inl others ↦ inl others
        | inr (v, early, held) ↦ inr (v, omega (arith, early), held)
      ]
      | inr within ↦
          let from = within.0 in
          let to = within.1 in
          let k : ℕ = b - run.lbn in
          let small : k < count = omega (arith, from, to) in
          let is : run.lbn + k ≡ b = omega (arith, from) in
          inr (start + k + 1, omega (arith, small, start_is), subst (Holds J L n (start + k + 1)) is (run_held J L n at s.can inside k small))
    ]

    -- and so it is settled, whatever is told of it
    stays_settled : (next : Unshared) → (told.left ≡ next.left ⊎ (next.left ≢ 0)) → (next.left ≡ 0 → MissesRun seen run) → (next.left ≢ 0 → LacksRoom I L n J) → (SharesNone I L n → (next.moved ≡ 0) × (next.left ≡ 0) × (J ≡ I))
        → length J ≤ 64 * length new → AreSettled I L n (at + 1) next (mapped + count) new J
    stays_settled next same misses lacks idle room = record {
      can = s.can;
      room = room;
      size = let size = more_named (header_at J L n) at in omega (arith, size, start_is);
      moves = further I J L n mapped (mapped + count) (omega arith) s.moves;
      used = s.used;
      counts = s.counts;
      later = λ k from small. s.later k (omega (arith, from)) small;
      apart = s.apart;
      others = λ b h. (has_run b).1 (inl (s.others b h));
      own = own_too;
      only = only_too;
      alone = λ none. alone_too (misses none) (elim same [ inl e ↦ e ∙ none | inr some ↦ absurd (some none) ]);
      left = lacks;
      idle = idle;
    }
      where
        alone_too : MissesRun seen run → told.left ≡ 0 → (v b : ℕ) → v ≤ mapped + count → Holds J L n v b → (¬ IsHeldBesides J L n b) × ((w : ℕ) → w ≤ mapped + count → Holds J L n w b → w ≡ v)
        alone_too miss none v b high h = elim (cases_lt mapped v) [
          | inl above ↦
              let p = in_place v b (above, high) h in
              let absent : has seen b ≡ false = miss b (in_run p.0 b p.1 p.3) in (
                (λ besides. absurd (let there = s.others b besides in let clash : true ≡ false = sym there ∙ absent in cc)),
                λ w top g. elim (cases_lt mapped w) [
                  | inl over ↦ let q = in_place w b (over, top) g in let v_is = p.2 in let w_is = q.2 in let b_is = p.3 in let c_is = q.3 in omega (arith, v_is, w_is, b_is, c_is)
                  | inr under ↦ absurd (let there = s.own w b under g in let clash : true ≡ false = sym there ∙ absent in cc)
                ],
              )
          | inr below ↦
              let old = s.alone none v b below h in (
                old.0,
                λ w top g. elim (cases_lt mapped w) [
                  | inl over ↦
                      let q = in_place w b (over, top) g in
                      let absent : has seen b ≡ false = miss b (in_run q.0 b q.1 q.3) in
                      absurd (let there = s.own v b below h in let clash : true ≡ false = sym there ∙ absent in cc)
                  | inr under ↦ old.1 w under g
                ],
              )
        ]

  -- a block of the run that is in the set is held twice
  met_is_shared : MeetsRun seen run → ¬ SharesNone J L n
  met_is_shared (b, within, there) none =
      let from = within.0 in
      let to = within.1 in
      let k : ℕ = b - run.lbn in
      let small : k < count = omega (arith, from, to) in
      let is : run.lbn + k ≡ b = omega (arith, from) in
      let h : Holds J L n (start + k + 1) b = subst (Holds J L n (start + k + 1)) is (run_held J L n at s.can inside k small) in
      elim (s.only b there) [
        | inl (q, (other, (v, held))) ↦ none q b (v, start + k + 1, held, h, inl other)
        | inr (v, early, held) ↦ none n b (v, start + k + 1, held, h, inr (λ e. absurd (omega (arith, e, early, start_is))))
      ]

  not_idle : MeetsRun seen run → ¬ SharesNone I L n
  not_idle meets none =
      let same : J ≡ I = (s.idle none).2 in
      met_is_shared meets (subst (λ X. SharesNone X L n) (sym same) none)

  -- and it was so from the beginning
  abbrev before : ℕ
  before = length (blocks_named (header_at I L n) at)

  before_is : mapped ≡ before
  before_is = start_is ∙ same_size (header_at I L n) (header_at J L n) at (λ k small. s.counts k (omega (arith, small, low)))

  met_shares : MeetsRun seen run → SharesRun I L n at
  met_shares (b, within, there) =
      let old : Run = run_named I L n at in
      let in_old : IsInRun old b = subst (λ (r : Run). IsInRun r b) (s.later at (omega arith) low) within in
      let from = in_old.0 in
      let to = in_old.1 in
      let k : ℕ = b - old.lbn in
      let small : k < old.count = omega (arith, from, to) in
      let is : old.lbn + k ≡ b = omega (arith, from) in
      let h : Holds I L n (before + k + 1) b = subst (Holds I L n (before + k + 1)) is (run_held I L n at can low k small) in
      elim (s.only b there) [
        | inl (q, (other, (v, held))) ↦
            let was : Holds I L q v b = record { blocks = held.blocks; file = (s.moves.has q held.blocks other).1 held.file; first = held.first; named = held.named } in
            (q, b, in_old, (v, before + k + 1, was, h, inl other))
        | inr (v, early, held) ↦ elim (s.moves.held v b held) [
          | inl was ↦ (n, b, in_old, (v, before + k + 1, was, h, inr (λ e. absurd (omega (arith, e, early, before_is)))))
          | inr (between, f) ↦ absurd (can.used n b (before + k + 1, h, f))
        ]
      ]

  -- where it moves
  module _ (K : List (List ℕ)) (to : ℕ) (new : List ℕ) (free : IsFreeRun J L to count) (m : IsMoved J L n at to K) (has_run : HasRunToo new seen (record { lbn = to; count = count })) where
    moved : Moves J L n start (start + count) K
    moved = one.moves J K L n at to s.can m inside free

    moved_here : Moves J L n mapped (mapped + count) K
    moved_here = subst (λ p. Moves J L n p (p + count) K) (sym start_is) moved

    free_in : (b : ℕ) → to ≤ b → b < to + count → is_free_block J L b ≡ true
    free_in b from below = free b from below

    -- a block of the new run, which nobody held
    new_place : (v b : ℕ) → IsBetween mapped (mapped + count) v → Holds K L n v b → (k : ℕ) × (k < count) × (v ≡ mapped + k + 1) × (b ≡ to + k)
    new_place v b between h =
        let k : ℕ = v - 1 - mapped in
        let above = between.0 in
        let below = between.1 in
        let small : k < count = omega (arith, above, below) in
        let v_is : v ≡ mapped + k + 1 = omega (arith, above) in
        let v_there : start + k + 1 ≡ v = omega (arith, v_is, start_is) in
        let there : Holds K L n v (to + k) = subst (λ w. Holds K L n w (to + k)) v_there (one.new_held J K L n at to s.can m inside free k small) in
        (k, small, v_is, moving.one_at_place K L n (one.more_can J K L n at to s.can m inside free) v b (to + k) h there)

    new_unheld : (k b q v : ℕ) → k < count → b ≡ to + k → ¬ Holds J L q v b
    new_unheld k b q v small is h = s.can.used q b (v, h, free_in b (omega (arith, is)) (omega (arith, is, small)))

    was_besides : (b : ℕ) → IsHeldBesides K L n b → IsHeldBesides J L n b
    was_besides b (q, (other, (v, h))) = (q, (other, (v, record { blocks = h.blocks; file = (moved.has q h.blocks other).1 h.file; first = h.first; named = h.named })))

    is_besides : (b : ℕ) → IsHeldBesides J L n b → IsHeldBesides K L n b
    is_besides b (q, (other, (v, h))) = (q, (other, (v, record { blocks = h.blocks; file = (moved.has q h.blocks other).0 h.file; first = h.first; named = h.named })))

    early_was : (v b : ℕ) → v ≤ mapped → Holds K L n v b → Holds J L n v b
    early_was v b early h = elim (moved_here.held v b h) [
      | inl was ↦ was
      | inr (between, f) ↦ let above = between.0 in absurd (omega (arith, above, early))
    ]

    early_is : (v b : ℕ) → v ≤ mapped → Holds J L n v b → Holds K L n v b
    early_is v b early h = moved_here.stays v b (λ between. let above = between.0 in absurd (omega (arith, above, early))) h

    in_new : (k b : ℕ) → k < count → b ≡ to + k → IsInRun (record { lbn = to; count = count }) b
    in_new k b small is = (omega (arith, is), omega (arith, small, is))

    moved_own : (v b : ℕ) → v ≤ mapped + count → Holds K L n v b → has new b ≡ true
    moved_own v b high h = elim (cases_lt mapped v) [
      | inl above ↦ let p = new_place v b (above, high) h in (has_run b).1 (inr (in_new p.0 b p.1 p.3))
      | inr below ↦ (has_run b).1 (inl (s.own v b below (early_was v b below h)))
    ]

    moved_only : (b : ℕ) → has new b ≡ true → IsHeldBesides K L n b ⊎ ((v : ℕ) × (v ≤ mapped + count) × Holds K L n v b)
    moved_only b h = elim ((has_run b).0 h) [
      | inl was ↦ elim (s.only b was) [
        | inl others ↦ inl (is_besides b others)
        | inr (v, early, held) ↦ inr (v, omega (arith, early), early_is v b early held)
      ]
      | inr within ↦
          let from = within.0 in
          let below = within.1 in
          let k : ℕ = b - to in
          let small : k < count = omega (arith, from, below) in
          let is : to + k ≡ b = omega (arith, from) in
          inr (start + k + 1, omega (arith, small, start_is), subst (Holds K L n (start + k + 1)) is (one.new_held J K L n at to s.can m inside free k small))
    ]

    moved_alone : told.left ≡ 0 → (v b : ℕ) → v ≤ mapped + count → Holds K L n v b → (¬ IsHeldBesides K L n b) × ((w : ℕ) → w ≤ mapped + count → Holds K L n w b → w ≡ v)
    moved_alone none v b high h = elim (cases_lt mapped v) [
      | inl above ↦
          let p = new_place v b (above, high) h in (
            (λ besides. let old = was_besides b besides in new_unheld p.0 b old.0 old.1.1.0 p.1 p.3 old.1.1.1),
            λ w top g. elim (cases_lt mapped w) [
              | inl over ↦ let q = new_place w b (over, top) g in let v_is = p.2 in let w_is = q.2 in let b_is = p.3 in let c_is = q.3 in omega (arith, v_is, w_is, b_is, c_is)
              | inr under ↦ absurd (new_unheld p.0 b n w p.1 p.3 (early_was w b under g))
            ],
          )
      | inr below ↦
          let old = s.alone none v b below (early_was v b below h) in (
            (λ besides. old.0 (was_besides b besides)),
            λ w top g. elim (cases_lt mapped w) [
              | inl over ↦ let q = new_place w b (over, top) g in absurd (new_unheld q.0 b n v q.1 q.3 (early_was v b below h))
              | inr under ↦ old.1 w under (early_was w b under g)
            ],
          )
    ]

    used_is : used_words_of (header_at K L n) ≡ used_words_of (header_at J L n)
    used_is = repointed.used_is (header_at J L n) (header_at K L n) s.can.has.file.valid.header.layout at to inside m.header

    counts_are : (k : ℕ) → k < used_words_of (header_at J L n) / 2 → (run_named K L n k).count ≡ (run_named J L n k).count
    counts_are k small = elim (cases_eq k at) [
      | inl same ↦ ap (λ j. (run_named K L n j).count) same ∙ ap (λ (r : Run). r.count) m.header.run ∙ ap (λ j. (run_named J L n j).count) (sym same)
      | inr other ↦ ap (λ (r : Run). r.count) (repointed.other_run (header_at J L n) (header_at K L n) s.can.has.file.valid.header.layout at to inside m.header k small other)
    ]

    other_stays : (k : ℕ) → k < used_words_of (header_at I L n) / 2 → k ≢ at → run_named K L n k ≡ run_named J L n k
    other_stays k small other =
        repointed.other_run (header_at J L n) (header_at K L n) s.can.has.file.valid.header.layout at to inside m.header k (subst (λ u. k < u / 2) (sym s.used) small) other

    moved_settled : (next : Unshared) → next.left ≡ told.left → MeetsRun seen run → length K ≤ 64 * length new → AreSettled I L n (at + 1) next (mapped + count) new K
    moved_settled next same meets room = record {
      can = one.more_can J K L n at to s.can m inside free;
      room = room;
      size =
          let sizes = same_size (header_at J L n) (header_at K L n) (at + 1) (λ k small. counts_are k (omega (arith, small, inside))) in
          let size = more_named (header_at J L n) at in
          omega (arith, sizes, size, start_is);
      moves = together I J K L n mapped (mapped + count) (omega arith) s.moves moved_here;
      used = used_is ∙ s.used;
      counts = λ k small. counts_are k (subst (λ u. k < u / 2) (sym s.used) small) ∙ s.counts k small;
      later = λ k from small. other_stays k small (λ e. absurd (omega (arith, from, e))) ∙ s.later k (omega (arith, from)) small;
      apart = λ k small alone. elim (cases_eq k at) [
        | inl same ↦ absurd (alone (subst (SharesRun I L n) (sym same) (met_shares meets)))
        | inr other ↦ other_stays k small other ∙ s.apart k small alone
      ];
      others = λ b besides. (has_run b).1 (inl (s.others b (was_besides b besides)));
      own = moved_own;
      only = moved_only;
      alone = λ none. moved_alone (sym same ∙ none);
      left = λ some. let lacks = s.left (λ none. some (same ∙ none)) in (lacks.0, lacks.1, λ lbn free_there. lacks.2 lbn (λ x from below. moved.free x (free_there x from below)));
      idle = λ none. absurd (not_idle meets none);
    }

  -- whatever becomes of the run
  pub one_settled : (outcome : Outcome) (K : List (List ℕ)) (next : Unshared) (new : List ℕ) → IsSettled J L n at seen outcome K new → IsToldOf told outcome next → length K ≤ 64 * length new → AreSettled I L n (at + 1) next (mapped + count) new K
  one_settled Stays K next new (same, misses, has_run) is room =
      subst (AreSettled I L n (at + 1) next (mapped + count) new) (sym same)
      (stays_settled new has_run next (inl (ap (λ (t : Unshared). t.left) (sym is))) (λ none. misses) (λ some. s.left (λ none. some (ap (λ (t : Unshared). t.left) is ∙ none)))
      (λ none. let idle = s.idle none in (ap (λ (t : Unshared). t.moved) is ∙ idle.0, ap (λ (t : Unshared). t.left) is ∙ idle.1, idle.2)) (subst (λ X. length X ≤ 64 * length new) same room))
  one_settled Left K next new (same, meets, lacks, has_run) is room =
      subst (AreSettled I L n (at + 1) next (mapped + count) new) (sym same)
      (stays_settled new has_run next (inr is.1) (λ none. absurd (is.1 none)) (λ some. (at, low, subst (HasNoRun J L) (s.counts at low) lacks)) (λ none. absurd (not_idle meets none)) (subst (λ X. length X ≤ 64 * length new) same room))
  one_settled Moved K next new (to, meets, free, m, has_run) is room = moved_settled K to new free m has_run next is.1 meets room
