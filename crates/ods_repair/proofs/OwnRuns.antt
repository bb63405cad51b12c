-- The blocks of a file once its runs are settled: none is held twice where nothing is left, and the law of the whole.
use Rattle.std.proofs.Common.{◌≡◌, ◌≢◌, ℕ, ◌+◌, ◌-◌, ◌/◌, ◌<◌, ◌≤◌, ap, sym, ◌∙◌, subst, true, false, cond, List, [], ◌∷◌, length, None, Some, arith, inl, inr}
use Rattle.std.specs.Prelude.{◌==◌, slice_get}
use Rattle.std.proofs.lemmas.Bool.{cases_eq, cases_lt, ne_eqb}
use Rattle.std.proofs.lemmas.Option.{slice_get_within}
use Rattle.ods_header.specs.Header.{blocks_of, next_number_of, used_words_of}
use Rattle.ods_space.specs.Layout.{VolumeLayout, header_at}
use Rattle.ods_space.specs.Chain.{Follows, index_for}
use Rattle.ods_space.specs.Files.{HasBlocks, Holds}
use Rattle.ods_space.proofs.Chains.{head_of, same_chain}
use Rattle.ods_mount.proofs.Each.{holds_at}
use Rattle.ods_check.specs.HeldFree.{IsHeldBesides}
use Rattle.ods_repair.specs.Moved.{CanMove}
use Rattle.ods_repair.specs.Settled.{AreNewFrom, AreSettled, MeetsFrom, blocks_named}
use Rattle.ods_repair.specs.Unshared.{HasExtension, HasOwnRuns, SharesNone}
use Rattle.ods_repair.specs.declared.unsharing.Unshared.{Unshared}
use Rattle.ods_repair.proofs.Repointed.{all_named, same_next_number}

module _ (I J : List (List ℕ)) (L : VolumeLayout) (n : ℕ) (told : Unshared) (mapped : ℕ) (seen blocks : List ℕ) (met : ℕ) (can : CanMove I L n) (was : HasBlocks I L n blocks)
    (s : AreSettled I L n (used_words_of (header_at I L n) / 2) told mapped seen J) (none : met ≡ 0 → AreNewFrom blocks mapped seen) (some : met ≢ 0 → MeetsFrom blocks mapped seen) where
  -- a block behind those that the first header names stays
  late_was : (v b : ℕ) → mapped < v → Holds J L n v b → slice_get blocks (v - 1) ≡ Some b
  late_was v b late h = elim (s.moves.held v b h) [
    | inl old ↦ ap (λ l. slice_get l (v - 1)) (same_chain I L.home (index_for L n) [] 0 n was.others blocks old.file.others old.blocks was.whole.chain old.file.whole.chain).1 ∙ old.named
    | inr (between, f) ↦ let high = between.1 in absurd (omega (arith, high, late))
  ]

  late_is : (i b : ℕ) → mapped ≤ i → slice_get blocks i ≡ Some b → Holds J L n (i + 1) b
  late_is i b late e = s.moves.stays (i + 1) b (λ between. let high = between.1 in absurd (omega (arith, high, late))) (holds_at I L n blocks i b was e)

  -- no block of the file is held twice
  pub none_twice : told.left ≡ 0 → met ≡ 0 → SharesNone J L n
  none_twice left_none met_none m b (v, w, p, q, apart) = elim (cases_eq m n) [
    | inl same ↦
        let own : Holds J L n v b = subst (λ z. Holds J L z v b) same p in
        let v_is : v ≡ w = one_place v w own q in
        elim apart [ inl files ↦ files same | inr places ↦ places v_is ]
    | inr other ↦ elim (cases_lt mapped w) [
      | inl late ↦
          let first = q.first in
          let new = none met_none (w - 1) b (omega (arith, late)) (late_was w b late q) in
          absurd (let there = s.others b (m, (other, (v, p))) in let clash : true ≡ false = sym there ∙ new.0 in cc)
      | inr early ↦ (s.alone left_none w b early q).0 (m, (other, (v, p)))
    ]
  ]
    where
      one_place : (v w : ℕ) → Holds J L n v b → Holds J L n w b → v ≡ w
      one_place v w p q = elim (cases_lt mapped v) [
        | inl late ↦ elim (cases_lt mapped w) [
          | inl later ↦
              let first = p.first in
              let second = q.first in
              let e = (none met_none (v - 1) b (omega (arith, late)) (late_was v b late p)).1 (w - 1) (omega (arith, later)) (late_was w b later q) in
              omega (arith, e, first, second)
          | inr early ↦ absurd (let new = none met_none (v - 1) b (omega (arith, late)) (late_was v b late p) in let there = s.own w b early q in let clash : true ≡ false = sym there ∙ new.0 in cc)
        ]
        | inr early ↦ elim (cases_lt mapped w) [
          | inl later ↦ absurd (let new = none met_none (w - 1) b (omega (arith, later)) (late_was w b later q) in let there = s.own v b early p in let clash : true ≡ false = sym there ∙ new.0 in cc)
          | inr before ↦ (s.alone left_none w b before q).1 v early p
        ]
      ]

  -- blocks behind those of the first header are an extension header's
  pub has_extension : met ≢ 0 → HasExtension I L n
  has_extension met_some last =
      let late = some met_some in
      let h = late_is late.0 late.1 late.2 late.3 in
      let first = h.first in
      let no : (n == 1) ≡ false = ne_eqb n 1 (λ e. absurd (omega (arith, e, can.other))) in
      let f = subst (λ z. Follows J L.home (cond z None (Some L.index)) [] 0 n h.file.others h.blocks) no h.file.whole.chain in
      let end : next_number_of (header_at J L n) ≡ 0 = same_next_number (header_at I L n) (header_at J L n) can.has.file.valid.header.layout s.moves.header ∙ last in
      let is : h.blocks ≡ blocks_of (header_at J L n) = only_first h.file.others h.blocks end f in
      let long : length h.blocks ≡ mapped = ap length is ∙ all_named (header_at J L n) ∙ ap (λ u. length (blocks_named (header_at J L n) (u / 2))) s.used ∙ sym s.size in
      let within = slice_get_within h.blocks (late.0 + 1 - 1) late.1 h.named in
      let low = late.2 in
      absurd (omega (arith, long, within, low))
    where
      only_first : (ms bs : List ℕ) → next_number_of (header_at J L n) ≡ 0 → Follows J L.home (Some L.index) [] 0 n ms bs → bs ≡ blocks_of (header_at J L n)
      only_first [] bs end f = f.2
      only_first (m ∷ ms) bs end f =
          let good = head_of J L.home (Some L.index) (blocks_of (header_at J L n)) 1 m ms bs f.4 in
          let zero_is : m ≡ 0 = sym f.1 ∙ end in
          absurd (let first = good.first in omega (arith, first, zero_is))

  -- where no block was held twice, none is met
  pub none_met : SharesNone I L n → met ≡ 0
  none_met shares = elim (cases_eq met 0) [
    | inl zero ↦ zero
    | inr met_some ↦
        let late = some met_some in
        let h = holds_at I L n blocks late.0 late.1 was late.3 in
        let low = late.2 in
        absurd (elim late.4 [
          | inl there ↦ elim (s.only late.1 there) [
            | inl besides ↦
                let old : IsHeldBesides I L n late.1 = subst (λ X. IsHeldBesides X L n late.1) (s.idle shares).2 besides in
                shares old.0 late.1 (old.1.1.0, late.0 + 1, old.1.1.1, h, inl old.1.0)
            | inr (v, early, held) ↦
                let old : Holds I L n v late.1 = subst (λ X. Holds X L n v late.1) (s.idle shares).2 held in
                shares n late.1 (v, late.0 + 1, old, h, inr (λ e. absurd (omega (arith, e, early, low))))
          ]
          | inr (j, from, before, e) ↦ shares n late.1 (j + 1, late.0 + 1, holds_at I L n blocks j late.1 was e, h, inr (λ same. absurd (omega (arith, same, before))))
        ])
  ]

  pub own_runs : (left : ℕ) → (left ≡ 0 → (told.left ≡ 0) × (met ≡ 0)) → ((told.left ≡ 0) × (met ≡ 0) → left ≡ 0) → HasOwnRuns I L n (record { moved = told.moved; left = left }) J
  own_runs left parts whole = record {
    mapped = mapped;
    moves = s.moves;
    apart = s.apart;
    none = λ zero. none_twice (parts zero).0 (parts zero).1;
    left = λ more. elim (cases_eq told.left 0) [
      | inl zero ↦ elim (cases_eq met 0) [
        | inl nothing ↦ absurd (more (whole (zero, nothing)))
        | inr met_some ↦ inr (has_extension met_some)
      ]
      | inr left_some ↦ inl (s.left left_some)
    ];
    idle = λ shares. ((s.idle shares).0, whole ((s.idle shares).1, none_met shares), (s.idle shares).2);
  }
