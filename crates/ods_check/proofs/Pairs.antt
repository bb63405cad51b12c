-- Pairs of files that share blocks, and files that hold blocks twice.
use Rattle.std.proofs.Common.{◌≡◌, ◌≢◌, ◌⊎◌, ℕ, ◌+◌, ◌<◌, true, false, List, length, slice_get, Some, inl, inr, refl, sym, ◌∙◌, arith}
use Rattle.std.proofs.lemmas.Bool.{cases_lt}
use Rattle.ods_space.specs.Layout.{VolumeLayout}
use Rattle.ods_space.specs.Files.{HasBlocks}
use Rattle.ods_space.proofs.Parts.{contains_at}
use Rattle.ods_mount.specs.Tables.{has, IsThere}
use Rattle.ods_mount.proofs.Each.{holds_at, held_at}
use Rattle.ods_check.specs.declared.fault_line.FaultLine.{FaultLine}
use Rattle.ods_check.specs.declared.fault_line.FaultLine.TheVariants.{Shared}
use Rattle.ods_check.specs.Lists.{Adds, AreDistinct}
use Rattle.ods_check.specs.Sets.{IsSetOf}
use Rattle.ods_check.specs.Findings.{HasBlock}
use Rattle.ods_check.specs.Lines.{AreSharing}
use Rattle.ods_check.specs.Faults.{TellsPair}
use Rattle.ods_check.specs.Marks.{IsFirstIn, AreBoth, HasShared}
use Rattle.ods_check.proofs.Adding.{told_still}
use Rattle.ods_check.proofs.Noting.{set_as}

module _ (I : List (List ℕ)) (L : VolumeLayout) where
  -- what is told of a pair stays told
  pub told_pair_still : (P : FaultLine → Type 0) (old new : List FaultLine × ℕ) → Adds P old new → (m n : ℕ) → TellsPair I L old.0 m n → TellsPair I L new.0 m n
  told_pair_still P old new a m n t b share = let was = t b share in (was.0, was.1, told_still P old new (Shared m n was.0 was.1) a was.2)

  -- a file without blocks shares none
  pub no_pair : (faults : List FaultLine) (m n : ℕ) → ((b : ℕ) → ¬ HasBlock I L m b) → TellsPair I L faults m n
  no_pair faults m n none b share = absurd (none b (share.0, share.2))

  pub no_pair_behind : (faults : List FaultLine) (m n : ℕ) → ((b : ℕ) → ¬ HasBlock I L n b) → TellsPair I L faults m n
  no_pair_behind faults m n none b share = absurd (none b (share.1, share.3))

  -- a file that is not among those near makes no pair
  pub pair_apart : (faults : List FaultLine) (m n : ℕ) (near : List ℕ) → m < n → ((k b : ℕ) → k < n → HasBlock I L k b → HasBlock I L n b → has near k ≡ true) → has near m ≡ false → TellsPair I L faults m n
  pair_apart faults m n near low all none b share =
      let clash : true ≡ false = sym (all m b low (share.0, share.2) (share.1, share.3)) ∙ none in
      absurd cc

  -- the set of these numbers, which are the blocks of a file, has what the file has
  pub blocks_set : (n : ℕ) (xs : List ℕ) (old new : List ℕ) → HasBlocks I L n xs → ((b : ℕ) → has old b ≡ false) → IsSetOf (λ b. (has old b ≡ true) ⊎ ((j : ℕ) × (slice_get xs j ≡ Some b))) new → IsSetOf (HasBlock I L n) new
  blocks_set n xs old new own none s = set_as (λ b. (has old b ≡ true) ⊎ ((j : ℕ) × (slice_get xs j ≡ Some b))) (HasBlock I L n) new
      (λ b o. elim o [
        | inl m ↦ absurd (let clash : true ≡ false = sym m ∙ none b in cc)
        | inr (j, at) ↦ (j + 1, holds_at I L n xs j b own at)
      ])
      (λ b h. let at = held_at I L n xs h.0 b own h.1 in inr (at.0, at.2)) s

  -- the same beside what the set had
  pub blocks_more : (n : ℕ) (xs : List ℕ) (old new : List ℕ) → HasBlocks I L n xs → IsSetOf (λ b. (has old b ≡ true) ⊎ ((j : ℕ) × (slice_get xs j ≡ Some b))) new → IsSetOf (λ b. (has old b ≡ true) ⊎ HasBlock I L n b) new
  blocks_more n xs old new own s = set_as (λ b. (has old b ≡ true) ⊎ ((j : ℕ) × (slice_get xs j ≡ Some b))) (λ b. (has old b ≡ true) ⊎ HasBlock I L n b) new
      (λ b o. elim o [ inl m ↦ inl m | inr (j, at) ↦ inr (j + 1, holds_at I L n xs j b own at) ])
      (λ b o. elim o [ inl m ↦ inl m | inr (v, held) ↦ (let at = held_at I L n xs v b own held in inr (at.0, at.2)) ]) s

  -- the blocks of a file before are those that it shares with file n, where they are blocks of that
  pub shared_of_pair : (m n : ℕ) (set : List ℕ) → m < n → IsSetOf (HasBlock I L n) set → HasShared I L m n set
  shared_of_pair m n set low s = record {
    only = λ b h there. (
        let k = s.only b there in
        let apart : m ≢ n = λ e. omega arith in
        (h.0, k.0, h.1, k.1, inl apart));
    all = λ b share. s.all b (share.1, share.3);
  }

  -- those that come again in it are those that file n holds twice
  pub shared_of_own : (n : ℕ) (xs once start set : List ℕ) → HasBlocks I L n xs → ((b : ℕ) → has once b ≡ false) → ((b : ℕ) → has start b ≡ false)
      → IsSetOf (λ b. (has start b ≡ true) ⊎ IsThere once xs b) set → HasShared I L n n set
  shared_of_own n xs once start set own none empty s = record {
    only = λ b h there. elim (s.only b there) [
      | inl m ↦ absurd (let clash : true ≡ false = sym m ∙ empty b in cc)
      | inr t ↦ elim t.there [
        | inl m ↦ absurd (let clash : true ≡ false = sym m ∙ none b in cc)
        | inr (j, low, at) ↦
            let apart : t.index + 1 ≢ j + 1 = λ e. omega arith in
            (t.index + 1, j + 1, holds_at I L n xs t.index b own t.named, holds_at I L n xs j b own at, inr apart)
      ]
    ];
    all = λ b share.
        let one = held_at I L n xs share.0 b own share.2 in
        let two = held_at I L n xs share.1 b own share.3 in
        elim share.4 [
          | inl apart ↦ absurd (apart refl)
          | inr apart ↦ elim (cases_lt one.0 two.0) [
            | inl less ↦ s.all b (inr (record { index = two.0; named = two.2; there = inr (one.0, less, one.2) }))
            | inr more ↦
                let e = one.1 in
                let f = two.1 in
                let less : two.0 < one.0 = grind (arith, apart, e, f, more) in
                s.all b (inr (record { index = one.0; named = one.2; there = inr (two.0, less, two.2) }))
          ]
        ];
  }

  -- none of the blocks of m is in the set of those that it shares
  pub none_shared : (faults : List FaultLine) (m n : ℕ) (xs set : List ℕ) → HasBlocks I L m xs → HasShared I L m n set → ((j x : ℕ) → slice_get xs j ≡ Some x → has set x ≡ false) → TellsPair I L faults m n
  none_shared faults m n xs set own s none b share =
      let at = held_at I L m xs share.0 b own share.2 in
      let clash : true ≡ false = sym (s.all b share) ∙ none at.0 b at.2 in
      absurd cc

  -- one of them is, and so many are
  pub pair_shares : (m n : ℕ) (xs set ys : List ℕ) (lbn count : ℕ) → HasBlocks I L m xs → HasShared I L m n set → IsFirstIn xs set lbn → count ≡ length ys → AreBoth xs set ys → AreSharing I L m n lbn count
  pair_shares m n xs set ys lbn count own s f size both = record {
    shared = s.only lbn (f.place + 1, holds_at I L m xs f.place lbn own f.named) f.there;
    vbn = f.place + 1;
    held = holds_at I L m xs f.place lbn own f.named;
    first = λ v c held share.
        let at = held_at I L m xs v c own held in
        let e = at.1 in
        elim (cases_lt at.0 f.place) [
          | inl less ↦ absurd (let clash : true ≡ false = sym (s.all c share) ∙ f.first at.0 c at.2 less in cc)
          | inr more ↦ omega arith
        ];
    blocks = ys;
    are = record {
      each = λ i b at. let t = both.each i b at in s.only b (t.0 + 1, holds_at I L m xs t.0 b own t.1) t.2;
      all = λ b share.
          let at = held_at I L m xs share.0 b own share.2 in
          let there = both.all at.0 b at.2 (s.all b share) in
          contains_at ys there.0 b there.1;
      once = both.once;
    };
    size = size;
  }

  -- a file none of whose blocks is held before makes no pair with one before
  pub none_before : (faults : List FaultLine) (n : ℕ) (xs set : List ℕ) → HasBlocks I L n xs → IsSetOf (λ b. (m : ℕ) × (m < n) × HasBlock I L m b) set → ((j x : ℕ) → slice_get xs j ≡ Some x → has set x ≡ false)
      → (m : ℕ) → m < n → TellsPair I L faults m n
  none_before faults n xs set own s none m low b share =
      let at = held_at I L n xs share.1 b own share.3 in
      let clash : true ≡ false = sym (s.all b (m, low, (share.0, share.2))) ∙ none at.0 b at.2 in
      absurd cc

  -- a file whose blocks are distinct holds none twice
  pub none_twice : (faults : List FaultLine) (n : ℕ) (xs : List ℕ) → HasBlocks I L n xs → AreDistinct xs → TellsPair I L faults n n
  none_twice faults n xs own distinct b share =
      let one = held_at I L n xs share.0 b own share.2 in
      let two = held_at I L n xs share.1 b own share.3 in
      let same = distinct one.0 two.0 b one.2 two.2 in
      let e = one.1 in
      let f = two.1 in
      elim share.4 [
        | inl apart ↦ absurd (apart refl)
        | inr apart ↦ absurd (apart (omega arith))
      ]
