-- The front of a deleted file: what its headers name, and that a file before names what stands behind it.
use Rattle.std.proofs.Common.{◌≡◌, ◌⊎◌, inl, inr, ℕ, zero, suc, ◌<◌, Bool, true, refl, sym, ap, subst, List, [], ◌∷◌, ◌++◌, length, arith, ◌∙◌}
use Rattle.std.specs.List.{Contains}
use Rattle.std.proofs.lemmas.Grind.{flat_map-append}
use Rattle.std.proofs.lemmas.List.Elements.{Contains-append_left, Contains-append_right, Contains-append_cases, Contains-push, Contains-push_cases}
use Rattle.ods_header.specs.Header.{blocks_of}
use Rattle.ods_space.specs.Layout.{VolumeLayout}
use Rattle.ods_remains.specs.Chains.{GoesAlong, named_at}
use Rattle.ods_remains.specs.Deleted.{IsDeleted, IsDeletedFile, IsFormerChain, LeadsOn, former}
use Rattle.ods_remains.specs.Shared.{HasFormerBlocks, NamesBlock, ComesBy, AreMarked, AreSeen, GoesOnSeen, IsFront, is_seen}
use Rattle.ods_remains.proofs.FormerFiles.{named}
use Rattle.ods_remains.proofs.Following.{IsFollowed}

-- what a list of one has
pub only_one : (n h : ℕ) → Contains (n ∷ []) h → h ≡ n
only_one n h (zero, low, is) = sym is
only_one n h (suc k, low, is) = absurd (omega (arith, low))

abbrev goes : List (List ℕ) → VolumeLayout → ℕ → List ℕ → Bool → Type 0
goes I L n others cut = GoesAlong (former I L) (LeadsOn I L) (LeadsOn I L) n others cut

module _ (I : List (List ℕ)) (L : VolumeLayout) where
  -- a chain goes one way
  pub one_way : (a : ℕ) (xs ys : List ℕ) (c d : Bool) → goes I L a xs c → goes I L a ys d → xs ≡ ys
  one_way a [] [] c d g h = refl
  one_way a [] (y ∷ ys) c d g h = absurd (g.0 y h.0)
  one_way a (x ∷ xs) [] c d g h = absurd (h.0 x g.0)
  one_way a (x ∷ xs) (y ∷ ys) c d g h =
      let same : x ≡ y = named I L a x g.0 ∙ sym (named I L a y h.0) in
      let rest : xs ≡ ys = one_way x xs ys c d g.1 (subst (λ k. goes I L k ys d) (sym same) h.1) in
      ap (λ k. k ∷ xs) same ∙ ap (λ zs. y ∷ zs) rest

  pub same_blocks : (n : ℕ) (xs ys : List ℕ) → HasFormerBlocks I L n xs → HasFormerBlocks I L n ys → xs ≡ ys
  same_blocks n xs ys one other =
      one.named ∙ ap (λ rest. named_at (former I L) (n ∷ rest)) (one_way n one.others other.others one.cut other.cut one.chain other.chain) ∙ sym other.named

  ends_once : (a : ℕ) (xs : List ℕ) (c d : Bool) → goes I L a xs c → goes I L a xs d → c ≡ d
  ends_once a [] c d g h = g.1 ∙ sym h.1
  ends_once a (x ∷ xs) c d g h = ends_once x xs c d g.1 h.1

  -- a deleted file has one chain
  pub one_chain : (n : ℕ) (xs bs ys cs : List ℕ) (c d : Bool) → IsFormerChain I L n xs bs c → IsFormerChain I L n ys cs d → (xs ≡ ys) × (bs ≡ cs) × (c ≡ d)
  one_chain n xs bs ys cs c d one other =
      let same : one.others ≡ other.others = one_way n one.others other.others c d one.chain other.chain in
      let headers : xs ≡ ys = one.headers ∙ ap (λ zs. n ∷ zs) same ∙ sym other.headers in
      (headers, one.blocks ∙ ap (named_at (former I L)) headers ∙ sym other.blocks, ends_once n one.others c d one.chain (subst (λ zs. goes I L n zs d) (sym same) other.chain))

  -- each header behind the first is a deleted one
  pub chain_deleted : (a : ℕ) (xs : List ℕ) (c : Bool) → goes I L a xs c → (h : ℕ) → Contains xs h → IsDeleted I L h
  chain_deleted a [] c g h has = let none = has.1 in absurd (omega (arith, none))
  chain_deleted a (x ∷ xs) c g h has = elim (Contains-append_cases (x ∷ []) xs h has) [
    | inl one ↦ subst (IsDeleted I L) (sym (only_one x h one)) g.0.there
    | inr more ↦ chain_deleted x xs c g.1 h more
  ]

  -- from a header on a chain goes as it does behind it
  from_there : (a : ℕ) (xs : List ℕ) (h : ℕ) (rest : List ℕ) (c : Bool) → goes I L a (xs ++ h ∷ rest) c → goes I L h rest c
  from_there a [] h rest c g = g.1
  from_there a (x ∷ xs) h rest c g = from_there x xs h rest c g.1

  cut_at : (a : ℕ) (xs : List ℕ) (c : Bool) → goes I L a xs c → (h : ℕ) → Contains (a ∷ xs) h → (front rest : List ℕ) × ((a ∷ xs) ≡ front ++ h ∷ rest) × goes I L h rest c
  cut_at a xs c g h has = elim (Contains-append_cases (a ∷ []) xs h has) [
    | inl one ↦ let same : a ≡ h = sym (only_one a h one) in ([], xs, ap (λ k. k ∷ xs) same, subst (λ k. goes I L k xs c) same g)
    | inr more ↦ behind a xs c g h more
  ] where
    behind : (a : ℕ) (xs : List ℕ) (c : Bool) → goes I L a xs c → (h : ℕ) → Contains xs h → (front rest : List ℕ) × ((a ∷ xs) ≡ front ++ h ∷ rest) × goes I L h rest c
    behind a [] c g h has = let none = has.1 in absurd (omega (arith, none))
    behind a (x ∷ xs) c g h has = elim (Contains-append_cases (x ∷ []) xs h has) [
      | inl one ↦ let same : x ≡ h = sym (only_one x h one) in (a ∷ [], xs, ap (λ k. a ∷ k ∷ xs) same, subst (λ k. goes I L k xs c) same g.1)
      | inr more ↦ let of = behind x xs c g.1 h more in (a ∷ of.0, of.1, ap (λ ys. a ∷ ys) of.2, of.3)
    ]

  -- a walk that came to the end, or to a header that was seen, has passed the front
  module _ (seen : List Bool) (n : ℕ) (headers blocks : List ℕ) (cut : Bool) (at : ℕ) (so : IsFollowed (former I L) (LeadsOn I L) (LeadsOn I L) n headers blocks cut at) where
    pub front_ends : ((c : ℕ) → ¬ LeadsOn I L at c) → IsFront I L seen n headers blocks
    front_ends none = record {
      passed = so.passed;
      behind = [];
      cut = cut;
      chain = so.onward [] cut (none, so.ends);
      whole = so.whole;
      named = so.blocks;
      ends = tt;
    }

    pub front_meets : AreSeen I L (λ n. Unit {0}) seen → (c : ℕ) → LeadsOn I L at c → is_seen seen c ≡ true → IsFront I L seen n headers blocks
    front_meets known c leads was =
        let of = known c was in
        let other = of.2 in
        let there = cut_at of.0 other.1 other.2 other.3 c other.4 in
        record {
          passed = so.passed;
          behind = c ∷ there.1;
          cut = other.2;
          chain = so.onward (c ∷ there.1) other.2 (leads, there.3);
          whole = so.whole;
          named = so.blocks;
          ends = was;
        }

  module _ (seen : List Bool) (n : ℕ) (headers blocks : List ℕ) (deleted : IsDeletedFile I L n) (front : IsFront I L seen n headers blocks) where
    all_headers : List ℕ
    all_headers = n ∷ (front.passed ++ front.behind)

    -- the blocks of the file are those of its front, and those behind
    whole : HasFormerBlocks I L n (blocks ++ named_at (former I L) front.behind)
    whole = record {
      others = front.passed ++ front.behind;
      cut = front.cut;
      chain = front.chain;
      named = ap (λ xs. xs ++ named_at (former I L) front.behind) (front.named ∙ ap (named_at (former I L)) front.whole)
          ∙ sym (flat_map-append (λ at. blocks_of (former I L at)) (n ∷ front.passed) front.behind);
    }

    pub front_names : (lbn : ℕ) → Contains blocks lbn → NamesBlock I L n lbn
    front_names lbn has = (deleted, blocks ++ named_at (former I L) front.behind, whole, Contains-append_left blocks (named_at (former I L) front.behind) lbn has)

    pub front_comes : (h : ℕ) → Contains headers h → ComesBy I L n h
    front_comes h has = (
      deleted,
      front.passed ++ front.behind,
      front.cut,
      front.chain,
      Contains-append_left (n ∷ front.passed) front.behind h (subst (λ xs. Contains xs h) front.whole has),
    )

    module _ (Among : ℕ → Type 0) (so : AreSeen I L Among seen) where
      -- a file among these names what a header names that was seen, and those behind it
      behind_named : (behind : List ℕ) → goes I L n (front.passed ++ behind) front.cut → GoesOnSeen seen behind → (lbn : ℕ) → Contains (named_at (former I L) behind) lbn
          → (m : ℕ) × Among m × NamesBlock I L m lbn
      behind_named [] chain ends lbn has = let none = has.1 in absurd (omega (arith, none))
      behind_named (h ∷ rest) chain ends lbn has =
          let of = so h ends in
          let m = of.0 in
          let other = of.2 in
          let at = cut_at m other.1 other.2 other.3 h other.4 in
          let same : rest ≡ at.1 = one_way h rest at.1 front.cut other.2 (from_there n front.passed h rest front.cut chain) at.3 in
          let blocks_there : List ℕ = named_at (former I L) (m ∷ other.1) in
          let split : blocks_there ≡ named_at (former I L) at.0 ++ named_at (former I L) (h ∷ rest) =
          ap (named_at (former I L)) (at.2 ∙ ap (λ ys. at.0 ++ h ∷ ys) (sym same)) ∙ flat_map-append (λ at. blocks_of (former I L at)) at.0 (h ∷ rest) in
          let there : Contains blocks_there lbn = subst (λ xs. Contains xs lbn) (sym split) (Contains-append_right (named_at (former I L) at.0) (named_at (former I L) (h ∷ rest)) lbn has) in
          (m, of.1, (other.0, blocks_there, record { others = other.1; cut = other.2; chain = other.3; named = refl }, there))

      -- each block of the file is one of its front, or a file among these names it
      pub front_all : (lbn : ℕ) → NamesBlock I L n lbn → Contains blocks lbn ⊎ (m : ℕ) × Among m × NamesBlock I L m lbn
      front_all lbn names =
          let has : Contains (blocks ++ named_at (former I L) front.behind) lbn = subst (λ xs. Contains xs lbn) (same_blocks n names.1 (blocks ++ named_at (former I L) front.behind) names.2 whole) names.3 in
          elim (Contains-append_cases blocks (named_at (former I L) front.behind) lbn has) [
            | inl here ↦ inl here
            | inr there ↦ inr (behind_named front.behind front.chain front.ends lbn there)
          ]

-- headers that are marked one after another
pub marked_begun : (seen : List Bool) → AreMarked [] seen seen
marked_begun seen = record {
  size = refl;
  only = λ h is. inl is;
  kept = λ h is. is;
  there = λ h has low. let none = has.1 in absurd (omega (arith, none));
}

pub marked_step : (headers : List ℕ) (old now : List Bool) (p : ℕ) (new : List Bool) → AreMarked headers old now → length new ≡ length now
    → ((h : ℕ) → is_seen new h ≡ true → (is_seen now h ≡ true) ⊎ (h ≡ p)) → ((h : ℕ) → is_seen now h ≡ true → is_seen new h ≡ true) → (p < length now → is_seen new p ≡ true)
    → AreMarked (headers ++ p ∷ []) old new
marked_step headers old now p new so size only kept there = record {
  size = size ∙ so.size;
  only = λ h is. elim (only h is) [
    | inl was ↦ elim (so.only h was) [
      | inl before ↦ inl before
      | inr has ↦ inr (Contains-append_left headers (p ∷ []) h has)
    ]
    | inr same ↦ inr (subst (Contains (headers ++ p ∷ [])) (sym same) (Contains-push headers p))
  ];
  kept = λ h is. kept h (so.kept h is);
  there = λ h has low. elim (Contains-push_cases headers p h has) [
    | inl before ↦ kept h (so.there h before low)
    | inr same ↦ subst (λ k. is_seen new k ≡ true) same (there (subst (λ s. p < s) (sym so.size) (subst (λ k. k < length old) (sym same) low)))
  ];
}
