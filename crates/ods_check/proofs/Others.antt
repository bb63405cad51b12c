-- Files that share blocks with files before them, once no more lines are kept.
use Rattle.std.proofs.Common.{◌≡◌, ◌≢◌, ◌⊎◌, ℕ, ◌+◌, ◌<◌, ◌≤◌, List, [], ◌∷◌, ◌++◌, length, slice_get, Some, inl, inr, refl, sym, ap, ◌∙◌, subst, arith}
use Rattle.std.proofs.lemmas.List.{length-append}
use Rattle.std.proofs.lemmas.Option.{slice_get_within}
use Rattle.std.proofs.lemmas.List.Elements.{All-nil, All-cons, All-append, Contains-append_left}
use Rattle.std.specs.List.{All, Contains}
use Rattle.ods_space.specs.Layout.{VolumeLayout}
use Rattle.ods_check.specs.declared.fault_line.FaultLine.{FaultLine}
use Rattle.ods_space.specs.Files.{HasBlocks}
use Rattle.ods_mount.proofs.Each.{holds_at}
use Rattle.ods_check.specs.Sets.{IsSetOf}
use Rattle.ods_check.specs.Findings.{HasBlock}
use Rattle.ods_check.specs.Marks.{IsFirstIn}
use Rattle.ods_check.specs.Lists.{Adds, AreDistinct}
use Rattle.ods_check.specs.Faults.{TellsPair, SharesBefore, AreOthers, IsOneMore}
use Rattle.ods_check.proofs.Adding.{adds_most}
use Rattle.ods_check.proofs.Counted.{last_or}
use Rattle.ods_check.proofs.Turning.{AreBelow, distinct_push}
use Rattle.ods_check.proofs.Pairs.{told_pair_still}

module _ (I : List (List ℕ)) (L : VolumeLayout) where
  -- as many lines as are kept stay told
  pub others_still : (P : FaultLine → Type 0) (old new : List FaultLine × ℕ) (others : List ℕ) → Adds P old new → AreOthers I L old others → AreOthers I L new others
  others_still P old new others a o = record {
    each = o.each;
    once = o.once;
    full = λ some.
        let enough : old.1 ≤ length old.0 = o.full some in
        let most : new.1 ≡ old.1 = adds_most P old new a in
        let size : length new.0 ≡ length old.0 + length a.more = ap (λ l. length l.0) a.is ∙ length-append old.0 a.more in
        omega arith;
  }

  pub no_others : (faults : List FaultLine × ℕ) (others : List ℕ) → others ≡ [] → AreOthers I L faults others
  no_others faults others none = record {
    each = subst (λ l. All (SharesBefore I L) l) (sym none) (All-nil (SharesBefore I L));
    once = λ i j b at. absurd (let low = slice_get_within others i b at in let size : length others ≡ 0 = ap length none in omega arith);
    full = λ some. absurd (some none);
  }

  -- a pair is told, or its later file is one of the others
  abbrev pub TellsOr : List FaultLine × ℕ → List ℕ × ℕ → ℕ → ℕ → Type 0
  TellsOr faults others m n = TellsPair I L faults.0 m n ⊎ Contains others.0 n

  -- what is told of the others before file n
  pub record HasOthers (faults : List FaultLine × ℕ) (start others : List ℕ × ℕ) (n : ℕ) : Type 0 where
    pub are : AreOthers I L faults others.0
    pub below : AreBelow n others.0
    pub most : others.1 ≡ start.1

  pub has_none : (faults : List FaultLine × ℕ) (start : List ℕ × ℕ) → start.0 ≡ [] → HasOthers faults start start 0
  has_none faults start none = record {
    are = no_others faults start.0 none;
    below = λ i x at. absurd (let low = slice_get_within start.0 i x at in let size : length start.0 ≡ 0 = ap length none in omega arith);
    most = refl;
  }

  module _ (P : FaultLine → Type 0) (old new : List FaultLine × ℕ) (n : ℕ) (xs ys : List ℕ × ℕ) (a : Adds P old new) (step : (ys ≡ xs) ⊎ IsOneMore I L old n xs ys) where
    -- the others stay
    pub other_still : (k : ℕ) → Contains xs.0 k → Contains ys.0 k
    other_still k there = elim step [
      | inl same ↦ subst (λ l. Contains l k) (sym (ap (λ l. l.0) same)) there
      | inr one ↦ subst (λ l. Contains l k) (sym (ap (λ l. l.0) one.is)) (Contains-append_left xs.0 (n ∷ []) k there)
    ]

    -- what was told of a pair, or of its later file, stays
    pub tells_or_still : (m k : ℕ) → TellsOr old xs m k → TellsOr new ys m k
    tells_or_still m k t = elim t [ inl told ↦ inl (told_pair_still I L P old new a m k told) | inr there ↦ inr (other_still k there) ]

    one_more : (start : List ℕ × ℕ) → HasOthers old start xs n → IsOneMore I L old n xs ys → HasOthers new start ys (n + 1)
    one_more start h one =
        let list : ys.0 ≡ xs.0 ++ n ∷ [] = ap (λ l. l.0) one.is in
        let grown : AreOthers I L old (xs.0 ++ n ∷ []) = record {
          each = All-append (SharesBefore I L) xs.0 (n ∷ []) h.are.each (All-cons (SharesBefore I L) n [] one.shares (All-nil (SharesBefore I L)));
          once = distinct_push xs.0 n h.below h.are.once;
          full = λ some. one.full;
        } in
        let below : AreBelow (n + 1) (xs.0 ++ n ∷ []) = λ i x at. elim (last_or xs.0 n i x at) [
          | inl before ↦ (let low = h.below i x before in omega arith)
          | inr (here, is) ↦ omega arith
        ] in
        record {
          are = others_still P old new ys.0 a (subst (λ l. AreOthers I L old l) (sym list) grown);
          below = subst (λ l. AreBelow (n + 1) l) (sym list) below;
          most = ap (λ l. l.1) one.is ∙ h.most;
        }

    none_more : (start : List ℕ × ℕ) → HasOthers old start xs n → ys ≡ xs → HasOthers new start ys (n + 1)
    none_more start h same =
        let before : HasOthers new start xs (n + 1) = record {
          are = others_still P old new xs.0 a h.are;
          below = λ i x at. (let low = h.below i x at in omega arith);
          most = h.most;
        } in
        subst (λ zs. HasOthers new start zs (n + 1)) (sym same) before

    pub others_more : (start : List ℕ × ℕ) → HasOthers old start xs n → HasOthers new start ys (n + 1)
    others_more start h = elim step [ inl same ↦ none_more start h same | inr one ↦ one_more start h one ]

  -- a file one of whose blocks is held before shares it with a file before it
  pub shares_first : (n x : ℕ) (xs set : List ℕ) → HasBlocks I L n xs → IsSetOf (λ b. (m : ℕ) × (m < n) × HasBlock I L m b) set → IsFirstIn xs set x → SharesBefore I L n
  shares_first n x xs set own s f =
      let h = s.only x f.there in
      let low = h.1 in
      let apart : h.0 ≢ n = λ e. omega arith in
      (h.0, x, low, (h.2.0, f.place + 1, h.2.1, holds_at I L n xs f.place x own f.named, inl apart))
