-- Names that name no file, gone through line by line and directory by directory; and lost files, number by number.
use Rattle.std.proofs.Common.{◌≡◌, ◌⊎◌, ◌+◌, ◌<◌, ◌≤◌, ℕ, List, [], ◌∷◌, ◌++◌, length, get_or, slice_get, Some, inl, inr, refl, sym, ap, ◌∙◌, subst, append_assoc, arith}
use Rattle.std.specs.List.{All, Contains}
use Rattle.std.proofs.lemmas.Bool.{cases_lt}
use Rattle.std.proofs.lemmas.List.{append-nil}
use Rattle.std.proofs.lemmas.List.Elements.{All-nil, All-cons, All-append, All-push, Contains-append_left, Contains-append_right, Contains-push}
use Rattle.std.proofs.lemmas.Option.{get_or_from_slice_get, same_Some, slice_get_within, slice_get-get_or}
use Rattle.ods_base.specs.declared.file_id.FileId.{FileId}
use Rattle.ods_base.specs.declared.listed.Listed.{Listed}
use Rattle.ods_space.specs.Layout.{VolumeLayout}
use Rattle.ods_check.specs.declared.dangling_list.Dangling.{Dangling}
use Rattle.ods_check.specs.Findings.{AreNames, ComesBefore, HasName, IsIdOfFile, IsLostFile, IsNamingNone, id_at}
use Rattle.ods_check.specs.Lists.{AreInOrder}
use Rattle.ods_check.specs.Repairs.{AddsDangling, AddsUnnamed, AreDangling, AreLost, IsDangling, Precedes}
use Rattle.ods_check.proofs.InOrder.{order_append, order_nil, order_one}
use Rattle.ods_check.proofs.Turning.{at_place}

-- what stands in one place of a list of one
one_is : {X : Type 0} (x y : X) (j : ℕ) → slice_get (x ∷ []) j ≡ Some y → y ≡ x
one_is x y j at = at_place (λ z. z ≡ x) (x ∷ []) j y (All-cons (λ z. z ≡ x) x [] refl (All-nil (λ z. z ≡ x))) at

-- what a list has stands in a place
place : {X : Type 0} (xs : List X) (x : X) → Contains xs x → (i : ℕ) × (slice_get xs i ≡ Some x)
place xs x has = (has.0, slice_get-get_or xs has.0 x has.1 ∙ ap Some has.2)

has_place : {X : Type 0} (xs : List X) (i : ℕ) (x : X) → slice_get xs i ≡ Some x → Contains xs x
has_place xs i x at = (i, slice_get_within xs i x at, get_or_from_slice_get xs i x x at)

-- the one's line comes before the other's
abbrev InLines : Dangling → Dangling → Type 0
InLines x y = ComesBefore x.line y.line

module _ (I : List (List ℕ)) (L : VolumeLayout) where
  module _ (directory : FileId) (lines : List Listed) where
    -- one of the first k lines, and it names no file
    pub record IsOneOf (k : ℕ) (x : Dangling) : Type 0 where
      pub own : x.directory ≡ directory
      pub at : ℕ
      pub low : at < k
      pub there : slice_get lines at ≡ Some x.line
      pub none : ¬ IsIdOfFile I L x.line.file

    -- of the first k lines those that name no file are added
    pub record IsUpTo (old : List Dangling) (k : ℕ) (new : List Dangling) : Type 0 where
      pub more : List Dangling
      pub is : new ≡ old ++ more
      pub each : All (IsOneOf k) more
      pub all : (i : ℕ) (line : Listed) → i < k → slice_get lines i ≡ Some line → ¬ IsIdOfFile I L line.file → Contains more (record { directory = directory; line = line })
      pub rising : AreInOrder ComesBefore lines → AreInOrder InLines more

    pub up_to_none : (old : List Dangling) → IsUpTo old 0 old
    up_to_none old = record { more = []; is = sym (append-nil old); each = All-nil (IsOneOf 0); all = λ i line low. absurd (omega (arith, low)); rising = λ h. order_nil InLines }

    one_later : (k : ℕ) (x : Dangling) → IsOneOf k x → IsOneOf (k + 1) x
    one_later k x h = record { own = h.own; at = h.at; low = omega (arith, h.low); there = h.there; none = h.none }

    later : (k : ℕ) (more : List Dangling) → All (IsOneOf k) more → All (IsOneOf (k + 1)) more
    later k more each i d low = one_later k _ (each i d low)

    pub up_to_more : (old mid new : List Dangling) (k : ℕ) (x : Listed) → slice_get lines k ≡ Some x → IsUpTo old k mid
        → (IsIdOfFile I L x.file × (new ≡ mid)) ⊎ ((¬ IsIdOfFile I L x.file) × (new ≡ mid ++ record { directory = directory; line = x } ∷ [])) → IsUpTo old (k + 1) new
    up_to_more old mid new k x at u (inl h) = record {
      more = u.more;
      is = h.1 ∙ u.is;
      each = later k u.more u.each;
      all = λ i line low there none. elim (cases_lt i k) [
        | inl less ↦ u.all i line less there none
        | inr past ↦
            let e : i ≡ k = omega (arith, low, past) in
            let same : x ≡ line = same_Some x line (sym at ∙ ap (slice_get lines) (sym e) ∙ there) in
            absurd (none (subst (λ (l : Listed). IsIdOfFile I L l.file) same h.0))
      ];
      rising = u.rising;
    }
    up_to_more old mid new k x at u (inr h) =
        let one : Dangling = record { directory = directory; line = x } in
        record {
          more = u.more ++ one ∷ [];
          is = h.1 ∙ ap (λ l. l ++ one ∷ []) u.is ∙ append_assoc old u.more (one ∷ []);
          each = All-push (IsOneOf (k + 1)) u.more one (later k u.more u.each) (record { own = refl; at = k; low = omega arith; there = at; none = h.0 });
          all = λ i line low there none. elim (cases_lt i k) [
            | inl less ↦ Contains-append_left u.more (one ∷ []) (record { directory = directory; line = line }) (u.all i line less there none)
            | inr past ↦
                let e : i ≡ k = omega (arith, low, past) in
                let same : x ≡ line = same_Some x line (sym at ∙ ap (slice_get lines) (sym e) ∙ there) in
                subst (λ (l : Listed). Contains (u.more ++ one ∷ []) (record { directory = directory; line = l })) same (Contains-push u.more one)
          ];
          rising = λ order. order_append InLines u.more (one ∷ []) (u.rising order) (order_one InLines one) (λ i j y z first second.
              let is : z ≡ one = one_is one z j second in
              let was = at_place (IsOneOf k) u.more i y u.each first in
              subst (InLines y) (sym is) (order was.at k y.line x was.there at was.low));
        }

    pub up_to_all : (old new : List Dangling) (k : ℕ) → length lines ≤ k → IsUpTo old k new → AddsUnnamed I L directory lines old new
    up_to_all old new k end u = record {
      more = u.more;
      is = u.is;
      each = λ i d low. let h = u.each i d low in (h.own, has_place lines h.at _ h.there, h.none);
      all = λ line has none. let p = place lines line has in u.all p.0 line (omega (arith, end, slice_get_within lines p.0 line p.1)) p.1 none;
      rising = u.rising;
    }

  -- a line of a directory that names no file
  dangles : (d : ℕ) (id : FileId) (lines : List Listed) (x : Dangling) → id ≡ id_at I L d → AreNames I L d lines → (x.directory ≡ id) × Contains lines x.line × ¬ IsIdOfFile I L x.line.file → IsDangling I L x × (x.directory.number ≡ d)
  dangles d id lines x is names h =
      let own : x.directory ≡ id_at I L d = h.0 ∙ is in
      let number : x.directory.number ≡ d = ap (λ (f : FileId). f.number) own in
      let p = place lines x.line h.1 in
      let named : HasName I L d x.line = at_place (HasName I L d) lines p.0 x.line names.each p.1 in
      ((subst (λ (n : ℕ). IsNamingNone I L n x.line) (sym number) (named, h.2), own ∙ ap (id_at I L) (sym number)), number)

  -- the lines of a directory
  pub of_names : (d : ℕ) (id : FileId) (lines : List Listed) (old new : List Dangling) → id ≡ id_at I L d → AreNames I L d lines → AddsUnnamed I L id lines old new → AddsDangling I L d old new
  of_names d id lines old new is names adds = record {
    more = adds.more;
    is = adds.is;
    each = λ i x low. dangles d id lines (get_or adds.more i x) is names (adds.each i x low);
    all = λ line none. subst (λ (f : FileId). Contains adds.more (record { directory = f; line = line })) is (adds.all line (names.all line none.0) none.1);
    rising = adds.rising names.rising;
  }

  -- a directory below k
  abbrev pub IsBelow : ℕ → Dangling → Type 0
  IsBelow k x = IsDangling I L x × (x.directory.number < k)

  -- all of the directories below k
  pub record AreBelow (k : ℕ) (found : List Dangling) : Type 0 where
    pub each : All (IsBelow k) found
    pub all : (d : ℕ) (line : Listed) → d < k → IsNamingNone I L d line → Contains found (record { directory = id_at I L d; line = line })
    pub rising : AreInOrder Precedes found

  pub below_none : AreBelow 0 []
  below_none = record { each = All-nil (IsBelow 0); all = λ d line low. absurd (omega (arith, low)); rising = order_nil Precedes }

  pub below_more : (k : ℕ) (old new : List Dangling) → AreBelow k old → AddsDangling I L k old new → AreBelow (k + 1) new
  below_more k old new b adds = record {
    each = subst (All (IsBelow (k + 1))) (sym adds.is) (All-append (IsBelow (k + 1)) old adds.more (λ i d low. let h = b.each i d low in (h.0, omega (arith, h.1))) (λ i d low. let h = adds.each i d low in (h.0, omega (arith, h.1))));
    all = λ d line low none. subst (λ l. Contains l (record { directory = id_at I L d; line = line })) (sym adds.is) (elim (cases_lt d k) [
      | inl less ↦ Contains-append_left old adds.more _ (b.all d line less none)
      | inr past ↦
          let e : k ≡ d = omega (arith, low, past) in
          let P : ℕ → Type 0 = λ n. Contains adds.more (record { directory = id_at I L n; line = line }) in
          Contains-append_right old adds.more _ (subst P e (adds.all line (subst (λ (n : ℕ). IsNamingNone I L n line) (sym e) none)))
    ]);
    rising = subst (AreInOrder Precedes) (sym adds.is) (order_append Precedes old adds.more b.rising
        (λ i j x y first second less.
        let one = at_place (λ (z : Dangling). IsDangling I L z × (z.directory.number ≡ k)) adds.more i x adds.each first in
        let other = at_place (λ (z : Dangling). IsDangling I L z × (z.directory.number ≡ k)) adds.more j y adds.each second in
        inr (one.1 ∙ sym other.1, adds.rising i j x y first second less))
        (λ i j x y first second.
        let one = at_place (IsBelow k) old i x b.each first in
        let other = at_place (λ (z : Dangling). IsDangling I L z × (z.directory.number ≡ k)) adds.more j y adds.each second in
        inl (omega (arith, one.1, other.1))));
  }

  pub below_all : (k : ℕ) (found : List Dangling) → ((d : ℕ) (line : Listed) → HasName I L d line → d < k) → AreBelow k found → AreDangling I L found
  below_all k found few b = record {
    each = λ i d low. (b.each i d low).0;
    all = λ d line none. b.all d line (few d line none.0) none;
    rising = b.rising;
  }

  -- lost files below k
  abbrev IsLostBelow : ℕ → FileId → Type 0
  IsLostBelow k id = (IsLostFile I L id.number × (id ≡ id_at I L id.number)) × (id.number < k)

  abbrev Lower : FileId → FileId → Type 0
  Lower x y = x.number < y.number

  pub record AreLostBelow (k : ℕ) (found : List FileId) : Type 0 where
    pub each : All (IsLostBelow k) found
    pub all : (n : ℕ) → n < k → IsLostFile I L n → Contains found (id_at I L n)
    pub rising : AreInOrder Lower found

  pub lost_none : AreLostBelow 0 []
  lost_none = record { each = All-nil (IsLostBelow 0); all = λ n low. absurd (omega (arith, low)); rising = order_nil Lower }

  lost_later : (k : ℕ) (found : List FileId) → All (IsLostBelow k) found → All (IsLostBelow (k + 1)) found
  lost_later k found each i d low = let h = each i d low in (h.0, omega (arith, h.1))

  pub lost_more : (k : ℕ) (old new : List FileId) → AreLostBelow k old → (IsLostFile I L k × (new ≡ old ++ id_at I L k ∷ [])) ⊎ ((¬ IsLostFile I L k) × (new ≡ old)) → AreLostBelow (k + 1) new
  lost_more k old new b (inl h) =
      let one : FileId = id_at I L k in
      record {
        each = subst (All (IsLostBelow (k + 1))) (sym h.1) (All-push (IsLostBelow (k + 1)) old one (lost_later k old b.each) ((h.0, refl), omega arith));
        all = λ n low lost. subst (λ l. Contains l (id_at I L n)) (sym h.1) (elim (cases_lt n k) [
          | inl less ↦ Contains-append_left old (one ∷ []) (id_at I L n) (b.all n less lost)
          | inr past ↦ let e : k ≡ n = omega (arith, low, past) in subst (λ (m : ℕ). Contains (old ++ one ∷ []) (id_at I L m)) e (Contains-push old one)
        ]);
        rising = subst (AreInOrder Lower) (sym h.1) (order_append Lower old (one ∷ []) b.rising (order_one Lower one) (λ i j x y first second.
            let was = at_place (IsLostBelow k) old i x b.each first in
            let is = ap (λ (f : FileId). f.number) (one_is one y j second) in
            omega (arith, was.1, is)));
      }
  lost_more k old new b (inr h) = record {
    each = subst (All (IsLostBelow (k + 1))) (sym h.1) (lost_later k old b.each);
    all = λ n low lost. subst (λ l. Contains l (id_at I L n)) (sym h.1) (elim (cases_lt n k) [
      | inl less ↦ b.all n less lost
      | inr past ↦ let e : n ≡ k = omega (arith, low, past) in absurd (h.0 (subst (IsLostFile I L) e lost))
    ]);
    rising = subst (AreInOrder Lower) (sym h.1) b.rising;
  }

  pub lost_all : (k : ℕ) (found : List FileId) → ((n : ℕ) → IsLostFile I L n → n < k) → AreLostBelow k found → AreLost I L found
  lost_all k found few b = record { each = λ i d low. (b.each i d low).0; all = λ n lost. b.all n (few n lost) lost; rising = b.rising }
