-- A text says one protection at most.
use Rattle.std.proofs.Common.{◌≡◌, ◌∙◌, ◌/◌, ◌%◌, ◌≤◌, ℕ, List, [], ◌∷◌, ◌++◌, Option, Some, None, MatchOption, arith, sym, ap, subst, inl, inr}
use Rattle.std.proofs.lemmas.List.{append_cancel_right}
use Rattle.ods_text.specs.Cuts.{cut_of, IsPair}
use Rattle.ods_text.specs.One.{IsTheOne}
use Rattle.fs_words.specs.Protections.{AreClasses, AreFour, AreOctal, AreRights, AreThree, AreTwo, IsOneAtMost, IsProtection, IsSixDigits}
use Rattle.fs_words.specs.Refused.{SpellsNone}

-- each text is of one thing at most
Once : {A : Type 0} → (List ℕ → A → Type 0) → Type 0
Once {A} P = (text : List ℕ) (x y : A) → P text x → P text y → x ≡ y

same_pair : (a b front back : List ℕ) → ◌≡◌ {A = Option (List ℕ × List ℕ)} (Some (a, b)) (Some (front, back)) → ◌≡◌ {A = List ℕ × List ℕ} (a, b) (front, back)
same_pair a b front back e = cc e

pair_once : {A B : Type 0} (P : List ℕ → A → Type 0) (Q : List ℕ → B → Type 0) → Once P → Once Q → Once (IsPair 44 P Q)
unfolding Once
pair_once P Q one two = λ text x y p q.
    let e = same_pair p.0 p.1 q.0 q.1 (sym p.2 ∙ q.2) in
    let f : p.0 ≡ q.0 = ap (λ (r : List ℕ × List ℕ). r.0) e in
    let g : p.1 ≡ q.1 = ap (λ (r : List ℕ × List ℕ). r.1) e in
    let u : x.0 ≡ y.0 = one q.0 x.0 y.0 (subst (λ l. P l x.0) f p.3) q.3 in
    let v : x.1 ≡ y.1 = two q.1 x.1 y.1 (subst (λ l. Q l x.1) g p.4) q.4 in
    ap (λ k. (k, x.1)) u ∙ ap (λ k. (y.0, k)) v

rights_once : Once AreRights
unfolding Once
rights_once = λ text x y p q. omega (arith, p.low, p.read, p.write, p.extend, p.delete, q.low, q.read, q.write, q.extend, q.delete)

two_once : Once AreTwo
two_once = pair_once AreRights AreRights rights_once rights_once

three_once : Once AreThree
three_once = pair_once AreRights AreTwo rights_once two_once

four_once : Once AreFour
four_once = pair_once AreRights AreThree rights_once three_once

by_parts : (x y a b c d e f g h : ℕ) → ◌≡◌ {A = ℕ × (ℕ × (ℕ × ℕ))} (a, (b, (c, d))) (e, (f, (g, h))) → (a ≡ e) × (b ≡ f) × (c ≡ g) × (d ≡ h)
by_parts x y a b c d e f g h same = (ap (λ (t : ℕ × (ℕ × (ℕ × ℕ))). t.0) same, ap (λ (t : ℕ × (ℕ × (ℕ × ℕ))). t.1.0) same, ap (λ (t : ℕ × (ℕ × (ℕ × ℕ))). t.1.1.0) same, ap (λ (t : ℕ × (ℕ × (ℕ × ℕ))). t.1.1.1) same)

-- a word by the bits of its classes
joined : (x y : ℕ) → x % 16 ≡ y % 16 → x / 16 % 16 ≡ y / 16 % 16 → x / 256 % 16 ≡ y / 256 % 16 → x / 4096 ≡ y / 4096 → x ≡ y
joined x y a b c d = omega (arith, a, b, c, d)

classes_once : Once AreClasses
unfolding Once four_once
classes_once = λ text x y p q.
    let t = by_parts x y _ _ _ _ _ _ _ _ (four_once text _ _ p q) in
    joined x y t.0 t.1 t.2 t.3

six_once : Once IsSixDigits
unfolding Once
six_once = λ text x y p q. sym p.value ∙ q.value

-- no text is of both kinds
not_both : (text inner : List ℕ) (y : ℕ) → text ≡ 91 ∷ (inner ++ 93 ∷ []) → IsSixDigits text y → ⊥
not_both text inner y e six =
    let d : AreOctal (91 ∷ (inner ++ 93 ∷ [])) = subst AreOctal e six.digits in
    let small : 91 ≤ 55 = (d 0 0 (omega arith)).1 in
    omega (arith, small)

same_inner : (text i j : List ℕ) → text ≡ 91 ∷ (i ++ 93 ∷ []) → text ≡ 91 ∷ (j ++ 93 ∷ []) → i ≡ j
same_inner text i j a b =
    let e : 91 ∷ (i ++ 93 ∷ []) ≡ 91 ∷ (j ++ 93 ∷ []) = sym a ∙ b in
    let f : i ++ 93 ∷ [] ≡ j ++ 93 ∷ [] = cc e in
    append_cancel_right i j (93 ∷ []) f

pub one_at_most : IsOneAtMost
unfolding classes_once six_once Once
one_at_most text a b (inl p) (inl q) = classes_once q.0 a b (subst (λ l. AreClasses l a) (same_inner text p.0 q.0 p.1 q.1) p.2) q.2
one_at_most text a b (inl p) (inr q) = absurd (not_both text p.0 b p.1 q)
one_at_most text a b (inr p) (inl q) = absurd (not_both text q.0 a q.1 p)
one_at_most text a b (inr p) (inr q) = six_once text a b p q

-- no pair where the second is nothing
pub none_behind : {A B : Type 0} (P : List ℕ → A → Type 0) (Q : List ℕ → B → Type 0) (text front back : List ℕ) → cut_of 44 text ≡ Some (front, back) → SpellsNone Q back → SpellsNone (IsPair 44 P Q) text
none_behind P Q text front back cut none = λ y p.
    let g : p.1 ≡ back = ap (λ (q : List ℕ × List ℕ). q.1) (same_pair p.0 p.1 front back (sym p.2 ∙ cut)) in
    none y.1 (subst (λ l. Q l y.1) g p.4)

-- what stands between brackets is what they say
pub by_rights : (text bytes inner : List ℕ) (r : Option ℕ) → bytes ≡ text → bytes ≡ 91 ∷ (inner ++ 93 ∷ []) → MatchOption r (SpellsNone AreClasses inner) (AreClasses inner) → IsTheOne (IsProtection text) r
by_rights text bytes inner None same e none = λ y p. none_of y p
  where
    none_of : (y : ℕ) → IsProtection text y → ⊥
    none_of y (inl p) = none y (subst (λ l. AreClasses l y) (same_inner text p.0 inner p.1 (sym same ∙ e)) p.2)
    none_of y (inr six) = not_both text inner y (sym same ∙ e) six
by_rights text bytes inner (Some x) same e are = let is : IsProtection text x = inl (inner, sym same ∙ e, are) in (is, λ y p. one_at_most text y x p is)

-- a text without brackets says what its digits say
pub by_digits : (text bytes again : List ℕ) (r : Option ℕ) → bytes ≡ text → again ≡ text → ((i : List ℕ) → bytes ≡ 91 ∷ (i ++ 93 ∷ []) → ⊥) → MatchOption r (SpellsNone IsSixDigits again) (IsSixDigits again)
    → IsTheOne (IsProtection text) r
by_digits text bytes again None same too bare none = λ y p. none_of y p
  where
    none_of : (y : ℕ) → IsProtection text y → ⊥
    none_of y (inl p) = bare p.0 (same ∙ p.1)
    none_of y (inr six) = none y (subst (λ l. IsSixDigits l y) (sym too) six)
by_digits text bytes again (Some x) same too bare six = let is : IsProtection text x = inr (subst (λ l. IsSixDigits l x) too six) in (is, λ y p. one_at_most text y x p is)
