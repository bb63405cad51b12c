-- The form that a text says is one.
use Rattle.std.proofs.Common.{◌≡◌, ℕ, List, [], ◌∷◌, Option, Some, None, refl, sym, ap, ◌∙◌, subst}
use Rattle.ods_text.specs.Cuts.{cut_of, IsPair}
use Rattle.ods_text.specs.One.{IsTheOne}
use Rattle.ods_records.specs.Attributes.{word}
use Rattle.ods_records.specs.Forms.{kind_said, IsKind, IsControl, IsSize, IsForm}

same_pair : (a b front back : List ℕ) → ◌≡◌ {A = Option (List ℕ × List ℕ)} (Some (a, b)) (Some (front, back)) → ◌≡◌ {A = List ℕ × List ℕ} (a, b) (front, back)
same_pair a b front back e = cc e

-- two parts make no pair where the second is nothing
no_pair : {A B : Type 0} (P : List ℕ → A → Type 0) (Q : List ℕ → B → Type 0) (text front back : List ℕ) → cut_of 44 text ≡ Some (front, back) → IsTheOne (Q back) None → IsTheOne (IsPair 44 P Q text) None
no_pair P Q text front back cut none = λ y p.
    let g : p.1 ≡ back = ap (λ (q : List ℕ × List ℕ). q.1) (same_pair p.0 p.1 front back (sym p.2 ∙ cut)) in
    none y.1 (subst (λ l. Q l y.1) g p.4)

-- and one where both are one
one_pair : {A B : Type 0} (P : List ℕ → A → Type 0) (Q : List ℕ → B → Type 0) (text front back : List ℕ) (x : A) (z : B) → cut_of 44 text ≡ Some (front, back) → IsTheOne (P front) (Some x) → IsTheOne (Q back) (Some z) → IsTheOne (IsPair 44 P Q text) (Some (x, z))
one_pair P Q text front back x z cut a b = (
  (front, back, cut, a.0, b.0),
  λ y p.
      let e = same_pair p.0 p.1 front back (sym p.2 ∙ cut) in
      let f : p.0 ≡ front = ap (λ (q : List ℕ × List ℕ). q.0) e in
      let g : p.1 ≡ back = ap (λ (q : List ℕ × List ℕ). q.1) e in
      let u : y.0 ≡ x = a.1 y.0 (subst (λ l. P l y.0) f p.3) in
      let v : y.1 ≡ z = b.1 y.1 (subst (λ l. Q l y.1) g p.4) in
      ap (λ k. (k, y.1)) u ∙ ap (λ k. (x, k)) v,
)

-- no parts where there is no control and no size
pub no_parts : (text front back : List ℕ) → cut_of 44 text ≡ Some (front, back) → IsTheOne (IsPair 44 IsControl IsSize back) None → IsTheOne (IsPair 44 IsKind (IsPair 44 IsControl IsSize) text) None
no_parts text front back cut none = no_pair IsKind (IsPair 44 IsControl IsSize) text front back cut none

pub the_parts : (text front back : List ℕ) (kind : ℕ) (rest : ℕ × ℕ) → cut_of 44 text ≡ Some (front, back) → kind_said front ≡ Some kind → IsTheOne (IsPair 44 IsControl IsSize back) (Some rest) → IsTheOne (IsPair 44 IsKind (IsPair 44 IsControl IsSize) text) (Some (kind, rest))
the_parts text front back kind rest cut said one = one_pair IsKind (IsPair 44 IsControl IsSize) text front back kind rest cut (said, λ y p. cc (said, p)) one

-- no form where there are no parts
pub no_form : (text : List ℕ) → IsTheOne (IsPair 44 IsKind (IsPair 44 IsControl IsSize) text) None → IsTheOne (IsForm text) None
no_form text none = λ y p. none p.0 p.1

pub the_form : (text : List ℕ) (x : ℕ × (ℕ × ℕ)) (form : List ℕ) → form ≡ x.0 ∷ x.1.0 ∷ word x.1.1 → IsTheOne (IsPair 44 IsKind (IsPair 44 IsControl IsSize) text) (Some x) → IsTheOne (IsForm text) (Some form)
the_form text x form is one = ((x, one.0, is), λ y p. p.2 ∙ ap (λ (z : ℕ × (ℕ × ℕ)). z.0 ∷ z.1.0 ∷ word z.1.1) (one.1 p.0 p.1) ∙ sym is)
