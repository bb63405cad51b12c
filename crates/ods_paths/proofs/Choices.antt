-- The group or the member that a text is, and the step that it says.
use Rattle.std.proofs.Common.{◌≡◌, ◌↔◌, ℕ, ◌≤◌, ◌<◌, ◌&&◌, ◌==◌, List, [], ◌∷◌, length, Bool, true, false, Option, Some, None, refl, sym, ap, ◌∙◌, subst, arith}
use Rattle.std.specs.Prelude.{codes, if◌then◌else◌, nat_le}
use Rattle.std.specs.Bool.{IsTrue, Decides}
use Rattle.std.specs.List.{before_first, after_first, list_all}
use Rattle.std.specs.Str.{bytes_eq}
use Rattle.std.proofs.lemmas.Bool.{eqb-true, le-leb, leb-true}
use Rattle.std.proofs.lemmas.List.Sums.{AllPass-from_list_all, list_all-from_AllPass}
use Rattle.std.proofs.lemmas.Slice.Eq.{bytes_eq-Decides}
use Rattle.ods_text.specs.Cuts.{is}
use Rattle.ods_text.specs.Numbers.{IsOctal, octal_value}
use Rattle.ods_text.specs.One.{IsTheOne}
use Rattle.ods_paths.specs.Numbers.{choice_of, is_octal, is_octal_digit}
use Rattle.ods_paths.specs.Patterns.{IsPattern, capitals}
use Rattle.ods_paths.specs.Steps.{Step, Numbers, Pattern, IsSpelled, IsStep, is_zeros, names_master, step_by, step_of, steps_text}

-- two tests of one thing
same_test : (a b : Bool) (P : Type 0) → (IsTrue a ↔ P) → Decides b P → b ≡ a
same_test true b P is decides = decides.1 (is.0 refl)
same_test false true P is decides = let t : false ≡ true = is.1 (decides.0 refl) in absurd (cc)
same_test false false P is decides = refl

and_both : (a b : Bool) → (a && b) ≡ true → (a ≡ true) × (b ≡ true)
and_both true true e = (refl, refl)
and_both true false e = let clash : false ≡ true = e in absurd (cc)
and_both false b e = let clash : false ≡ true = e in absurd (cc)

and_true : (a b : Bool) → a ≡ true → b ≡ true → (a && b) ≡ true
and_true true true p q = refl
and_true true false p q = absurd (cc)
and_true false b p q = absurd (cc)

octal_tested : (text : List ℕ) (n : ℕ) → IsOctal text n → is_octal text ≡ true
octal_tested text n o =
    let digits : list_all is_octal_digit text ≡ true = list_all-from_AllPass is_octal_digit text (λ k d h. and_true _ _ (le-leb 48 _ (o.digits k d h).0) (le-leb _ 55 (o.digits k d h).1)) in
    let small : octal_value 0 text ≤ 255 = subst (λ (v : ℕ). v ≤ 255) (sym o.value) o.small in
    and_true _ _ (and_true _ _ (and_true _ _ (le-leb 1 (length text) o.some) (le-leb (length text) 3 o.few)) digits) (le-leb (octal_value 0 text) 255 small)

octal_said : (text : List ℕ) → is_octal text ≡ true → IsOctal text (octal_value 0 text)
octal_said text e =
    let a = and_both (nat_le 1 (length text) && nat_le (length text) 3 && list_all is_octal_digit text) (nat_le (octal_value 0 text) 255) e in
    let b = and_both (nat_le 1 (length text) && nat_le (length text) 3) (list_all is_octal_digit text) a.0 in
    let c = and_both (nat_le 1 (length text)) (nat_le (length text) 3) b.0 in
    record {
      some = leb-true 1 (length text) c.0;
      few = leb-true (length text) 3 c.1;
      digits = λ k d h. (let p = and_both _ _ (AllPass-from_list_all is_octal_digit text b.1 k d h) in (leb-true 48 _ p.0, leb-true _ 55 p.1));
      small = leb-true (octal_value 0 text) 255 a.1;
      value = refl;
    }

no_octal : (text : List ℕ) (b : Bool) → is_octal text ≡ b → ((n : ℕ) → IsOctal text n → ⊥) → b ≡ false
no_octal text true e none = absurd (none (octal_value 0 text) (octal_said text e))
no_octal text false e none = refl

abbrev choice_by : Bool → Bool → ℕ → Option (Option ℕ)
choice_by each octal n = if each then Some None else (if octal then Some (Some n) else None)

pub each_choice : (text : List ℕ) (b : Bool) → (IsTrue b ↔ (text ≡ codes "*")) → b ≡ true → Some None ≡ choice_of text
each_choice text b is e =
    let each : bytes_eq text (codes "*") ≡ true = same_test b (bytes_eq text (codes "*")) (text ≡ codes "*") is (bytes_eq-Decides text (codes "*")) ∙ e in
    sym (ap (λ (t : Bool). choice_by t (is_octal text) (octal_value 0 text)) each)

pub octal_choice : (text : List ℕ) (b : Bool) (n : ℕ) → (IsTrue b ↔ (text ≡ codes "*")) → b ≡ false → IsTheOne (IsOctal text) (Some n) → Some (Some n) ≡ choice_of text
octal_choice text b n is e one =
    let each : bytes_eq text (codes "*") ≡ false = same_test b (bytes_eq text (codes "*")) (text ≡ codes "*") is (bytes_eq-Decides text (codes "*")) ∙ e in
    let octal : is_octal text ≡ true = octal_tested text n one.0 in
    let value : octal_value 0 text ≡ n = one.0.value in
    sym (λ i. choice_by (each i) (octal i) (value i))

pub no_choice : (text : List ℕ) (b : Bool) → (IsTrue b ↔ (text ≡ codes "*")) → b ≡ false → IsTheOne (IsOctal text) None → None ≡ choice_of text
no_choice text b is e none =
    let each : bytes_eq text (codes "*") ≡ false = same_test b (bytes_eq text (codes "*")) (text ≡ codes "*") is (bytes_eq-Decides text (codes "*")) ∙ e in
    let octal : is_octal text ≡ false = no_octal text (is_octal text) refl none in
    sym (λ i. choice_by (each i) (octal i) (octal_value 0 text))

pub says_numbers : (text front back : List ℕ) (g m : Option ℕ) → front ≡ before_first (is 44) text → back ≡ after_first (is 44) text → Some g ≡ choice_of front → Some m ≡ choice_of back → Numbers g m ≡ step_of text
says_numbers text front back g m e f p q =
    let group : Some g ≡ choice_of (before_first (is 44) text) = p ∙ ap choice_of e in
    let member : Some m ≡ choice_of (after_first (is 44) text) = q ∙ ap choice_of f in
    λ i. step_by text (group i) (member i)

pub says_no_group : (text front : List ℕ) → front ≡ before_first (is 44) text → None ≡ choice_of front → Pattern (capitals text) ≡ step_of text
says_no_group text front e p = ap (λ (o : Option (Option ℕ)). step_by text o (choice_of (after_first (is 44) text))) (p ∙ ap choice_of e)

pub says_no_member : (text front back : List ℕ) (g : Option ℕ) → front ≡ before_first (is 44) text → back ≡ after_first (is 44) text → Some g ≡ choice_of front → None ≡ choice_of back → Pattern (capitals text) ≡ step_of text
says_no_member text front back g e f p q =
    let group : Some g ≡ choice_of (before_first (is 44) text) = p ∙ ap choice_of e in
    let member : None ≡ choice_of (after_first (is 44) text) = q ∙ ap choice_of f in
    λ i. step_by text (group i) (member i)

-- numbers are a step, and a pattern is one where its text is
pub numbers_are : (text : List ℕ) (g m : Option ℕ) → Numbers g m ≡ step_of text → IsStep text
numbers_are text g m e = subst (IsSpelled text) e tt

pub pattern_is : (text name : List ℕ) (b : Bool) → Pattern name ≡ step_of text → (IsTrue b ↔ ((0 < length text) × IsPattern 9 text)) → IsTrue b ↔ IsStep text
pattern_is text name b e is = (λ t. subst (IsSpelled text) e (is.0 t), λ s. is.1 (subst (IsSpelled text) (sym e) s))

abbrev master_by : Bool → Bool → Bool
master_by zeros numbers = if zeros then true else numbers

pub zeros_master : (text : List ℕ) (b : Bool) → (IsTrue b ↔ (text ≡ codes "000000")) → b ≡ true → true ≡ names_master text
zeros_master text b is e =
    let zeros : bytes_eq text (codes "000000") ≡ true = same_test b (bytes_eq text (codes "000000")) (text ≡ codes "000000") is (bytes_eq-Decides text (codes "000000")) ∙ e in
    sym (ap (λ (t : Bool). master_by t (is_zeros (step_of text))) zeros)

pub step_master : (text : List ℕ) (b r : Bool) (s : Step) → (IsTrue b ↔ (text ≡ codes "000000")) → b ≡ false → s ≡ step_of text → r ≡ is_zeros s → r ≡ names_master text
step_master text b r s is e same zeros =
    let others : bytes_eq text (codes "000000") ≡ false = same_test b (bytes_eq text (codes "000000")) (text ≡ codes "000000") is (bytes_eq-Decides text (codes "000000")) ∙ e in
    zeros ∙ ap is_zeros same ∙ sym (ap (λ (t : Bool). master_by t (is_zeros (step_of text))) others)

-- the text of the steps
pub no_step : (b : Bool) (text : List ℕ) → b ≡ (length text == 0) → b ≡ true → None ≡ steps_text text
no_step b [] e f = refl
no_step b (x ∷ text) e f = let none : length (x ∷ text) ≡ 0 = eqb-true (length (x ∷ text)) 0 (sym e ∙ f) in absurd (omega (arith, none))

some_step : (b : Bool) (text : List ℕ) → b ≡ (length text == 0) → b ≡ false → steps_text text ≡ (if names_master text then None else Some text)
some_step b [] e f = let clash : false ≡ true = sym f ∙ e in absurd (cc)
some_step b (x ∷ text) e f = refl

pub master_alone : (b n : Bool) (text : List ℕ) → b ≡ (length text == 0) → b ≡ false → n ≡ names_master text → n ≡ true → None ≡ steps_text text
master_alone b n text e f is holds = sym (some_step b text e f ∙ ap (λ (t : Bool). if t then None else Some text) (sym is ∙ holds))

pub other_steps : (b n : Bool) (text : List ℕ) → b ≡ (length text == 0) → b ≡ false → n ≡ names_master text → n ≡ false → Some text ≡ steps_text text
other_steps b n text e f is fails = sym (some_step b text e f ∙ ap (λ (t : Bool). if t then None else Some text) (sym is ∙ fails))
