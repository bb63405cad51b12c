-- Arguments that are added one behind another.
use Rattle.std.proofs.Common.{◌≡◌, ◌∙◌, ◌<◌, ◌≤◌, ◌+◌, ℕ, Bool, true, false, not, ◌&&◌, List, [], ◌∷◌, ◌++◌, map, length, take, get_or, Option, Some, None, if◌then◌else◌, append_assoc, refl, ap, ap₂, sym, subst, nat_eq, codes, drop}
use Rattle.std.specs.Borrow.{Bor}
use Rattle.std.specs.List.{starts_with}
use Rattle.std.specs.Option.{IsSomeAnd}
use Rattle.std.specs.Str.{bytes_eq, IsCharBoundary}
use Rattle.std.specs.Str.Pattern.{FindsTextPrefix, StripsPrefix}
use Rattle.std.proofs.lemmas.List.{append-nil, length-map, map-append, take_all, take_more}
use Rattle.std.proofs.lemmas.Str.Pattern.{starts_text}
use Rattle.clap.specs.Simple.{App, Shape, new_rule, on_top, with_rule}
use Rattle.clap.specs.Walk.{Rule, is_empty, is_free_arg, rule_of}
use Rattle.clap.specs.declared.builder.arg.Arg.{Arg}
use Rattle.fs_words.specs.declared.arguments.Argument.{Argument}
use Rattle.fs_words.specs.Kinds.{IsKindOf}
use Rattle.fs_words.specs.Rules.{name_of, others, rule_for, rule_in, with_rules}

-- the value of an option of which just this is known
pub some_is : {A : Type 0} (o : Option A) (x : A) → IsSomeAnd o (λ (r : A). r ≡ x) → o ≡ Some x
some_is None x h = absurd h
some_is (Some y) x h = ap Some h

-- no arguments are added
pub no_rules : (a : App) → a ≡ with_rules [] a
no_rules a = sym (ap (λ (rs : List Rule). on_top (λ (s : Shape). record s { rules = rs }) a) (append-nil a.top.rules))

-- one more
pub rule_more : {A : Type 0} (f : A → Rule) (xs : List A) (i : ℕ) (d : A) (first old new : App) (r : Rule) → i < length xs → old ≡ with_rules (map f (take i xs)) first → new ≡ with_rule old r → r ≡ f (get_or xs i d)
    → new ≡ with_rules (map f (take (i + 1) xs)) first
rule_more {A = A} f xs i d first old new r lt o n e =
    n ∙ (ap₂ with_rule o e ∙ (ap (λ (rs : List Rule). on_top (λ (s : Shape). record s { rules = rs }) first) (append_assoc first.top.rules (map f (take i xs)) (f (get_or xs i d) ∷ []))
    ∙ ap (λ (ys : List Rule). with_rules ys first) (sym (ap (λ (ys : List A). map f ys) (take_more xs i d lt) ∙ map-append f (take i xs) (get_or xs i d ∷ [])))))

-- all
pub rules_all : {A : Type 0} (f : A → Rule) (xs : List A) (i : ℕ) (first new : App) → length xs ≤ i → new ≡ with_rules (map f (take i xs)) first → new ≡ with_rules (map f xs) first
rules_all {A = A} f xs i first new le e = e ∙ ap (λ (ys : List A). with_rules (map f ys) first) (take_all i xs le)

-- the others that an argument cannot stand with, by parts of the pairs
chosen : (b : Bool) (x : List ℕ) (a c d : List (List ℕ)) → a ≡ c ++ d → (if b then x ∷ a else a) ≡ (if b then x ∷ c else c) ++ d
chosen true x a c d e = ap (λ (l : List (List ℕ)). x ∷ l) e
chosen false x a c d e = e

pub others_append : (id : List ℕ) (xs ys : List (Bor (List ℕ) × Bor (List ℕ))) → others id (xs ++ ys) ≡ others id xs ++ others id ys
others_append id [] ys = refl
others_append id (p ∷ xs) ys = chosen (bytes_eq p.0.now id) p.1.now (others id (xs ++ ys)) (others id xs) (others id ys) (others_append id xs ys)

pub others_more : (id : List ℕ) (pairs : List (Bor (List ℕ) × Bor (List ℕ))) (i : ℕ) (d : Bor (List ℕ) × Bor (List ℕ)) (first old new : List (List ℕ)) → i < length pairs → old ≡ first ++ others id (take i pairs)
    → new ≡ old ++ others id (get_or pairs i d ∷ []) → new ≡ first ++ others id (take (i + 1) pairs)
others_more id pairs i d first old new lt o n =
    n ∙ (ap (λ (l : List (List ℕ)). l ++ others id (get_or pairs i d ∷ [])) o ∙ (append_assoc first (others id (take i pairs)) (others id (get_or pairs i d ∷ []))
    ∙ ap (λ (l : List (List ℕ)). first ++ l) (sym (ap (others id) (take_more pairs i d lt) ∙ others_append id (take i pairs) (get_or pairs i d ∷ [])))))

pub others_all : (id : List ℕ) (pairs : List (Bor (List ℕ) × Bor (List ℕ))) (i : ℕ) (first new : List (List ℕ)) → length pairs ≤ i → new ≡ first ++ others id (take i pairs) → new ≡ first ++ others id pairs
others_all id pairs i first new le e = e ∙ ap (λ (ps : List (Bor (List ℕ) × Bor (List ℕ))). first ++ others id ps) (take_all i pairs le)

-- what differs of two arguments in turn
pub same_more : (a b c : Arg) → b ≡ record a { conflicts = b.conflicts } → c ≡ record b { conflicts = c.conflicts } → c ≡ record a { conflicts = c.conflicts }
same_more a b c e f = f ∙ ap (λ (x : Arg). record x { conflicts = c.conflicts }) e

-- an argument of a kind, which stands with all but these
pub free_of : (old kind new : Arg) (x : Argument) (pairs : List (Bor (List ℕ) × Bor (List ℕ))) → rule_of old ≡ new_rule (name_of x) → old.conflicts.items ≡ [] → rule_of kind ≡ rule_for x (rule_of old) → IsKindOf old kind
    → new ≡ record kind { conflicts = new.conflicts } → map (λ (s : Bor (List ℕ)). s.now) new.conflicts.items ≡ others (name_of x) pairs → rule_of new ≡ rule_in pairs x
free_of old kind new x pairs o none k same e others_are =
    let made : rule_of new ≡ record (rule_of kind) { is_free = is_free_arg new } = ap rule_of e ∙ ap (λ (a : Arg). record (rule_of kind) { is_free = is_free_arg a }) (sym e) in
    let whole : is_free_arg old ≡ true = ap (λ (r : Rule). r.is_free) o in
    let free : is_free_arg new ≡ is_empty new.conflicts.items = ap is_free_arg e ∙ (ap (λ (a : Arg). is_free_arg (record a { conflicts = new.conflicts })) same ∙ all_but old.exclusive (is_empty old.conflicts.items) _ (is_empty new.conflicts.items) whole) in
    let count : length new.conflicts.items ≡ length (others (name_of x) pairs) = sym (length-map new.conflicts.items (λ (s : Bor (List ℕ)). s.now)) ∙ ap length others_are in
    made ∙ (ap (λ (b : Bool). record (rule_of kind) { is_free = b }) (free ∙ ap (λ (n : ℕ). nat_eq n 0) count) ∙ ap (λ (r : Rule). record r { is_free = is_empty (others (name_of x) pairs) }) (k ∙ ap (rule_for x) o))
  where
    all_but : (a b c d : Bool) → (not a && (b && c)) ≡ true → (not a && (d && c)) ≡ d
    all_but true b c d h = absurd (cc)
    all_but false true true true h = refl
    all_but false true true false h = refl
    all_but false true false d h = absurd (cc)
    all_but false false c d h = absurd (cc)

-- how an option is written
pub cut : (option word : List ℕ) → StripsPrefix (FindsTextPrefix (codes "--")) option word → (starts_with nat_eq option (codes "--") ≡ true) × (word ≡ drop 2 option)
cut option word h = (sym (starts_text true (codes "--") option (h.0, h.1, subst (λ (n : ℕ). IsCharBoundary option n) (sym h.1.0) h.1.2)), h.2 ∙ ap (λ (k : ℕ). drop k option) h.1.0)

pub uncut : (option : List ℕ) → FindsTextPrefix (codes "--") option None → starts_with nat_eq option (codes "--") ≡ false
uncut option h = sym (starts_text false (codes "--") option h)
