-- A chain that is reached whole is the chain, and a chain is reached whole.
use Rattle.std.proofs.Common.{◌≡◌, ◌≢◌, ◌+◌, ◌-◌, ◌<◌, ◌≤◌, ℕ, zero, suc, Bool, true, false, List, [], ◌∷◌, ◌++◌, length, Option, Some, None, refl, sym, ap, ◌∙◌, subst, arith, inl, inr}
use Rattle.std.proofs.lemmas.Bool.{cases_lt}
use Rattle.ods_header.specs.declared.home.Home.{Home}
use Rattle.ods_header.specs.Header.{next_number_of, next_sequence_of, sequence_of, blocks_of}
use Rattle.ods_space.specs.Layout.{header_by}
use Rattle.ods_space.specs.Chain.{known, most, IsSegment, Follows}
use Rattle.ods_space.specs.Reach.{ComesTo, IsLast, ReachedIsOne, Reaches, WholeIsChain}
use Rattle.ods_space.specs.Walk.{IsLink, IsPast}
use Rattle.ods_space.specs.Files.{AreInside}
use Rattle.std.specs.Prelude.{IfSome, IfNone}
use Rattle.std.specs.List.{Contains}
use Rattle.ods_space.proofs.Chains.{head_of}
use Rattle.ods_space.proofs.Walks.{link_of}

module _ (I : List (List ℕ)) (h : Home) (index : Option (List ℕ)) (start : ℕ) where
  -- what follows from the header to which the chain comes, follows from the first
  comes_on : (k n : ℕ) (front : List ℕ) → ComesTo I h index start k n front → (others all : List ℕ) → Follows I h index front k n others all
      → (rest : List ℕ) × Follows I h index [] 0 start rest all
  comes_on zero n front comes others all f = (others, subst (λ x. Follows I h index [] 0 x others all) comes.0 (subst (λ l. Follows I h index l 0 n others all) comes.1 f))
  comes_on (suc k) n front comes others all f =
      let m = comes.0 in
      let before = comes.1 in
      let b = header_by I h (known index before) m in
      let named : front ≡ before ++ blocks_of b = comes.6 in
      let next : next_number_of b ≡ n = comes.4 in
      let link = comes.7 in
      let sequence : sequence_of (header_by I h (known index front) n) ≡ next_sequence_of b = subst (λ x. sequence_of (header_by I h (known index front) x) ≡ next_sequence_of b) next link.sequence in
      let on = subst (λ l. (sequence_of (header_by I h (known index l) n) ≡ next_sequence_of b) × Follows I h index l (suc k) n others all) named (sequence, f) in
      comes_on k m before comes.2 (n ∷ others) all (comes.3, next, link.volume, on.0, on.1)

  -- a chain from the header to which it comes is reached whole
  whole_reached : (others : List ℕ) (k n : ℕ) (front all : List ℕ) → ComesTo I h index start k n front → Follows I h index front k n others all → Reaches I h index start all true
  whole_reached [] k n front all comes f = record { k = k; n = n; before = front; comes = comes; here = f.0; named = f.2; last = f.1 }
  whole_reached (m ∷ ms) k n front all comes f =
      let b = header_by I h (known index front) n in
      let front2 = front ++ blocks_of b in
      let first = head_of I h index front2 (suc k) m ms all f.4 in
      let some : m ≢ 0 = λ zero. absurd (omega (arith, first.first, zero)) in
      let link = link_of I h index front k n (m ∷ ms) all (λ e. some (sym f.1 ∙ e)) f in
      whole_reached ms (suc k) m front2 all (n, front, comes, f.0, f.1, some, refl, link) f.4

from_reached : (I : List (List ℕ)) (h : Home) (index : Option (List ℕ)) (start : ℕ) (blocks : List ℕ) → Reaches I h index start blocks true
    → (others : List ℕ) × Follows I h index [] 0 start others blocks
from_reached I h index start blocks reached = comes_on I h index start reached.k reached.n reached.before reached.comes [] blocks (reached.here, reached.last, reached.named)

pub whole_is_chain : WholeIsChain
whole_is_chain I h index start blocks = (from_reached I h index start blocks, λ others f. whole_reached I h index start others 0 start [] blocks (refl, refl) f)

-- the header to which a chain comes, with what is named before it
abbrev Place : Type 0
Place = ℕ × List ℕ

module _ (I : List (List ℕ)) (h : Home) (index : Option (List ℕ)) (start : ℕ) where
  abbrev header_there : Place → List ℕ
  header_there p = header_by I h (known index p.1) p.0

  abbrev named_there : Place → List ℕ
  named_there p = p.1 ++ blocks_of (header_there p)

  -- it comes to one header as segment k
  comes_to_one : (k : ℕ) (p q : Place) → ComesTo I h index start k p.0 p.1 → ComesTo I h index start k q.0 q.1 → p ≡ q
  comes_to_one zero p q f g = λ i. ((f.0 ∙ sym g.0) i, (f.1 ∙ sym g.1) i)
  comes_to_one (suc k) p q f g =
      let before : ◌≡◌ {A = Place} (f.0, f.1) (g.0, g.1) = comes_to_one k (f.0, f.1) (g.0, g.1) f.2 g.2 in
      let numbers : p.0 ≡ q.0 = sym f.4 ∙ ap (λ (x : Place). next_number_of (header_there x)) before ∙ g.4 in
      let fronts : p.1 ≡ q.1 = f.6 ∙ ap named_there before ∙ sym g.6 in
      λ i. (numbers i, fronts i)

  -- what leads further leads on by one
  leads_on : (k d j n : ℕ) (front : List ℕ) → j ≡ d + k → ComesTo I h index start (suc j) n front → (p : Place) × ComesTo I h index start (suc k) p.0 p.1
  leads_on k zero j n front far f = ((n, front), subst (λ x. ComesTo I h index start (suc x) n front) (let same : j ≡ k = omega (arith, far) in same) f)
  leads_on k (suc d) zero n front far f = absurd (omega (arith, far))
  leads_on k (suc d) (suc j) n front far f = leads_on k d j f.0 f.1 (let less : j ≡ d + k = omega (arith, far) in less) f.2

  -- where it leads on by one, the header is not the last
  no_last : (k : ℕ) (on p : Place) (blocks : List ℕ) (whole : Bool) → ComesTo I h index start (suc k) on.0 on.1 → ComesTo I h index start k p.0 p.1
      → blocks ≡ named_there p → IsLast I h index (header_there p) k blocks whole → ⊥
  no_last k on p blocks true f g named last =
      let same : ◌≡◌ {A = Place} (f.0, f.1) p = comes_to_one k (f.0, f.1) p f.2 g in
      f.5 (sym f.4 ∙ ap (λ (x : Place). next_number_of (header_there x)) same ∙ last)
  no_last k on p blocks false f g named last =
      let same : ◌≡◌ {A = Place} (f.0, f.1) p = comes_to_one k (f.0, f.1) p f.2 g in
      let here = subst (λ l. IsLink I h (known index l) (most h index l) (header_there (f.0, f.1)) (suc k)) f.6 f.7 in
      let there = subst (λ (x : Place). IsLink I h (known index (named_there x)) (most h index (named_there x)) (header_there x) (suc k)) same here in
      last.1 (subst (λ l. IsLink I h (known index l) (most h index l) (header_there p) (suc k)) (sym named) there)

  further : (blocks others : List ℕ) (whole other : Bool) (r : Reaches I h index start blocks whole) (s : Reaches I h index start others other) → r.k < s.k → ⊥
  further blocks others whole other r s less =
      let d : ℕ = s.k - r.k - 1 in
      let far : s.k ≡ suc (d + r.k) = omega arith in
      let on = leads_on r.k d (d + r.k) s.n s.before refl (subst (λ x. ComesTo I h index start x s.n s.before) far s.comes) in
      no_last r.k on.0 (r.n, r.before) blocks whole on.1 r.comes r.named r.last

  one_end : (k : ℕ) (b blocks : List ℕ) (whole other : Bool) → IsLast I h index b k blocks whole → IsLast I h index b k blocks other → whole ≡ other
  one_end k b blocks true true f g = refl
  one_end k b blocks false false f g = refl
  one_end k b blocks true false f g = absurd (g.0 f)
  one_end k b blocks false true f g = absurd (f.0 g)

  alike : (blocks others : List ℕ) (whole other : Bool) (r : Reaches I h index start blocks whole) (s : Reaches I h index start others other) → r.k ≡ s.k → (blocks ≡ others) × (whole ≡ other)
  alike blocks others whole other r s same_k =
      let same : ◌≡◌ {A = Place} (r.n, r.before) (s.n, s.before) =
      comes_to_one s.k (r.n, r.before) (s.n, s.before) (subst (λ x. ComesTo I h index start x r.n r.before) same_k r.comes) s.comes in
      let all : blocks ≡ others = r.named ∙ ap named_there same ∙ sym s.named in
      let mine = subst (λ (x : Place). IsLast I h index (header_there x) r.k blocks whole) same r.last in
      let moved = subst (λ l. IsLast I h index (header_there (s.n, s.before)) r.k l whole) all mine in
      let here = subst (λ x. IsLast I h index (header_there (s.n, s.before)) x others whole) same_k moved in
      (all, one_end s.k (header_there (s.n, s.before)) others whole other here s.last)

pub reached_is_one : ReachedIsOne
reached_is_one I h index start blocks others whole other r s = elim (cases_lt r.k s.k) [
  | inl less ↦ absurd (further I h index start blocks others whole other r s less)
  | inr up ↦ elim (cases_lt s.k r.k) [
    | inl more ↦ absurd (further I h index start others blocks other whole s r more)
    | inr down ↦ alike I h index start blocks others whole other r s (omega arith)
  ]
]

-- a block that lies past an image, or that none does
pub is_past : (I : List (List ℕ)) (blocks : List ℕ) (o : Option ℕ) → IfSome o (λ lbn. Contains blocks lbn × (length I ≤ lbn)) → IfNone o (AreInside I blocks) → IsPast (length I) blocks o
is_past I blocks (Some lbn) found none = found
is_past I blocks None found inside = inside
