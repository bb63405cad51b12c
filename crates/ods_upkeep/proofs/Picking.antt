-- The entry that is picked among the entries of a name, and the kind of its file.
use Rattle.std.proofs.Common.{◌≡◌, ◌≢◌, ◌+◌, ◌<◌, refl, ap, sym, subst, ◌∙◌, ℕ, Bool, true, false, cond, List, [], ◌∷◌, ◌++◌, Option, Some, None, arith, leb-true, eqb-true, eq-eqb, inl, inr}
use Rattle.std.specs.Prelude.{nat_eq, nat_le}
use Rattle.std.proofs.lemmas.Bool.{leb-false}
use Rattle.std.proofs.lemmas.List.Elements.{Contains-append_left, Contains-push, Contains-push_cases}
use Rattle.ods_base.specs.declared.listed.Listed.{Listed}
use Rattle.ods_space.specs.Layout.{VolumeLayout}
use Rattle.ods_shell.specs.Facts.{AreFacts}
use Rattle.ods_shell.specs.declared.facts.Facts.{Facts}
use Rattle.ods_shell.specs.declared.facts.Kind.TheVariants.{Directory}
use Rattle.ods_upkeep.specs.Before.{AreOfPick, IsPick, IsPicked, pick_of}

-- of no entries none is picked
pub pick_none : (said : Option ℕ) → IsPicked said [] None
pick_none None = λ e has. (let below : has.0 < 0 = has.1 in absurd (omega arith))
pick_none (Some v) = λ e has. (let below : has.0 < 0 = has.1 in absurd (omega arith))

-- with a version
exact_more : (v : ℕ) (xs : List Listed) (e : Listed) (before : Option Listed) → IsPicked (Some v) xs before → (b : Bool) → nat_eq e.version v ≡ b → IsPicked (Some v) (xs ++ e ∷ []) (cond b (Some e) before)
exact_more v xs e before is true same = (Contains-push xs e, eqb-true e.version v same)
exact_more v xs e None none false other = λ x there. elim (Contains-push_cases xs e x there) [
  | inl old ↦ none x old
  | inr one ↦ (λ equal. (let here : e.version ≡ v = ap (λ (y : Listed). y.version) one ∙ equal in let wrong : true ≡ false = sym (eq-eqb e.version v here) ∙ other in absurd (cc)))
]
exact_more v xs e (Some o) one false other = (Contains-append_left xs (e ∷ []) o one.0, one.1)

-- with the highest
higher_more : (xs : List Listed) (e o : Listed) → IsPick None xs o → (b : Bool) → nat_le o.version e.version ≡ b → IsPicked None (xs ++ e ∷ []) (cond b (Some e) (Some o))
higher_more xs e o one true up = (
  Contains-push xs e,
  λ x there. elim (Contains-push_cases xs e x there) [
    | inl old ↦ omega (arith, one.1 x old, leb-true o.version e.version up)
    | inr same ↦ (let here : e.version ≡ x.version = ap (λ (y : Listed). y.version) same in omega (arith, here))
  ],
)
higher_more xs e o one false down = (
  Contains-append_left xs (e ∷ []) o one.0,
  λ x there. elim (Contains-push_cases xs e x there) [
    | inl old ↦ one.1 x old
    | inr same ↦ (let here : e.version ≡ x.version = ap (λ (y : Listed). y.version) same in omega (arith, here, leb-false o.version e.version down))
  ],
)

-- one entry more
pub pick_more : (said : Option ℕ) (xs : List Listed) (e : Listed) (before : Option Listed) → IsPicked said xs before → IsPicked said (xs ++ e ∷ []) (pick_of said before e)
pick_more (Some v) xs e before is = exact_more v xs e before is (nat_eq e.version v) refl
pick_more None xs e None none = (
  Contains-push xs e,
  λ x there. elim (Contains-push_cases xs e x there) [
    | inl old ↦ absurd (none x old)
    | inr same ↦ (let here : e.version ≡ x.version = ap (λ (y : Listed). y.version) same in omega (arith, here))
  ],
)
pick_more None xs e (Some o) one = higher_more xs e o one (nat_le o.version e.version) refl

-- the kind of a file is determined
pub same_kind : (I : List (List ℕ)) (L : VolumeLayout) (n : ℕ) (one other : Facts) → AreFacts I L n one → AreFacts I L n other → one.kind ≡ other.kind
same_kind I L n one other p q = ap (λ (f : Facts). f.kind) p.are ∙ sym (ap (λ (f : Facts). f.kind) q.are)

-- the entry has no file
pub no_file : (I : List (List ℕ)) (L : VolumeLayout) (picked : Option Listed) (e : Listed) → picked ≡ Some e → ((facts : Facts) → AreFacts I L e.file.number facts → facts.file ≢ e.file) → AreOfPick I L picked None
no_file I L picked e is none = subst (λ (o : Option Listed). AreOfPick I L o None) (sym is) (λ facts are same. absurd (none facts are same))

-- or a directory
pub is_directory : (I : List (List ℕ)) (L : VolumeLayout) (picked : Option Listed) (e : Listed) (facts : Facts) → picked ≡ Some e → AreFacts I L e.file.number facts → facts.kind ≡ Directory → AreOfPick I L picked None
is_directory I L picked e facts is are kind = subst (λ (o : Option Listed). AreOfPick I L o None) (sym is) (λ other those same. same_kind I L e.file.number other facts those are ∙ kind)
