-- Ways along the parts of a path, one part after another.
use Rattle.std.proofs.Common.{◌≡◌, ◌∙◌, ℕ, ◌<◌, Bool, true, false, List, [], ◌∷◌, length, Option, Some, None, Result, Ok, Err, refl, sym, ap, subst, inl, inr, arith}
use Rattle.std.specs.Prelude.{◌==◌, IfErr, MatchBool, MatchResult, OnOk}
use Rattle.std.specs.Borrow.{Bor}
use Rattle.std.specs.Option.{option_map}
use Rattle.std.proofs.lemmas.Option.{same_Some}
use Rattle.ods_text.specs.Cuts.{cut_of}
use Rattle.ods_filing.specs.Filed.{Filed}
use Rattle.ods_space.specs.Layout.{VolumeLayout}
use Rattle.ods_paths.specs.Paths.{Folder}
use Rattle.ods_shell.specs.declared.path_fault.PathFault.TheVariants.{Nothing}
use Rattle.ods_upkeep.specs.Made.{AreMade, IsMade}
use Rattle.ods_upkeep.specs.Unmade.{AreNotMade, IsNotMade}
use Rattle.ods_upkeep.specs.Refused.{no_memory}
use Rattle.ods_upkeep.specs.Target.{IsNoDirectory, MeansNothing}
use Rattle.ods_upkeep.specs.Wayside.{IsNotThere, IsParted, IsStepMade, IsStepRefused, IsThereThen, IsWay, StopsOnWay, further, names_nothing, with_part}
use Rattle.ods_upkeep.specs.declared.failure.Failure.{Failure}
use Rattle.ods_upkeep.specs.declared.failure.Why.{Why}
use Rattle.ods_upkeep.specs.declared.failure.Why.TheVariants.{Path, Several}

-- behind a cut there is less
abbrev longer : ℕ → Option (List ℕ × List ℕ) → Option (List ℕ × List ℕ)
longer b o = option_map {U = List ℕ × List ℕ} (λ (p : List ℕ × List ℕ). (b ∷ p.0, p.1)) o

behind_longer : (b : ℕ) (o : Option (List ℕ × List ℕ)) (front back : List ℕ) → longer b o ≡ Some (front, back) → (f : List ℕ) × (o ≡ Some (f, back))
behind_longer b None front back e = absurd (cc e)
behind_longer b (Some p) front back e = (p.0, ap (λ (q : List ℕ × List ℕ). Some (p.0, q.1)) (same_Some (b ∷ p.0, p.1) (front, back) e))

pub cut_shorter : (c : ℕ) (text front back : List ℕ) → cut_of c text ≡ Some (front, back) → length back < length text
cut_shorter c [] front back e = absurd (cc e)
cut_shorter c (b ∷ text) front back e = by (b == c) refl (λ f g h. cut_shorter c text f g h)
  where
    by : (r : Bool) → (b == c) ≡ r → ((f g : List ℕ) → cut_of c text ≡ Some (f, g) → length g < length text) → length back < length (b ∷ text)
    by true r rest =
        let here : cut_of c (b ∷ text) ≡ Some ([], text) = rw r refl in
        let pair : ◌≡◌ {A = List ℕ × List ℕ} ([], text) (front, back) = same_Some ([], text) (front, back) (sym here ∙ e) in
        omega (arith, ap (λ (p : List ℕ × List ℕ). length p.1) pair)
    by false r rest =
        let on : cut_of c (b ∷ text) ≡ longer b (cut_of c text) = rw r refl in
        let more = behind_longer b (cut_of c text) front back (sym on ∙ e) in
        omega (arith, rest more.0 back more.1)

-- these parts are left, and what they lead to is what all lead to
pub record LeadsBy (stamp : List ℕ) (parts : List (List ℕ)) (last rest way : List ℕ) (old now : Filed) : Type 0 where
  pub more : List (List ℕ)
  pub parted : IsParted rest more last
  pub ways : (end : List ℕ) (new : Filed) → IsWay stamp more way now end new → IsWay stamp parts [] old end new
  pub stops : (new : Filed) (why : Why) → StopsOnWay stamp more way now new why → StopsOnWay stamp parts [] old new why

abbrev pub Leads : List ℕ → List ℕ → List ℕ → List ℕ → Filed → Filed → Type 0
Leads stamp path rest way old now = (parts : List (List ℕ)) (last : List ℕ) → IsParted path parts last → LeadsBy stamp parts last rest way old now

pub begun : (stamp path way : List ℕ) (f : Filed) → way ≡ [] → Leads stamp path path way f f
begun stamp path way f none = λ parts last parted. record {
  more = parts;
  parted = parted;
  ways = λ end new w. subst (λ v. IsWay stamp parts v f end new) none w;
  stops = λ new why s. subst (λ v. StopsOnWay stamp parts v f new why) none s;
}

-- the part in front is the first of those that are left
pub record Front (rest part behind last : List ℕ) (more : List (List ℕ)) : Type 0 where
  pub others : List (List ℕ)
  pub whole : more ≡ part ∷ others
  pub parted : IsParted behind others last

pub front : (rest part behind last : List ℕ) (more : List (List ℕ)) → cut_of 47 rest ≡ Some (part, behind) → IsParted rest more last → Front rest part behind last more
front rest part behind last [] cut parted = (let clash : None ≡ Some (part, behind) = sym parted.0 ∙ cut in absurd (cc clash))
front rest part behind last (p ∷ others) cut parted =
    let pair : (p, parted.0) ≡ (part, behind) = same_Some (p, parted.0) (part, behind) (sym parted.1 ∙ cut) in
    record {
      others = others;
      whole = ap (λ (q : List ℕ × List ℕ). q.0 ∷ others) pair;
      parted = subst (λ (q : List ℕ × List ℕ). IsParted q.1 others last) pair parted.2;
    }

pub leads_on : (stamp path rest part behind way next : List ℕ) (old now mid : Filed) → Leads stamp path rest way old now → cut_of 47 rest ≡ Some (part, behind) → next ≡ further way part → IsStepMade stamp way part now mid
    → Leads stamp path behind next old mid
leads_on stamp path rest part behind way next old now mid so cut is made = λ parts last parted.
    let by = so parts last parted in
    let f = front rest part behind last by.more cut by.parted in
    record {
      more = f.others;
      parted = f.parted;
      ways = λ end new w. by.ways end new (subst (λ l. IsWay stamp l way now end new) (sym f.whole) (mid, made, subst (λ v. IsWay stamp f.others v mid end new) is w));
      stops = λ new why s. by.stops new why (subst (λ l. StopsOnWay stamp l way now new why) (sym f.whole) (inr (mid, made, subst (λ v. StopsOnWay stamp f.others v mid new why) is s)));
    }

pub led_to : (stamp path rest way : List ℕ) (old now : Filed) → Leads stamp path rest way old now → cut_of 47 rest ≡ None → (parts : List (List ℕ)) (last : List ℕ) → IsParted path parts last → IsWay stamp parts [] old way now
led_to stamp path rest way old now so none parts last parted = (let by = so parts last parted in by.ways way now (done by.more by.parted))
  where
    done : (more : List (List ℕ)) → IsParted rest more last → IsWay stamp more way now way now
    done [] p = (refl, refl)
    done (q ∷ more) p = (let clash : None ≡ Some (q, p.0) = sym none ∙ p.1 in absurd (cc clash))

pub led_wrong : (stamp path rest part behind way : List ℕ) (old now new : Filed) (why : Why) → Leads stamp path rest way old now → cut_of 47 rest ≡ Some (part, behind) → IsStepRefused stamp way part now new why
    → (parts : List (List ℕ)) (last : List ℕ) → IsParted path parts last → StopsOnWay stamp parts [] old new why
led_wrong stamp path rest part behind way old now new why so cut refused parts last parted =
    let by = so parts last parted in
    let f = front rest part behind last by.more cut by.parted in
    by.stops new why (subst (λ l. StopsOnWay stamp l way now new why) (sym f.whole) (inl refused))

-- whatever the rest is parted into, the path is parted into more
abbrev pub Reaches : List ℕ → List ℕ → Type 0
Reaches path rest = (last : List ℕ) (more : List (List ℕ)) → IsParted rest more last → (parts : List (List ℕ)) × IsParted path parts last

pub reaches_itself : (path : List ℕ) → Reaches path path
reaches_itself path last more parted = (more, parted)

pub reaches_on : (path rest part behind : List ℕ) → Reaches path rest → cut_of 47 rest ≡ Some (part, behind) → Reaches path behind
reaches_on path rest part behind so cut last more parted = so last (part ∷ more) (behind, cut, parted)

pub reached : (path rest : List ℕ) → Reaches path rest → cut_of 47 rest ≡ None → (parts : List (List ℕ)) × IsParted path parts rest
reached path rest so none = so rest [] (none, refl)

-- one directory
pub one_made : (stamp : List ℕ) (path : Bor (List ℕ)) (old new : Filed) → AreMade None 0 stamp (path ∷ []) old new → IsMade None 0 stamp path.now old new
one_made stamp path old new made = subst (IsMade None 0 stamp path.now old) (sym made.2) made.1

pub one_not_made : (stamp : List ℕ) (path : Bor (List ℕ)) (old new : Filed) (failure : Failure) → AreNotMade None 0 stamp (path ∷ []) old new failure → IsNotMade None 0 stamp path.now old new failure.why
one_not_made stamp path old new failure (inl none) = none.0
one_not_made stamp path old new failure (inr other) = absurd other.2

-- of this reason there is no directory
pub nothing_there : (I : List (List ℕ)) (L : VolumeLayout) (folder : Folder) → IsNoDirectory I L folder (Path Nothing) → MeansNothing I L folder
nothing_there I L folder (inl none) = none.1
nothing_there I L folder (inr (inl several)) = (let clash : Path Nothing ≡ Several = several.0 in absurd (cc clash))
nothing_there I L folder (inr (inr memory)) = (let clash : Path Nothing ≡ no_memory = memory in absurd (cc clash))

-- the directory behind a part is there then, or is not
pub step_made : {A : Type 0} (r : Result A Why) (stamp way part text : List ℕ) (old new : Filed) → names_nothing part ≡ false → text ≡ with_part way part
    → MatchResult r (λ _. IsThereThen stamp text old new) (IsNotThere stamp text old new) → OnOk r (IsStepMade stamp way part old new)
step_made (Ok x) stamp way part text old new some same there =
    subst (λ b. MatchBool b (new ≡ old) (IsThereThen stamp (with_part way part) old new)) (sym some) (subst (λ t. IsThereThen stamp t old new) same there)
step_made (Err why) stamp way part text old new some same none = tt

pub step_refused : {A : Type 0} (r : Result A Why) (stamp way part text : List ℕ) (old new : Filed) → names_nothing part ≡ false → text ≡ with_part way part
    → MatchResult r (λ _. IsThereThen stamp text old new) (IsNotThere stamp text old new) → IfErr r (IsStepRefused stamp way part old new)
step_refused (Ok x) stamp way part text old new some same there = tt
step_refused (Err why) stamp way part text old new some same none = inr (some, subst (λ t. IsNotThere stamp t old new why) same none)
