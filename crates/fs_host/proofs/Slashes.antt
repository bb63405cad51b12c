-- Where the last slash of a path cuts it.
use Rattle.std.specs.Prelude.{◌≡◌, ◌≢◌, ℕ, ◌+◌, ◌<◌, ◌≤◌, Bool, true, false, ◌==◌, Option, Some, None, MatchBool, Result, Ok, Err, IfOk, List, [], ◌∷◌, ◌++◌, length, take, drop, codes}
use Rattle.std.specs.Str.{IsCharBoundary}
use Rattle.std.specs.Str.Pattern.{RFindsChar, FindsCharPrefix}
use Rattle.std.proofs.Common.{refl, sym, ap, subst, ◌∙◌, arith, lit<, inl, inr}
use Rattle.std.proofs.lemmas.Bool.Decides.{nat_tests}
use Rattle.std.proofs.lemmas.List.{take-append-drop}
use Rattle.std.proofs.lemmas.Str.Pattern.{NoCharPasses-char, drop_at_char, starts_char}
use Rattle.fs_host.specs.Names.{LacksSlash, AreParts, LeadsTo, IsFromRoot}

-- the clause of `rsplit_once` at a slash
abbrev pub IsCut : List ℕ → List ℕ → List ℕ → Type 0
IsCut path folder name = (i : ℕ) × (j : ℕ) × RFindsChar 47 path (Some (i, j)) × (folder ≡ take i path) × (name ≡ drop j path) × (i ≤ j) × (length folder ≡ i) × (length name + j ≡ length path)

-- the parts and the slash between them are the path
pub cut_joined : (path folder name : List ℕ) → IsCut path folder name → path ≡ folder ++ 47 ∷ name
cut_joined path folder name h =
    let at : drop h.0 path ≡ 47 ∷ drop h.1 path = drop_at_char 47 path h.0 h.1 h.2.1 (lit< tt) in
    let whole : take h.0 path ++ drop h.0 path ≡ path = take-append-drop h.0 path in
    let front : folder ≡ take h.0 path = h.3 in
    let back : name ≡ drop h.1 path = h.4 in
    cc

-- the name has no slash
pub cut_alone : (path folder name : List ℕ) → IsCut path folder name → LacksSlash name
cut_alone path folder name h = rw h.4 (λ i low. NoCharPasses-char 47 (drop h.1 path) i h.2.0 (lit< tt) low)

-- nor has a path that is not cut
pub uncut_alone : (path : List ℕ) → RFindsChar 47 path None → LacksSlash path
uncut_alone path h = λ i low. NoCharPasses-char 47 path i h (lit< tt) low

-- the parts of a path in a folder, of one at the root, and of a name alone
pub parts_in : (path folder name : List ℕ) (r : Bool) → IsCut path folder name → r ≡ (length folder == 0) → r ≡ false → AreParts path folder name
parts_in path [] name r h e f = let wrong : true ≡ false = sym e ∙ f in absurd (cc)
parts_in path (b ∷ folder) name r h e f = record { name_alone = cut_alone path (b ∷ folder) name h; joined = inr (inr (λ none. absurd (cc), cut_joined path (b ∷ folder) name h)) }

pub parts_at_root : (path folder name : List ℕ) (r : Bool) → IsCut path folder name → r ≡ (length folder == 0) → r ≡ true → AreParts path (codes "/") name
parts_at_root path [] name r h e t = record { name_alone = cut_alone path [] name h; joined = inr (inl (cut_joined path [] name h, refl)) }
parts_at_root path (b ∷ folder) name r h e t = let wrong : (length (b ∷ folder) == 0) ≡ true = sym e ∙ t in absurd (grind (arith, nat_tests))

pub parts_alone : (path : List ℕ) → RFindsChar 47 path None → AreParts path (codes ".") path
parts_alone path h = record { name_alone = uncut_alone path h; joined = inl (refl, refl) }

-- a text that does not start with a slash is no way from the root
pub not_from_root : (link : List ℕ) (r : Bool) → MatchBool r ((n : ℕ) × FindsCharPrefix 47 link (Some n) × IsCharBoundary link n) (FindsCharPrefix 47 link None) → r ≡ false → ¬ IsFromRoot link
not_from_root link r h false_is = λ root. let yes : r ≡ true = (starts_char 47 link r h (lit< tt) (lit< tt)).1 root in let wrong : true ≡ false = sym yes ∙ false_is in absurd (cc)

-- where a link leads that is joined to a folder
pub leads_in : (path folder name link : List ℕ) → IsCut path folder name → ¬ IsFromRoot link → LeadsTo path link (folder ++ 47 ∷ link)
leads_in path folder name link h far = inr (inr (far, (folder, name, cut_alone path folder name h, cut_joined path folder name h, refl)))

-- a text that is made, where it is one to which the link leads
pub leads_ok : {X E : Type 0} (r : Result X E) (bytes : X → List ℕ) (path link whole : List ℕ) → IfOk r (λ t. bytes t ≡ whole) → LeadsTo path link whole → IfOk r (λ t. LeadsTo path link (bytes t))
leads_ok (Ok t) bytes path link whole e leads = subst (LeadsTo path link) (sym e) leads
leads_ok (Err _) bytes path link whole e leads = tt
