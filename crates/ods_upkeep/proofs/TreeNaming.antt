-- Names of a tree of the host, one folder after another.
use Rattle.std.proofs.Common.{◌≡◌, ◌≢◌, ◌∙◌, ℕ, List, [], ◌∷◌, ◌++◌, Option, Some, None, Result, Ok, Err, refl, sym, ap, subst, inl, inr}
use Rattle.std.specs.Prelude.{MatchResult, codes}
use Rattle.std.proofs.lemmas.List.{append_assoc, append-nil}
use Rattle.std.proofs.lemmas.Option.{same_Some}
use Rattle.ods_text.specs.Cuts.{cut_of}
use Rattle.ods_base.specs.Name.{RadName, Spells, directory_type}
use Rattle.ods_base.specs.declared.name.Pick.TheVariants.{Highest}
use Rattle.ods_paths.specs.Patterns.{capitals}
use Rattle.ods_paths.specs.Steps.{Step, step_of}
use Rattle.ods_upkeep.specs.HostNames.{IsNoName, IsTyped, IsUntyped, title_of, type_of}
use Rattle.ods_upkeep.specs.Meant.{SaysName}
use Rattle.ods_upkeep.specs.Refused.{no_memory}
use Rattle.ods_upkeep.specs.Target.{IsNoName as SpellsNone}
use Rattle.ods_upkeep.specs.TreeNames.{AreFolderNames, AreNoFolderNames, IsFolderName, IsNoFolderName, IsNoTreeName, IsSaidVersion, IsTreeName, SaysKind, SaysKindBy, SaysNoKind, SaysNoKindBy, nameless, not_typed, of_directory, unsaid}
use Rattle.ods_upkeep.specs.Wayside.{IsParted}
use Rattle.ods_upkeep.specs.declared.failure.Why.{Why}
use Rattle.ods_upkeep.specs.declared.failure.Why.TheVariants.{BadName, DirectoryType, Put}
use Rattle.ods_upkeep.specs.declared.put_fault.PutFault.TheVariants.{Untyped}
use Rattle.ods_upkeep.proofs.WaysMade.{front}

-- these folders are left, and with their names those of all are known
pub record NamesBy (folders : List (List ℕ)) (last rest : List ℕ) (names : List RadName) : Type 0 where
  pub more : List (List ℕ)
  pub parted : IsParted rest more last
  pub all : (others : List RadName) → AreFolderNames more others → AreFolderNames folders (names ++ others)
  pub none : (why : Why) → AreNoFolderNames more why → AreNoFolderNames folders why

abbrev pub NamesSo : List ℕ → List ℕ → List RadName → Type 0
NamesSo path rest names = (folders : List (List ℕ)) (last : List ℕ) → IsParted path folders last → NamesBy folders last rest names

pub names_begun : (path : List ℕ) (names : List RadName) → names ≡ [] → NamesSo path path names
names_begun path names empty = λ folders last parted. record {
  more = folders;
  parted = parted;
  all = λ others are. subst (λ ns. AreFolderNames folders (ns ++ others)) (sym empty) are;
  none = λ why w. w;
}

pub names_on : (path rest part behind : List ℕ) (names next : List RadName) (name : RadName) → NamesSo path rest names → cut_of 47 rest ≡ Some (part, behind) → IsFolderName part name → next ≡ names ++ name ∷ [] → NamesSo path behind next
names_on path rest part behind names next name so cut is new = λ folders last parted.
    let by = so folders last parted in
    let f = front rest part behind last by.more cut by.parted in
    record {
      more = f.others;
      parted = f.parted;
      all = λ others are.
          let these : AreFolderNames by.more (name ∷ others) = subst (λ l. AreFolderNames l (name ∷ others)) (sym f.whole) (name, others, is, refl, are) in
          subst (AreFolderNames folders) (sym (append_assoc names (name ∷ []) others) ∙ ap (λ ns. ns ++ others) (sym new)) (by.all (name ∷ others) these);
      none = λ why w. by.none why (subst (λ l. AreNoFolderNames l why) (sym f.whole) (inr (inr w)));
    }

-- at the end all are named
pub names_all : (path rest : List ℕ) (names : List RadName) → NamesSo path rest names → cut_of 47 rest ≡ None → (folders : List (List ℕ)) (last : List ℕ) → IsParted path folders last → AreFolderNames folders names
names_all path rest names so none folders last parted = (let by = so folders last parted in done by.more by.parted by.all)
  where
    done : (more : List (List ℕ)) → IsParted rest more last → ((others : List RadName) → AreFolderNames more others → AreFolderNames folders (names ++ others)) → AreFolderNames folders names
    done [] p all = subst (AreFolderNames folders) (append-nil names) (all [] refl)
    done (q ∷ more) p all = (let clash : None ≡ Some (q, p.0) = sym none ∙ p.1 in absurd (cc clash))

-- a folder is none
pub names_wrong : (path rest part behind : List ℕ) (names : List RadName) (why : Why) → NamesSo path rest names → cut_of 47 rest ≡ Some (part, behind) → IsNoFolderName part why
    → (folders : List (List ℕ)) (last : List ℕ) → IsParted path folders last → AreNoFolderNames folders why
names_wrong path rest part behind names why so cut wrong folders last parted =
    let by = so folders last parted in
    let f = front rest part behind last by.more cut by.parted in
    by.none why (subst (λ l. AreNoFolderNames l why) (sym f.whole) (inl wrong))

-- there is no memory for its name
pub names_lost : (path rest part behind : List ℕ) (names : List RadName) (why : Why) → NamesSo path rest names → cut_of 47 rest ≡ Some (part, behind) → why ≡ no_memory
    → (folders : List (List ℕ)) (last : List ℕ) → IsParted path folders last → AreNoFolderNames folders why
names_lost path rest part behind names why so cut lost folders last parted =
    let by = so folders last parted in
    let f = front rest part behind last by.more cut by.parted in
    by.none why (subst (λ l. AreNoFolderNames l why) (sym f.whole) (inr (inl lost)))

-- the name of a folder is made, or not, of the text that its step says
pub folder_named : {A : Type 0} (r : Result A Why) (name_in : A → RadName) (folder text : List ℕ) (step : Step) → step ≡ step_of folder → SaysName step (capitals text) → text ≢ codes "000000"
    → MatchResult r (λ n. Spells (capitals text ++ codes ".DIR") (name_in n) Highest) (SpellsNone (capitals text) (codes "DIR"))
    → MatchResult r (λ n. IsFolderName folder (name_in n)) (IsNoFolderName folder)
folder_named (Ok n) name_in folder text step is says other spelled = (text, subst (λ s. SaysName s (capitals text)) is says, other, spelled)
folder_named (Err why) name_in folder text step is says other none = inr (text, subst (λ s. SaysName s (capitals text)) is says, inr none)

-- The bytes of a file's name are looked at.
module _ (host bytes : List ℕ) (same : bytes ≡ host) where
  some_name : ¬ IsNoName bytes → ¬ IsNoName host
  some_name other none = other (subst IsNoName (sym same) none)

  pub is_nameless : IsNoName bytes → IsNoTreeName host BadName
  is_nameless none = nameless (subst IsNoName same none)

  pub is_not_typed : (c : ℕ) → ¬ IsNoName bytes → IsUntyped bytes c → IsNoTreeName host (Put (Untyped c))
  is_not_typed c other has = not_typed c (some_name other) (subst (λ b. IsUntyped b c) same has)

  module _ (title behind : List ℕ) (other : ¬ IsNoName bytes) (typed : IsTyped bytes) (are : (title ≡ title_of bytes) × (behind ≡ type_of bytes)) where
    pub is_unsaid : (why : Why) → SaysNoKind title behind why → IsNoTreeName host why
    is_unsaid why none =
        unsaid why (some_name other) (subst IsTyped same typed)
        (subst (λ t. SaysNoKind (title_of t) (type_of t) why) same (subst (λ k. SaysNoKind (title_of bytes) k why) are.1 (subst (λ t. SaysNoKind t behind why) are.0 none)))

    said_so : (name : RadName) (version : Option ℕ) → SaysKind title behind name version → SaysKind (title_of host) (type_of host) name version
    said_so name version says =
        subst (λ t. SaysKind (title_of t) (type_of t) name version) same (subst (λ k. SaysKind (title_of bytes) k name version) are.1 (subst (λ t. SaysKind t behind name version) are.0 says))

    pub is_directorys : (name : RadName) (version : Option ℕ) → SaysKind title behind name version → name.ext ≡ directory_type → IsNoTreeName host DirectoryType
    is_directorys name version says of = of_directory name version (said_so name version says) of

    pub is_tree_name : (name : RadName) (version : Option ℕ) → SaysKind title behind name version → name.ext ≢ directory_type → IsTreeName host name version
    is_tree_name name version says plain = record { whole = some_name other; typed = subst IsTyped same typed; said = said_so name version says; plain = plain }
