-- Directories that mkdir makes, one after another.
use Rattle.std.proofs.Common.{◌≡◌, ◌≢◌, ◌∙◌, refl, sym, ap, subst, ℕ, List, [], ◌∷◌, ◌++◌, codes, Bool, get_or, Option, Some, arith}
use Rattle.std.specs.Prelude.{◌↔◌, ◌==◌, min, ◌+◌, ◌/◌, ◌%◌, IsTrue}
use Rattle.std.specs.Borrow.{Bor}
use Rattle.std.specs.Char.{to_ascii_uppercase}
use Rattle.std.specs.Int.{div_ceil}
use Rattle.std.proofs.lemmas.Bool.{ne_eqb}
use Rattle.std.proofs.lemmas.Bool.Decides.{nat_tests}
use Rattle.ods_base.specs.declared.file_id.FileId.{FileId}
use Rattle.ods_base.specs.declared.file_id.Uic.{Uic}
use Rattle.ods_base.specs.Name.{RadName}
use Rattle.ods_request.specs.declared.answers.Answer.TheVariants.{Created}
use Rattle.ods_request.specs.declared.requests.Request.TheVariants.{Create, Enter}
use Rattle.ods_paths.specs.Patterns.{capitals}
use Rattle.ods_filing.specs.Filed.{Filed, for_another, IsDone}
use Rattle.ods_filing.specs.Led.{IsLed, IsObeyed}
use Rattle.ods_filing.proofs.Led.{obeyed, same_user, stays, then_led, then_obeyed}
use Rattle.ods_upkeep.specs.Kinds.{MakesDirectories}
use Rattle.ods_upkeep.specs.Made.{IsOwner, IsMade, IsNewPlace, AreMade, blocks_for}

-- a file that its owner makes, and the user enters
pub is_made : (said : Option Uic) (names : ℕ) (stamp path : List ℕ) (old first mid second new : Filed) (dir : FileId) (name : RadName) (file : FileId) (owner user : Uic)
    → IsNewPlace old.image old.layout path dir name → IsOwner said user dir name owner → user ≡ old.user → first ≡ for_another old owner
    → IsDone first (Create name 1 (blocks_for names) stamp) (Created file) mid → second ≡ for_another mid user → IsObeyed second (Enter dir name (Some 1) file) new → IsMade said names stamp path old new
is_made said names stamp path old first mid second new dir name file owner user place owns is begun created turned entered = record {
  dir = dir;
  name = name;
  place = place;
  file = file;
  owner = owner;
  owns = subst (λ u. IsOwner said u dir name owner) is owns;
  mid = mid;
  created = subst (λ f. IsDone f (Create name 1 (blocks_for names) stamp) (Created file) mid) begun created;
  entered = subst (λ u. IsObeyed (for_another mid u) (Enter dir name (Some 1) file) new) is (subst (λ f. IsObeyed f (Enter dir name (Some 1) file) new) turned entered);
}

-- where the user himself is said, he asked for the file and for the entry
one_left : (names : ℕ) (stamp path : List ℕ) (old new : Filed) → IsMade (Some old.user) names stamp path old new → IsLed MakesDirectories old new
one_left names stamp path old new made =
    let first : IsLed MakesDirectories old made.mid =
    subst (λ who. IsLed MakesDirectories (for_another old who) made.mid) made.owns
    (obeyed (Create made.name 1 (blocks_for names) stamp) tt (Created made.file, made.created)) in
    let user : made.mid.user ≡ old.user = made.created.user ∙ made.owns in
    then_obeyed (Enter made.dir made.name (Some 1) made.file) tt first (subst (λ u. IsObeyed (for_another made.mid u) (Enter made.dir made.name (Some 1) made.file) new) (sym user) made.entered)

all_left : (user : Uic) (names : ℕ) (stamp : List ℕ) (paths : List (Bor (List ℕ))) (old new : Filed) → old.user ≡ user → AreMade (Some user) names stamp paths old new → IsLed MakesDirectories old new
all_left user names stamp [] old new is same = subst (λ f. IsLed MakesDirectories old f) (sym same) (stays old)
all_left user names stamp (path ∷ paths) old new is made =
    let first = one_left names stamp path.now old made.0 (subst (λ u. IsMade (Some u) names stamp path.now old made.0) (sym is) made.1) in
    then_led first (all_left user names stamp paths made.0 new (same_user first ∙ is) made.2)

-- some directories, where the user himself is said
pub own_left : (said : Option Uic) (names : ℕ) (stamp : List ℕ) (paths : List (Bor (List ℕ))) (old new : Filed) → AreMade said names stamp paths old new → said ≡ Some old.user → IsLed MakesDirectories old new
own_left said names stamp paths old new made own = all_left old.user names stamp paths old new refl (subst (λ s. AreMade s names stamp paths old new) own made)

-- one directory more was made
pub one_more : (said : Option Uic) (names : ℕ) (stamp : List ℕ) (paths : List (Bor (List ℕ))) (path : Bor (List ℕ)) (old mid new : Filed) → AreMade said names stamp paths old mid
    → IsMade said names stamp path.now mid new → AreMade said names stamp (paths ++ path ∷ []) old new
one_more said names stamp [] path old mid new same last = (new, subst (λ f. IsMade said names stamp path.now f new) same last, refl)
one_more said names stamp (p ∷ paths) path old mid new made last = (made.0, made.1, one_more said names stamp paths path made.0 mid new made.2 last)

-- one block where so many names take none
pub one_block : (names blocks : ℕ) → blocks ≡ div_ceil names 32 → blocks ≡ 0 → 1 ≡ blocks_for names
one_block names blocks are none = let small : names / 32 + min 1 (names % 32) ≡ 0 = sym are ∙ none in omega (arith, small)

-- else as many as they take
pub more_blocks : (names blocks : ℕ) → blocks ≡ div_ceil names 32 → blocks ≢ 0 → blocks ≡ blocks_for names
more_blocks names blocks are some = let same : blocks ≡ names / 32 + min 1 (names % 32) = are in omega (arith, same, some)

-- only the digit itself becomes this digit in capitals
zero_stays : (c : ℕ) → to_ascii_uppercase c ≡ 48 → c ≡ 48
zero_stays c = grind (arith, nat_tests)

-- no other name becomes 000000 in capitals
pub digits_stay : (name : List ℕ) → capitals name ≡ codes "000000" → name ≡ codes "000000"
digits_stay [] e = absurd (cc)
digits_stay (a ∷ []) e = absurd (cc)
digits_stay (a ∷ b ∷ []) e = absurd (cc)
digits_stay (a ∷ b ∷ c ∷ []) e = absurd (cc)
digits_stay (a ∷ b ∷ c ∷ d ∷ []) e = absurd (cc)
digits_stay (a ∷ b ∷ c ∷ d ∷ f ∷ []) e = absurd (cc)
digits_stay (a ∷ b ∷ c ∷ d ∷ f ∷ g ∷ []) e =
    λ i. zero_stays a (ap (λ l. get_or l 0 0) e) i ∷ zero_stays b (ap (λ l. get_or l 1 0) e) i ∷ zero_stays c (ap (λ l. get_or l 2 0) e) i ∷ zero_stays d (ap (λ l. get_or l 3 0) e) i
    ∷ zero_stays f (ap (λ l. get_or l 4 0) e) i ∷ zero_stays g (ap (λ l. get_or l 5 0) e) i ∷ []
digits_stay (a ∷ b ∷ c ∷ d ∷ f ∷ g ∷ h ∷ name) e = absurd (cc)

-- the name of the master directory in the master directory
pub of_master : (number : ℕ) (name : List ℕ) (same : Bool) → number ≡ 4 → IsTrue same ↔ (name ≡ codes "000000") → IsTrue same ↔ ((number ≡ 4) × (capitals name ≡ codes "000000"))
of_master number name same four tells = (λ yes. (four, ap capitals (tells.0 yes)), λ both. tells.1 (digits_stay name both.1))

-- a name in another directory
pub of_other : (number : ℕ) (name : List ℕ) → number ≢ 4 → IsTrue (number == 4) ↔ ((number ≡ 4) × (capitals name ≡ codes "000000"))
of_other number name other = subst (λ b. IsTrue b ↔ ((number ≡ 4) × (capitals name ≡ codes "000000"))) (sym (ne_eqb number 4 other)) (λ no. absurd (cc), λ both. absurd (other both.0))
