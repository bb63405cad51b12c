-- What is so of the texts of words is so of the words.
use Rattle.std.proofs.Common.{◌≡◌, ◌∙◌, ℕ, Bool, true, false, ◌||◌, ◌&&◌, List, [], ◌∷◌, map, codes, refl, ap, sym}
use Rattle.std.specs.Borrow.{Bor}
use Rattle.std.specs.List.{list_all, list_any}
use Rattle.fs_words.specs.declared.actions.Repairs.{Repairs}
use Rattle.fs_words.specs.RepairWords.{asks_for, names_repair, repairs_in}

pub any_now : (p : List ℕ → Bool) (ws : List (Bor (List ℕ))) → list_any (λ w. p w.now) ws ≡ list_any p (map (λ w. w.now) ws)
any_now p [] = refl
any_now p (w ∷ ws) = ap (λ b. p w.now || b) (any_now p ws)

pub all_now : (p : List ℕ → Bool) (ws : List (Bor (List ℕ))) → list_all (λ w. p w.now) ws ≡ list_all p (map (λ w. w.now) ws)
all_now p [] = refl
all_now p (w ∷ ws) = ap (λ b. p w.now && b) (all_now p ws)

pub all_known : (ws : List (Bor (List ℕ))) → list_all (λ w. names_repair w.now) ws ≡ true → list_all names_repair (map (λ w. w.now) ws) ≡ true
all_known ws known = sym (all_now names_repair ws) ∙ known

pub one_unknown : (ws : List (Bor (List ℕ))) → list_all (λ w. names_repair w.now) ws ≡ false → list_all names_repair (map (λ w. w.now) ws) ≡ false
one_unknown ws unknown = sym (all_now names_repair ws) ∙ unknown

-- one of these words asks for the repair of this name
abbrev pub Asked : List ℕ → List (Bor (List ℕ)) → Bool → Type 0
Asked name ws asked = asked ≡ list_any (λ w. asks_for name w.now) ws

pub are_repairs : (ws : List (Bor (List ℕ))) (used share double names lost free : Bool) → Asked (codes "used") ws used → Asked (codes "share") ws share → Asked (codes "double") ws double → Asked (codes "names") ws names
    → Asked (codes "lost") ws lost → Asked (codes "free") ws free
    → ◌≡◌ {A = Repairs} (record { used = used; share = share; double = double; names = names; lost = lost; free = free }) (repairs_in (map (λ w. w.now) ws))
are_repairs ws used share double names lost free u s d n l f =
    rw (u ∙ any_now (asks_for (codes "used")) ws) (rw (s ∙ any_now (asks_for (codes "share")) ws) (rw (d ∙ any_now (asks_for (codes "double")) ws) (rw (n ∙ any_now (asks_for (codes "names")) ws)
    (rw (l ∙ any_now (asks_for (codes "lost")) ws) (rw (f ∙ any_now (asks_for (codes "free")) ws) refl)))))
