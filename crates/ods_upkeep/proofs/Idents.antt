-- The name of a header, without its version.
use Rattle.std.proofs.Common.{◌≡◌, ◌<◌, ◌∙◌, sym, ap, subst, ℕ, true, false, List, ◌∷◌, ◌++◌, length, get_or, arith}
use Rattle.std.specs.Prelude.{◌==◌, codes}
use Rattle.std.specs.Fmt.{decimal}
use Rattle.std.specs.List.{position_or_len}
use Rattle.std.proofs.lemmas.List.{get_or-take, length-append, length-take, take_all}
use Rattle.std.proofs.Math.Seq.{get_or-append_seam}
use Rattle.std.proofs.lemmas.List.Sums.{fails_before_first}
use Rattle.ods_base.specs.Name.{RadName, Spells, name_text}
use Rattle.ods_base.specs.declared.name.Pick.{Pick}
use Rattle.ods_base.specs.declared.name.Pick.TheVariants.{Exact, Highest, Lowest}
use Rattle.ods_shell.specs.HostNames.{before_version}

-- where there is no `;`, all stands before it
pub all_before : (text : List ℕ) → position_or_len (λ b. b == 59) text ≡ length text → text ≡ before_version text
all_before text none = sym (take_all (position_or_len (λ b. b == 59) text) text (omega (arith, none)))

-- before the first `;` there is none
no_version : (text front back : List ℕ) → before_version text ≡ front ++ 59 ∷ back → ⊥
no_version text front back is =
    let at = position_or_len (λ b. b == 59) text in
    let within : length front < at = omega (arith, ap length is, length-append front (59 ∷ back), length-take at text) in
    let here : get_or text (length front) 0 ≡ 59 = sym (get_or-take at text (length front) 0 within) ∙ ap (λ l. get_or l (length front) 0) is ∙ get_or-append_seam front 59 back 0 in
    let other : (get_or text (length front) 0 == 59) ≡ false = fails_before_first (λ b. b == 59) text (length front) 0 within in
    let same : true ≡ false = sym (ap (λ b. b == 59) here) ∙ other in
    absurd (cc)

-- so what it spells is a name with no version
pub no_pick : (text front : List ℕ) (n : RadName) (p : Pick) → front ≡ before_version text → Spells front n p → Spells (before_version text) n Highest
no_pick text front n Highest is spells = subst (λ t. Spells t n Highest) is spells
no_pick text front n Lowest is spells = absurd (no_version text (name_text n) (codes "-1") (sym is ∙ spells.whole ∙ ap (λ b. name_text n ++ b) spells.version))
no_pick text front n (Exact version) is spells = absurd (no_version text (name_text n) (decimal version) (sym is ∙ spells.whole ∙ ap (λ b. name_text n ++ b) spells.version.2))
