-- Names without their version, and without a dot at their end.
use Rattle.std.proofs.Common.{◌≡◌, ◌∙◌, ℕ, ◌-◌, List, [], ◌∷◌, ◌++◌, ap, arith, sym, drop, length}
use Rattle.std.specs.Prelude.{◌==◌}
use Rattle.std.specs.List.{position_or_len}
use Rattle.std.specs.Str.Pattern.{FindsCharSuffix, StripsSuffix}
use Rattle.std.proofs.lemmas.List.{take_all, drop_all, take-append-drop}
use Rattle.ods_shell.specs.HostNames.{before_version}

pub all_before : (text : List ℕ) → position_or_len (λ b. b == 59) text ≡ length text → text ≡ before_version text
all_before text none = sym (take_all (position_or_len (λ b. b == 59) text) text (omega (arith, none)))

pub dot_behind : (text front : List ℕ) → StripsSuffix (FindsCharSuffix 46) text front → text ≡ front ++ 46 ∷ []
unfolding lib.Utf8.encode
dot_behind text front strips =
    let behind : drop (length text - strips.0) text ≡ 46 ∷ drop (length text) text = strips.1.1.split in
    sym (take-append-drop (length text - strips.0) text) ∙ (λ i. sym strips.2 i ++ (behind ∙ ap (λ t. 46 ∷ t) (drop_all (length text) text (omega arith))) i)
