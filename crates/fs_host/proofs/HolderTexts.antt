-- What is said of a process with its name, and of one whose name is no text.
use Rattle.std.specs.Prelude.{◌≡◌, Bool, true, false, if◌then◌else◌, List, ℕ, ◌++◌, codes}
use Rattle.std.specs.Fmt.{decimal}
use Rattle.std.specs.Str.{IsUtf8, is_utf8}
use Rattle.std.proofs.Common.{refl, sym, ap, ◌∙◌}
use Rattle.std.proofs.lemmas.Str.{is_utf8-from_IsUtf8, IsUtf8-from_is_utf8}
use Rattle.fs_host.specs.Holders.{name_held, shown_process, shown_holder}
use Rattle.fs_host.specs.Texts.{shown_text}
use Rattle.fs_host.specs.declared.holders.Holder.{Holder}

-- a test that cannot be true is false
never_true : (b : Bool) → (b ≡ true → ⊥) → b ≡ false
never_true true never = absurd (never refl)
never_true false never = refl

pub named_shown : (holder : Holder) (name : List ℕ) → name ≡ name_held holder → IsUtf8 (name_held holder)
    → codes "process " ++ (decimal holder.number ++ (codes " (" ++ (shown_text name ++ codes ")"))) ≡ shown_process holder
named_shown holder name e text =
    let bare : List ℕ = codes "process " ++ decimal holder.number in
    let whole : List ℕ → List ℕ = λ n. codes "process " ++ (decimal holder.number ++ (codes " (" ++ (shown_text n ++ codes ")"))) in
    ap whole e ∙ ap (λ b. if b then whole (name_held holder) else bare) (sym (is_utf8-from_IsUtf8 (name_held holder) text))

pub unnamed_shown : (holder : Holder) → ¬ IsUtf8 (name_held holder) → codes "process " ++ decimal holder.number ≡ shown_process holder
unnamed_shown holder none =
    let bare : List ℕ = codes "process " ++ decimal holder.number in
    let whole : List ℕ = codes "process " ++ (decimal holder.number ++ (codes " (" ++ (shown_text (name_held holder) ++ codes ")"))) in
    ap (λ b. if b then whole else bare) (sym (never_true (is_utf8 (name_held holder)) (λ t. none (IsUtf8-from_is_utf8 (name_held holder) t))))

-- what is said of a process is said of a holder that is no device
pub process_shown : (holder : Holder) (text : List ℕ) → holder.is_device ≡ false → text ≡ shown_process holder → text ≡ shown_holder holder
process_shown holder text none e = e ∙ ap (λ b. if b then codes "device loop" ++ decimal holder.number else shown_process holder) (sym none)
