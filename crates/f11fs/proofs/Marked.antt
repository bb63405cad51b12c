-- A text without the byte order mark at its front.
use Rattle.std.proofs.Common.{◌≡◌, ◌∙◌, ℕ, List, true, false, None, ap, refl, sym, subst, drop, nat_eq}
use Rattle.std.specs.List.{starts_with}
use Rattle.std.specs.Str.{IsCharBoundary}
use Rattle.std.specs.Str.Pattern.{FindsTextPrefix, StripsPrefix}
use Rattle.std.proofs.lemmas.Str.Pattern.{starts_text}
use Rattle.f11fs.specs.Readings.{behind_mark, order_mark}

pub cut : (text rest : List ℕ) → StripsPrefix (FindsTextPrefix order_mark) text rest → rest ≡ behind_mark text
cut text rest h =
    let starts : starts_with nat_eq text order_mark ≡ true = sym (starts_text true order_mark text (h.0, h.1, subst (λ (n : ℕ). IsCharBoundary text n) (sym h.1.0) h.1.2)) in
    rw starts (h.2 ∙ ap (λ (k : ℕ). drop k text) h.1.0)

pub uncut : (text : List ℕ) → FindsTextPrefix order_mark text None → text ≡ behind_mark text
uncut text h =
    let starts : starts_with nat_eq text order_mark ≡ false = sym (starts_text false order_mark text h) in
    rw starts refl
