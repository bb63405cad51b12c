-- What is shown of a protection is read as that protection.
use Rattle.std.proofs.Common.{◌≡◌, ◌∙◌, ◌/◌, ◌%◌, ◌<◌, ℕ, zero, suc, List, [], ◌∷◌, ◌++◌, Some, arith, refl, sym, ap, append_assoc, inl}
use Rattle.ods_text.specs.Cuts.{cut_of}
use Rattle.ods_shell.specs.Texts.{class_rights, shown_rights}
use Rattle.fs_words.specs.Protections.{AreRights}
use Rattle.f11fs.specs.Laws.{ShownIsRead}

-- the rights of a class
class_shown : (d : ℕ) → d < 16 → AreRights (class_rights d) d
unfolding class_rights
class_shown zero low = record { low = omega arith; read = refl; write = refl; extend = refl; delete = refl; no_other = refl }
class_shown (suc zero) low = record { low = omega arith; read = refl; write = refl; extend = refl; delete = refl; no_other = refl }
class_shown (suc (suc zero)) low = record { low = omega arith; read = refl; write = refl; extend = refl; delete = refl; no_other = refl }
class_shown (suc (suc (suc zero))) low = record { low = omega arith; read = refl; write = refl; extend = refl; delete = refl; no_other = refl }
class_shown (suc (suc (suc (suc zero)))) low = record { low = omega arith; read = refl; write = refl; extend = refl; delete = refl; no_other = refl }
class_shown (suc (suc (suc (suc (suc zero))))) low = record { low = omega arith; read = refl; write = refl; extend = refl; delete = refl; no_other = refl }
class_shown (suc (suc (suc (suc (suc (suc zero)))))) low = record { low = omega arith; read = refl; write = refl; extend = refl; delete = refl; no_other = refl }
class_shown (suc (suc (suc (suc (suc (suc (suc zero))))))) low = record { low = omega arith; read = refl; write = refl; extend = refl; delete = refl; no_other = refl }
class_shown (suc (suc (suc (suc (suc (suc (suc (suc zero)))))))) low = record { low = omega arith; read = refl; write = refl; extend = refl; delete = refl; no_other = refl }
class_shown (suc (suc (suc (suc (suc (suc (suc (suc (suc zero))))))))) low = record { low = omega arith; read = refl; write = refl; extend = refl; delete = refl; no_other = refl }
class_shown (suc (suc (suc (suc (suc (suc (suc (suc (suc (suc zero)))))))))) low = record { low = omega arith; read = refl; write = refl; extend = refl; delete = refl; no_other = refl }
class_shown (suc (suc (suc (suc (suc (suc (suc (suc (suc (suc (suc zero))))))))))) low = record { low = omega arith; read = refl; write = refl; extend = refl; delete = refl; no_other = refl }
class_shown (suc (suc (suc (suc (suc (suc (suc (suc (suc (suc (suc (suc zero)))))))))))) low = record { low = omega arith; read = refl; write = refl; extend = refl; delete = refl; no_other = refl }
class_shown (suc (suc (suc (suc (suc (suc (suc (suc (suc (suc (suc (suc (suc zero))))))))))))) low = record { low = omega arith; read = refl; write = refl; extend = refl; delete = refl; no_other = refl }
class_shown (suc (suc (suc (suc (suc (suc (suc (suc (suc (suc (suc (suc (suc (suc zero)))))))))))))) low = record { low = omega arith; read = refl; write = refl; extend = refl; delete = refl; no_other = refl }
class_shown (suc (suc (suc (suc (suc (suc (suc (suc (suc (suc (suc (suc (suc (suc (suc zero))))))))))))))) low = record { low = omega arith; read = refl; write = refl; extend = refl; delete = refl; no_other = refl }
class_shown (suc (suc (suc (suc (suc (suc (suc (suc (suc (suc (suc (suc (suc (suc (suc (suc d)))))))))))))))) low = absurd (omega (arith, low))

-- no comma stands among them
cut_shown : (d : ℕ) (rest : List ℕ) → d < 16 → cut_of 44 (class_rights d ++ 44 ∷ rest) ≡ Some (class_rights d, rest)
unfolding class_rights
cut_shown zero rest low = refl
cut_shown (suc zero) rest low = refl
cut_shown (suc (suc zero)) rest low = refl
cut_shown (suc (suc (suc zero))) rest low = refl
cut_shown (suc (suc (suc (suc zero)))) rest low = refl
cut_shown (suc (suc (suc (suc (suc zero))))) rest low = refl
cut_shown (suc (suc (suc (suc (suc (suc zero)))))) rest low = refl
cut_shown (suc (suc (suc (suc (suc (suc (suc zero))))))) rest low = refl
cut_shown (suc (suc (suc (suc (suc (suc (suc (suc zero)))))))) rest low = refl
cut_shown (suc (suc (suc (suc (suc (suc (suc (suc (suc zero))))))))) rest low = refl
cut_shown (suc (suc (suc (suc (suc (suc (suc (suc (suc (suc zero)))))))))) rest low = refl
cut_shown (suc (suc (suc (suc (suc (suc (suc (suc (suc (suc (suc zero))))))))))) rest low = refl
cut_shown (suc (suc (suc (suc (suc (suc (suc (suc (suc (suc (suc (suc zero)))))))))))) rest low = refl
cut_shown (suc (suc (suc (suc (suc (suc (suc (suc (suc (suc (suc (suc (suc zero))))))))))))) rest low = refl
cut_shown (suc (suc (suc (suc (suc (suc (suc (suc (suc (suc (suc (suc (suc (suc zero)))))))))))))) rest low = refl
cut_shown (suc (suc (suc (suc (suc (suc (suc (suc (suc (suc (suc (suc (suc (suc (suc zero))))))))))))))) rest low = refl
cut_shown (suc (suc (suc (suc (suc (suc (suc (suc (suc (suc (suc (suc (suc (suc (suc (suc d)))))))))))))))) rest low = absurd (omega (arith, low))

-- four texts with commas between them, in brackets
in_brackets : (a b c d : List ℕ) → 91 ∷ a ++ 44 ∷ b ++ 44 ∷ c ++ 44 ∷ d ++ 93 ∷ [] ≡ 91 ∷ ((a ++ 44 ∷ (b ++ 44 ∷ (c ++ 44 ∷ d))) ++ 93 ∷ [])
in_brackets a b c d = ap (λ (l : List ℕ). 91 ∷ (l ++ 93 ∷ [])) (append_assoc (a ++ 44 ∷ b) (44 ∷ c) (44 ∷ d) ∙ append_assoc a (44 ∷ b) (44 ∷ c ++ 44 ∷ d))

pub shown_read : ShownIsRead
unfolding shown_rights
shown_read p low =
    let s = p % 16 in
    let o = p / 16 % 16 in
    let g = p / 256 % 16 in
    let w = p / 4096 in
    let ls : s < 16 = omega arith in
    let lo : o < 16 = omega arith in
    let lg : g < 16 = omega arith in
    let lw : w < 16 = omega (arith, low) in
    inl (
      class_rights s ++ 44 ∷ (class_rights o ++ 44 ∷ (class_rights g ++ 44 ∷ class_rights w)),
      in_brackets (class_rights s) (class_rights o) (class_rights g) (class_rights w),
      (
        class_rights s,
        class_rights o ++ 44 ∷ (class_rights g ++ 44 ∷ class_rights w),
        cut_shown s _ ls,
        class_shown s ls,
        (
          class_rights o,
          class_rights g ++ 44 ∷ class_rights w,
          cut_shown o _ lo,
          class_shown o lo,
          (class_rights g, class_rights w, cut_shown g _ lg, class_shown g lg, class_shown w lw),
        ),
      ),
    )
