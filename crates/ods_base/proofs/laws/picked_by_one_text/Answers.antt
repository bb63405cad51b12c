use Rattle.std.proofs.Common.{◌∷◌, ◌++◌, ◌∙◌, ap, refl}
use Rattle.std.specs.Fmt.{decimal}
use Rattle.ods_base.specs.Name.{name_text}
use Rattle.ods_base.proofs.laws.picked_by_one_text.Goals as goal

pub returns : goal.returns
returns c = λ text n version name low high. (
  λ s. s.whole ∙ ap (λ behind. name_text n ++ behind) s.version.2,
  λ e. record { name = name; behind = 59 ∷ decimal version; whole = e; version = (low, high, refl) },
)
