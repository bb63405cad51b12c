use Rattle.std.proofs.Common.{◌≡◌, ◌≤◌, ℕ, List, subst, sym, ap, ◌∙◌, arith}
use Rattle.std.specs.List.{All}
use Rattle.std.proofs.lemmas.List.{get_or_default}
use Rattle.ods_paths.specs.declared.versions.Versions.{Versions}
use Rattle.ods_paths.specs.declared.versions.Versions.TheVariants.{Highest, Lowest, Every}
use Rattle.ods_paths.specs.Picked.{AreFromTo}
use Rattle.ods_paths.proofs.Bounds.{highest_picked, lowest_picked, every_picked}
use Rattle.ods_paths.proofs.picking.choose_span.Goals as goal

-- a range that is picked by a variant, and the choice that is that variant
of_choice : {v : Versions} (choice : Versions) (vs : List ℕ) (m n low high : ℕ) → choice ≡ v → low ≡ m → high ≡ n → AreFromTo v vs m n → AreFromTo choice vs low high
of_choice {v} choice vs m n low high e p q are = subst (λ (u : Versions). AreFromTo u vs low high) (sym e) (subst (λ (l : ℕ). AreFromTo v vs l high) (sym p) (subst (λ (h : ℕ). AreFromTo v vs m h) (sym q) are))

pub returns-in-Highest : goal.returns-in-Highest
returns-in-Highest c = of_choice c.args.choice c.args.versions.now c.highest-most.result c.highest-most.result _ _ c.in-Highest.is c.span_of-in-Highest.ensures.0 c.span_of-in-Highest.ensures.1 (highest_picked c.args.versions.now c.highest-most.result c.highest-most.ensures)

pub returns-in-Lowest : goal.returns-in-Lowest
returns-in-Lowest c = of_choice c.args.choice c.args.versions.now c.lowest-least.result c.lowest-least.result _ _ c.in-Lowest.is c.span_of-in-Lowest.ensures.0 c.span_of-in-Lowest.ensures.1
    (lowest_picked c.args.versions.now c.lowest-least.result (omega (arith, c.lowest-least.type_inv)) (λ k d h. omega (arith, get_or_default c.args.versions.now k d 0 h, c.type_inv.versions k)) c.lowest-least.ensures)

pub returns-in-Every : goal.returns-in-Every
returns-in-Every c = of_choice c.args.choice c.args.versions.now 0 65535 _ _ c.in-Every.is c.span_of-in-Every.ensures.0 c.span_of-in-Every.ensures.1
    (every_picked c.args.versions.now (λ k d h. omega (arith, get_or_default c.args.versions.now k d 0 h, c.type_inv.versions k)))
