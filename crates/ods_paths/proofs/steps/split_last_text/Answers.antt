use Rattle.std.proofs.Common.{◌≡◌, ap, false, option_map, refl, true}
use Rattle.ods_paths.proofs.StepTexts.{cut_text, whole_text}
use Rattle.ods_paths.proofs.steps.split_last_text.Goals as goal

pub returns-then-not-has_byte : goal.returns-then-not-has_byte
returns-then-not-has_byte c =
    whole_text c.args.steps.now.separator _ _ c.in-Some-text.text.now (ap (option_map (λ text. text.now)) c.in-Some-text.is) (ap (option_map (λ text. text.now)) c.in_default.is)
    (λ has. (let clash : false ≡ true = c.if-not-has_byte.ensures.1 has in absurd (cc)))

pub returns : goal.returns
returns c =
    cut_text c.args.steps.now.separator _ _ c.in-Some-text.text.now c.cut_last.result.0.now c.cut_last.result.1.now (ap (option_map (λ text. text.now)) c.in-Some-text.is) (ap (option_map (λ text. text.now)) c.in_default.is)
    (c.if-not-has_byte.ensures.0 refl) c.cut_last.ensures.0 c.cut_last.ensures.1
