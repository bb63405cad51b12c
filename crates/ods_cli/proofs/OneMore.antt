-- Printing one more reply behind the others.
use Rattle.std.proofs.Common.{◌≡◌, ◌+◌, ℕ, List, [], ◌∷◌, ◌++◌, length, sym, ap, ◌∙◌, arith, append_assoc, length-append}
use Rattle.std.proofs.lemmas.List.{append-nil}
use Rattle.std.specs.Prelude.{Result, Ok, Err, OnOk}
use Rattle.std.specs.String.{string_bytes}
use Rattle.ods_ask.specs.declared.outcome.Reply.{Reply}
use Rattle.ods_ask.specs.declared.script.Command.{Command}
use Rattle.ods_cli.specs.declared.printed.Printed.{Printed}
use Rattle.ods_cli.specs.Printing.{ArePrinted}
use Rattle.ods_script.specs.Texts.{reply_text, replies_text}

replies_more : (cs : List Command) (rs : List Reply) (c : Command) (r : Reply) → length rs ≡ length cs → replies_text (cs ++ c ∷ []) (rs ++ r ∷ []) ≡ replies_text cs rs ++ reply_text c r
replies_more [] [] c r same = append-nil (reply_text c r)
replies_more [] (q ∷ rs) c r same = absurd (omega (arith, same))
replies_more (d ∷ cs) [] c r same = absurd (omega (arith, same))
replies_more (d ∷ cs) (q ∷ rs) c r same =
    ap (λ (t : List ℕ). reply_text d q ++ t) (replies_more cs rs c r (omega (arith, same))) ∙ sym (append_assoc (reply_text d q) (replies_text cs rs) (reply_text c r))

-- whether it could be printed or not
pub printed_more : {U E : Type 0} (result : Result U E) (old new : Printed) (c : Command) (r : Reply) → OnOk result (string_bytes new.text ≡ string_bytes old.text ++ reply_text c r) →
    (cs : List Command) (rs : List Reply) → ArePrinted cs rs old → OnOk result (ArePrinted (cs ++ c ∷ []) (rs ++ r ∷ []) new)
printed_more (Err e) old new c r printed cs rs are = tt
printed_more (Ok u) old new c r printed cs rs are = (
  length-append rs (r ∷ []) ∙ (ap (λ (n : ℕ). n + 1) are.0 ∙ sym (length-append cs (c ∷ []))),
  printed ∙ (ap (λ (t : List ℕ). t ++ reply_text c r) are.1 ∙ sym (replies_more cs rs c r are.0)),
)
