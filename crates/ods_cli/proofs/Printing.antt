-- Sessions that printed their replies: the outcomes that stand behind what they gave back.
use Rattle.std.proofs.Common.{◌≡◌, ℕ, ◌+◌, zero, suc, List, [], ◌∷◌, ◌++◌, length, refl, sym, ap, ◌∙◌, arith, append_assoc}
use Rattle.std.specs.Prelude.{codes}
use Rattle.std.specs.Fmt.{decimal}
use Rattle.std.specs.String.{string_bytes}
use Rattle.std.specs.declared.alloc.Global.{Global}
use Rattle.std.specs.declared.vec.Vec.{Vec}
use Rattle.ods_share.specs.declared.keeping.Ended.{Ended}
use Rattle.ods_ask.specs.declared.outcome.Outcome.{Outcome}
use Rattle.ods_ask.specs.declared.outcome.Reply.{Reply}
use Rattle.ods_ask.specs.declared.script.Command.{Command}
use Rattle.ods_ask.specs.declared.script.Script.{Script}
use Rattle.ods_share.specs.Keeping.{EachEnded, IsEnded}
use Rattle.ods_share.specs.Scripts.{EachOutcome, IsOutcome, all_saw}
use Rattle.ods_share.specs.Settles.{Calls}
use Rattle.ods_cli.specs.declared.printed.Printed.{Printed}
use Rattle.ods_cli.specs.Printing.{ArePrinted}
use Rattle.ods_script.specs.Texts.{session_text, sessions_text}
use Rattle.ods_cli.specs.Printed.{calls_kept, printed_of, printed_text, session_line}
use Rattle.ods_cli.specs.Serve.{calls_in}

-- these replies as a list in memory, as long as the script's
abbrev kept_in : (v : Vec Command Global) (rs : List Reply) → length rs ≡ length v.items → Vec Reply Global
kept_in v rs same = record { ptr = v.ptr; len = v.len; cap = v.cap; alloc = v.alloc; items = rs; ok = (v.ok.0 ∙ sym same, v.ok.1); small = v.small }

-- what came of a script, with the replies that were printed, where each viewer had seen nothing
pub record Behind (M : List (List ℕ)) (filled : Type 0) (stamp : List ℕ) (ss : List Script) (es : List (Ended Printed)) : Type 0 where
  pub outcomes : List Outcome
  pub count : length outcomes ≡ length ss
  pub each : EachOutcome M stamp (all_saw []) filled ss outcomes
  pub calls : calls_kept es ≡ calls_in outcomes
  pub text : (k : ℕ) → printed_text k (printed_of es) ≡ sessions_text k ss outcomes

-- one session's
abbrev outcome_behind : (s : Script) (e : Ended Printed) (rs : List Reply) → length rs ≡ length s.commands.items → Outcome
outcome_behind s e rs same = record { calls = e.calls; replies = kept_in s.commands rs same }

is_behind : (M : List (List ℕ)) (filled : Type 0) (stamp : List ℕ) (s : Script) (e : Ended Printed) (is : IsEnded ArePrinted M stamp [] filled s.commands.items e) → IsOutcome M stamp [] filled s.commands.items (outcome_behind s e is.replies is.kept.0)
is_behind M filled stamp s e is = record { last = is.last; runs = is.runs; calls = is.calls; full = is.full }

-- one outcome more at the front
each_more : (M : List (List ℕ)) (filled : Type 0) (stamp : List ℕ) (s : Script) (ss : List Script) (o : Outcome) (os : List Outcome) → IsOutcome M stamp [] filled s.commands.items o → EachOutcome M stamp (all_saw []) filled ss os → EachOutcome M stamp (all_saw []) filled (s ∷ ss) (o ∷ os)
each_more M filled stamp s ss o os first rest zero d e lt = first
each_more M filled stamp s ss o os first rest (suc k) d e lt = rest k d e (omega (arith, lt))

-- the line of a session before a text
line_first : (k : ℕ) (t : List ℕ) → session_line k ++ t ≡ codes "session " ++ decimal k ++ 10 ∷ t
line_first k t =
    append_assoc (codes "session ") (decimal k ++ 10 ∷ []) t
    ∙ ap (λ (l : List ℕ). codes "session " ++ l) (append_assoc (decimal k) (10 ∷ []) t)

-- one session more at the front
one_more : (M : List (List ℕ)) (filled : Type 0) (stamp : List ℕ) (s : Script) (ss : List Script) (e : Ended Printed) (es : List (Ended Printed)) → IsEnded ArePrinted M stamp [] filled s.commands.items e → Behind M filled stamp ss es →
    Behind M filled stamp (s ∷ ss) (e ∷ es)
one_more M filled stamp s ss e es first rest = record {
  outcomes = outcome_behind s e first.replies first.kept.0 ∷ rest.outcomes;
  count = ap suc rest.count;
  each = each_more M filled stamp s ss (outcome_behind s e first.replies first.kept.0) rest.outcomes (is_behind M filled stamp s e first) rest.each;
  calls = ap (λ (cs : List Calls). e.calls ∷ cs) rest.calls;
  text = λ k.
      ap (λ (t : List ℕ). t ++ printed_text (k + 1) (printed_of es))
      (line_first k (string_bytes e.kept.text) ∙ ap (λ (t : List ℕ). codes "session " ++ decimal k ++ 10 ∷ t) first.kept.1)
      ∙ ap (λ (t : List ℕ). session_text k s first.replies ++ t) (rest.text (k + 1));
}

pub behind : (M : List (List ℕ)) (filled : Type 0) (stamp : List ℕ) (ss : List Script) (es : List (Ended Printed)) → length es ≡ length ss → EachEnded ArePrinted M stamp (all_saw []) filled ss es → Behind M filled stamp ss es
behind M filled stamp [] [] same each = record { outcomes = []; count = refl; each = λ k s o lt. absurd (omega (arith, lt)); calls = refl; text = λ k. refl }
behind M filled stamp [] (e ∷ es) same each = absurd (omega (arith, same))
behind M filled stamp (s ∷ ss) [] same each = absurd (omega (arith, same))
behind M filled stamp (s ∷ ss) (e ∷ es) same each =
    one_more M filled stamp s ss e es (each 0 s e (omega arith)) (behind M filled stamp ss es (omega (arith, same)) (λ k d x lt. each (suc k) d x (omega (arith, lt))))
