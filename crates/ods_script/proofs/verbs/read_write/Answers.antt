use Rattle.std.proofs.Common.{ℕ, List, Some, sym, subst}
use Rattle.ods_text.specs.Cuts.{IsPair}
use Rattle.ods_text.specs.Numbers.{IsNumber}
use Rattle.ods_text.specs.One.{IsTheOne}
use Rattle.ods_script.specs.Spelling.{IsId, IsHex}
use Rattle.ods_script.specs.Commands.{Behind}
use Rattle.ods_script.specs.Spoken as spoken
use Rattle.ods_script.specs.declared.verbs.Verb.TheVariants.{Write}
use Rattle.ods_script.proofs.Meaning.{no_meaning, one_meaning}
use Rattle.ods_script.proofs.verbs.read_write.Goals as goal

pub returns-in_default : goal.returns-in_default
returns-in_default c = no_meaning (IsPair 32 IsId (IsPair 32 IsNumber (IsHex 512))) (λ x. spoken.Write x.0 x.1.0 x.1.1) c.args.args.now c.in_default.ensures

pub returns : goal.returns
returns c =
    subst (λ (block : List ℕ). IsTheOne (Behind Write c.args.args.now) (Some (spoken.Write c.in-Some.file c.in-Some.written.0 block))) (sym c.in-Ok.ensures.ok)
    (one_meaning (IsPair 32 IsId (IsPair 32 IsNumber (IsHex 512))) (λ x. spoken.Write x.0 x.1.0 x.1.1) c.args.args.now (c.in-Some.file, c.in-Some.written) c.in-Some.ensures)
