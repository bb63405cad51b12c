use Rattle.std.proofs.Common.{List, ℕ, subst, sym}
use Rattle.ods_records.specs.Forms.{IsForm}
use Rattle.fs_words.proofs.commands.put.form_of.Goals as goal

pub returns-in_ok-wrong-in-None-clause-refused : goal.returns-in_ok-wrong-in-None-clause-refused
returns-in_ok-wrong-in-None-clause-refused c =
    λ other. rw c.in-Some.is (λ form spelled. c.in-None.ensures form (subst (λ (t : List ℕ). IsForm t form) (sym c.as_bytes.ensures.value) spelled))
