use Rattle.std.proofs.Common.{◌≡◌, ◌∙◌, get_or, None, Some, sym, subst, arith}
use Rattle.std.specs.List.{Contains}
use Rattle.std.proofs.lemmas.Option.{slice_get-get_or}
use Rattle.ods_space.proofs.Parts.{contains_at}
use Rattle.ods_repair.proofs.unsharing.check_used.Goals as goal

pub returns-in-Some-clause-refused : goal.returns-in-Some-clause-refused
returns-in-Some-clause-refused c = λ file.
    (c.in_ok-free.ensures.all c.in-Some.lbn.now).0 (subst (λ xs. Contains xs c.in-Some.lbn.now) c.deref.ensures.value (contains_at c.deref.result.now 0 c.in-Some.lbn.now (sym c.in-Some.ensures.value)))

pub returns-clause-used : goal.returns-clause-used
returns-clause-used c = λ b held.
    let there : Contains c.deref.result.now b = subst (λ xs. Contains xs b) (sym c.deref.ensures.value) ((c.in_ok-free.ensures.all b).1 held) in
    let within = there.1 in
    let some = slice_get-get_or c.deref.result.now 0 b (omega (arith, within)) in
    let clash : None ≡ Some (get_or c.deref.result.now 0 b) = c.in-None.ensures.value ∙ some in
    absurd (cc)
