use Rattle.std.proofs.Common.{◌≡◌, refl, subst, inl, inr, Some, length, arith}
use Rattle.std.proofs.lemmas.Result.{err_from_is_err_and, IfErr-weaker}
use Rattle.ods_shell.specs.declared.alone.Alone.TheVariants as alone
use Rattle.ods_shell.specs.Named.{highest}
use Rattle.ods_upkeep.specs.Moved.{AreMoved, IsNotMoved, MayNotMove, StopsMoving}
use Rattle.ods_upkeep.specs.Refused.{AreNoSources, AreNotKept, IsFirstKept}
use Rattle.ods_upkeep.specs.Sources.{AreSources}
use Rattle.ods_upkeep.specs.Target.{IsNoTarget, IsTarget}
use Rattle.ods_upkeep.proofs.Lists.{if_done}
use Rattle.ods_upkeep.proofs.Naming.{same_disk, same_unsaid}
use Rattle.ods_upkeep.proofs.moving.move_names.Goals as goal
use Rattle.ods_upkeep.proofs.moving.move_names.Goals.{After-len, In_ok-all, In_ok-check_all, In_ok-target}

-- what the paths name
sources : (c : In_ok-all) → AreSources c.args.filing.now.image c.args.filing.now.layout (highest alone.Themselves) c.args.paths.now c.in_ok-all.all.items
sources c = same_unsaid (λ J M u. AreSources J M u c.args.paths.now c.in_ok-all.all.items) c.mounted.ensures.0 c.mounted.ensures.1 c.highest.ensures c.in_ok-all.ensures

-- how many that is
many : (c : After-len) → c.len.result ≡ length c.in_ok-all.all.items
many c = omega (arith, c.len.ensures, c.in_ok-all.all.ok.0)

-- where it goes
target : (c : In_ok-target) → c.len.result ≡ length c.in_ok-all.all.items → IsTarget c.args.filing.now.image c.args.filing.now.layout (length c.in_ok-all.all.items) c.args.to.now c.in_ok-target.target
target c is =
    subst (λ n. IsTarget c.args.filing.now.image c.args.filing.now.layout n c.args.to.now c.in_ok-target.target) is
    (same_disk (λ J M. IsTarget J M c.len.result c.args.to.now c.in_ok-target.target) c.mounted-2.ensures.0 c.mounted-2.ensures.1 c.in_ok-target.ensures)

-- and all of it may move
none_kept : (c : In_ok-check_all) → AreNotKept (MayNotMove c.args.filing.now.image c.args.filing.now.layout c.in_ok-target.target) c.in_ok-all.all.items
none_kept c =
    subst (AreNotKept (MayNotMove c.args.filing.now.image c.args.filing.now.layout c.in_ok-target.target)) c.deref.ensures.value
    (same_disk (λ J M. AreNotKept (MayNotMove J M c.in_ok-target.target) c.deref.result.now) c.mounted-3.ensures.0 c.mounted-3.ensures.1 c.in_ok-check_all.ensures.ok)

pub returns-clause-done : goal.returns-clause-done
returns-clause-done c =
    let at = goal.at.returns-clause-done c in
    let to = c.in_ok-target.target in
    if_done c.move_all.result
    (λ done. (
      c.in_ok-all.all.items,
      (to, sources at.In_ok-all, target at.In_ok-target (many at.After-len), none_kept at.In_ok-check_all, subst (λ l. AreMoved to l c.args.filing.now c.move_all.new.filing) c.deref-2.ensures.value done),
    ))
    c.move_all.ensures.done

pub returns-clause-refused : goal.returns-clause-refused
returns-clause-refused c =
    let at = goal.at.returns-clause-refused c in
    let to = c.in_ok-target.target in
    IfErr-weaker c.move_all.result (StopsMoving to c.deref-2.result.now c.args.filing.now c.move_all.new.filing) (IsNotMoved c.args.paths.now c.args.to.now c.args.filing.now c.move_all.new.filing)
    (λ failure stops. inr (
      c.in_ok-all.all.items,
      sources at.In_ok-all,
      inr (
        to,
        target at.In_ok-target (many at.After-len),
        inr (inr (none_kept at.In_ok-check_all, subst (λ l. StopsMoving to l c.args.filing.now c.move_all.new.filing failure) c.deref-2.ensures.value stops)),
      ),
    ))
    c.move_all.ensures.refused

pub returns-in_err-check_all-clause-refused : goal.returns-in_err-check_all-clause-refused
returns-in_err-check_all-clause-refused c =
    let at = goal.at.returns-in_err-check_all-clause-refused c in
    let I = c.args.filing.now.image in
    let L = c.args.filing.now.layout in
    let to = c.in_ok-target.target in
    let failure = c.in_err-check_all.field-0.0 in
    let p = err_from_is_err_and c.from_residual-in_err-check_all.result c.from_residual-in_err-check_all.ensures.1 in
    rw (p.1, p.2)
    (inr (
      c.in_ok-all.all.items,
      sources at.In_ok-all,
      inr (
        to,
        target at.In_ok-target (many at.After-len),
        elim c.in_err-check_all.ensures.err [
          | inl kept ↦
              inl (
                refl,
                subst (λ l. IsFirstKept (MayNotMove I L to) l failure) c.deref.ensures.value
                    (same_disk (λ J M. IsFirstKept (MayNotMove J M to) c.deref.result.now failure) c.mounted-3.ensures.0 c.mounted-3.ensures.1 kept),
              )
          | inr none ↦ inr (inl (refl, none))
        ],
      ),
    ))

pub returns-in_err-target-clause-refused : goal.returns-in_err-target-clause-refused
returns-in_err-target-clause-refused c =
    let at = goal.at.returns-in_err-target-clause-refused c in
    let failure = c.in_err-target.field-0.0 in
    let none : IsNoTarget c.args.filing.now.image c.args.filing.now.layout (length c.in_ok-all.all.items) c.args.to.now failure.why =
    subst (λ n. IsNoTarget c.args.filing.now.image c.args.filing.now.layout n c.args.to.now failure.why) (many at.After-len)
    (same_disk (λ J M. IsNoTarget J M c.len.result c.args.to.now failure.why) c.mounted-2.ensures.0 c.mounted-2.ensures.1 c.in_err-target.ensures.0) in
    let p = err_from_is_err_and c.from_residual-in_err-target.result c.from_residual-in_err-target.ensures.1 in
    rw (p.1, p.2) (inr (c.in_ok-all.all.items, sources at.In_ok-all, inl (refl, none, c.in_err-target.ensures.1)))

pub returns-in_err-all-clause-refused : goal.returns-in_err-all-clause-refused
returns-in_err-all-clause-refused c =
    let failure = c.in_err-all.field-0.0 in
    let p = err_from_is_err_and c.from_residual.result c.from_residual.ensures.1 in
    rw (p.1, p.2) (inl (refl, same_unsaid (λ J M u. AreNoSources J M u c.args.paths.now failure) c.mounted.ensures.0 c.mounted.ensures.1 c.highest.ensures c.in_err-all.ensures))
