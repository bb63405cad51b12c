use Rattle.std.proofs.Common.{ℕ, List, length, subst}
use Rattle.ods_repair.specs.Doubled.{IsPut}
use Rattle.ods_repair.proofs.DoubledLaw.{has_renumbered}
use Rattle.ods_repair.proofs.doubling.renumber_doubles.Goals as goal

pub returns-clause-done : goal.returns-clause-done
returns-clause-done c =
    let I = c.args.image.now in
    let J = c.put_blocks.new.image in
    let bs = c.in_ok-lbns.lbns.items in
    let new = c.in_ok-lbns.blocks.items in
    has_renumbered I J c.args.layout.now c.args.directory bs new c.requires c.in_ok-lbns.ensures.ready c.in_ok-lbns.ensures.names c.in_ok-lbns.ensures.long
    (subst (λ xs. IsPut I xs new (length xs) J) c.deref.ensures.value (subst (λ (ys : List (List ℕ)). IsPut I c.deref.result.now ys (length c.deref.result.now) J) c.deref-2.ensures.value c.put_blocks.ensures))
