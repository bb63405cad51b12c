use Rattle.std.proofs.Common.{rules, ◌∙◌, ◌++◌, ◌∷◌, [], sym, ap, subst}
use Rattle.std.specs.List.{All}
use Rattle.std.proofs.lemmas.List.Elements.{All-push}
use Rattle.f11fs.specs.TreeFaults.{AreKept, IsKept, IsPlaced}
use Rattle.f11fs.proofs.TreesKept.{kept_more}
use Rattle.f11fs.proofs.judging_tree.judge_tree.Goals as goal

pub loop-entry-preserved-in-Continue-branch-2 : goal.loop-entry-preserved-in-Continue-branch-2
loop-entry-preserved-in-Continue-branch-2 g c =
    let kept : IsKept c.in-Some.entry = search rules in (
      subst (All IsPlaced) (sym c.in_ok-push_entry.ensures) (All-push IsPlaced c.loop-entry.entries.items c.in-Some.entry c.loop-entry.invariant.0 kept.1),
      λ whole none. c.in_ok-push_entry.ensures ∙ ap (λ l. l ++ c.in-Some.entry ∷ []) (c.loop-entry.invariant.1 whole none),
      subst (AreKept (c.loop-entry.yielded ++ c.in-Some.entry ∷ [])) (sym c.in_ok-push_entry.ensures) (kept_more c.loop-entry.yielded c.loop-entry.entries.items c.in-Some.entry kept c.loop-entry.invariant.2),
    )
