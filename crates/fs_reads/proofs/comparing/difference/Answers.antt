use Rattle.std.proofs.Common.{rules, ◌≡◌, inl, inr, refl}
use Rattle.fs_reads.proofs.Likeness.{same_bytes}
use Rattle.fs_reads.proofs.comparing.difference.Goals as goal

pub returns-in-Ok-true : goal.returns-in-Ok-true
returns-in-Ok-true c =
    let same : c.args.facts.now.attributes ≡ c.args.others.now.attributes = same_bytes c.args.facts.now.attributes c.args.others.now.attributes c.if-ne.ensures in
    let e = c.in-Ok-true.ensures.ok in
    inr (same, (e.0, (e.1, (e.2, (e.3, e.4.0 (search rules))))))

pub returns-in-Ok-false : goal.returns-in-Ok-false
returns-in-Ok-false c =
    let same : c.args.facts.now.attributes ≡ c.args.others.now.attributes = same_bytes c.args.facts.now.attributes c.args.others.now.attributes c.if-ne.ensures in
    let e = c.in-Ok-false.ensures.ok in
    inr (inl (refl, (same, (e.0, (e.1, (e.2, (e.3, λ alike. let told = e.4.1 alike in search rules)))))))
