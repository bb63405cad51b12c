use Rattle.f11fs.proofs.mending_shares.push_sharing.Goals as goal

pub returns-in_default-clause-whole : goal.returns-in_default-clause-whole
returns-in_default-clause-whole c = λ now. (now, λ n tells. absurd (c.in_default.ensures n tells))
