use Rattle.std.proofs.Common.{◌≡◌, ◌<◌, length, false, true, rules, arith}
use Rattle.ods_share.proofs.Entering.{out_of_range}
use Rattle.ods_share.proofs.settlement.in_range.Goals as goal

pub returns-then-not-is_session : goal.returns-then-not-is_session
returns-then-not-is_session c =
    let small : c.loop-at.at < length c.args.entries.now.items = omega arith in
    let no : c.is_session.result ≡ false = search rules in (
      λ h. absurd (cc),
      λ all. absurd (out_of_range c.args.sessions c.args.entries.now.items c.loop-at.at c.session.result small c.session.ensures
          (λ within. let yes : c.is_session.result ≡ true = c.is_session.ensures.1 within in absurd (cc)) all),
    )
