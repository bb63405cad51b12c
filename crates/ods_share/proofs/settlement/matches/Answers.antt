use Rattle.std.proofs.Common.{◌≡◌, ◌<◌, ◌∷◌, length, false, true, rules, arith}
use Rattle.ods_share.proofs.Entering.{its_call, no_call, none_of_it, other_call}
use Rattle.ods_share.proofs.settlement.matches.Goals.{then-session+in-Some+else-not-is_entry, else-session}
use Rattle.ods_share.proofs.settlement.matches.Goals as goal

pub returns-in_default : goal.returns-in_default
returns-in_default c =
    let none : length c.loop-at.calls.now ≡ 0 = search rules in
    let small : c.loop-at.at < length c.args.entries.now.items = omega arith in
    no_call c.args.session c.args.entries.now.items c.loop-at.at small c.session.result c.session.ensures _ c.loop-at.calls.now c.loop-at.invariant none c.if-session.true

pub returns-then-not-is_entry : goal.returns-then-not-is_entry
returns-then-not-is_entry c =
    let some : c.loop-at.calls.now ≡ c.in-Some.call.now ∷ c.in-Some.others.now = search rules in
    let small : c.loop-at.at < length c.args.entries.now.items = omega arith in
    let no : c.is_entry.result ≡ false = search rules in
    other_call c.args.session c.args.entries.now.items c.loop-at.at small c.session.result c.session.ensures _ c.loop-at.calls.now c.loop-at.invariant c.in-Some.call.now c.in-Some.others.now some
    (λ e same. let yes : c.is_entry.result ≡ true = (c.is_entry.ensures e).1 same in absurd (cc)) c.if-session.true

pub loop-at-preserved : goal.loop-at-preserved
loop-at-preserved c =
    let small : c.loop-at.at < length c.args.entries.now.items = omega arith in
    elim c.if-session.branch [
      | then-session+in-Some+else-not-is_entry w ↦
          let some : c.loop-at.calls.now ≡ w.in-Some.call.now ∷ w.in-Some.others.now = search rules in
          let yes : w.is_entry.result ≡ true = search rules in
          its_call c.args.session c.args.entries.now.items c.loop-at.at small c.session.result c.session.ensures _ c.loop-at.calls.now c.loop-at.invariant w.in-Some.call.now w.in-Some.others.now c.if-session.calls.now some (λ i. (w.calls-is i).now)
          (λ e. (w.is_entry.ensures e).0 yes) w.if-session.true
      | else-session w ↦
          none_of_it c.args.session c.args.entries.now.items c.loop-at.at small c.session.result c.session.ensures _ c.loop-at.calls.now c.loop-at.invariant c.if-session.calls.now (λ i. (w.calls-is i).now) w.if-session.false
    ]
