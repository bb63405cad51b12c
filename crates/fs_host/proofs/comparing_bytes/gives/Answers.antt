-- Some bytes more, the reader's end, and all bytes.
use Rattle.std.proofs.Common.{ℕ, ◌+◌, ◌-◌, ◌≤◌, List, subst, arith, length, take, drop, length-take, length-drop}
use Rattle.std.specs.Io.KnownBytes.{Consumes}
use Rattle.std.proofs.KnownBytes.{Consumes-trans}
use Rattle.fs_host.proofs.Comparing.{gives_end, gives_last, part_more}
use Rattle.fs_host.proofs.comparing_bytes.gives.Goals as goal

pub loop-at-preserved : goal.loop-at-preserved
loop-at-preserved g c =
    let xs : List ℕ = c.args.wanted.now in
    let at : ℕ = c.loop-at.at in
    let n : ℕ = c.in-Some.count in
    let taken : n ≤ length (take (length xs - at) (drop at xs)) = c.in-Some.ensures.few in
    let more : at + n ≤ length xs = omega (arith, simp (length-take, length-drop) at taken) in
    let remaining = g.R.Read.remaining in
    let P : List ℕ → Type 0 = λ bytes. Consumes (remaining c.args.reader.now) (remaining c.give_some.new.reader) bytes in
    record {
      within = more;
      given = subst P (part_more at n xs more) (Consumes-trans (remaining c.args.reader.now) (remaining c.loop-at.reader) (remaining c.give_some.new.reader) _ _ c.loop-at.invariant.given c.in-Some.ensures.given);
    }

pub returns-then-count-eq0 : goal.returns-then-count-eq0
returns-then-count-eq0 g c = λ t.
    let remaining = g.R.Read.remaining in
    gives_end c.args.ends_in_zeros (remaining c.args.reader.now) (remaining c.loop-at.reader) (remaining c.give_some.new.reader) c.args.wanted.now _ c.loop-at.at c.in-Some.count
    c.loop-at.invariant.given c.in-Some.ensures.given c.if-count-eq0.true (c.in-Some.ensures.end c.if-count-eq0.true) (c.may_lack.ensures t)

pub returns : goal.returns
returns g c = λ _.
    let remaining = g.R.Read.remaining in
    gives_last c.args.ends_in_zeros (remaining c.args.reader.now) (remaining c.loop-at.reader) c.args.wanted.now c.loop-at.at c.loop-at.invariant.given c.loop-at-test.false
