use Rattle.std.proofs.Common.{ℕ, ◌*◌, ◌≤◌, refl, sym, subst, arith}
use Rattle.ods_check.specs.declared.finding.Finding.TheVariants.{NamesNone}
use Rattle.ods_check.specs.Lists.{Adds}
use Rattle.ods_check.specs.Findings.{IsOtherFound, NamesFile}
use Rattle.ods_check.proofs.Adding.{adds_more, told_still}
use Rattle.ods_check.proofs.Noting.{files_none, files_more, files_all}
use Rattle.ods_check.proofs.Sweeping.{sweeps_none, sweeps_more, each_adds, each_told}
use Rattle.ods_check.proofs.StillTold.{TellsNames, told_names_still}
use Rattle.ods_check.proofs.naming.push_naming.Goals as goal
use Rattle.ods_check.proofs.naming.push_naming.Goals.{In_ok-push_each}

pub loop-number-init : goal.loop-number-init
loop-number-init c =
    let I = c.args.disk.now.image.now in
    let L = c.args.disk.now.layout.now in
    record {
      told = sweeps_none (IsOtherFound I L) (TellsNames I L) c.args.findings.now;
      files = files_none (NamesFile I L) c.in_ok-named.named c.in_ok-named.ensures.empty;
      room = c.in_ok-named.ensures.room;
    }

pub loop-number-preserved : goal.loop-number-preserved
loop-number-preserved c =
    let I = c.args.disk.now.image.now in
    let L = c.args.disk.now.layout.now in
    let mid = c.loop-number.findings in
    let new = c.push_names.new.findings in
    let told = c.in_ok-push_names.ensures in
    let P : ℕ → Type 0 = λ l. 65536 ≤ 64 * l in
    record {
      told = sweeps_more (IsOtherFound I L) (TellsNames I L) c.args.findings.now mid new c.loop-number.number (λ d. told_names_still I L mid new told.adds d) c.loop-number.invariant.told told.adds told.names;
      files = files_more (NamesFile I L) c.loop-number.number c.loop-number.named c.push_names.new.named c.loop-number.invariant.files told.named;
      room = subst P (sym told.room) c.loop-number.invariant.room;
    }

pub push_each-requires-clause-fits : goal.push_each-requires-clause-fits
push_each-requires-clause-fits c =
    let I = c.args.disk.now.image.now in
    let L = c.args.disk.now.layout.now in
    let end = c.loop-number-test.false in
    files_all (NamesFile I L) c.loop-number.number c.loop-number.named (λ d b h. let low = c.file_end-number-end.ensures.files d h.1.has.file in omega arith) c.loop-number.invariant.files

pub returns-then-not-with_lost-clause-adds : goal.returns-then-not-with_lost-clause-adds
returns-then-not-with_lost-clause-adds c = c.loop-number.invariant.told.adds

-- the lost files are among the findings
lost_found : (c : In_ok-push_each) → Adds (IsOtherFound c.args.disk.now.image.now c.args.disk.now.layout.now) c.loop-number.findings c.push_each.new.told
lost_found c = each_adds _ _ _ _ c.in_ok-push_each.ensures.each (IsOtherFound c.args.disk.now.image.now c.args.disk.now.layout.now) (λ n h. ((h, refl), refl))

pub returns-clause-adds : goal.returns-clause-adds
returns-clause-adds c =
    adds_more (IsOtherFound c.args.disk.now.image.now c.args.disk.now.layout.now) c.args.findings.now c.loop-number.findings c.push_each.new.told c.loop-number.invariant.told.adds (lost_found (goal.at.returns-clause-adds c).In_ok-push_each)

pub returns-clause-lost : goal.returns-clause-lost
returns-clause-lost c wanted = each_told _ _ _ _ c.in_ok-push_each.ensures.each

pub returns-clause-names : goal.returns-clause-names
returns-clause-names c d line none =
    let end = c.loop-number-test.false in
    let low = c.file_end-number-end.ensures.files d none.0.has.file in
    told_still (IsOtherFound c.args.disk.now.image.now c.args.disk.now.layout.now) c.loop-number.findings c.push_each.new.told (NamesNone d line) (lost_found (goal.at.returns-clause-names c).In_ok-push_each)
    (c.loop-number.invariant.told.told d (omega arith) line none)
