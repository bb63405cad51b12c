use Rattle.std.proofs.Common.{◌≡◌, ◌⊎◌, ℕ, true, List, Some, slice_get, subst}
use Rattle.ods_mount.specs.Tables.{has, IsThere}
use Rattle.ods_check.specs.Sets.{IsSetOf}
use Rattle.ods_check.specs.Findings.{HasAsHeader}
use Rattle.ods_check.proofs.Noting.{files_more}
use Rattle.ods_check.proofs.SharedHeaders.{two_more, headers_more}
use Rattle.ods_check.proofs.shared_headers.note_headers.Goals as goal

pub returns-clause-once : goal.returns-clause-once
returns-clause-once c =
    let I = c.args.disk.now.image.now in
    let L = c.args.disk.now.layout.now in
    let n = c.args.number in
    let xs = c.in_ok-headers.headers.items in
    let old = c.args.once.now in
    let new = c.insert_twice.new.once in
    let P : List ℕ → Type 0 = λ ys. IsSetOf (λ b. (has old b ≡ true) ⊎ ((j : ℕ) × (slice_get ys j ≡ Some b))) new in
    files_more (HasAsHeader I L) n old new c.requires.once (headers_more I L n xs old new c.in_ok-headers.ensures.headers (subst P c.deref.ensures.value c.insert_twice.ensures.once))

pub returns-clause-twice : goal.returns-clause-twice
returns-clause-twice c =
    let I = c.args.disk.now.image.now in
    let L = c.args.disk.now.layout.now in
    let n = c.args.number in
    let xs = c.in_ok-headers.headers.items in
    let once = c.args.once.now in
    let old = c.args.twice.now in
    let new = c.insert_twice.new.twice in
    let P : List ℕ → Type 0 = λ ys. IsSetOf (λ b. (has old b ≡ true) ⊎ IsThere once ys b) new in
    two_more I L n xs once old new c.in_ok-headers.ensures.headers c.in_ok-headers.ensures.distinct c.requires.once c.requires.twice (subst P c.deref.ensures.value c.insert_twice.ensures.twice)
