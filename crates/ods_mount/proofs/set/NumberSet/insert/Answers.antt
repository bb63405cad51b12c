use Rattle.std.proofs.Common.{◌≡◌, ℕ, ◌*◌, ◌/◌, ◌%◌, ◌^◌, ◌<◌, List, length, bit_or, slice_get, slice_set, Some, sym, ap, ◌∙◌, subst, arith}
use Rattle.std.proofs.lemmas.Option.{slice_get-get_or, get_or_from_slice_get}
use Rattle.ods_mount.specs.Tables.{IsWith}
use Rattle.ods_mount.proofs.Sets.{set_bit}
use Rattle.ods_mount.proofs.set.NumberSet.insert.Goals as goal

pub returns-clause-with : goal.returns-clause-with
returns-clause-with c =
    let old : List ℕ = c.self.inside.words.items in
    let b : ℕ = c.args.number in
    let P : List ℕ → Type 0 = λ l. b < 64 * length l in
    let within : b < 64 * length old = subst P (sym c.self.view_is) c.requires in
    let Q : ℕ → Type 0 = λ w. IsWith (slice_set old (b / 64) (bit_or w (1 * 2 ^ (b % 64) % 2 ^ 64))) old b in
    let R : List ℕ → Type 0 = λ l. IsWith (slice_set old (b / 64) (bit_or c.index.result.now (1 * 2 ^ (b % 64) % 2 ^ 64))) l b in
    let inside : b / 64 < length old = omega arith in
    let found : slice_get old (b / 64) ≡ Some c.index.result.now = slice_get-get_or old (b / 64) c.index.result.now inside ∙ ap Some (sym c.index.ensures) in
    subst R c.self.view_is (subst Q (get_or_from_slice_get old (b / 64) c.index.result.now 0 found) (set_bit old b inside))
