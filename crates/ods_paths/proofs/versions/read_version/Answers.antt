use Rattle.std.proofs.Common.{◌≡◌, ◌≢◌, ℕ, List, ◌↔◌, Bool, false}
use Rattle.std.specs.Bool.{IsTrue}
use Rattle.ods_paths.proofs.VersionTexts.{highest_version, lowest_version, every_version, given_version}
use Rattle.ods_paths.proofs.versions.read_version.Goals as goal

-- the text is another
other : {b : Bool} (xs ys : List ℕ) → (IsTrue b ↔ (xs ≡ ys)) → b ≡ false → xs ≢ ys
other xs ys is e = λ same. let t = is.1 same in absurd (cc (t, e))

pub returns-then-is_text : goal.returns-then-is_text
returns-then-is_text c = highest_version c.args.text.now (c.is_text.ensures.0 c.if-is_text.true)

pub returns-then-is_text-2 : goal.returns-then-is_text-2
returns-then-is_text-2 c = lowest_version c.args.text.now (other _ _ c.is_text.ensures c.if-is_text.false) (c.is_text-2.ensures.0 c.if-is_text-2.true)

pub returns-then-is_text-3 : goal.returns-then-is_text-3
returns-then-is_text-3 c = every_version c.args.text.now (other _ _ c.is_text.ensures c.if-is_text.false) (other _ _ c.is_text-2.ensures c.if-is_text-2.false) (c.is_text-3.ensures.0 c.if-is_text-3.true)

pub returns : goal.returns
returns c = given_version c.args.text.now c.read_exact.result (other _ _ c.is_text.ensures c.if-is_text.false) (other _ _ c.is_text-2.ensures c.if-is_text-2.false) (other _ _ c.is_text-3.ensures c.if-is_text-3.false) c.read_exact.ensures
