-- The blocks of a file, one by one, as its headers and their pointers name them.
use Rattle.std.proofs.Common.{◌≡◌, ℕ, ◌+◌, ◌-◌, ◌<◌, ◌≤◌, true, false, List, [], ◌∷◌, ◌++◌, length, slice_get, Some, refl, sym, ap, ◌∙◌, subst, arith}
use Rattle.std.proofs.lemmas.List.{append-nil, append_assoc, length-append}
use Rattle.ods_base.specs.Image.{IsImage}
use Rattle.ods_header.specs.declared.header.Run.{Run}
use Rattle.ods_header.specs.Header.{run_blocks, runs_of, blocks_of}
use Rattle.ods_header.specs.Home.{IsHomePlace}
use Rattle.ods_space.specs.Layout.{VolumeLayout}
use Rattle.ods_space.specs.Chain.{chain_blocks, headers_of, named_by}
use Rattle.ods_space.specs.Files.{HasBlocks, Holds, IsLayoutOf}
use Rattle.ods_space.specs.Free.{is_free_block}
use Rattle.ods_space.proofs.Onward.{named_all, named_few}
use Rattle.ods_space.proofs.Parts.{contains_at, part_at, split_at}
use Rattle.ods_space.proofs.Surveys.{first_blocks, slice_get-run_blocks}
use Rattle.ods_mount.specs.Tables.{has, IsWith, IsNoted, IsTable}
use Rattle.ods_mount.specs.Checks.{HoldsFrom, IsPassed, IsFixed, IsHeldTwice, NoneIsFree, NoneIsPlace}
use Rattle.ods_mount.proofs.Each.{each_next, each_of, holds_at, held_at}
use Rattle.ods_space.proofs.Surveyed.{same_blocks}
use Rattle.ods_mount.proofs.Sets.{noted_first, noted_more, noted_there}
use Rattle.ods_mount.proofs.Soundness.{all_at}
use Rattle.ods_mount.proofs.Holders.{held_twice, table_held}

-- what a file holds is a block of the image
pub holds_inside : (I : List (List ℕ)) (L : VolumeLayout) (n v b : ℕ) → Holds I L n v b → b < length I
holds_inside I L n v b held =
    all_at held.blocks (length I) b held.file.whole.inside (contains_at held.blocks (v - 1) b held.named)

-- what a file holds from a block on, seen from a block further on
pub holds_part : (I : List (List ℕ)) (L : VolumeLayout) (n first next : ℕ) (whole front xs rest : List ℕ) → whole ≡ front ++ (xs ++ rest) → next ≡ first + length front → HoldsFrom I L n first whole → HoldsFrom I L n next xs
holds_part I L n first next whole front xs rest parts place all j b at =
    let found : slice_get whole (length front + j) ≡ Some b = part_at whole front xs rest j b parts at in
    let e : first + (length front + j) + 1 ≡ next + j + 1 = omega arith in
    let P : ℕ → Type 0 = λ v. Holds I L n v b in
    subst P e (all (length front + j) b found)

-- the blocks of a file, from its first on
pub holds_all : (I : List (List ℕ)) (L : VolumeLayout) (n : ℕ) (blocks : List ℕ) → HasBlocks I L n blocks → HoldsFrom I L n 0 blocks
holds_all I L n blocks has j b at =
    let e : j + 1 ≡ 0 + j + 1 = omega arith in
    let P : ℕ → Type 0 = λ v. Holds I L n v b in
    subst P e (holds_at I L n blocks j b has at)

-- block j of a run
pub holds_run : (I : List (List ℕ)) (L : VolumeLayout) (n first : ℕ) (r : Run) (j : ℕ) → HoldsFrom I L n first (run_blocks r) → j < r.count → Holds I L n (first + j + 1) (r.lbn + j)
holds_run I L n first r j all within = all j (r.lbn + j) (slice_get-run_blocks r j within)

-- All headers of file n but these, which are still to come, name the first so many blocks.
pub record IsAlong (I : List (List ℕ)) (L : VolumeLayout) (n first : ℕ) (rest : List (ℕ × List ℕ)) : Type 0 where
  pub front : List ℕ
  pub parts : named_by (headers_of I L n) ≡ front ++ named_by rest
  pub size : first ≡ length front

pub along_first : (I : List (List ℕ)) (L : VolumeLayout) (n : ℕ) (rest : List (ℕ × List ℕ)) → rest ≡ headers_of I L n → IsAlong I L n 0 rest
along_first I L n rest same = record { front = []; parts = ap named_by (sym same); size = refl }

module _ (I : List (List ℕ)) (L : VolumeLayout) (n first : ℕ) (old : List (ℕ × List ℕ)) (w : IsAlong I L n first old) where
  -- one header more
  pub along_next : (h : ℕ × List ℕ) (rest : List (ℕ × List ℕ)) (next : ℕ) → old ≡ h ∷ rest → next ≡ first + length (blocks_of h.1) → IsAlong I L n next rest
  along_next h rest next is more = record {
    front = w.front ++ blocks_of h.1;
    parts = w.parts ∙ ap (λ hs. w.front ++ named_by hs) is ∙ sym (append_assoc w.front (blocks_of h.1) (named_by rest));
    size = let s = length-append w.front (blocks_of h.1) in let before = w.size in omega arith;
  }

  module _ (blocks : List ℕ) (image : IsImage I) (layout : IsLayoutOf I L) (has : HasBlocks I L n blocks) where
    -- what the next header names
    pub along_names : (h : ℕ × List ℕ) (rest : List (ℕ × List ℕ)) → old ≡ h ∷ rest → HoldsFrom I L n first (blocks_of h.1)
    along_names h rest is =
        let size = w.size in
        holds_part I L n 0 first blocks w.front (blocks_of h.1) (named_by rest) (named_all I L n blocks image layout has ∙ w.parts ∙ ap (λ hs. w.front ++ named_by hs) is) (omega arith)
        (holds_all I L n blocks has)

    pub along_few : first ≤ chain_blocks
    along_few = omega (arith, w.size, ap length w.parts, length-append w.front (named_by old), named_few I L n blocks image layout has)

    -- all blocks are named
    along_all : old ≡ [] → length blocks ≡ first
    along_all none = ap length (named_all I L n blocks image layout has ∙ w.parts ∙ ap (λ hs. w.front ++ named_by hs) none ∙ append-nil w.front) ∙ sym w.size

-- what header k of a chain names, from its pointer i on
pub names_run : (I : List (List ℕ)) (L : VolumeLayout) (n first next : ℕ) (b : List ℕ) (i : ℕ) (r : Run) → slice_get (runs_of b) i ≡ Some r → next ≡ first + length (first_blocks b i) → HoldsFrom I L n first (blocks_of b) → HoldsFrom I L n next (run_blocks r)
names_run I L n first next b i r at place all =
    let parts = split_at run_blocks (runs_of b) i r at in
    holds_part I L n first next (blocks_of b) (first_blocks b i) (run_blocks r) parts.0 parts.1 place all

-- nothing is passed so far
pub passed_none : (I : List (List ℕ)) (L : VolumeLayout) (home n : ℕ) (blocks set : List ℕ) → HasBlocks I L n blocks → IsTable (Holds I L) n set → IsPassed I L home n 0 set
passed_none I L home n blocks set has t = record {
  blocks = blocks;
  has = has;
  before = set;
  table = t;
  noted = noted_first set blocks;
  not_free = λ j b low. absurd (omega arith);
  no_place = λ j b low. absurd (omega arith);
}

module _ (I : List (List ℕ)) (L : VolumeLayout) (home n i : ℕ) (set : List ℕ) (p : IsPassed I L home n i set) (b : ℕ) (held : Holds I L n (i + 1) b) where
  -- the block is the next one
  next_block : slice_get p.blocks i ≡ Some b
  next_block =
      let at = held_at I L n p.blocks (i + 1) b p.has held in
      let e : at.0 ≡ i = let f = at.1 in omega arith in
      let P : ℕ → Type 0 = λ x. slice_get p.blocks x ≡ Some b in
      subst P e at.2

  -- a block more is passed
  pub passed_more : (new : List ℕ) → has set b ≡ false → IsWith new set b → is_free_block I L b ≡ false → (IsHomePlace b → b < home → IsFixed n i) → IsPassed I L home n (i + 1) new
  passed_more new absent with_b taken fixed = record {
    blocks = p.blocks;
    has = p.has;
    before = p.before;
    table = p.table;
    noted = noted_more p.before p.blocks i b set new p.noted next_block absent with_b;
    not_free = each_next (λ _ c. is_free_block I L c ≡ false) p.blocks i b next_block p.not_free taken;
    no_place = each_next (λ j c. IsHomePlace c → c < home → IsFixed n j) p.blocks i b next_block p.no_place fixed;
  }

  -- a block that the table has already is held twice
  pub passed_twice : has set b ≡ true → IsHeldTwice I L n b
  passed_twice member = held_twice I L n p.blocks p.before b p.has p.table (noted_there p.before set p.blocks i b p.noted next_block member)

-- all blocks are passed
passed_all : (I : List (List ℕ)) (L : VolumeLayout) (home n i : ℕ) (set blocks : List ℕ) → IsPassed I L home n i set → HasBlocks I L n blocks → length blocks ≡ i
    → IsTable (Holds I L) (n + 1) set × NoneIsFree I L blocks × NoneIsPlace home n blocks
passed_all I L home n i set blocks p has size =
    let same : p.blocks ≡ blocks = same_blocks I L n p.blocks blocks p.has has in
    let count : i ≡ length p.blocks = sym (ap length same ∙ size) in
    let P : ℕ → Type 0 = λ k. IsNoted p.before set p.blocks k in
    let Q : List ℕ → Type 0 = λ xs. NoneIsFree I L xs × NoneIsPlace home n xs in
    let free : NoneIsFree I L p.blocks = each_of (λ _ b. is_free_block I L b ≡ false) p.blocks i (omega arith) p.not_free in
    let place : NoneIsPlace home n p.blocks = each_of (λ j b. IsHomePlace b → b < home → IsFixed n j) p.blocks i (omega arith) p.no_place in
    let moved = subst Q same (free, place) in
    (table_held I L n p.blocks p.before set p.has p.table (subst P count p.noted), moved.0, moved.1)

-- at the end of a file's headers all its blocks are passed
pub passed_along : (I : List (List ℕ)) (L : VolumeLayout) (home n first : ℕ) (left : List (ℕ × List ℕ)) (set blocks : List ℕ) → IsAlong I L n first left → IsPassed I L home n first set
    → IsImage I → IsLayoutOf I L → HasBlocks I L n blocks → left ≡ [] → IsTable (Holds I L) (n + 1) set × NoneIsFree I L blocks × NoneIsPlace home n blocks
passed_along I L home n first left set blocks w p image layout has none = passed_all I L home n first set blocks p has (along_all I L n first left w blocks image layout has none)
