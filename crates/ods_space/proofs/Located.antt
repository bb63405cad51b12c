-- Places in a header's blocks and in those of a chain, where what stands before is passed over by its count.
use Rattle.std.proofs.Common.{◌≡◌, ℕ, zero, suc, ◌+◌, ◌-◌, ◌<◌, ◌≤◌, List, [], ◌∷◌, ◌++◌, length, drop, Option, Some, None, refl, sym, ap, ◌∙◌, subst, arith}
use Rattle.std.specs.Prelude.{slice_get, IfSome}
use Rattle.std.specs.List.{flat_map}
use Rattle.std.proofs.lemmas.List.{drop_all, length-append}
use Rattle.std.proofs.lemmas.Option.{slice_get_past}
use Rattle.ods_header.specs.declared.header.Run.{Run}
use Rattle.ods_header.specs.Header.{IsLaidOut, run_blocks, runs_of, blocks_of}
use Rattle.ods_space.specs.Layout.{VolumeLayout, header_at}
use Rattle.ods_space.specs.Chain.{IsChain, named_by}
use Rattle.ods_space.specs.Files.{HasBlocks, Holds, IsLayoutOf}
use Rattle.ods_space.proofs.Surveyed.{file_of_chain}
use Rattle.ods_space.proofs.Surveys.{slice_get-append_left, slice_get-append_right, slice_get-run_blocks, length-run_blocks}

-- the runs from pointer k on begin with that one
pub drop_next : (rs : List Run) (k : ℕ) (r : Run) → slice_get rs k ≡ Some r → drop k rs ≡ r ∷ drop (k + 1) rs
drop_next [] k r is = absurd (let clash : None ≡ Some r = is in cc)
drop_next (x ∷ rs) zero r is = let same : x ≡ r = cc in ap (λ y. y ∷ rs) same
drop_next (x ∷ rs) (suc k) r is =
    let more : suc k + 1 ≡ suc (k + 1) = omega arith in
    drop_next rs k r is ∙ ap (λ j. r ∷ drop j (x ∷ rs)) (sym more)

-- a place in the first list, and one behind it
pub place_within : (xs ys : List ℕ) (i n : ℕ) → n ≡ length xs → i < n → slice_get (xs ++ ys) i ≡ slice_get xs i
place_within xs ys i n size low = slice_get-append_left xs ys i (omega arith)

pub place_behind : (xs ys : List ℕ) (i n : ℕ) → n ≡ length xs → n ≤ i → slice_get (xs ++ ys) i ≡ slice_get ys (i - n)
place_behind xs ys i n size high =
    let place : i ≡ length xs + (i - n) = omega arith in
    ap (slice_get (xs ++ ys)) place ∙ slice_get-append_right xs ys (i - n)

-- the blocks of a header from pointer k on
abbrev pub blocks_from : List ℕ → ℕ → List ℕ
blocks_from b k = flat_map run_blocks (drop k (runs_of b))

module _ (b : List ℕ) (k : ℕ) (r : Run) (is : slice_get (runs_of b) k ≡ Some r) where
  pub blocks_from_next : blocks_from b k ≡ run_blocks r ++ blocks_from b (k + 1)
  blocks_from_next = ap (flat_map run_blocks) (drop_next (runs_of b) k r is)

  -- the place is in this run, or behind it
  pub place_in_run : (i : ℕ) → i < r.count → slice_get (blocks_from b k) i ≡ Some (r.lbn + i)
  place_in_run i low =
      ap (λ l. slice_get l i) blocks_from_next ∙ place_within (run_blocks r) (blocks_from b (k + 1)) i r.count (sym (length-run_blocks r)) low ∙ slice_get-run_blocks r i low

  pub place_behind_run : (i : ℕ) → r.count ≤ i → slice_get (blocks_from b k) i ≡ slice_get (blocks_from b (k + 1)) (i - r.count)
  place_behind_run i high = ap (λ l. slice_get l i) blocks_from_next ∙ place_behind (run_blocks r) (blocks_from b (k + 1)) i r.count (sym (length-run_blocks r)) high

-- no place is behind the last pointer
pub no_place : (b : List ℕ) (k i : ℕ) → length (runs_of b) ≤ k → slice_get (blocks_from b k) i ≡ None
no_place b k i all = ap (λ l. slice_get l i) (ap (flat_map run_blocks) (drop_all k (runs_of b) all)) ∙ slice_get_past [] i (omega arith)

module _ (hs rest : List (ℕ × List ℕ)) (h : ℕ × List ℕ) (is : hs ≡ h ∷ rest) (n : ℕ) (size : n ≡ length (blocks_of h.1)) where
  -- what headers name, with the first of them passed over
  pub named_next : length (named_by hs) ≡ n + length (named_by rest)
  named_next = let parts = ap (λ l. length (named_by l)) is ∙ length-append (blocks_of h.1) (named_by rest) in omega (arith, parts, size)

  pub named_within : (i : ℕ) → i < n → slice_get (named_by hs) i ≡ slice_get (blocks_of h.1) i
  named_within i low = ap (λ l. slice_get (named_by l) i) is ∙ place_within (blocks_of h.1) (named_by rest) i n size low

  pub named_behind : (i : ℕ) → n ≤ i → slice_get (named_by hs) i ≡ slice_get (named_by rest) (i - n)
  named_behind i high = ap (λ l. slice_get (named_by l) i) is ∙ place_behind (blocks_of h.1) (named_by rest) i n size high

pub none_named : (hs : List (ℕ × List ℕ)) (i : ℕ) → hs ≡ [] → slice_get (named_by hs) i ≡ None
none_named hs i none = ap (λ l. slice_get (named_by l) i) none ∙ slice_get_past [] i (omega arith)

-- what is at a place of a file's blocks the file holds there
pub held_there : (I : List (List ℕ)) (L : VolumeLayout) (n vbn : ℕ) (found : Option ℕ) (blocks : List ℕ) → HasBlocks I L n blocks → 1 ≤ vbn → found ≡ slice_get blocks (vbn - 1) → IfSome found (Holds I L n vbn)
held_there I L n vbn found blocks has first is = by found refl
  where
    by : (o : Option ℕ) → found ≡ o → IfSome o (Holds I L n vbn)
    by None e = tt
    by (Some lbn) e = record { blocks = blocks; file = has; first = first; named = sym is ∙ e }

-- the first header of a chain is laid out
pub laid_out : (I : List (List ℕ)) (L : VolumeLayout) (n : ℕ) (others blocks b : List ℕ) → IsLayoutOf I L → IsChain I L n others blocks → b ≡ header_at I L n → IsLaidOut b
laid_out I L n others blocks b layout chain is = let file = file_of_chain I L n others blocks (record { home = layout.home; index = layout.index }) chain in subst IsLaidOut (sym is) file.valid.header.layout

-- nothing is left behind the last pointer of a header
pub none_behind : (b : List ℕ) (k : ℕ) (rest : List ℕ) → length (runs_of b) ≤ k → blocks_from b k ++ rest ≡ rest
none_behind b k rest all = ap (λ rs. flat_map run_blocks rs ++ rest) (drop_all k (runs_of b) all)
