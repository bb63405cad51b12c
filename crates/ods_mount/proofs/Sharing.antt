-- That no two files share a header, by a table of the headers that the files before have.
use Rattle.std.proofs.Common.{◌≡◌, ◌≢◌, ℕ, ◌+◌, true, false, List, [], ◌∷◌, ◌++◌, length, slice_get, Some, inl, inr, refl, sym, ap, ◌∙◌, subst, arith}
use Rattle.std.proofs.lemmas.List.{append-nil, append_assoc, length-append}
use Rattle.ods_base.specs.Image.{IsImage}
use Rattle.ods_space.specs.Layout.{VolumeLayout}
use Rattle.ods_space.specs.Chain.{headers_of, numbers_of}
use Rattle.ods_space.specs.Files.{IsFile, HasBlocks, IsLayoutOf}
use Rattle.ods_space.proofs.Parts.{contains_at, part_at}
use Rattle.ods_space.proofs.Wholes.{IsSeen, chain_seen}
use Rattle.ods_mount.specs.declared.fault.MountFault.TheVariants.{BadChain}
use Rattle.ods_mount.specs.Faults.{IsTrueOf}
use Rattle.ods_mount.specs.Checks.{HasHeader}
use Rattle.ods_mount.specs.Tables.{has, IsWith, IsNoted, IsThere, IsTable}
use Rattle.ods_mount.proofs.Sets.{noted_first, noted_more, noted_there}
use Rattle.ods_mount.proofs.Tables.{table_past, table_done}

-- The numbers of all headers of a chain but of these, which are still to come, are noted.
pub record IsNaming (numbers start now : List ℕ) (rest : List (ℕ × List ℕ)) : Type 0 where
  pub front : List ℕ
  pub parts : numbers ≡ front ++ numbers_of rest
  pub noted : IsNoted start now numbers (length front)

pub naming_first : (all rest : List (ℕ × List ℕ)) (start : List ℕ) → rest ≡ all → IsNaming (numbers_of all) start start rest
naming_first all rest start same = record { front = []; parts = ap numbers_of (sym same); noted = noted_first start (numbers_of all) }

module _ (numbers start now : List ℕ) (old : List (ℕ × List ℕ)) (w : IsNaming numbers start now old) where
  module _ (h : ℕ × List ℕ) (rest : List (ℕ × List ℕ)) (is : old ≡ h ∷ rest) where
    next_at : slice_get numbers (length w.front) ≡ Some h.0
    next_at =
        let e : length w.front + 0 ≡ length w.front = omega arith in
        let P : ℕ → Type 0 = λ i. slice_get numbers i ≡ Some h.0 in
        subst P e (part_at numbers w.front (h.0 ∷ []) (numbers_of rest) 0 h.0 (w.parts ∙ ap (λ hs. w.front ++ numbers_of hs) is) refl)

    -- one header more, which was not there
    pub naming_more : (new : List ℕ) → has now h.0 ≡ false → IsWith new now h.0 → IsNaming numbers start new rest
    naming_more new absent with_it =
        let size : length w.front + 1 ≡ length (w.front ++ h.0 ∷ []) = let s = length-append w.front (h.0 ∷ []) in omega arith in
        let P : ℕ → Type 0 = λ i. IsNoted start new numbers i in
        record {
          front = w.front ++ h.0 ∷ [];
          parts = w.parts ∙ ap (λ hs. w.front ++ numbers_of hs) is ∙ sym (append_assoc w.front (h.0 ∷ []) (numbers_of rest));
          noted = subst P size (noted_more start numbers (length w.front) h.0 now new w.noted next_at absent with_it);
        }

    -- a header that is there already
    pub naming_there : has now h.0 ≡ true → IsThere start numbers h.0
    naming_there member = noted_there start now numbers (length w.front) h.0 w.noted next_at member

  -- all are noted
  pub naming_all : old ≡ [] → IsNoted start now numbers (length numbers)
  naming_all none =
      let all : w.front ≡ numbers = sym (w.parts ∙ ap (λ hs. w.front ++ numbers_of hs) none ∙ append-nil w.front) in
      let P : ℕ → Type 0 = λ i. IsNoted start now numbers i in
      subst P (ap length all) w.noted

module _ (I : List (List ℕ)) (L : VolumeLayout) (n : ℕ) (blocks : List ℕ) (image : IsImage I) (layout : IsLayoutOf I L) (own : HasBlocks I L n blocks) where
  abbrev numbers : List ℕ
  numbers = numbers_of (headers_of I L n)

  seen : IsSeen I L n own.others blocks
  seen = chain_seen I L n own.others blocks image layout own.whole.chain

  -- a number of the list is a header of the file
  header_here : (j x : ℕ) → slice_get numbers j ≡ Some x → HasHeader I L n j x
  header_here j x at =
      let P : List ℕ → Type 0 = λ ys. slice_get ys j ≡ Some x in
      record { file = own.file; others = own.others; blocks = blocks; chain = own.whole.chain; named = subst P seen.numbers at }

  -- a header of the file is in the list
  header_in : (j x : ℕ) → HasHeader I L n j x → (i : ℕ) × (j ≡ i) × (slice_get numbers i ≡ Some x)
  header_in j x h =
      let P : List ℕ → Type 0 = λ ys. slice_get ys j ≡ Some x in
      (j, refl, subst P (sym (chain_seen I L n h.others h.blocks image layout h.chain).numbers) h.named)

  -- with its headers the table is that of one file more
  pub table_named : (old new : List ℕ) → IsTable (HasHeader I L) n old → IsNoted old new numbers (length numbers) → IsTable (HasHeader I L) (n + 1) new
  table_named old new t noted = table_done (HasHeader I L) n numbers old new t noted (λ j. j) header_in header_here

  -- a header is in its chain but once
  once_here : (i j x : ℕ) → slice_get numbers i ≡ Some x → slice_get numbers j ≡ Some x → i ≡ j
  once_here i j x one two =
      let P : ℕ → List ℕ → Type 0 = λ k ys. slice_get ys k ≡ Some x in
      sym (seen.segment i x (subst (P i) seen.numbers one)) ∙ seen.segment j x (subst (P j) seen.numbers two)

  -- a header that the table has is shared with a file before
  pub shared : (old : List ℕ) (x : ℕ) → IsTable (HasHeader I L) n old → IsThere old numbers x → IsTrueOf I L (BadChain n)
  shared old x t there = elim there.there [
    | inl before ↦
        let o = t.only x before in
        let h = o.3 in
        let here = header_here there.index x there.named in
        let apart : o.0 ≢ n = λ e. (let low = o.2 in omega arith) in (
          own.file,
          inr (
            o.0,
            h.others,
            here.others,
            h.blocks,
            here.blocks,
            x,
            apart,
            h.file,
            h.chain,
            here.chain,
            contains_at (o.0 ∷ h.others) o.1 x h.named,
            contains_at (n ∷ here.others) there.index x here.named,
          ),
        )
    | inr (j, low, at) ↦ let same = once_here j there.index x at there.named in absurd (omega arith)
  ]

-- a number that is no file changes nothing
pub table_unnamed : (I : List (List ℕ)) (L : VolumeLayout) (n : ℕ) (set : List ℕ) → ¬ IsFile I L n → IsTable (HasHeader I L) n set → IsTable (HasHeader I L) (n + 1) set
table_unnamed I L n set none t = table_past (HasHeader I L) n set (λ v b h. none h.file) t
