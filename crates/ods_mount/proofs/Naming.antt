-- Which files hold a block, by what their headers name.
use Rattle.std.proofs.Common.{◌≡◌, ℕ, ◌+◌, Bool, true, false, List, [], ◌∷◌, slice_get, Some, inl, inr, sym, ap, ◌∙◌, subst, arith}
use Rattle.std.specs.Prelude.{MatchBool}
use Rattle.std.specs.List.{Contains}
use Rattle.std.proofs.lemmas.List.Elements.{Contains-append_left, Contains-append_right, Contains-append_cases}
use Rattle.std.proofs.lemmas.Option.{slice_get-get_or}
use Rattle.ods_base.specs.Image.{IsImage}
use Rattle.ods_header.specs.Header.{blocks_of}
use Rattle.ods_space.specs.Layout.{VolumeLayout}
use Rattle.ods_space.specs.Chain.{headers_of, named_by}
use Rattle.ods_space.specs.Files.{HasBlocks, Holds, IsLayoutOf}
use Rattle.ods_space.proofs.Onward.{named_all}
use Rattle.ods_space.proofs.Parts.{contains_at}
use Rattle.ods_mount.proofs.Each.{holds_at, held_at}

-- All headers name the block where these do, which are still to come, and only there.
pub record IsSought (b : ℕ) (all rest : List (ℕ × List ℕ)) : Type 0 where
  pub some : Contains (named_by rest) b → Contains (named_by all) b
  pub only : Contains (named_by all) b → Contains (named_by rest) b

pub sought_first : (b : ℕ) (all rest : List (ℕ × List ℕ)) → rest ≡ all → IsSought b all rest
sought_first b all rest same =
    let P : List (ℕ × List ℕ) → Type 0 = λ hs. IsSought b hs rest in
    subst P same (record { some = λ named. named; only = λ named. named })

module _ (b : ℕ) (all old : List (ℕ × List ℕ)) (s : IsSought b all old) where
  abbrev Names : List (ℕ × List ℕ) → Type 0
  Names headers = Contains (named_by headers) b

  module _ (h : ℕ × List ℕ) (rest : List (ℕ × List ℕ)) (is : old ≡ h ∷ rest) where
    -- this header names it
    pub sought_here : Contains (blocks_of h.1) b → Names all
    sought_here named = s.some (subst Names (sym is) (Contains-append_left (blocks_of h.1) (named_by rest) b named))

    -- this one does not
    pub sought_more : ¬ Contains (blocks_of h.1) b → IsSought b all rest
    sought_more out = record {
      some = λ named. s.some (subst Names (sym is) (Contains-append_right (blocks_of h.1) (named_by rest) b named));
      only = λ named. elim (Contains-append_cases (blocks_of h.1) (named_by rest) b (subst Names is (s.only named))) [ inl here ↦ absurd (out here) | inr behind ↦ behind ];
    }

  -- there is no header more
  pub sought_none : old ≡ [] → ¬ Names all
  sought_none none named = let P : List (ℕ × List ℕ) → Type 0 = Names in let at = subst P none (s.only named) in let low = at.1 in omega arith

-- whether a file holds the block, by what the headers of its chain name
pub held_answer : (I : List (List ℕ)) (L : VolumeLayout) (n : ℕ) (blocks : List ℕ) (b : ℕ) (answer : Bool) → IsImage I → IsLayoutOf I L → HasBlocks I L n blocks
    → MatchBool answer (Contains (named_by (headers_of I L n)) b) (¬ Contains (named_by (headers_of I L n)) b)
    → MatchBool answer ((v : ℕ) × Holds I L n v b) ((v : ℕ) → ¬ Holds I L n v b)
held_answer I L n blocks b true image layout has named =
    let P : List ℕ → Type 0 = λ l. Contains l b in
    let at = subst P (sym (named_all I L n blocks image layout has)) named in
    let found : slice_get blocks at.0 ≡ Some b = slice_get-get_or blocks at.0 b at.1 ∙ ap Some at.2 in
    (at.0 + 1, holds_at I L n blocks at.0 b has found)
held_answer I L n blocks b false image layout has none = λ v held.
    let at = held_at I L n blocks v b has held in
    let P : List ℕ → Type 0 = λ l. Contains l b in
    none (subst P (named_all I L n blocks image layout has) (contains_at blocks at.0 b at.2))
