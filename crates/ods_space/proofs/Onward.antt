-- A survey of a chain that is known to be whole: what it has met and what is still to come are all blocks of the file.
use Rattle.std.proofs.Common.{◌≡◌, ℕ, ◌≤◌, List, [], ◌∷◌, ◌++◌, length, Some, sym, ap, ◌∙◌, subst, arith}
use Rattle.std.specs.Prelude.{slice_get}
use Rattle.std.proofs.lemmas.List.{append-nil, append_assoc, length-append}
use Rattle.std.proofs.lemmas.Option.{slice_get_within}
use Rattle.ods_base.specs.Image.{IsImage}
use Rattle.ods_header.specs.Header.{blocks_of}
use Rattle.ods_space.specs.Layout.{VolumeLayout}
use Rattle.ods_space.specs.Chain.{chain_blocks, index_for, headers_of, named_by}
use Rattle.ods_space.specs.Files.{HasBlocks, IsLayoutOf}
use Rattle.ods_space.specs.Walk.{IsSurveyOf}
use Rattle.ods_space.specs.declared.survey.Surveyor.{Surveyor}
use Rattle.ods_space.proofs.Sizes.{chain_size}
use Rattle.ods_space.proofs.Surveyed.{as_asked}
use Rattle.ods_space.proofs.Surveys.{slice_get-append_left}
use Rattle.ods_space.proofs.Wholes.{chain_seen}

-- A survey that looks for this, in an image of this length, has met the headers before these, of all of them.
pub record IsOnward (len wanted : ℕ) (s : Surveyor) (all rest : List (ℕ × List ℕ)) : Type 0 where
  pub length_is : s.len ≡ len
  pub wanted_is : s.wanted ≡ wanted
  pub front : List ℕ
  pub noted : IsSurveyOf s.len s.wanted s.survey front
  pub parts : named_by all ≡ front ++ named_by rest

module _ (len wanted : ℕ) (s : Surveyor) (all old : List (ℕ × List ℕ)) (w : IsOnward len wanted s all old) where
  -- one header more
  pub onward_next : (t : Surveyor) (h : ℕ × List ℕ) (rest : List (ℕ × List ℕ)) → old ≡ h ∷ rest → (t.len ≡ s.len) × (t.wanted ≡ s.wanted) × IsSurveyOf t.len t.wanted t.survey (w.front ++ blocks_of h.1) → IsOnward len wanted t all rest
  onward_next t h rest is noted = record {
    length_is = noted.0 ∙ w.length_is;
    wanted_is = noted.1 ∙ w.wanted_is;
    front = w.front ++ blocks_of h.1;
    noted = noted.2;
    parts = w.parts ∙ ap (λ hs. w.front ++ named_by hs) is ∙ sym (append_assoc w.front (blocks_of h.1) (named_by rest));
  }

  -- what was met is few
  pub onward_few : length (named_by all) ≤ chain_blocks → length w.front ≤ chain_blocks
  onward_few few = omega (arith, ap length w.parts, length-append w.front (named_by old), few)

  -- what was found is found in all blocks
  pub onward_found : (lbn : ℕ) → s.survey.found ≡ Some lbn → slice_get (named_by all) wanted ≡ Some lbn
  onward_found lbn found =
      let here : slice_get w.front wanted ≡ Some lbn = ap (slice_get w.front) (sym w.wanted_is) ∙ sym w.noted.found ∙ found in
      ap (λ l. slice_get l wanted) w.parts ∙ slice_get-append_left w.front (named_by old) wanted (slice_get_within w.front wanted lbn here) ∙ here

  -- all are met
  pub onward_all : old ≡ [] → IsSurveyOf len wanted s.survey (named_by all)
  onward_all none =
      let all_is : named_by all ≡ w.front = w.parts ∙ ap (λ hs. w.front ++ named_by hs) none ∙ append-nil w.front in
      as_asked s.survey (named_by all) s.len len s.wanted wanted (subst (IsSurveyOf s.len s.wanted s.survey) (sym all_is) w.noted) w.length_is w.wanted_is

module _ (I : List (List ℕ)) (L : VolumeLayout) (n : ℕ) (blocks : List ℕ) (image : IsImage I) (layout : IsLayoutOf I L) (has : HasBlocks I L n blocks) where
  -- the headers of a file's chain name its blocks
  pub named_all : blocks ≡ named_by (headers_of I L n)
  named_all = let seen = chain_seen I L n has.others blocks image layout has.whole.chain in seen.named ∙ ap named_by (sym seen.headers)

  pub named_few : length (named_by (headers_of I L n)) ≤ chain_blocks
  named_few = omega (arith, ap length named_all, chain_size I L.home (index_for L n) n has.others blocks image has.whole.chain)
