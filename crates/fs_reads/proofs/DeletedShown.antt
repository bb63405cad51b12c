-- The texts of the deleted files that some paths look for, and of one path more.
use Rattle.std.proofs.Common.{◌≡◌, ◌∙◌, ℕ, ◌+◌, ◌<◌, ◌≤◌, Bool, List, [], ◌∷◌, ◌++◌, refl, sym, ap, subst, take, length, get_or, append_assoc, append-nil, arith, None}
use Rattle.std.specs.Borrow.{Bor}
use Rattle.std.proofs.lemmas.List.{take_more}
use Rattle.ods_space.specs.Layout.{VolumeLayout}
use Rattle.fs_reads.specs.Deleted.{ShowsAsked, ShowsDeleted, ShowsPath, ShowsPaths}

module _ (I : List (List ℕ)) (L : VolumeLayout) (json : Bool) (image : List ℕ) (long : Bool) where
  shown_more : (paths : List (Bor (List ℕ))) (path : Bor (List ℕ)) (text one : List ℕ) → ShowsPath I L json image long path.now one → ShowsPaths I L json image long paths text
      → ShowsPaths I L json image long (paths ++ path ∷ []) (text ++ one)
  shown_more [] path text one is are = (one, [], is, refl, ap (λ t. t ++ one) are ∙ sym (append-nil one))
  shown_more (first ∷ paths) path text one is are = (are.0, are.1 ++ one, are.2, shown_more paths path are.1 one is are.3, ap (λ t. t ++ one) are.4 ∙ append_assoc are.0 are.1 one)

  -- so far: these are the texts of the first n paths, behind what stood there
  abbrev pub AreShownTo : List (Bor (List ℕ)) → ℕ → List ℕ → List ℕ → Type 0
  AreShownTo paths n start text = (more : List ℕ) × ShowsPaths I L json image long (take n paths) more × (text ≡ start ++ more)

  pub shown_none : (paths : List (Bor (List ℕ))) (start : List ℕ) → AreShownTo paths 0 start start
  shown_none paths start = ([], refl, sym (append-nil start))

  pub shown_next : (paths : List (Bor (List ℕ))) (n : ℕ) (d : Bor (List ℕ)) (start old new : List ℕ) → n < length paths
      → ((more : List ℕ) × ShowsPath I L json image long (get_or paths n d).now more × (new ≡ old ++ more)) → AreShownTo paths n start old → AreShownTo paths (n + 1) start new
  shown_next paths n d start old new small adds are = (
    are.0 ++ adds.0,
    subst (λ ps. ShowsPaths I L json image long ps (are.0 ++ adds.0)) (sym (take_more paths n d small)) (shown_more (take n paths) (get_or paths n d) are.0 adds.0 adds.1 are.1),
    adds.2 ∙ ap (λ t. t ++ adds.0) are.2 ∙ append_assoc start are.0 adds.0,
  )

  -- where there are paths, and where there are none
  pub shown_all : (paths : List (Bor (List ℕ))) (text : List ℕ) → 0 < length paths → ShowsPaths I L json image long paths text → ShowsAsked I L json image long paths text
  shown_all [] text some are = absurd (omega (arith, some))
  shown_all (path ∷ paths) text some are = are

  pub shown_asked : (paths : List (Bor (List ℕ))) (text : List ℕ) → length paths ≤ 0 → ShowsDeleted I L json image long None text → ShowsAsked I L json image long paths text
  shown_asked [] text none are = are
  shown_asked (path ∷ paths) text none are = absurd (omega (arith, none))
