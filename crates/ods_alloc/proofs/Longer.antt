-- A chain that goes on in new headers is the longer chain.
use Rattle.std.proofs.Common.{◌≡◌, ℕ, zero, suc, ◌+◌, ◌-◌, ◌*◌, ◌<◌, ◌≤◌, cond, List, [], ◌∷◌, ◌++◌, length, take, drop, get_or, Option, Some, None, refl, sym, ap, ◌∙◌, subst, arith, append_assoc}
use Rattle.std.specs.List.{flat_map}
use Rattle.std.proofs.lemmas.Bool.{ne_eqb}
use Rattle.std.proofs.lemmas.List.{take_all, drop-drop, length-drop}
use Rattle.std.proofs.lemmas.List.Concat.{flat_map-append}
use Rattle.ods_header.specs.declared.header.Run.{Run}
use Rattle.ods_header.specs.Header.{IsValidHeader, segment_of, next_volume_of, next_number_of, next_sequence_of, runs_of, run_blocks, blocks_of}
use Rattle.ods_space.specs.Layout.{VolumeLayout, header_at}
use Rattle.ods_space.specs.Chain.{Follows, index_for}
use Rattle.ods_space.proofs.Chains.{head_of}
use Rattle.ods_alloc.specs.Extend.{last_of}
use Rattle.ods_alloc.specs.Chains.{IsLink, LinksOn, GoesOn, ChainGrows}

take_drop : (n : ℕ) (rs : List Run) → take n rs ++ drop n rs ≡ rs
take_drop zero rs = refl
take_drop (suc n) [] = refl
take_drop (suc n) (r ∷ rs) = ap (λ l. r ∷ l) (take_drop n rs)

module _ (J : List (List ℕ)) (L : VolumeLayout) where
  -- LinksOn with other numbers of the same value
  moved : (m k j : ℕ) (rs qs : List Run) (behind : List ℕ) → k ≡ j → rs ≡ qs → LinksOn J L m k rs behind → LinksOn J L m j qs behind
  moved m k j rs qs behind e is on =
      let P : ℕ → Type 0 = λ x. IsLink J L m x in
      record { link = subst P e on.link; pointers = on.pointers ∙ is; next = on.next; volume = on.volume; sequence = on.sequence }

  -- the new headers are a chain of their own
  new_chain : (ns : List ℕ) (m k : ℕ) (front : List ℕ) (rs : List Run)
      → ((i : ℕ) → i < 1 + length ns → LinksOn J L (get_or (m ∷ ns) i 0) (k + i) (take 102 (drop (102 * i) rs)) (drop (i + 1) (m ∷ ns))) → length rs ≤ 102 * (1 + length ns)
      → Follows J L.home (Some L.index) front k m ns (front ++ flat_map run_blocks rs)
  new_chain [] m k front rs each few =
      let one = moved m (k + 0) k (take 102 rs) rs [] (omega arith) (take_all 102 rs (omega arith)) (each 0 (omega arith)) in
      (one.link, one.next, ap (λ l. front ++ flat_map run_blocks l) (sym one.pointers))
  new_chain (y ∷ ys) m k front rs each few =
      let one = moved m (k + 0) k (take 102 rs) (take 102 rs) (y ∷ ys) (omega arith) refl (each 0 (omega arith)) in
      let b : List ℕ = header_at J L m in
      let some : 0 < length (y ∷ ys) = omega arith in
      let size : length (drop 102 rs) ≡ length rs - 102 = length-drop 102 rs in
      let P : List ℕ → Type 0 = λ l. Follows J L.home (Some L.index) (front ++ blocks_of b) (suc k) y ys l in
      let whole : (front ++ blocks_of b) ++ flat_map run_blocks (drop 102 rs) ≡ front ++ flat_map run_blocks rs =
      append_assoc front (blocks_of b) (flat_map run_blocks (drop 102 rs))
      ∙ ap (λ l. front ++ (flat_map run_blocks l ++ flat_map run_blocks (drop 102 rs))) one.pointers
      ∙ ap (λ l. front ++ l) (sym (flat_map-append run_blocks (take 102 rs) (drop 102 rs)) ∙ ap (flat_map run_blocks) (take_drop 102 rs)) in
      let rest = new_chain ys y (suc k) (front ++ blocks_of b) (drop 102 rs) (λ i below. shifted i (each (suc i) (omega arith))) (omega arith) in
      (one.link, one.next, one.volume some, one.sequence some, subst P whole rest)
    where
      shifted : (i : ℕ) → LinksOn J L (get_or (y ∷ ys) i 0) (k + suc i) (take 102 (drop (102 * suc i) rs)) (drop (suc i + 1) (m ∷ y ∷ ys))
          → LinksOn J L (get_or (y ∷ ys) i 0) (suc k + i) (take 102 (drop (102 * i) (drop 102 rs))) (drop (i + 1) (y ∷ ys))
      shifted i on =
          let place : suc i + 1 ≡ suc (i + 1) = omega arith in
          let at : 102 * suc i ≡ 102 + 102 * i = omega arith in
          let P : ℕ → Type 0 = λ j. LinksOn J L (get_or (y ∷ ys) i 0) (k + suc i) (take 102 (drop (102 * suc i) rs)) (drop j (m ∷ y ∷ ys)) in
          moved (get_or (y ∷ ys) i 0) (k + suc i) (suc k + i) (take 102 (drop (102 * suc i) rs)) (take 102 (drop (102 * i) (drop 102 rs))) (drop (i + 1) (y ∷ ys)) (omega arith)
          (ap (λ j. take 102 (drop j rs)) at ∙ ap (take 102) (sym (drop-drop (102 * i) 102 rs))) (subst P place on)

  -- the last header links on to them
  tail : (numbers : List ℕ) (z k : ℕ) (front : List ℕ) (old runs : List Run) (room : ℕ) → LinksOn J L z k (old ++ take room runs) numbers
      → ((i : ℕ) → i < length numbers → LinksOn J L (get_or numbers i 0) (k + 1 + i) (take 102 (drop (102 * i) (drop room runs))) (drop (i + 1) numbers)) → length runs ≤ room + 102 * length numbers
      → Follows J L.home (Some L.index) front k z numbers ((front ++ flat_map run_blocks old) ++ flat_map run_blocks runs)
  tail [] z k front old runs room last new enough =
      let fits : take room runs ≡ runs = take_all room runs (omega arith) in (
        last.link,
        last.next,
        append_assoc front (flat_map run_blocks old) (flat_map run_blocks runs) ∙ ap (λ l. front ++ l) (sym (flat_map-append run_blocks old runs))
            ∙ ap (λ l. front ++ flat_map run_blocks (old ++ l)) (sym fits) ∙ ap (λ l. front ++ flat_map run_blocks l) (sym last.pointers),
      )
  tail (y ∷ ys) z k front old runs room last new enough =
      let b : List ℕ = header_at J L z in
      let some : 0 < length (y ∷ ys) = omega arith in
      let size : length (drop room runs) ≡ length runs - room = length-drop room runs in
      let P : List ℕ → Type 0 = λ l. Follows J L.home (Some L.index) (front ++ blocks_of b) (suc k) y ys l in
      let whole : (front ++ blocks_of b) ++ flat_map run_blocks (drop room runs) ≡ (front ++ flat_map run_blocks old) ++ flat_map run_blocks runs =
      ap (λ l. (front ++ flat_map run_blocks l) ++ flat_map run_blocks (drop room runs)) last.pointers
      ∙ ap (λ l. (front ++ l) ++ flat_map run_blocks (drop room runs)) (flat_map-append run_blocks old (take room runs))
      ∙ ap (λ l. l ++ flat_map run_blocks (drop room runs)) (sym (append_assoc front (flat_map run_blocks old) (flat_map run_blocks (take room runs))))
      ∙ append_assoc (front ++ flat_map run_blocks old) (flat_map run_blocks (take room runs)) (flat_map run_blocks (drop room runs))
      ∙ ap (λ l. (front ++ flat_map run_blocks old) ++ l) (sym (flat_map-append run_blocks (take room runs) (drop room runs)) ∙ ap (flat_map run_blocks) (take_drop room runs)) in
      let rest = new_chain ys y (suc k) (front ++ blocks_of b) (drop room runs) (λ i below.
      moved (get_or (y ∷ ys) i 0) (k + 1 + i) (suc k + i) _ _ (drop (i + 1) (y ∷ ys)) (omega arith) refl (new i (omega arith))) (omega arith) in
      (last.link, last.next, last.volume some, last.sequence some, subst P whole rest)

module _ (I J : List (List ℕ)) (L : VolumeLayout) (n0 : ℕ) (others0 numbers : List ℕ) (runs : List Run) (room : ℕ) (on : GoesOn I L n0 others0 numbers runs room J) where
  longer : (others : List ℕ) (k n : ℕ) (front all : List ℕ) → Follows I L.home (Some L.index) front k n others all → k + length others ≡ length others0 → last_of n others ≡ last_of n0 others0
      → Follows J L.home (Some L.index) front k n (others ++ numbers) (all ++ flat_map run_blocks runs)
  longer [] k n front all f size is =
      let K : ℕ = length others0 in
      let z : ℕ = last_of n0 others0 in
      let here : K ≡ k = omega arith in
      let P : ℕ → Type 0 = λ j. Follows J L.home (Some L.index) front j n numbers (all ++ flat_map run_blocks runs) in
      let Q : ℕ → Type 0 = λ m. Follows J L.home (Some L.index) front K m numbers (all ++ flat_map run_blocks runs) in
      let R : List ℕ → Type 0 = λ l. Follows J L.home (Some L.index) front K z numbers (l ++ flat_map run_blocks runs) in
      let before : front ++ blocks_of (header_at I L z) ≡ all = ap (λ m. front ++ blocks_of (header_at I L m)) (sym is) ∙ sym f.2 in
      subst P here (subst Q (sym is) (subst R before (tail J L numbers z K front (runs_of (header_at I L z)) runs room on.last on.new on.enough)))
  longer (m ∷ ms) k n front all f size is =
      let b = header_at I L n in
      let e : header_at J L n ≡ b = on.same n k f.0 (omega arith) in
      let V : List ℕ → Type 0 = λ l. IsValidHeader l n in
      let P : List ℕ → Type 0 = λ l. Follows J L.home (Some L.index) (front ++ blocks_of l) (suc k) m (ms ++ numbers) (all ++ flat_map run_blocks runs) in (
        record { first = f.0.first; last = f.0.last; in_use = on.used n k f.0; valid = subst V (sym e) f.0.valid; segment = ap segment_of e ∙ f.0.segment },
        ap next_number_of e ∙ f.1,
        ap next_volume_of e ∙ f.2,
        on.sequence m (suc k) (head_of I L.home (Some L.index) (front ++ blocks_of b) (suc k) m ms all f.4) ∙ f.3 ∙ sym (ap next_sequence_of e),
        subst P (sym e) (longer ms (suc k) m (front ++ blocks_of b) all f.4 (omega arith) is),
      )

pub chain_grows : ChainGrows
chain_grows I J L n others all numbers runs room high chain on =
    let index : index_for L n ≡ Some L.index = ap (λ t. cond t None (Some L.index)) (ne_eqb n 1 (λ e. absurd (omega arith))) in
    let P : Option (List ℕ) → Type 0 = λ o. Follows I L.home o [] 0 n others all in
    let Q : Option (List ℕ) → Type 0 = λ o. Follows J L.home o [] 0 n (others ++ numbers) (all ++ flat_map run_blocks runs) in
    subst Q (sym index) (longer I J L n others numbers runs room on others 0 n [] all (subst P index chain) (omega arith) refl)
