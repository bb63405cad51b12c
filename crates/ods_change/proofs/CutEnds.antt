-- The noted end of a file's chain of headers after the file is cut within its last header.
use Rattle.std.proofs.Common.{◌≡◌, ◌≢◌, ℕ, ◌-◌, ◌<◌, ◌≤◌, List, [], ◌∷◌, ◌++◌, append-nil, length, take, Option, Some, None, refl, sym, ap, ◌∙◌, subst, arith}
use Rattle.std.specs.Prelude.{IfSome}
use Rattle.std.proofs.lemmas.Grind.{flat_map-append}
use Rattle.std.proofs.lemmas.List.{length-append, length-take-le}
use Rattle.ods_header.specs.Header.{blocks_of}
use Rattle.ods_space.specs.Layout.{VolumeLayout, header_at}
use Rattle.ods_space.specs.Chain.{Follows, IsChain, index_for}
use Rattle.ods_space.proofs.Chains.{same_chain}
use Rattle.ods_space.proofs.Surveyed.{index_for_other}
use Rattle.ods_alloc.specs.Extend.{last_of}
use Rattle.ods_state.specs.Change.{disk}
use Rattle.ods_state.specs.Cutting.{mapped_by}
use Rattle.ods_state.specs.Moves.{AreCutOff}
use Rattle.ods_state.specs.declared.known_end.KnownEnd.{KnownEnd}
use Rattle.ods_state.specs.Ends.{IsEndKnown, IsKnownIn}
use Rattle.ods_state.proofs.CutChain.{chain_maps}
use Rattle.ods_change.proofs.KnownEnds.{chain_known, last_of-append}
use Rattle.ods_change.specs.Truncating.{IsCutEnd}

-- the last of these headers names no more blocks than all of them
last_maps : (I : List (List ℕ)) (L : VolumeLayout) (g : ℕ) (gs : List ℕ) → length (blocks_of (header_at I L (last_of g gs))) ≤ length (mapped_by I L (g ∷ gs))
last_maps I L g [] = omega (arith, length-append (blocks_of (header_at I L g)) [])
last_maps I L g (h ∷ hs) =
    let rest = last_maps I L h hs in
    let long = length-append (blocks_of (header_at I L g)) (mapped_by I L (h ∷ hs)) in
    omega (arith, rest, long)

-- where headers go from the end of a chain, the last header is one of them
last_behind : (n : ℕ) (others kept : List ℕ) (g : ℕ) (gs : List ℕ) → 1 ≤ length kept → kept ++ g ∷ gs ≡ n ∷ others → last_of n others ≡ last_of g gs
last_behind n others [] g gs some is = absurd (omega (arith, some))
last_behind n others (h ∷ hs) g gs some is =
    let rest : hs ++ g ∷ gs ≡ others = cc in
    ap (last_of n) (sym rest) ∙ last_of-append n hs (g ∷ gs)

module _ (I J : List (List ℕ)) (L : VolumeLayout) (n count : ℕ) (high : n ≢ 1) (t : AreCutOff (disk I L) (disk J L) n count) (end : KnownEnd) (known : IsEndKnown I L end) (own : end.file ≡ n)
    (fits : count ≤ end.blocks) (within : end.blocks - count < length (blocks_of (header_at I L end.last))) where
  others : List ℕ
  others = t.file.0

  chain : IsChain I L n t.file.0 t.blocks
  chain = t.file.2.chain

  was : (end.headers ≡ length (n ∷ t.file.0)) × (end.blocks ≡ length t.blocks) × (end.last ≡ last_of n t.file.0)
  was = chain_known I L n end known own t.file.0 t.blocks chain

  maps : t.blocks ≡ mapped_by I L (n ∷ t.file.0)
  maps = chain_maps I L [] 0 n t.file.0 t.blocks (subst (λ x. Follows I L.home x [] 0 n t.file.0 t.blocks) (index_for_other L n high) chain)

  none_goes : (gone : List ℕ) → t.gone ≡ gone → gone ≡ []
  none_goes [] is = refl
  none_goes (g ∷ gs) is =
      let parts : t.kept ++ g ∷ gs ≡ n ∷ t.file.0 = ap (λ l. t.kept ++ l) (sym is) ∙ t.file.1 in
      let all : t.blocks ≡ mapped_by I L t.kept ++ mapped_by I L (g ∷ gs) = maps ∙ ap (mapped_by I L) (sym parts) ∙ flat_map-append (λ m. blocks_of (header_at I L m)) t.kept (g ∷ gs) in
      let long = ap length all ∙ length-append (mapped_by I L t.kept) (mapped_by I L (g ∷ gs)) in
      let last : end.last ≡ last_of g gs = was.2 ∙ last_behind n t.file.0 t.kept g gs t.ends.some parts in
      let few = subst (λ m. length (blocks_of (header_at I L m)) ≤ length (mapped_by I L (g ∷ gs))) (sym last) (last_maps I L g gs) in
      let has : count ≤ length (mapped_by I L t.kept) = t.ends.has in
      absurd (omega (arith, long, few, has, was.1, within, fits))

  pub cut_known : IsEndKnown J L (record { file = end.file; headers = end.headers; blocks = count; last = end.last })
  cut_known hs bs found =
      let here : IsChain J L n hs bs = subst (λ m. IsChain J L m hs bs) own found in
      let is = same_chain J L.home (index_for L n) [] 0 n hs bs t.chain.0 (take count t.blocks) here t.chain.2.chain in
      let kept : t.kept ≡ n ∷ t.file.0 = sym (append-nil t.kept) ∙ ap (λ l. t.kept ++ l) (sym (none_goes t.gone refl)) ∙ t.file.1 in
      let same : n ∷ hs ≡ n ∷ t.file.0 = ap (λ l. n ∷ l) is.0 ∙ sym t.chain.1 ∙ kept in
      let tail : hs ≡ t.file.0 = cc in
      let long = ap length is.1 ∙ length-take-le count t.blocks (omega (arith, fits, was.1)) in
      (was.0 ∙ ap (λ l. length (n ∷ l)) (sym tail), sym long, was.2 ∙ ap (last_of n) (sym tail) ∙ ap (λ m. last_of m hs) (sym own))

-- what is noted of a file that is cut
pub cut_then : (I J : List (List ℕ)) (L : VolumeLayout) (n count : ℕ) (known after : Option KnownEnd) → n ≢ 1 → AreCutOff (disk I L) (disk J L) n count → IsKnownIn I L known
    → IfSome after (IsCutEnd I L n count known) → IsKnownIn J L after
cut_then I J L n count known None high t true_end is = tt
cut_then I J L n count known (Some after) high t true_end is =
    subst (IsEndKnown J L) (sym is.is) (cut_known I J L n count high t is.end (subst (λ o. IfSome o (IsEndKnown I L)) is.noted true_end) is.own is.fits is.within)
