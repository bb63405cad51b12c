-- A survey of a chain, header by header, and what it says of the file.
use Rattle.std.proofs.Common.{◌≡◌, ◌≢◌, ℕ, ◌+◌, ◌-◌, ◌<◌, ◌≤◌, Bool, true, false, cond, nat_eq, List, [], length, take, get_or, Option, Some, None, refl, sym, ap, ◌∙◌, subst, arith}
use Rattle.std.specs.Prelude.{slice_get, IfNone}
use Rattle.std.proofs.lemmas.Bool.{eqb-true, eqb-false}
use Rattle.std.proofs.lemmas.List.Elements.{All-push}
use Rattle.std.proofs.lemmas.List.{take_more}
use Rattle.ods_space.specs.Layout.{VolumeLayout}
use Rattle.ods_space.specs.Chain.{Follows, IsChain, index_for}
use Rattle.ods_space.specs.Files.{IsFile, AreInside, FindsFiles, HasBlocks, Holds}
use Rattle.ods_space.specs.Faults.{IsChainFault}
use Rattle.ods_space.specs.declared.fault.ChainFault.{ChainFault}
use Rattle.ods_space.specs.declared.fault.ChainFault.TheVariants.{BadChain, OutsideVolume, NoMemory}
use Rattle.ods_space.specs.Walk.{Leads, IsDeadEnd, IsPast, IsSurveyOf}
use Rattle.ods_space.specs.declared.survey.Survey.{Survey}
use Rattle.ods_space.proofs.Chains.{head_of, same_chain}

pub index_for_other : (L : VolumeLayout) (n : ℕ) → n ≢ 1 → index_for L n ≡ Some L.index
index_for_other L n other = by (nat_eq n 1) refl
  where
    by : (b : Bool) → nat_eq n 1 ≡ b → cond b None (Some L.index) ≡ Some L.index
    by true e = absurd (other (eqb-true n 1 e))
    by false e = refl

-- the chain of another file than INDEXF.SYS
pub leads_from : (I : List (List ℕ)) (L : VolumeLayout) (n : ℕ) (others blocks : List ℕ) → n ≢ 1 → Follows I L.home (index_for L n) [] 0 n others blocks → Leads I L.home (Some L.index) n blocks
leads_from I L n others blocks other f = let P : Option (List ℕ) → Type 0 = λ x. Follows I L.home x [] 0 n others blocks in (others, subst P (index_for_other L n other) f)

pub file_from : (I : List (List ℕ)) (L : VolumeLayout) (n : ℕ) (blocks : List ℕ) → Leads I L.home (Some L.index) n blocks → IsFile I L n
file_from I L n blocks leads = head_of I L.home (Some L.index) [] 0 n leads.0 blocks leads.1

-- the chain of a file of this layout starts with a file
pub file_of_chain : (I : List (List ℕ)) (L : VolumeLayout) (n : ℕ) (others blocks : List ℕ) → FindsFiles I L → IsChain I L n others blocks → IsFile I L n
file_of_chain I L n others blocks layout chain = by (nat_eq n 1) refl
  where
    by : (b : Bool) → nat_eq n 1 ≡ b → IsFile I L n
    by true e = let one : n ≡ 1 = eqb-true n 1 e in subst (IsFile I L) (sym one) layout.index.file
    by false e = file_from I L n blocks (leads_from I L n others blocks (eqb-false n 1 e) chain)

-- one chain, one list of blocks
pub same_blocks : (I : List (List ℕ)) (L : VolumeLayout) (n : ℕ) (xs ys : List ℕ) → HasBlocks I L n xs → HasBlocks I L n ys → xs ≡ ys
same_blocks I L n xs ys f g = (same_chain I L.home (index_for L n) [] 0 n f.others xs g.others ys f.whole.chain g.whole.chain).1

-- where nothing was found the file has no block
pub not_held : (I : List (List ℕ)) (L : VolumeLayout) (n vbn : ℕ) (found : Option ℕ) (blocks : List ℕ) → HasBlocks I L n blocks → found ≡ slice_get blocks (vbn - 1) → IfNone found ((lbn : ℕ) → ¬ Holds I L n vbn lbn)
not_held I L n vbn found blocks has is = by found refl
  where
    by : (o : Option ℕ) → found ≡ o → IfNone o ((lbn : ℕ) → ¬ Holds I L n vbn lbn)
    by (Some x) e = tt
    by None e = λ lbn holds.
        let same = same_blocks I L n holds.blocks blocks holds.file has in
        let none : slice_get blocks (vbn - 1) ≡ None = sym is ∙ e in
        let some : slice_get blocks (vbn - 1) ≡ Some lbn = ap (λ l. slice_get l (vbn - 1)) (sym same) ∙ holds.named in
        absurd (let clash : None ≡ Some lbn = sym none ∙ some in cc)

-- the blocks of INDEXF.SYS are those of the layout
pub of_index : (I : List (List ℕ)) (L : VolumeLayout) (n wanted : ℕ) (index : List ℕ) (s : Survey) → FindsFiles I L → n ≡ 1 → index ≡ L.index → s.count ≡ length index → s.found ≡ slice_get index wanted → s.past ≡ None
    → (others : List ℕ) × (blocks : List ℕ) × IsChain I L n others blocks × IsSurveyOf (length I) wanted s blocks
of_index I L n wanted index s layout one is count found past =
    let own = layout.index in
    let P : ℕ → Type 0 = λ x. IsChain I L x own.others L.index in
    let Q : Option ℕ → Type 0 = λ o. IsPast (length I) L.index o in
    (own.others, L.index, subst P (sym one) own.whole.chain, record { count = count ∙ ap length is; found = found ∙ ap (λ xs. slice_get xs wanted) is; past = subst Q (sym past) own.whole.inside })

-- a survey that looked for this in an image of this length
pub as_asked : (s : Survey) (blocks : List ℕ) (len n wanted m : ℕ) → IsSurveyOf len wanted s blocks → len ≡ n → wanted ≡ m → IsSurveyOf n m s blocks
as_asked s blocks len n wanted m is same alike =
    let P : ℕ → Type 0 = λ x. IsSurveyOf x wanted s blocks in
    let Q : ℕ → Type 0 = λ x. IsSurveyOf n x s blocks in
    subst Q alike (subst P same is)

-- a whole chain, and one that names a block that the image lacks
pub has_of_chain : (I : List (List ℕ)) (L : VolumeLayout) (n : ℕ) (others blocks : List ℕ) → FindsFiles I L → IsChain I L n others blocks → AreInside I blocks → HasBlocks I L n blocks
has_of_chain I L n others blocks layout chain inside = record { file = file_of_chain I L n others blocks layout chain; others = others; whole = record { chain = chain; inside = inside } }

pub not_whole : (I : List (List ℕ)) (L : VolumeLayout) (n : ℕ) (others blocks : List ℕ) (lbn : ℕ) (held : List ℕ) → IsChain I L n others blocks → IsPast (length I) blocks (Some lbn) → ¬ HasBlocks I L n held
not_whole I L n others blocks lbn held chain past has =
    let same : held ≡ blocks = (same_chain I L.home (index_for L n) [] 0 n has.others held others blocks has.whole.chain chain).1 in
    let at = past.0 in
    let P : List ℕ → Type 0 = λ l. AreInside I l in
    let inside : get_or blocks at.0 lbn < length I = (subst P same has.whole.inside) at.0 lbn at.1 in
    let is : get_or blocks at.0 lbn ≡ lbn = at.2 in
    let far : length I ≤ lbn = past.1 in
    omega arith

-- A walk that found no chain, or was refused memory, has this fault.
pub dead_end_fault : (I : List (List ℕ)) (L : VolumeLayout) (n : ℕ) (fault : ChainFault) → IsDeadEnd I L.home (index_for L n) n fault → IsChainFault I L n fault
dead_end_fault I L n BadChain none = λ others blocks chain. none blocks (others, chain)
dead_end_fault I L n (OutsideVolume lbn) none = absurd none
dead_end_fault I L n NoMemory none = tt

pub inside_more : (I : List (List ℕ)) (blocks : List ℕ) (i : ℕ) → i < length blocks → get_or blocks i 0 < length I → AreInside I (take i blocks) → AreInside I (take (i + 1) blocks)
inside_more I blocks i within inside before =
    let P : List ℕ → Type 0 = λ l. AreInside I l in
    subst P (sym (take_more blocks i 0 within)) (All-push (λ lbn. lbn < length I) (take i blocks) (get_or blocks i 0) before inside)
