-- What a request wants is one thing: headers, blocks and a count. So one growth is all that it takes, and what that lacks is all that it lacks.
use Rattle.std.proofs.Common.{◌≡◌, ℕ, ap, sym, ◌∙◌, subst, List, [], ◌∷◌, Some, None}
use Rattle.ods_space.specs.Layout.{VolumeLayout, Disk}
use Rattle.ods_space.specs.Chain.{index_for}
use Rattle.ods_request.specs.declared.requests.Request.{Request}
use Rattle.ods_request.specs.declared.requests.Request.TheVariants.{Create, Extend, Truncate, Delete, Enter, LookUp, Remove, Read, Write, List as Lines, Stat, SetUser}
use Rattle.ods_request.specs.declared.refusals.Refusal.{Refusal}
use Rattle.ods_state.specs.Change.{disk}
use Rattle.ods_state.specs.Moves.{AreAllocated, MayAllocate}
use Rattle.ods_state.specs.Wants.{HasHeaders, Lacks, Wants, lack_of}
use Rattle.ods_space.proofs.Chains.{same_chain}

-- a file has its headers and blocks, and no others
pub headers_are_one : (I : List (List ℕ)) (L : VolumeLayout) (n : ℕ) (hs ks bs cs : List ℕ) → HasHeaders I L n hs bs → HasHeaders I L n ks cs → (hs ≡ ks) × (bs ≡ cs)
headers_are_one I L n hs ks bs cs p q =
    let same = same_chain I L.home (index_for L n) [] 0 n p.0 bs q.0 cs p.2.chain q.2.chain in
    (p.1 ∙ ap (λ l. n ∷ l) same.0 ∙ sym q.1, same.1)

pub wants_are_one : (I : List (List ℕ)) (L : VolumeLayout) (r : Request) (hs ks bs cs : List ℕ) (m n : ℕ) → Wants I L r hs bs m → Wants I L r ks cs n → (hs ≡ ks) × (bs ≡ cs) × (m ≡ n)
wants_are_one I L (Create name version count stamp) hs ks bs cs m n p q = (p.0 ∙ sym q.0, p.1 ∙ sym q.1, p.2 ∙ sym q.2)
wants_are_one I L (Extend file count) hs ks bs cs m n p q = let same = headers_are_one I L file.number hs ks bs cs p.0 q.0 in (same.0, same.1, p.1 ∙ sym q.1)
wants_are_one I L (Enter dir name version file) hs ks bs cs m n p q = let same = headers_are_one I L dir.number hs ks bs cs p.0 q.0 in (same.0, same.1, p.2 ∙ sym q.2)
wants_are_one I L (Truncate file count) hs ks bs cs m n p q = absurd p
wants_are_one I L (Delete file) hs ks bs cs m n p q = absurd p
wants_are_one I L (LookUp dir name pick) hs ks bs cs m n p q = absurd p
wants_are_one I L (Remove dir name pick) hs ks bs cs m n p q = absurd p
wants_are_one I L (Read file vbn) hs ks bs cs m n p q = absurd p
wants_are_one I L (Write file vbn block) hs ks bs cs m n p q = absurd p
wants_are_one I L (Lines dir) hs ks bs cs m n p q = absurd p
wants_are_one I L (Stat file) hs ks bs cs m n p q = absurd p
wants_are_one I L (SetUser file attributes) hs ks bs cs m n p q = absurd p

module _ (I : List (List ℕ)) (L : VolumeLayout) (r : Request) (headers old : List ℕ) (count : ℕ) (wants : Wants I L r headers old count) where
  -- it takes what it wants
  pub may_take : (E : Disk) → AreAllocated (disk I L) E headers old count → MayAllocate (disk I L) E r
  may_take E got = (taken, λ none. absurd (none headers old count wants))
    where
      taken : (hs bs : List ℕ) (k : ℕ) → Wants I L r hs bs k → AreAllocated (disk I L) E hs bs k
      taken hs bs k other =
          let same = wants_are_one I L r headers hs old bs count k wants other in
          subst (λ l. AreAllocated (disk I L) E l bs k) same.0 (subst (λ l. AreAllocated (disk I L) E headers l k) same.1 (subst (AreAllocated (disk I L) E headers old) same.2 got))

  -- where this lacks nothing, nothing is lacking
  pub none_lacks : lack_of I L headers count ≡ None → (f : Refusal) → ¬ Lacks I L r f
  none_lacks enough f lacks =
      let same = wants_are_one I L r headers lacks.headers old lacks.blocks count lacks.count wants lacks.wants in
      let none : lack_of I L lacks.headers lacks.count ≡ None = (λ i. lack_of I L (sym same.0 i) (sym same.2 i)) ∙ enough in
      let wrong : None ≡ Some f = sym none ∙ lacks.lacking in
      absurd (cc)
