-- A chain followed from header to header, each at its place.
use Rattle.std.proofs.Common.{◌≡◌, ℕ, Bool, not, refl, sym, ap, subst, List, [], ◌∷◌, ◌++◌, append_assoc, ◌∙◌}
use Rattle.std.specs.Prelude.{◌==◌}
use Rattle.std.proofs.lemmas.List.{append-nil}
use Rattle.std.proofs.lemmas.Grind.{flat_map-append}
use Rattle.ods_header.specs.Header.{next_number_of, blocks_of}
use Rattle.ods_remains.specs.Chains.{GoesAlong, named_at}

-- So far a chain is followed to the header at the place `at`: these are its headers and the blocks that they name, and whatever goes on from there goes on from the first.
pub record IsFollowed (block : ℕ → List ℕ) (Leads IsNext : ℕ → ℕ → Type 0) (first : ℕ) (headers named : List ℕ) (cut : Bool) (at : ℕ) : Type 0 where
  pub passed : List ℕ
  pub whole : headers ≡ first ∷ passed
  pub blocks : named ≡ named_at block headers
  pub ends : cut ≡ not (next_number_of (block at) == 0)
  pub onward : (rest : List ℕ) (ends : Bool) → GoesAlong block Leads IsNext at rest ends → GoesAlong block Leads IsNext first (passed ++ rest) ends

module _ (block : ℕ → List ℕ) (Leads IsNext : ℕ → ℕ → Type 0) (first : ℕ) where
  pub begun : (headers named : List ℕ) (cut : Bool) → headers ≡ first ∷ [] → named ≡ blocks_of (block first) → cut ≡ not (next_number_of (block first) == 0)
      → IsFollowed block Leads IsNext first headers named cut first
  begun headers named cut one blocks ends = record {
    passed = [];
    whole = one;
    blocks = blocks ∙ sym (append-nil (blocks_of (block first))) ∙ ap (named_at block) (sym one);
    ends = ends;
    onward = λ rest end goes. goes;
  }

  module _ (headers named : List ℕ) (cut : Bool) (at : ℕ) (so : IsFollowed block Leads IsNext first headers named cut at) where
    pub one_further : (next : ℕ) → IsNext at next → (headers_on named_on : List ℕ) (cut_on : Bool)
        → headers_on ≡ headers ++ next ∷ [] → named_on ≡ named ++ blocks_of (block next) → cut_on ≡ not (next_number_of (block next) == 0)
        → IsFollowed block Leads IsNext first headers_on named_on cut_on next
    one_further next is headers_on named_on cut_on more more_named ends = record {
      passed = so.passed ++ next ∷ [];
      whole = more ∙ ap (λ xs. xs ++ next ∷ []) so.whole;
      blocks = more_named ∙ ap (λ xs. xs ++ blocks_of (block next)) so.blocks ∙ ap (λ xs. named_at block headers ++ xs) (sym (append-nil (blocks_of (block next))))
          ∙ sym (flat_map-append (λ at. blocks_of (block at)) headers (next ∷ [])) ∙ ap (named_at block) (sym more);
      ends = ends;
      onward = λ rest end goes. subst (λ xs. GoesAlong block Leads IsNext first xs end) (sym (append_assoc so.passed (next ∷ []) rest)) (so.onward (next ∷ rest) end (is, goes));
    }

    -- where nothing leads on, the chain goes along what was passed
    pub along : ((c : ℕ) → ¬ Leads at c) → GoesAlong block Leads IsNext first so.passed cut
    along none = subst (λ xs. GoesAlong block Leads IsNext first xs cut) (append-nil so.passed) (so.onward [] cut (none, so.ends))

    -- the same by the headers alone
    pub one_more : (next : ℕ) → IsNext at next → (headers_on : List ℕ) (cut_on : Bool) → headers_on ≡ headers ++ next ∷ [] → cut_on ≡ not (next_number_of (block next) == 0)
        → IsFollowed block Leads IsNext first headers_on (named_at block headers_on) cut_on next
    one_more next is headers_on cut_on more ends =
        let on = one_further next is headers_on (named ++ blocks_of (block next)) cut_on more refl ends in
        subst (λ bs. IsFollowed block Leads IsNext first headers_on bs cut_on next) on.blocks on

  pub begun_by : (headers : List ℕ) (cut : Bool) → headers ≡ first ∷ [] → cut ≡ not (next_number_of (block first) == 0) → IsFollowed block Leads IsNext first headers (named_at block headers) cut first
  begun_by headers cut one ends =
      let on = begun headers (blocks_of (block first)) cut one refl ends in
      subst (λ bs. IsFollowed block Leads IsNext first headers bs cut first) on.blocks on
