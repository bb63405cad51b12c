-- The last header of INDEXF.SYS: it is the last of its chain, and valid.
use Rattle.std.proofs.Common.{◌≡◌, ℕ, ap, sym, subst, List, [], ◌∷◌, arith, inl, inr}
use Rattle.std.specs.Prelude.{◌⊎◌, ◌≢◌}
use Rattle.std.specs.List.{Contains}
use Rattle.std.proofs.lemmas.Bool.{cases_eq}
use Rattle.std.proofs.lemmas.Map.Made.{Contains-tail}
use Rattle.ods_base.specs.Image.{IsImage}
use Rattle.ods_header.specs.Header.{IsValidHeader}
use Rattle.ods_space.specs.Layout.{VolumeLayout, header_at}
use Rattle.ods_space.specs.Chain.{AreValid}
use Rattle.ods_space.proofs.Wholes.{IsSeen, chain_seen, numbered, valid_rest}
use Rattle.ods_alloc.specs.Extend.{last_of}
use Rattle.ods_alloc.proofs.Fields.{last_in}
use Rattle.ods_mount.specs.Sound.{IsSoundBy}
use Rattle.ods_state.specs.Wants.{index_end}
use Rattle.ods_state.proofs.Taken.{none_empty}

-- each of a list of valid headers is valid
pub valid_in : (I : List (List ℕ)) (L : VolumeLayout) (ns : List ℕ) (x : ℕ) → AreValid (numbered I L ns) → Contains ns x → IsValidHeader (header_at I L x) x
valid_in I L [] x valid c = absurd (none_empty x c)
valid_in I L (n ∷ ns) x valid c = by (cases_eq n x) (valid_in I L ns x (valid_rest (n, header_at I L n) (numbered I L ns) valid))
  where
    by : (n ≡ x) ⊎ (n ≢ x) → (Contains ns x → IsValidHeader (header_at I L x) x) → IsValidHeader (header_at I L x) x
    by (inl e) rest = subst (λ m. IsValidHeader (header_at I L m) m) e (valid 0 (0, []) (omega arith))
    by (inr ne) rest = rest (Contains-tail n ns x ne c)

module _ (I : List (List ℕ)) (L : VolumeLayout) (image : IsImage I) (S : IsSoundBy I L) where
  seen : IsSeen I L 1 S.layout.index.others L.index
  seen = chain_seen I L 1 S.layout.index.others L.index image S.layout S.layout.index.whole.chain

  pub end_is : index_end I L ≡ last_of 1 S.layout.index.others
  end_is = ap (last_of 0) seen.numbers

  pub end_in : Contains (1 ∷ S.layout.index.others) (index_end I L)
  end_in = subst (Contains (1 ∷ S.layout.index.others)) (sym end_is) (last_in 1 S.layout.index.others)

  pub end_valid : IsValidHeader (header_at I L (index_end I L)) (index_end I L)
  end_valid = valid_in I L (1 ∷ S.layout.index.others) (index_end I L) seen.valid end_in
