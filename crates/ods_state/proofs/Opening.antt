-- A volume that was just mounted is lawful.
use Rattle.std.proofs.Common.{◌≡◌, ℕ, refl, sym, ◌∙◌, subst, true, List, [], Option, Some, None, is_some, arith}
use Rattle.std.specs.FinMap as map
use Rattle.ods_header.specs.Header.{sequence_of}
use Rattle.ods_space.specs.Layout.{VolumeLayout, header_at}
use Rattle.ods_mount.specs.Sound.{IsSoundBy}
use Rattle.ods_request.specs.Catalogue.{File}
use Rattle.ods_state.specs.Contents.{IsFileIn}
use Rattle.ods_state.specs.Version.{IsReplay, IsLawful, PastIsSpent}
use Rattle.ods_state.proofs.One.{replay_is_one}
use Rattle.ods_state.proofs.Exists.{the_catalogue, is_shown, has_catalogue}

some_of : (o : Option File) → is_some o ≡ true → (f : File) × (o ≡ Some f)
some_of None e = absurd (cc)
some_of (Some f) e = (f, refl)

module _ (I : List (List ℕ)) (L : VolumeLayout) (S : IsSoundBy I L) where
  opened : IsReplay I [] (the_catalogue I L S)
  opened = record { first = the_catalogue I L S; opening = has_catalogue I L S; replayed = refl }

  spent : PastIsSpent I L (the_catalogue I L S)
  spent id known =
      let there = some_of (map.get (the_catalogue I L S).files id) (sym ((has_catalogue I L S).past id) ∙ known) in
      let file : IsFileIn I L id there.0 = (is_shown I L S).there id there.0 there.1 in
      let is : sequence_of (header_at I L id.number) ≡ id.sequence = file.sequence in
      omega arith

  pub new_is_lawful : (limit : ℕ) → IsLawful (record { mounted = I; entries = []; image = I; layout = L; limit = limit })
  new_is_lawful limit = record {
    opening = (L, S);
    version = record { sound = S; catalogue = the_catalogue I L S; replayed = opened; shown = is_shown I L S };
    past = λ C p. subst (PastIsSpent I L) (replay_is_one I [] (the_catalogue I L S) C opened p) spent;
    room = omega arith;
  }
