-- A look is a step that changes nothing.
use Rattle.std.proofs.Common.{◌≡◌, ℕ, refl, sym, subst, true, false, List, [], arith}
use Rattle.ods_base.specs.declared.file_id.Uic.{Uic}
use Rattle.ods_space.specs.Layout.{Disk, VolumeLayout}
use Rattle.ods_space.specs.Draft.{Changes, applied}
use Rattle.ods_space.proofs.Drafts.{applied_none}
use Rattle.ods_mount.specs.Sound.{IsSoundBy}
use Rattle.ods_request.specs.declared.requests.Request.{Request}
use Rattle.ods_request.specs.declared.requests.Request.TheVariants.{Create, Extend, Truncate, Delete, Enter, LookUp, Remove, Read, Write, List as Lines, Stat, SetUser}
use Rattle.ods_request.specs.declared.requests.Query.{Query}
use Rattle.ods_request.specs.declared.requests.Query.TheVariants as query
use Rattle.ods_request.specs.declared.answers.Answer.{Answer}
use Rattle.ods_request.specs.Catalogue.{Catalogue}
use Rattle.ods_request.specs.Queries.{request_of}
use Rattle.ods_request.specs.Steps.{after}
use Rattle.ods_request.specs.Table.{creates, only_looks, moves_blocks}
use Rattle.ods_state.specs.Contents.{ShowsBy}
use Rattle.ods_state.specs.Moves.{Moves, NothingMoves}
use Rattle.ods_state.specs.Change.{disk, IsAnsweredBy}
use Rattle.ods_state.specs.Served.{IsStepOf}
use Rattle.ods_state.proofs.Served.{carried_is_step, lacks_nothing}
use Rattle.ods_volume.specs.Ends.{falls_for}
use Rattle.ods_volume.specs.declared.ends.Falls.TheVariants.{Nothing}

nothing_moves : (D : Disk) → NothingMoves D D
nothing_moves D = record {
  layout = refl;
  chains = λ n others blocks h. h;
  held = λ n vbn lbn. (λ h. h, λ h. h);
  free = λ lbn. refl;
  numbers = λ n. refl;
}

-- a query only looks
pub query_looks : (q : Query) → only_looks (request_of q) ≡ true
query_looks (query.LookUp dir name pick) = refl
query_looks (query.Read file vbn) = refl
query_looks (query.Stat file) = refl

-- so nothing that is noted falls
pub nothing_falls : (q : Query) (a : Answer) → Nothing ≡ falls_for (request_of q) a
nothing_falls (query.LookUp dir name pick) a = refl
nothing_falls (query.Read file vbn) a = refl
nothing_falls (query.Stat file) a = refl

look_moves : (D : Disk) (r : Request) (a : Answer) → only_looks r ≡ true → Moves D r a D
look_moves D (LookUp dir name pick) a h = nothing_moves D
look_moves D (Read file vbn) a h = nothing_moves D
look_moves D (Stat file) a h = nothing_moves D
look_moves D (Lines dir) a h = nothing_moves D
look_moves D (Create name version blocks stamp) a h = absurd (cc)
look_moves D (Extend file blocks) a h = absurd (cc)
look_moves D (Truncate file blocks) a h = absurd (cc)
look_moves D (Delete file) a h = absurd (cc)
look_moves D (Enter dir name version file) a h = absurd (cc)
look_moves D (Remove dir name pick) a h = absurd (cc)
look_moves D (Write file vbn block) a h = absurd (cc)
look_moves D (SetUser file attributes) a h = absurd (cc)

after_look : (C : Catalogue) (r : Request) → only_looks r ≡ true → after C r ≡ C
unfolding after
after_look C r h = grind arith

-- it makes no file, and no blocks are taken for it
look_makes_none : (r : Request) → only_looks r ≡ true → creates r ≡ false
look_makes_none r h = grind arith

look_moves_none : (r : Request) → only_looks r ≡ true → moves_blocks r ≡ false
look_moves_none r h = grind arith

module _ (I : List (List ℕ)) (L : VolumeLayout) (S : IsSoundBy I L) (who : Uic) (r : Request) (a : Answer) (looks : only_looks r ≡ true) (answered : IsAnsweredBy I L who r a) where
  look_is_step : IsStepOf I L who r a I L
  look_is_step = carried_is_step I L who r a I (look_makes_none r looks) (lacks_nothing I L r (look_moves_none r looks)) (record {
    answered = answered;
    sound = S;
    shown = λ C shown. subst (ShowsBy I L) (sym (after_look C r looks)) shown;
    sequences = λ n. omega arith;
    moves = look_moves (disk I L) r a looks;
    elsewhere = (refl, λ x untouched. refl);
  })

  -- by a draft without a change
  pub look_by_none : (d : Changes) → d ≡ [] → IsStepOf I L who r a (applied I d) L
  look_by_none d none =
      subst (λ (e : Changes). IsStepOf I L who r a (applied I e) L) (sym none)
      (subst (λ J. IsStepOf I L who r a J L) (applied_none I) look_is_step)
