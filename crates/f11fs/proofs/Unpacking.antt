-- Files and directories of an archive that are put one after another.
use Rattle.std.proofs.Common.{◌≡◌, ◌∙◌, ◌<◌, ◌≤◌, ◌+◌, ℕ, suc, Bool, true, false, List, [], ◌∷◌, ◌++◌, Option, Some, Result, Ok, Err, OnOk, length, refl, sym, ap, subst, get_or, drop, arith, append_assoc, append-nil}
use Rattle.std.proofs.Math.Seq.{drop-cons}
use Rattle.std.proofs.lemmas.List.{drop_all}
use Rattle.std.specs.Prelude.{⊤, MatchBool, not}
use Rattle.std.specs.Borrow.{Bor}
use Rattle.ods_base.specs.declared.file_id.FileId.{FileId}
use Rattle.ods_filing.specs.Filed.{Filed}
use Rattle.ods_untar.specs.Wanted.{AsksFor}
use Rattle.ods_upkeep.specs.Given.{GetTheirs}
use Rattle.ods_upkeep.specs.Ready.{MayHaveGrown}
use Rattle.ods_upkeep.specs.declared.giving.Access.{Access}
use Rattle.ods_untar.specs.declared.told.Told.{Told}
use Rattle.ods_untar.specs.declared.wanted.Wanted.{Wanted}
use Rattle.f11fs.specs.Given.{Bytes, HostGives}
use Rattle.f11fs.specs.Unpacked.{ArePutFrom, AreUntarred, IsAccessOf, IsDirectoryPut, IsDue, IsFilePut, IsPut, archive_among, directory_among, has_access, is_directory}

-- these lists are one behind the other, and what holds of the second
abbrev pub Adds : List Access → List Access → (List Access → Type 0) → Type 0
Adds old new P = (more : List Access) × (new ≡ old ++ more) × P more

-- nothing is added
pub adds_none : (old : List Access) (P : List Access → Type 0) → P [] → Adds old old P
adds_none old P holds = ([], sym (append-nil old), holds)

module _ (said : Bool) (dir : Option (Bor (List ℕ))) (stamp : List ℕ) (ws : List Wanted) where
  -- some are put, and what the others leave is what all leave
  abbrev pub Along : List Wanted → Filed → Filed → List Access → Type 0
  Along left first now so_far = (rest : List Access) (new : Filed) → ArePutFrom said dir stamp left rest now new → ArePutFrom said dir stamp ws (so_far ++ rest) first new

  pub along_none : (first : Filed) (due : List Access) → Adds due due (Along ws first first)
  along_none first due = adds_none due (Along ws first first) (λ rest new put. put)

  -- the first of the others is put
  pub along_next : (i : ℕ) (d : Wanted) (first now next : Filed) (due mid later : List Access) → i < length ws → Adds due mid (Along (drop i ws) first now)
      → Adds mid later (λ more. IsPut said dir stamp (get_or ws i d) more now next) → Adds due later (Along (drop (i + 1) ws) first next)
  along_next i d first now next due mid later lt so one =
      let place : i + 1 ≡ suc i = omega arith in (
        so.0 ++ one.0,
        one.1 ∙ ap (λ l. l ++ one.0) so.1 ∙ append_assoc due so.0 one.0,
        λ rest new put.
            let others : ArePutFrom said dir stamp (drop i ws) (one.0 ++ rest) now new =
            subst (λ l. ArePutFrom said dir stamp l (one.0 ++ rest) now new) (sym (drop-cons ws i d lt))
            (one.0, rest, next, refl, one.2, subst (λ k. ArePutFrom said dir stamp (drop k ws) rest next new) place put) in
            subst (λ l. ArePutFrom said dir stamp ws l first new) (sym (append_assoc so.0 one.0 rest)) (so.2 (one.0 ++ rest) new others),
      )

  -- all are put
  pub along_all : (i : ℕ) (first now : Filed) (due later : List Access) → length ws ≤ i → Adds due later (Along (drop i ws) first now) → Adds due later (λ more. ArePutFrom said dir stamp ws more first now)
  along_all i first now due later past so = (
    so.0,
    so.1,
    subst (λ l. ArePutFrom said dir stamp ws l first now) (append-nil so.0)
        (so.2 [] now (subst (λ l. ArePutFrom said dir stamp l [] now now) (sym (drop_all i ws past)) (refl, refl))),
  )

-- a directory is put
pub directory_put : {E : Type 0} (said : Bool) (dir : Option (Bor (List ℕ))) (stamp : List ℕ) (w : Wanted) (old new : Filed) (due later : List Access) (r : Result ⊤ E) → is_directory w.found.kind ≡ true
    → OnOk r (Adds due later (λ more. IsDirectoryPut said dir stamp w more old new)) → OnOk r (Adds due later (λ more. IsPut said dir stamp w more old new))
directory_put said dir stamp w old new due later (Err e) is put = tt
directory_put said dir stamp w old new due later (Ok u) is put = (
  put.0,
  put.1,
  subst (λ b. MatchBool b (IsDirectoryPut said dir stamp w put.0 old new) ((put.0 ≡ []) × IsFilePut said dir stamp w old new)) (sym is) put.2,
)

-- a file is put
pub file_put : {E : Type 0} (said : Bool) (dir : Option (Bor (List ℕ))) (stamp : List ℕ) (w : Wanted) (old new : Filed) (due : List Access) (r : Result ⊤ E) → is_directory w.found.kind ≡ false
    → OnOk r (IsFilePut said dir stamp w old new) → OnOk r (Adds due due (λ more. IsPut said dir stamp w more old new))
file_put said dir stamp w old new due (Err e) is put = tt
file_put said dir stamp w old new due (Ok u) is put =
    adds_none due (λ more. IsPut said dir stamp w more old new)
    (subst (λ b. MatchBool b (IsDirectoryPut said dir stamp w [] old new) ((◌≡◌ {A = List Access} [] []) × IsFilePut said dir stamp w old new)) (sym is) (refl, put))

-- what remains to be given to a directory that was created
pub due_one : (told : Told) (file : FileId) (access : Access) (old new : List Access) → has_access told ≡ true → IsAccessOf told file access → new ≡ old ++ access ∷ [] → Adds old new (IsDue told (Some file))
due_one told file access old new has is more =
    (access ∷ [], more, subst (λ b. MatchBool b ((a : Access) × IsAccessOf told file a × (◌≡◌ {A = List Access} (access ∷ []) (a ∷ []))) (◌≡◌ {A = List Access} (access ∷ []) [])) (sym has) (access, is, refl))

pub due_none : (told : Told) (file : FileId) (old : List Access) → has_access told ≡ false → Adds old old (IsDue told (Some file))
due_none told file old none =
    adds_none old (IsDue told (Some file)) (subst (λ b. MatchBool b ((a : Access) × IsAccessOf told file a × (◌≡◌ {A = List Access} [] (a ∷ []))) (◌≡◌ {A = List Access} [] [])) (sym none) refl)

-- all are put, and then given
pub put_given : {E : Type 0} (said : Bool) (dir : Option (Bor (List ℕ))) (stamp : List ℕ) (ws : List Wanted) (old filled new : Filed) (none due given : List Access) (r : Result ⊤ E) → none ≡ []
    → Adds none due (λ more. ArePutFrom said dir stamp ws more old filled) → given ≡ due → OnOk r (GetTheirs given filled new)
    → OnOk r ((all : List Access) × (mid : Filed) × ArePutFrom said dir stamp ws all old mid × GetTheirs all mid new)
put_given said dir stamp ws old filled new none due given (Err e) empty put same gets = tt
put_given said dir stamp ws old filled new none due given (Ok u) empty put same gets =
    let whole : due ≡ put.0 = put.1 ∙ ap (λ l. l ++ put.0) empty in
    (put.0, filled, put.2, subst (λ l. GetTheirs l filled new) (same ∙ whole) gets)

-- all that an archive asks for is put
pub all_untarred : {E : Type 0} (G : HostGives) (said zoned : Bool) (words : List (Bor (List ℕ))) (dir : Option (Bor (List ℕ))) (stamp bytes : List ℕ) (wanted : List Wanted) (old ready new : Filed) (r : Result ⊤ E)
    → said ≡ not zoned → dir ≡ directory_among words → G (archive_among words) (Bytes bytes) → AsksFor bytes wanted → MayHaveGrown (length wanted) old ready
    → OnOk r ((due : List Access) × (filled : Filed) × ArePutFrom (not zoned) dir stamp wanted due ready filled × GetTheirs due filled new) → OnOk r (AreUntarred G said words stamp old new)
all_untarred G said zoned words dir stamp bytes wanted old ready new (Err f) where_zone below gives asks made put = tt
all_untarred G said zoned words dir stamp bytes wanted old ready new (Ok u) where_zone below gives asks made put = record {
  bytes = bytes;
  given_bytes = gives;
  wanted = wanted;
  asked = asks;
  ready = ready;
  made_ready = made;
  due = put.0;
  filled = put.1;
  put = subst (λ d. ArePutFrom said d stamp wanted put.0 ready put.1) below (subst (λ b. ArePutFrom b dir stamp wanted put.0 ready put.1) (sym where_zone) put.2);
  given = put.3;
}
