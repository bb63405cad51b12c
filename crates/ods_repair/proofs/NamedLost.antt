-- Lost files gone through one by one: those whose headers have names.
use Rattle.std.proofs.Common.{◌≡◌, ◌⊎◌, ◌+◌, ◌<◌, ◌≤◌, ℕ, List, [], ◌∷◌, ◌++◌, length, slice_get, Some, inl, inr, refl, sym, ap, ◌∙◌, subst, arith}
use Rattle.std.specs.List.{All, Contains}
use Rattle.std.proofs.lemmas.Bool.{cases_lt}
use Rattle.std.proofs.lemmas.List.Elements.{All-cons, All-nil, All-push, Contains-append_left, Contains-push}
use Rattle.std.proofs.lemmas.Option.{same_Some, slice_get-get_or}
use Rattle.ods_base.specs.declared.file_id.FileId.{FileId}
use Rattle.ods_base.specs.Name.{IsName}
use Rattle.ods_space.specs.Layout.{VolumeLayout}
use Rattle.ods_space.specs.Files.{IsFile}
use Rattle.ods_check.specs.Findings.{IsLostFile, id_at}
use Rattle.ods_check.specs.Lists.{AreInOrder}
use Rattle.ods_check.specs.Repairs.{AreLost}
use Rattle.ods_check.proofs.InOrder.{order_append, order_nil, order_one}
use Rattle.ods_check.proofs.Turning.{at_place}
use Rattle.ods_repair.specs.Found.{AreNamed, CanBeNamed, name_at}
use Rattle.ods_repair.specs.declared.lost_file.LostFile.{LostFile}

module _ (I : List (List ℕ)) (L : VolumeLayout) (lost : List FileId) (are : AreLost I L lost) where
  -- each of them is a file
  pub is_file : (i : ℕ) (id : FileId) → slice_get lost i ≡ Some id → IsFile I L id.number
  is_file i id at = (at_place (λ (f : FileId). IsLostFile I L f.number × (f ≡ id_at I L f.number)) lost i id are.each at).0.file

  -- one of the first k, and its header has this name
  pub record IsOneOf (k : ℕ) (x : LostFile) : Type 0 where
    pub at : ℕ
    pub low : at < k
    pub there : slice_get lost at ≡ Some x.file
    pub named : IsName (name_at I L x.file.number)
    pub name : x.name ≡ name_at I L x.file.number

  abbrev Lower : LostFile → LostFile → Type 0
  Lower x y = x.file.number < y.file.number

  -- all of the first k whose headers have names
  pub record AreUpTo (k : ℕ) (found : List LostFile) : Type 0 where
    pub each : All (IsOneOf k) found
    pub all : (i : ℕ) (id : FileId) → i < k → slice_get lost i ≡ Some id → IsName (name_at I L id.number) → Contains found (record { file = id; name = name_at I L id.number })
    pub rising : AreInOrder Lower found

  pub up_to_none : AreUpTo 0 []
  up_to_none = record { each = All-nil (IsOneOf 0); all = λ i id low. absurd (omega (arith, low)); rising = order_nil Lower }

  later : (k : ℕ) (found : List LostFile) → All (IsOneOf k) found → All (IsOneOf (k + 1)) found
  later k found each i d low = let h = each i d low in record { at = h.at; low = omega (arith, h.low); there = h.there; named = h.named; name = h.name }

  pub up_to_more : (k : ℕ) (id : FileId) (old new : List LostFile) → slice_get lost k ≡ Some id → AreUpTo k old
      → (IsName (name_at I L id.number) × (new ≡ old ++ record { file = id; name = name_at I L id.number } ∷ [])) ⊎ ((¬ IsName (name_at I L id.number)) × (new ≡ old)) → AreUpTo (k + 1) new
  up_to_more k id old new at u (inl h) =
      let one : LostFile = record { file = id; name = name_at I L id.number } in
      record {
        each = subst (All (IsOneOf (k + 1))) (sym h.1) (All-push (IsOneOf (k + 1)) old one (later k old u.each) (record { at = k; low = omega arith; there = at; named = h.0; name = refl }));
        all = λ i other low there name. subst (λ l. Contains l (record { file = other; name = name_at I L other.number })) (sym h.1) (elim (cases_lt i k) [
          | inl less ↦ Contains-append_left old (one ∷ []) (record { file = other; name = name_at I L other.number }) (u.all i other less there name)
          | inr past ↦
              let e : i ≡ k = omega (arith, low, past) in
              let same : id ≡ other = same_Some id other (sym at ∙ ap (slice_get lost) (sym e) ∙ there) in
              subst (λ (f : FileId). Contains (old ++ one ∷ []) (record { file = f; name = name_at I L f.number })) same (Contains-push old one)
        ]);
        rising = subst (AreInOrder Lower) (sym h.1) (order_append Lower old (one ∷ []) u.rising (order_one Lower one) (λ i j x y first second.
            let was = at_place (IsOneOf k) old i x u.each first in
            let is : y ≡ one = at_place (λ z. z ≡ one) (one ∷ []) j y (All-cons (λ z. z ≡ one) one [] refl (All-nil (λ z. z ≡ one))) second in
            subst (Lower x) (sym is) (are.rising was.at k x.file id was.there at was.low)));
      }
  up_to_more k id old new at u (inr h) = record {
    each = subst (All (IsOneOf (k + 1))) (sym h.1) (later k old u.each);
    all = λ i other low there name. subst (λ l. Contains l (record { file = other; name = name_at I L other.number })) (sym h.1) (elim (cases_lt i k) [
      | inl less ↦ u.all i other less there name
      | inr past ↦
          let e : i ≡ k = omega (arith, low, past) in
          let same : id ≡ other = same_Some id other (sym at ∙ ap (slice_get lost) (sym e) ∙ there) in
          absurd (h.0 (subst (λ (f : FileId). IsName (name_at I L f.number)) (sym same) name))
    ]);
    rising = subst (AreInOrder Lower) (sym h.1) u.rising;
  }

  one_named : (k : ℕ) (x : LostFile) → IsOneOf k x → CanBeNamed I L x.file.number × (x.file ≡ id_at I L x.file.number) × (x.name ≡ name_at I L x.file.number)
  one_named k x h =
      let file = at_place (λ (f : FileId). IsLostFile I L f.number × (f ≡ id_at I L f.number)) lost h.at x.file are.each h.there in
      ((file.0, h.named), file.1, h.name)

  pub up_to_all : (k : ℕ) (found : List LostFile) → length lost ≤ k → AreUpTo k found → AreNamed I L found
  up_to_all k found end u = record {
    each = λ i d low. one_named k _ (u.each i d low);
    all = λ n can.
        let has = are.all n can.0 in
        let at : slice_get lost has.0 ≡ Some (id_at I L n) = slice_get-get_or lost has.0 (id_at I L n) has.1 ∙ ap Some has.2 in
        u.all has.0 (id_at I L n) (omega (arith, end, has.1)) at can.1;
    rising = u.rising;
  }
