-- The version under which a name is entered.
use Rattle.std.proofs.Common.{◌≡◌, ℕ, ◌+◌, ◌/◌, ◌<◌, ◌≤◌, Bool, true, false, cond, List, nat_lt, Option, Some, None, Ok, Err, refl, sym, subst, arith, inl, inr}
use Rattle.std.proofs.lemmas.Bool.{ltb-true, ltb-false, and_parts}
use Rattle.ods_base.specs.Name.{RadName}
use Rattle.ods_base.specs.Names.{NameMap, is_of, Has, IsPicked, IsEntered}
use Rattle.ods_base.specs.declared.name.Pick.TheVariants.{Exact, Highest}
use Rattle.ods_directory.specs.declared.fault.DirFault.{DirFault}
use Rattle.ods_directory.specs.declared.fault.DirFault.TheVariants.{NameTaken, VersionsFull}
use Rattle.ods_directory.specs.declared.search.Found.{Found}
use Rattle.ods_directory.specs.Entering.{pick_of, next_version}
use Rattle.ods_directory.specs.Entry.{is_used, entry_at}
use Rattle.ods_directory.specs.Faults.{IsEnterFault}
use Rattle.ods_directory.specs.Names.{IsDirectory, names_of}
use Rattle.ods_directory.specs.Search.{IsFound}
use Rattle.ods_directory.proofs.Used.{by_positions}
use Rattle.ods_directory.proofs.Picked.{finds, finds_none}

module _ (blocks : List (List ℕ)) (mark : ℕ) (n : RadName) (directory : IsDirectory blocks mark) where
  -- the version that is entered is the one that is said to be it
  pub is_entered : (given : Option ℕ) (found : Option Found) (version : ℕ) → IsFound (entry_at blocks) (mark / 16) n (pick_of given) found → next_version given found ≡ Ok version → IsEntered (names_of blocks mark) n given version
  is_entered (Some v) None version h next = let same : v ≡ version = cc in (sym same, finds_none blocks mark n (Exact v) h)
  is_entered (Some v) (Some f) version h next = absurd (cc)
  is_entered None None version h next = let same : 1 ≡ version = cc in inl (finds_none blocks mark n Highest h, sym same)
  is_entered None (Some f) version h next = by (nat_lt f.version 32767) refl next
    where
      by : (b : Bool) → nat_lt f.version 32767 ≡ b → cond b (Ok (f.version + 1)) (Err VersionsFull) ≡ Ok version → IsEntered (names_of blocks mark) n None version
      by true e g =
          let same : f.version + 1 ≡ version = cc in
          let room : f.version < 32767 = ltb-true f.version 32767 e in
          inr (f.version, (finds blocks mark n Highest f directory h).0, sym same, omega (arith, same, room))
      by false e g = absurd (cc)

  -- why there is none
  pub enter_fault : (given : Option ℕ) (found : Option Found) (fault : DirFault) → IsFound (entry_at blocks) (mark / 16) n (pick_of given) found → next_version given found ≡ Err fault → IsEnterFault (names_of blocks mark) n given fault
  enter_fault (Some v) None fault h next = absurd (cc)
  enter_fault (Some v) (Some f) fault h next =
      let is : NameTaken ≡ fault = cc in
      let picked = (finds blocks mark n (Exact v) f directory h).0 in
      subst (IsEnterFault (names_of blocks mark) n (Some v)) is (subst (Has (names_of blocks mark) n) picked.0 picked.1)
  enter_fault None None fault h next = absurd (cc)
  enter_fault None (Some f) fault h next = by (nat_lt f.version 32767) refl next
    where
      most : f.version ≤ 32767
      most =
          let used = (and_parts (is_used (entry_at blocks f.position)) (is_of n (entry_at blocks f.position).key) h.0.named).0 in
          subst (λ v. v ≤ 32767) (sym h.0.version) ((by_positions blocks mark directory).good f.position h.0.below used).most

      by : (b : Bool) → nat_lt f.version 32767 ≡ b → cond b (Ok (f.version + 1)) (Err VersionsFull) ≡ Err fault → IsEnterFault (names_of blocks mark) n None fault
      by true e g = absurd (cc)
      by false e g =
          let is : VersionsFull ≡ fault = cc in
          let last : f.version ≡ 32767 = omega (arith, most, ltb-false f.version 32767 e) in
          subst (IsEnterFault (names_of blocks mark) n None) is (subst (IsPicked (names_of blocks mark) n Highest) last (finds blocks mark n Highest f directory h).0)

-- the version that is entered is a version, and the map has it not
pub version_in_range : (given : Option ℕ) (found : Option Found) (version : ℕ) → ((v : ℕ) → given ≡ Some v → (1 ≤ v) × (v ≤ 32767)) → next_version given found ≡ Ok version → (1 ≤ version) × (version ≤ 32767)
version_in_range (Some v) None version range next = let same : v ≡ version = cc in subst (λ x. (1 ≤ x) × (x ≤ 32767)) same (range v refl)
version_in_range (Some v) (Some f) version range next = absurd (cc)
version_in_range None None version range next = let same : 1 ≡ version = cc in (omega (arith, same), omega (arith, same))
version_in_range None (Some f) version range next = by (nat_lt f.version 32767) refl next
  where
    by : (b : Bool) → nat_lt f.version 32767 ≡ b → cond b (Ok (f.version + 1)) (Err VersionsFull) ≡ Ok version → (1 ≤ version) × (version ≤ 32767)
    by true e g = let same : f.version + 1 ≡ version = cc in let room : f.version < 32767 = ltb-true f.version 32767 e in (omega (arith, same), omega (arith, same, room))
    by false e g = absurd (cc)

pub entered_is_new : (m : NameMap) (n : RadName) (given : Option ℕ) (version : ℕ) → IsEntered m n given version → ¬ Has m n version
entered_is_new m n (Some v) version h = subst (λ x. ¬ Has m n x) (sym h.0) h.1
entered_is_new m n None version (inl h) = h.0 version
entered_is_new m n None version (inr h) = λ there. absurd (omega (arith, h.1.1 version there, h.2))
