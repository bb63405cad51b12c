-- Files of two volumes that are compared.
use Rattle.std.proofs.Common.{◌≡◌, ◌≢◌, ◌⊎◌, ◌∙◌, ap, inl, inr, not, refl, subst, Bool, true, false, ℕ, List, Option, Some, None, Result, Ok, Err}
use Rattle.std.specs.Prelude.{IfOk, MatchOption, nat_eq}
use Rattle.std.specs.Cmp.Lexicographic.{bytes_decides, pointwise}
use Rattle.ods_base.specs.declared.file_id.FileId.{FileId}
use Rattle.ods_space.specs.Layout.{Disk, VolumeLayout}
use Rattle.ods_space.specs.declared.disk.Disk.{Disk as Lent}
use Rattle.ods_shell.specs.Facts.{AreFacts}
use Rattle.ods_shell.specs.declared.facts.Facts.{Facts}
use Rattle.fs_reads.specs.Alike.{AreCompared, AreOf, IsNamedBy, IsTold, held}

-- no file has the ID whose facts are not known
pub none_named : (D : Disk) (file : FileId) (found : Option Facts)
    → MatchOption found ((facts : Facts) → AreFacts D.image D.layout file.number facts → facts.file ≢ file) (λ facts. AreFacts D.image D.layout file.number facts × (facts.file ≡ file))
    → found ≡ None → IsNamedBy D file → ⊥
none_named D file None none e named = none named.0 named.1.0 named.1.1
none_named D file (Some facts) some e named = absurd (cc e)

-- what is told of two files is told of their IDs
pub told_compared : {A E : Type 0} (D : Disk) (one : FileId) (O : Disk) (file : FileId) (facts others : Facts) (view : A → Option (List ℕ)) (done : Result A E)
    → AreOf D one facts → AreOf O file others → IfOk done (λ word. IsTold D facts O others (view word)) → IfOk done (λ word. AreCompared D one O file (view word))
told_compared D one O file facts others view (Ok word) a b told = inr (inl (facts, (others, (a, (b, told)))))
told_compared D one O file facts others view (Err stop) a b told = tt

-- bytes that do not differ are the same
pub same_bytes : (a b : List ℕ) → false ≡ not (pointwise nat_eq a b) → a ≡ b
same_bytes a b told = by (pointwise nat_eq a b) refl
  where
    by : (r : Bool) → pointwise nat_eq a b ≡ r → a ≡ b
    by true e = (bytes_decides a b).0 e
    by false e = let clash : false ≡ true = told ∙ ap not e in absurd (cc)

-- what is told of blocks that are lent is told of the volumes that lend them
pub compared_seen : {A E : Type 0} (V : Disk) (one : FileId) (W : Disk) (file : FileId) (D O : Lent) (view : A → Option (List ℕ)) (done : Result A E)
    → D.image.now ≡ V.image → D.layout.now ≡ V.layout → O.image.now ≡ W.image → O.layout.now ≡ W.layout
    → IfOk done (λ word. AreCompared (held D) one (held O) file (view word)) → IfOk done (λ word. AreCompared V one W file (view word))
compared_seen V one W file D O view done a b c d told =
    subst (λ (L : VolumeLayout). IfOk done (λ word. AreCompared V one (record { image = W.image; layout = L }) file (view word))) d (
    subst (λ (I : List (List ℕ)). IfOk done (λ word. AreCompared V one (record { image = I; layout = O.layout.now }) file (view word))) c (
    subst (λ (L : VolumeLayout). IfOk done (λ word. AreCompared (record { image = V.image; layout = L }) one (held O) file (view word))) b (
    subst (λ (I : List (List ℕ)). IfOk done (λ word. AreCompared (record { image = I; layout = D.layout.now }) one (held O) file (view word))) a told)))
