-- What a writer has of a text that goes out part by part.
use Rattle.std.proofs.Common.{◌≡◌, ℕ, ◌+◌, List, [], ◌++◌, length, take, Option, refl, sym, ◌∙◌, subst, arith, append_assoc, length-append}
use Rattle.std.proofs.Math.Seq.{take-append-add}
use Rattle.std.proofs.lemmas.List.{append-nil, take-append-le}
use Rattle.std.proofs.KnownBytes.{Appends-trans, Appends-nil}
use Rattle.std.specs.Prelude.{Result, Ok, Err, IfErr}
use Rattle.std.specs.Io.KnownBytes.{Appends}
use Rattle.ods_cli.specs.Writing.{IsCut}
use Rattle.ods_cli.specs.declared.fault.ServeFault.{ServeFault}

-- a write failed in the first of two parts
pub cut_first : (old new : Option (List ℕ)) (xs ys : List ℕ) (f : ServeFault) → IsCut old new xs f → IsCut old new (xs ++ ys) f
cut_first old new xs ys f cut =
    let n = cut.1.0 in
    let P : List ℕ → Type 0 = λ l. Appends old new l in
    (cut.0, (n, (omega (arith, cut.1.1.0, length-append xs ys), subst P (sym (take-append-le n xs ys cut.1.1.0)) cut.1.1.1)))

-- or in the second
pub cut_second : (old mid new : Option (List ℕ)) (xs ys : List ℕ) (f : ServeFault) → Appends old mid xs → IsCut mid new ys f → IsCut old new (xs ++ ys) f
cut_second old mid new xs ys f before cut =
    let n = cut.1.0 in
    let P : List ℕ → Type 0 = λ l. Appends old new l in
    let sent = subst P (sym (take-append-add xs ys n)) (Appends-trans old mid new xs (take n ys) before cut.1.1.1) in
    (cut.0, (length xs + n, (omega (arith, cut.1.1.0, length-append xs ys), sent)))

-- or it may have failed in the second
pub cut_later : {A : Type 0} (r : Result A ServeFault) (old mid new : Option (List ℕ)) (xs ys : List ℕ) → Appends old mid xs → IfErr r (IsCut mid new ys) → IfErr r (IsCut old new (xs ++ ys))
cut_later (Ok a) old mid new xs ys before cut = tt
cut_later (Err f) old mid new xs ys before cut = cut_second old mid new xs ys f before cut

-- of a whole text a writer that had `old` and has `new` took all but this rest
pub record HasLeft (whole : List ℕ) (old new : Option (List ℕ)) (rest : List ℕ) : Type 0 where
  pub front : List ℕ
  pub sent : Appends old new front
  pub parts : front ++ rest ≡ whole

-- nothing is written yet
pub all_left : (whole : List ℕ) (old : Option (List ℕ)) → HasLeft whole old old whole
all_left whole old = record { front = []; sent = Appends-nil old; parts = refl }

-- the next part is written
pub less_left : (whole : List ℕ) (old mid new : Option (List ℕ)) (xs ys : List ℕ) → HasLeft whole old mid (xs ++ ys) → Appends mid new xs → HasLeft whole old new ys
less_left whole old mid new xs ys left more = record {
  front = left.front ++ xs;
  sent = Appends-trans old mid new left.front xs left.sent more;
  parts = append_assoc left.front xs ys ∙ left.parts;
}

-- the next part is cut
pub part_cut : (whole : List ℕ) (old mid new : Option (List ℕ)) (xs ys : List ℕ) (f : ServeFault) → HasLeft whole old mid (xs ++ ys) → IsCut mid new xs f → IsCut old new whole f
part_cut whole old mid new xs ys f left cut =
    let P : List ℕ → Type 0 = λ l. IsCut old new l f in
    subst P left.parts (cut_second old mid new left.front (xs ++ ys) f left.sent (cut_first mid new xs ys f cut))
