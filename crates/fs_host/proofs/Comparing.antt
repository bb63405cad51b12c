-- What a reader gives that is compared piece by piece.
use Rattle.std.specs.Prelude.{◌≡◌, ◌==◌, ⊤, ℕ, ◌+◌, ◌-◌, ◌<◌, ◌≤◌, Bool, true, false, IsTrue, Option, Some, None, IfSome, IsSome, List, [], ◌∷◌, ◌++◌, length, take, drop, replicate}
use Rattle.std.specs.List.{list_all, concat}
use Rattle.std.specs.Io.KnownBytes.{Consumes, IsAtEnd, Keeps}
use Rattle.std.proofs.Common.{refl, sym, ap, subst, ◌∙◌, arith, append_assoc, get_or, inl, inr}
use Rattle.std.proofs.KnownBytes.{Consumes-trans}
use Rattle.std.proofs.Math.Seq.{take-add, take-append-add, take-append_seam}
use Rattle.std.proofs.lemmas.List.Folds.{concat-append}
use Rattle.std.proofs.lemmas.Bool.Decides.{nat_tests}
use Rattle.std.proofs.lemmas.List.{take-append-drop, append-nil, replicate-append-replicate, take_rest, take_all, take_more, length-take-le}
use Rattle.fs_host.specs.Compared.{Gives, HasAll, is_zero}

-- bytes that all pass the test are zeros
pub all_zeros : (bytes : List ℕ) → list_all is_zero bytes ≡ true → bytes ≡ replicate (length bytes) 0
all_zeros [] all = refl
all_zeros (b ∷ bytes) all = grind (arith, nat_tests, all_zeros bytes)

-- nothing is wanted
pub gives_none : (ends : Bool) (a : Option (List ℕ)) → Gives ends a a []
gives_none ends None = tt
gives_none ends (Some all) = inl refl

-- the bytes that were read are those that were wanted
pub gives_read : (ends : Bool) (a b : Option (List ℕ)) (wanted : List ℕ) → Consumes a b wanted → Gives ends a b wanted
gives_read ends None b wanted c = tt
gives_read ends (Some all) None wanted c = c
gives_read ends (Some all) (Some rest) wanted c = inl c

-- the reader ended before, and only zeros were left
pub gives_zeros : (ends : Bool) (a b : Option (List ℕ)) (wanted : List ℕ) (at : ℕ) → Consumes a b (take at wanted) → IsAtEnd b → list_all is_zero (drop at wanted) ≡ true → IsTrue ends → Gives ends a b wanted
gives_zeros ends None b wanted at c e z t = tt
gives_zeros ends (Some all) None wanted at c e z t = c
gives_zeros ends (Some all) (Some rest) wanted at c e z t =
    let whole : take at wanted ++ drop at wanted ≡ wanted = take-append-drop at wanted in
    let zeros : drop at wanted ≡ replicate (length (drop at wanted)) 0 = all_zeros (drop at wanted) z in
    let front : all ≡ take at wanted = c ∙ ap (λ l. take at wanted ++ l) e ∙ append-nil (take at wanted) in
    inr (e, (t, (length (drop at wanted), sym whole ∙ ap (λ l. take at wanted ++ l) zeros ∙ ap (λ l. l ++ replicate (length (drop at wanted)) 0) (sym front))))

-- one behind another
pub gives_both : (ends : Bool) (a b c : Option (List ℕ)) (first second : List ℕ) → Gives ends a b first → Gives ends b c second → Gives ends a c (first ++ second)
gives_both ends None b c first second p q = tt
gives_both ends (Some all) None c first second p q = absurd p
gives_both ends (Some all) (Some mid) None first second p q = q
gives_both ends (Some all) (Some mid) (Some rest) first second (inl p) (inl q) = inl (p ∙ ap (λ l. first ++ l) q ∙ sym (append_assoc first second rest))
gives_both ends (Some all) (Some mid) (Some rest) first second (inl p) (inr (e, (t, (n, q)))) =
    inr (e, (t, (n, ap (λ l. first ++ l) q ∙ sym (append_assoc first mid (replicate n 0)) ∙ ap (λ l. l ++ replicate n 0) (sym p))))
gives_both ends (Some all) (Some mid) (Some rest) first second (inr (e, (t, (n, p)))) (inl q) = ended second q
  where
    ended : (second : List ℕ) → mid ≡ second ++ rest → Gives ends (Some all) (Some rest) (first ++ second)
    ended [] q = inr (sym q ∙ e, (t, (n, append-nil first ∙ p)))
    ended (b ∷ bs) q = let wrong : [] ≡ (b ∷ bs) ++ rest = sym e ∙ q in absurd (cc)
gives_both ends (Some all) (Some mid) (Some rest) first second (inr (e, (t, (n, p)))) (inr (f, (_, (m, q)))) =
    inr (
      f,
      (
        t,
        (
          n + m,
          ap (λ l. l ++ second) p ∙ append_assoc all (replicate n 0) second
              ∙ ap (λ l. all ++ (replicate n 0 ++ l)) (q ∙ ap (λ l. l ++ replicate m 0) e) ∙ ap (λ l. all ++ l) (replicate-append-replicate n m 0),
        ),
      ),
    )

-- the reader ended in a read that gave nothing, and only zeros were left
pub gives_end : (ends : Bool) (a b c : Option (List ℕ)) (wanted left : List ℕ) (at n : ℕ) → Consumes a b (take at wanted) → Consumes b c (take n left) → n ≡ 0 → IsAtEnd c
    → IsTrue ends × (list_all is_zero (take (length wanted - at) (drop at wanted)) ≡ true) → Gives ends a c wanted
gives_end ends a b c wanted left at n before now none e t =
    let kept : take at wanted ++ take n left ≡ take at wanted = ap (λ k. take at wanted ++ take k left) none ∙ append-nil (take at wanted) in
    let all : Consumes a c (take at wanted) = subst (Consumes a c) kept (Consumes-trans a b c (take at wanted) (take n left) before now) in
    gives_zeros ends a c wanted at all e (subst (λ l. list_all is_zero l ≡ true) (take_rest wanted at) t.1) t.0

-- the reader gave all
pub gives_last : (ends : Bool) (a b : Option (List ℕ)) (wanted : List ℕ) (at : ℕ) → Consumes a b (take at wanted) → length wanted ≤ at → Gives ends a b wanted
gives_last ends a b wanted at given far = gives_read ends a b wanted (subst (Consumes a b) (take_all at wanted far) given)

-- n bytes more of what is left behind the first `at`
pub part_more : (at n : ℕ) (wanted : List ℕ) → at + n ≤ length wanted → take at wanted ++ take n (take (length wanted - at) (drop at wanted)) ≡ take (at + n) wanted
part_more at n wanted within = ap (λ l. take at wanted ++ take n l) (take_rest wanted at) ∙ sym (take-add at n wanted)

-- a block that is put behind the bytes that are held
pub held_more : (piece block rest : List ℕ) (held : ℕ) → held ≤ length piece → length block ≡ 512 → take (held + 512) (take held piece ++ (block ++ rest)) ≡ take held piece ++ block
held_more piece block rest held within size =
    let long : length (take held piece) ≡ held = length-take-le held piece within in
    ap (λ n. take (n + 512) (take held piece ++ (block ++ rest))) (sym long) ∙ take-append-add (take held piece) (block ++ rest) 512
    ∙ ap (λ n. take held piece ++ take n (block ++ rest)) (sym size) ∙ ap (λ l. take held piece ++ l) (take-append_seam block rest)

-- the bytes of a block more of an image
concat_next : (I : List (List ℕ)) (i : ℕ) → i < length I → concat (take (i + 1) I) ≡ concat (take i I) ++ get_or I i []
concat_next I i low = ap concat (take_more I i [] low) ∙ concat-append (take i I) (get_or I i [] ∷ []) ∙ ap (λ l. concat (take i I) ++ l) (append-nil (get_or I i []))

-- the bytes that were given and those that are held, with a block more
pub blocks_next : (I : List (List ℕ)) (i : ℕ) (x y held now block : List ℕ) → i < length I → block ≡ get_or I i [] → x ++ held ≡ concat (take i I) → y ++ now ≡ held ++ block → (x ++ y) ++ now ≡ concat (take (i + 1) I)
blocks_next I i x y held now block low here before step =
    append_assoc x y now ∙ ap (λ l. x ++ l) step ∙ sym (append_assoc x held block) ∙ ap (λ l. l ++ block) before ∙ ap (λ l. concat (take i I) ++ l) here ∙ sym (concat_next I i low)

-- the bytes that were given and those that are held are all of the image
pub blocks_all : (I : List (List ℕ)) (i : ℕ) (x held : List ℕ) → length I ≤ i → x ++ held ≡ concat (take i I) → x ++ held ≡ concat I
blocks_all I i x held far before = before ∙ ap concat (take_all i I far)

-- a reader that gave what was wanted and is at its end had just that
pub gives_all : (ends : Bool) (a b : Option (List ℕ)) (wanted : List ℕ) (r : Bool) → Gives ends a b wanted → (IsTrue r → IsAtEnd b) → IfSome a (λ all. IsTrue r → HasAll ends all wanted)
gives_all ends None b wanted r g e = tt
gives_all ends (Some all) None wanted r g e = absurd g
gives_all ends (Some all) (Some rest) wanted r (inl p) e = λ t. inl (sym (p ∙ ap (λ l. wanted ++ l) (e t) ∙ append-nil wanted))
gives_all ends (Some all) (Some rest) wanted r (inr (_, given)) e = λ t. inr given

-- what is known of the bytes of a file, from what is known of them once it is at its start
pub from_start : (P : List ℕ → Type 0) (position moved : Option ℕ) (bytes kept remaining : Option (List ℕ)) (n : ℕ) → IsSome position → IfSome position (λ at. (n ≡ 0) × (moved ≡ Some n)) → Keeps bytes kept
    → ((all : List ℕ) → moved ≡ Some 0 → kept ≡ Some all → remaining ≡ Some all) → IfSome remaining P → IfSome bytes P
from_start P position moved None kept remaining n known at keeps whole rest = tt
from_start P position moved (Some all) None remaining n known at keeps whole rest = absurd keeps
from_start P None moved (Some all) (Some same) remaining n known at keeps whole rest = let wrong : false ≡ true = known in absurd (cc)
from_start P (Some old) moved (Some all) (Some same) remaining n known at keeps whole rest =
    let there : remaining ≡ Some same = whole same (at.1 ∙ ap (λ k. Some k) at.0) refl in
    subst P keeps (subst (λ o. IfSome o P) there rest)
