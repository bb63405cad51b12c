-- The whole blocks at the front of what is held and what is left.
use Rattle.std.specs.Prelude.{◌≡◌, ℕ, ◌+◌, ◌-◌, ◌*◌, ◌/◌, ◌<◌, ◌≤◌, Option, Some, None, IfSome, List, [], ◌++◌, length, take, drop}
use Rattle.std.specs.Io.KnownBytes.{Consumes, IsAtEnd, Keeps, prepend_known}
use Rattle.std.proofs.Common.{sym, ap, ◌∙◌, arith, append_assoc, length-append, length-drop}
use Rattle.std.proofs.Math.Seq.{take-add, take-append-add}
use Rattle.std.proofs.lemmas.List.{append-nil}
use Rattle.std.proofs.lemmas.List.Edits.{take-paste}
use Rattle.std.specs.List.{copy_within}
use Rattle.fs_host.specs.Blocks.{blocks_left, whole_front}

-- what was read is held now
pub read_kept : (a b : Option (List ℕ)) (before now got : List ℕ) → Consumes a b got → now ≡ before ++ got → Keeps (prepend_known before a) (prepend_known now b)
read_kept None b before now got c e = tt
read_kept (Some x) None before now got c e = absurd c
read_kept (Some x) (Some y) before now got c e = ap (λ l. l ++ y) e ∙ append_assoc before got y ∙ ap (λ l. before ++ l) (sym c)

-- a read that failed
pub none_read : (a b : Option (List ℕ)) (before now : List ℕ) → Keeps a b → now ≡ before → Keeps (prepend_known before a) (prepend_known now b)
none_read None b before now c e = tt
none_read (Some x) None before now c e = absurd c
none_read (Some x) (Some y) before now c e = ap (λ l. l ++ y) e ∙ ap (λ l. before ++ l) c

-- whole blocks in front of others
pub front_more : (k : ℕ) (front rest : List ℕ) → length front ≡ 512 * k → whole_front (front ++ rest) ≡ front ++ whole_front rest
front_more k front rest size =
    let n : ℕ = length rest in
    let all : length (front ++ rest) ≡ 512 * k + n = length-append front rest ∙ ap (λ m. m + n) size in
    let blocks : 512 * ((512 * k + n) / 512) ≡ 512 * k + 512 * (n / 512) = omega arith in
    ap (λ m. take (512 * (m / 512)) (front ++ rest)) all ∙ ap (λ m. take m (front ++ rest)) (blocks ∙ ap (λ m. m + 512 * (n / 512)) (sym size))
    ∙ take-append-add front rest (512 * (n / 512))

-- no whole block
pub front_none : (rest : List ℕ) → length rest < 512 → whole_front rest ≡ []
front_none rest few = let none : 512 * (length rest / 512) ≡ 0 = omega (arith, few) in ap (λ m. take m rest) none

-- whole blocks of those that are held are given
pub given : (a b : Option (List ℕ)) (before now left front : List ℕ) (k : ℕ) → Keeps (prepend_known before a) (prepend_known now b) → now ≡ front ++ left → length front ≡ 512 * k
    → Consumes (blocks_left before a) (blocks_left left b) front
given None b before now left front k kept e size = tt
given (Some x) None before now left front k kept e size = absurd kept
given (Some x) (Some y) before now left front k kept e size = ap whole_front (sym kept ∙ ap (λ l. l ++ y) e ∙ append_assoc front left y) ∙ front_more k front (left ++ y) size

-- none is given
pub none_given : (a b : Option (List ℕ)) (before now : List ℕ) → Keeps (prepend_known before a) (prepend_known now b) → Keeps (blocks_left before a) (blocks_left now b)
none_given None b before now kept = tt
none_given (Some x) None before now kept = absurd kept
none_given (Some x) (Some y) before now kept = ap whole_front kept

-- what is held is no whole block, and nothing is left
pub at_end : (b : Option (List ℕ)) (held : List ℕ) → length held < 512 → IsAtEnd b → IsAtEnd (blocks_left held b)
at_end None held few end = tt
at_end (Some y) held few end = ap (λ l. whole_front (held ++ l)) end ∙ ap whole_front (append-nil held) ∙ front_none held few

-- nothing is held at the start
pub unheld : (a : Option (List ℕ)) (P : List ℕ → Type 0) → IfSome (blocks_left [] a) P → IfSome a (λ all. P (whole_front all))
unheld None P p = tt
unheld (Some all) P p = p

-- what is behind those that were given moves to the front
pub moved : (xs : List ℕ) (n held : ℕ) → n ≤ held → held ≤ length xs → take held xs ≡ take n xs ++ take (held - n) (copy_within xs n held 0)
moved xs n held few within =
    let long : held - n ≤ length (drop n xs) = simp length-drop (omega arith) in
    let whole : held ≡ n + (held - n) = omega arith in
    let from_front : held - n ≡ 0 + (held - n) = omega arith in
    let kept = ap (λ m. take m (copy_within xs n held 0)) from_front ∙ take-paste xs 0 (drop n xs) (held - n) (omega arith) long in
    ap (λ m. take m xs) whole ∙ take-add n (held - n) xs ∙ ap (λ l. take n xs ++ l) (sym kept)
