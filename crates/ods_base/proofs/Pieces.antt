-- Pieces of bytes: what is sent of one, and what is kept of one.
use Rattle.std.proofs.Common.{◌≡◌, ℕ, ◌+◌, ◌-◌, ◌*◌, ◌/◌, ◌%◌, ◌≤◌, List, ◌++◌, length, take, drop, refl, sym, ap, ◌∙◌, arith, length-drop, length-take-le}
use Rattle.std.proofs.lemmas.List.{take-take, drop-take}
use Rattle.std.proofs.Math.Seq.{take-append-add}
use Rattle.std.proofs.lemmas.Slice.{take-put_mid}
use borrow.Rule.Slice.PartMut.{put_mid}
use Rattle.std.proofs.lemmas.List.Edits.{take-paste}
use Rattle.std.specs.List.{copy_within}
use Rattle.ods_base.proofs.Images.{take_more}

-- n bytes more of what is left behind the first `at`
pub take_part : (at n : ℕ) (xs : List ℕ) → at + n ≤ length xs → take at xs ++ take n (take (length xs - at) (drop at xs)) ≡ take (at + n) xs
take_part at n xs within =
    let few : n ≤ length xs - at = omega arith in
    ap (λ l. take at xs ++ l) (take-take n (length xs - at) (drop at xs) few) ∙ sym (take_more at n xs)

-- what is moved to the front is what is no whole block
pub rest_kept : (xs : List ℕ) (end : ℕ) → end ≤ length xs → take (end % 512) (copy_within xs (end - end % 512) end 0) ≡ drop (512 * (end / 512)) (take end xs)
rest_kept xs end within =
    let start : ℕ = end - end % 512 in
    let size : end - start ≡ end % 512 = omega arith in
    let first : start ≡ 512 * (end / 512) = omega arith in
    let long : end - start ≤ length (drop start xs) = simp length-drop (omega arith) in
    let whole : start + end % 512 ≡ end = omega arith in
    let from_front : end % 512 ≡ 0 + (end - start) = omega arith in
    ap (λ n. take n (copy_within xs start end 0)) from_front
    ∙ take-paste xs 0 (drop start xs) (end - start) (omega arith) long
    ∙ ap (λ n. take n (drop start xs)) size
    ∙ sym (drop-take start (end % 512) xs)
    ∙ ap (λ n. drop start (take n xs)) whole
    ∙ ap (λ n. drop n (take end xs)) first

-- n bytes that were read behind the first `at`
pub read_behind : (xs ys : List ℕ) (at k n : ℕ) → at ≤ length xs → n ≤ length ys → take (at + n) (put_mid at k xs ys) ≡ take at xs ++ take n ys
read_behind xs ys at k n inside few =
    let within : at + n ≤ at + length ys = omega arith in
    let front : length (take at xs) ≡ at = length-take-le at xs inside in
    sym (take-take (at + n) (at + length ys) (put_mid at k xs ys) within)
    ∙ ap (take (at + n)) (take-put_mid at k xs ys (at + length ys) refl inside)
    ∙ ap (λ m. take (m + n) (take at xs ++ ys)) (sym front)
    ∙ take-append-add (take at xs) ys n
