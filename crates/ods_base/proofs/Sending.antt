-- An image on its way to a writer: what is sent, and what a piece holds back.
use Rattle.std.proofs.Common.{◌≡◌, ℕ, zero, suc, ◌+◌, ◌*◌, ◌%◌, ◌<◌, ◌≤◌, List, [], ◌∷◌, ◌++◌, length, take, get_or, Option, refl, sym, ap, ◌∙◌, subst, arith, append_assoc, length-append, length-take-le}
use Rattle.std.proofs.Math.Seq.{take-append_seam, take-append-add}
use Rattle.std.proofs.lemmas.List.{take-take, append-nil}
use Rattle.std.proofs.KnownBytes.{Appends-trans}
use Rattle.std.specs.Io.KnownBytes.{Appends}
use Rattle.std.specs.List.{All, concat}
use Rattle.ods_base.specs.Block.{IsBlock}
use Rattle.ods_base.proofs.Images.{length-concat}

-- of the first i blocks this many bytes are sent, and the piece has the others
pub record IsUnderWay (I : List (List ℕ)) (i written : ℕ) (piece : List ℕ) : Type 0 where
  pub held : take written (concat I) ++ piece ≡ take (512 * i) (concat I)
  pub count : written + length piece ≡ 512 * i
  pub blocks : length piece % 512 ≡ 0

tail_of : (b : List ℕ) (bs : List (List ℕ)) → All IsBlock (b ∷ bs) → All IsBlock bs
tail_of b bs each k d h = each (suc k) d (omega arith)

-- the bytes of one block more
take_block : (I : List (List ℕ)) (i : ℕ) → All IsBlock I → i < length I → take (512 * (i + 1)) (concat I) ≡ take (512 * i) (concat I) ++ get_or I i []
take_block [] i each inside = absurd (omega arith)
take_block (b ∷ bs) zero each inside =
    let size = (each 0 [] (omega arith)).size in
    ap (λ n. take n (b ++ concat bs)) (sym size) ∙ take-append_seam b (concat bs)
take_block (b ∷ bs) (suc i) each inside =
    let size = (each 0 [] (omega arith)).size in
    let rest = take_block bs i (tail_of b bs each) (omega arith) in
    let more : 512 * (suc i + 1) ≡ length b + 512 * (i + 1) = omega arith in
    let so_far : length b + 512 * i ≡ 512 * suc i = omega arith in
    ap (λ n. take n (b ++ concat bs)) more ∙ take-append-add b (concat bs) (512 * (i + 1)) ∙ ap (λ l. b ++ l) rest
    ∙ sym (append_assoc b (take (512 * i) (concat bs)) (get_or bs i []))
    ∙ ap (λ l. l ++ get_or bs i []) (sym (take-append-add b (concat bs) (512 * i)) ∙ ap (λ n. take n (b ++ concat bs)) so_far)

-- nothing is sent yet
pub not_begun : (I : List (List ℕ)) → IsUnderWay I 0 0 []
not_begun I = record { held = refl; count = omega arith; blocks = omega arith }

-- the piece takes one block more
pub one_more_held : (I : List (List ℕ)) (i written : ℕ) (piece b grown : List ℕ) → All IsBlock I → i < length I → b ≡ get_or I i [] → grown ≡ piece ++ b → IsUnderWay I i written piece →
    IsUnderWay I (i + 1) written grown
one_more_held I i written piece b grown each inside here is way =
    let size : length b ≡ 512 = ap length here ∙ (each i [] inside).size in
    let long : length grown ≡ length piece + 512 = ap length is ∙ length-append piece b ∙ ap (λ n. length piece + n) size in
    let count = way.count in
    let blocks = way.blocks in
    record {
      held =
          ap (λ l. take written (concat I) ++ l) is ∙ sym (append_assoc (take written (concat I)) piece b) ∙ ap (λ l. l ++ b) way.held
          ∙ ap (λ l. take (512 * i) (concat I) ++ l) here ∙ sym (take_block I i each inside);
      count = omega arith;
      blocks = omega arith;
    }

-- a first part of the piece, behind what is sent already
sent_on : (I : List (List ℕ)) (i written n : ℕ) (piece : List ℕ) → All IsBlock I → i ≤ length I → IsUnderWay I i written piece → n ≤ length piece →
    (take written (concat I) ++ take n piece ≡ take (written + n) (concat I)) × (written + n ≤ length (concat I))
sent_on I i written n piece each inside way within =
    let size = length-concat I each in
    let count = way.count in
    let front : length (take written (concat I)) ≡ written = length-take-le written (concat I) (omega arith) in
    let seam : written + n ≡ length (take written (concat I)) + n = omega arith in
    let few : written + n ≤ 512 * i = omega arith in (
      sym (take-append-add (take written (concat I)) piece n) ∙ ap (λ m. take m (take written (concat I) ++ piece)) (sym seam)
          ∙ ap (take (written + n)) way.held ∙ take-take (written + n) (512 * i) (concat I) few,
      omega arith,
    )

-- the writer took a first part of the piece
pub takes_on : (I : List (List ℕ)) (i written n : ℕ) (piece : List ℕ) (old mid new : Option (List ℕ)) → All IsBlock I → i ≤ length I → IsUnderWay I i written piece → n ≤ length piece →
    Appends old mid (take written (concat I)) → Appends mid new (take n piece) → Appends old new (take (written + n) (concat I)) × (written + n ≤ length (concat I))
takes_on I i written n piece old mid new each inside way within before more =
    let on = sent_on I i written n piece each inside way within in
    let P : List ℕ → Type 0 = λ bytes. Appends old new bytes in
    (subst P on.0 (Appends-trans old mid new (take written (concat I)) (take n piece) before more), on.1)

-- the writer took the whole piece
pub takes_all : (I : List (List ℕ)) (i written : ℕ) (piece : List ℕ) (old mid new : Option (List ℕ)) → IsUnderWay I i written piece →
    Appends old mid (take written (concat I)) → Appends mid new piece → Appends old new (take (written + length piece) (concat I))
takes_all I i written piece old mid new way before more =
    let P : List ℕ → Type 0 = λ bytes. Appends old new bytes in
    subst P (way.held ∙ ap (λ n. take n (concat I)) (sym way.count)) (Appends-trans old mid new (take written (concat I)) piece before more)

-- the whole piece is sent
pub all_sent : (I : List (List ℕ)) (i written : ℕ) (piece : List ℕ) → IsUnderWay I i written piece → IsUnderWay I i (written + length piece) []
all_sent I i written piece way = record {
  held = append-nil (take (written + length piece) (concat I)) ∙ ap (λ n. take n (concat I)) way.count;
  count = let count = way.count in omega arith;
  blocks = omega arith;
}
