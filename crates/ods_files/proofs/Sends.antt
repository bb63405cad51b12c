-- What a writer takes of bytes that are sent in pieces.
use Rattle.std.proofs.Common.{◌≡◌, ℕ, ◌+◌, ◌≤◌, List, [], ◌++◌, length, take, Option, refl, sym, ap, ◌∙◌, subst, arith, append_assoc, length-append, length-take-le}
use Rattle.std.proofs.Math.Seq.{take-append-add}
use Rattle.std.proofs.lemmas.List.{take-take, take_all, append-nil}
use Rattle.std.proofs.KnownBytes.{Appends-trans, Appends-nil}
use Rattle.std.specs.Io.KnownBytes.{Appends}
use Rattle.ods_base.specs.Image.{TookBytes}
use Rattle.ods_files.specs.Sending.{IsSending}

-- nothing is sent yet
pub begun : (bytes : List ℕ) (old : Option (List ℕ)) → IsSending bytes old old 0 0 []
begun bytes old = record { sent = Appends-nil old; held = refl; count = refl }

-- the piece takes more
pub held_on : (bytes : List ℕ) (old new : Option (List ℕ)) (at written n : ℕ) (piece chunk grown : List ℕ) → IsSending bytes old new at written piece
    → take (at + n) bytes ≡ take at bytes ++ chunk → length chunk ≡ n → grown ≡ piece ++ chunk → IsSending bytes old new (at + n) written grown
held_on bytes old new at written n piece chunk grown way more size is =
    let long : length grown ≡ length piece + n = ap length is ∙ length-append piece chunk ∙ ap (λ m. length piece + m) size in
    let count = way.count in
    record {
      sent = way.sent;
      held = ap (λ l. take written bytes ++ l) is ∙ sym (append_assoc (take written bytes) piece chunk) ∙ ap (λ l. l ++ chunk) way.held ∙ sym more;
      count = omega arith;
    }

-- the whole piece is sent
pub piece_sent : (bytes : List ℕ) (old mid new : Option (List ℕ)) (at written : ℕ) (piece : List ℕ) → IsSending bytes old mid at written piece
    → Appends mid new piece → IsSending bytes old new at (written + length piece) []
piece_sent bytes old mid new at written piece way more =
    let P : List ℕ → Type 0 = λ l. Appends old new l in
    let all : take (written + length piece) bytes ≡ take at bytes = ap (λ n. take n bytes) way.count in
    let count = way.count in
    record {
      sent = subst P (way.held ∙ sym all) (Appends-trans old mid new (take written bytes) piece way.sent more);
      held = append-nil (take (written + length piece) bytes) ∙ all;
      count = omega arith;
    }

-- the writer took a first part of the piece, and failed
pub piece_broken : (bytes : List ℕ) (old mid new : Option (List ℕ)) (at written n : ℕ) (piece : List ℕ) → IsSending bytes old mid at written piece → at ≤ length bytes
    → n ≤ length piece → Appends mid new (take n piece) → TookBytes old new bytes (written + n)
piece_broken bytes old mid new at written n piece way within few more =
    let count = way.count in
    let front : length (take written bytes) ≡ written = length-take-le written bytes (omega arith) in
    let seam : written + n ≡ length (take written bytes) + n = omega arith in
    let P : List ℕ → Type 0 = λ l. Appends old new l in
    let parts : take written bytes ++ take n piece ≡ take (written + n) bytes =
    sym (take-append-add (take written bytes) piece n) ∙ ap (λ m. take m (take written bytes ++ piece)) (sym seam)
    ∙ ap (take (written + n)) way.held ∙ take-take (written + n) at bytes (omega arith)
    in (omega arith, subst P parts (Appends-trans old mid new (take written bytes) (take n piece) way.sent more))

-- the last piece is sent
pub all_sent : (bytes : List ℕ) (old mid new : Option (List ℕ)) (at written : ℕ) (piece : List ℕ) → IsSending bytes old mid at written piece → length bytes ≤ at
    → Appends mid new piece → Appends old new bytes
all_sent bytes old mid new at written piece way end more =
    let P : List ℕ → Type 0 = λ l. Appends old new l in
    subst P (way.held ∙ take_all at bytes end) (Appends-trans old mid new (take written bytes) piece way.sent more)
