-- The hidden names of files that are being made.
use Rattle.std.specs.Prelude.{◌≡◌, ℕ, suc, ◌+◌, ◌-◌, ◌*◌, ◌%◌, ◌^◌, ◌<◌, ◌≤◌, List, [], ◌∷◌, ◌++◌, length, take, fold, codes, Result, Ok, Err, IfOk}
use Rattle.std.specs.Fmt.{decimal}
use Rattle.std.proofs.Common.{refl, sym, ap, subst, ◌∙◌, arith, append_assoc, lit<, inl, inr, length-take, length-append}
use Rattle.std.proofs.lemmas.Fmt.{length-decimal-le}
use Rattle.fs_host.specs.Names.{AreParts, IsFront, IsHidden, number_in}

-- a number of a name is below 2^64
fold_low : (name : List ℕ) (number : ℕ) → number < 2 ^ 64 → fold (λ number byte. (number * 257 + byte) % 2 ^ 64) number name < 2 ^ 64
fold_low [] number low = low
fold_low (byte ∷ name) number low = let less : (number * 257 + byte) % 2 ^ 64 < 2 ^ 64 = omega arith in fold_low name ((number * 257 + byte) % 2 ^ 64) less

number_low : (name : List ℕ) → number_in name < 2 ^ 64
number_low name = fold_low name 0 (lit< tt)

-- the front of a name is shorter than what is left for it
front_low : (name front : List ℕ) (most : ℕ) → IsFront name most front → length front ≤ most
front_low name front most h =
    let long : length front ≡ length (take h.0 name) = ap length h.2 in
    omega (arith, long, length-take h.0 name, h.1)

-- a name that is cut
pub hidden_cut : (path word folder name front text : List ℕ) (number most : ℕ) → AreParts path folder name → 247 - length word < length name → number ≡ number_in name → most ≡ 247 - length word - 21
    → IsFront name most front → text ≡ folder ++ (codes "/." ++ (front ++ (46 ∷ (decimal number ++ (codes ".f11fs-" ++ word))))) → IsHidden path word text
hidden_cut path word folder name front text number most parts far number_is most_is cut e =
    let n = number_in name in
    let behind : List ℕ = codes ".f11fs-" ++ word in
    let kept : List ℕ = front ++ 46 ∷ decimal n in
    let digits : length (decimal n) ≤ 20 = length-decimal-le 20 n (lit< tt) (omega (arith, number_low name)) (number_low name) in
    let short : length front ≤ most = front_low name front most cut in
    let long : length kept ≡ length front + suc (length (decimal n)) = length-append front (46 ∷ decimal n) in
    let joined : front ++ (46 ∷ (decimal number ++ behind)) ≡ kept ++ behind =
    ap (λ k. front ++ (46 ∷ (decimal k ++ behind))) number_is ∙ sym (append_assoc front (46 ∷ decimal n) behind) in
    record {
      folder = folder;
      name = name;
      kept = kept;
      parts = parts;
      stands = inr (far, (front, subst (λ m. IsFront name m front) most_is cut, refl));
      is = e ∙ ap (λ l. folder ++ (codes "/." ++ l)) joined;
      fits = λ few. omega (arith, short, digits, long, few, most_is);
    }

-- a text that is made is one of which this holds
pub made_ok : {X E : Type 0} (r : Result X E) (bytes : X → List ℕ) (P : List ℕ → Type 0) (whole : List ℕ) → IfOk r (λ t. bytes t ≡ whole) → P whole → IfOk r (λ t. P (bytes t))
made_ok (Ok t) bytes P whole e p = subst P (sym e) p
made_ok (Err _) bytes P whole e p = tt
