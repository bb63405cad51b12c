-- How many words of a put name host files.
use Rattle.std.proofs.Common.{◌≡◌, ◌≤◌, ℕ, zero, suc, arith, List, take, length, length-take-le}
use Rattle.f11fs.specs.Changed.{host_count}

pub within : (n : ℕ) → host_count n ≤ n
within zero = omega arith
within (suc zero) = omega arith
within (suc (suc n)) = omega arith

-- how many host files the front of the words has
pub count_in : {A : Type 0} (words : List A) → length (take (host_count (length words)) words) ≡ host_count (length words)
count_in words = length-take-le (host_count (length words)) words (within (length words))
