-- What the texts of /proc specify: a mount, a mapping and the target of a link.
use Rattle.std.specs.Prelude.{◌≡◌, ℕ, ◌<◌, ◌≤◌, ◌==◌, ◌&&◌, ◌||◌, Bool, true, false, not, List, length, slice_index, codes}
use Rattle.std.specs.List.{before_first, after_first, starts_with}

abbrev pub is_blank : ℕ → Bool
is_blank b = b == 32

-- the first blank of a text is at n, or n is its length if there is none
pub record IsFirstBlank (text : List ℕ) (n : ℕ) : Type 0 where
  pub within : n ≤ length text
  pub before : (k : ℕ) → k < n → is_blank (slice_index text k) ≡ false
  pub found : n < length text → is_blank (slice_index text n) ≡ true

-- the words of a line are what single blanks separate
abbrev pub first_word : List ℕ → List ℕ
first_word line = before_first is_blank line

abbrev pub later_words : List ℕ → List ℕ
later_words line = after_first is_blank line

abbrev pub third_word : List ℕ → List ℕ
third_word line = first_word (later_words (later_words line))

abbrev pub fourth_word : List ℕ → List ℕ
fourth_word line = first_word (later_words (later_words (later_words line)))

abbrev pub fifth_word : List ℕ → List ℕ
fifth_word line = first_word (later_words (later_words (later_words (later_words line))))

-- the text begins with this one
abbrev pub begins : List ℕ → List ℕ → Bool
begins front text = starts_with (λ x y. x == y) text front

-- a path, but of no device, of no part of /proc and of no memory
abbrev pub may_be_disk_file : List ℕ → Bool
may_be_disk_file link =
    begins (codes "/") link && ((not (begins (codes "/dev/") link) || begins (codes "/dev/shm/") link)
    && (not (begins (codes "/proc/") link) && not (begins (codes "/memfd:") link)))
