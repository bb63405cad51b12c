-- Lists to which lines are added.
use Rattle.std.specs.Prelude.{◌≡◌, ℕ, ◌-◌, ◌<◌, ◌≤◌, List, ◌++◌, length, map, take, slice_get, Some}
use Rattle.std.specs.List.{All, Contains}

-- The list is the old one with more items at the end, each with the property P. The number with the list is the greatest count of kept items, which
-- is unchanged.
pub record Adds {X : Type 0} (P : X → Type 0) (old new : List X × ℕ) : Type 0 where
  pub more : List X
  pub is : new ≡ (old.0 ++ more, old.1)
  pub each : All P more

-- no item is in the list twice
abbrev pub AreDistinct : {X : Type 0} → List X → Type 0
AreDistinct {X = X} xs = (i j : ℕ) (x : X) → slice_get xs i ≡ Some x → slice_get xs j ≡ Some x → i ≡ j

-- each item has this relation to each later one
abbrev pub AreInOrder : {X : Type 0} → (X → X → Type 0) → List X → Type 0
AreInOrder {X = X} R xs = (i j : ℕ) (x y : X) → slice_get xs i ≡ Some x → slice_get xs j ≡ Some y → i < j → R x y

-- The list is the old one with more distinct items at the end. The turn of each is at least a and less than b.
pub record AddsInTurn {X : Type 0} (turn : X → ℕ) (a b : ℕ) (old new : List X × ℕ) : Type 0 where
  pub more : List X
  pub is : new ≡ (old.0 ++ more, old.1)
  pub turns : All (λ x. (a ≤ turn x) × (turn x < b)) more
  pub once : AreDistinct more

-- The list is the old one with the lines of numbers at the end: the line of each number with the property, once.
pub record AddsEach {X : Type 0} (Is : ℕ → Type 0) (line : ℕ → X) (old new : List X × ℕ) : Type 0 where
  pub numbers : List ℕ
  pub is : new ≡ (old.0 ++ map line numbers, old.1)
  pub each : All Is numbers
  pub all : (n : ℕ) → Is n → Contains numbers n
  pub once : AreDistinct numbers

-- These are the first lines of a list, at most `most`, and `more` is the number of other lines.
pub record IsCut {X : Type 0} (kept : List X) (more most : ℕ) (whole : List X) : Type 0 where
  pub first : kept ≡ take most whole
  pub rest : more ≡ length whole - most

-- the list holds as many lines as it may keep
abbrev pub IsFull : {X : Type 0} → List X × ℕ → Type 0
IsFull told = told.1 ≤ length told.0
