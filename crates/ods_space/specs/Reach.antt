-- How far a chain of headers can be traversed, whole or not.
use Rattle.std.specs.Prelude.{◌≡◌, ◌≢◌, ℕ, zero, suc, Bool, true, false, List, [], ◌++◌, length, Option}
use Rattle.ods_header.specs.declared.home.Home.{Home}
use Rattle.ods_header.specs.Header.{next_number_of, blocks_of}
use Rattle.ods_space.specs.Layout.{VolumeLayout, header_by}
use Rattle.ods_space.specs.Chain.{Follows, IsSegment, index_for, known, most}
use Rattle.ods_space.specs.Walk.{IsLink, IsPast}
use Rattle.ods_space.specs.declared.reaching.Reach.{Reach}

-- The chain that begins with header `start` reaches header n, its segment k. Each header before it exists and names the next. These headers map the
-- blocks `front`.
abbrev pub ComesTo : List (List ℕ) → Home → Option (List ℕ) → ℕ → ℕ → ℕ → List ℕ → Type 0
ComesTo I h index start zero n front = (n ≡ start) × (front ≡ [])
ComesTo I h index start (suc k) n front =
    (m : ℕ) × (before : List ℕ) × ComesTo I h index start k m before × IsSegment I h (known index before) (most h index before) m k
    × (next_number_of (header_by I h (known index before) m) ≡ n) × (n ≢ 0) × (front ≡ before ++ blocks_of (header_by I h (known index before) m))
    × IsLink I h (known index front) (most h index front) (header_by I h (known index before) m) (suc k)

-- Header b, with which the headers map these blocks, is the last, segment k. If the chain is whole, it names no next header. Otherwise it names a
-- header that does not exist.
abbrev pub IsLast : List (List ℕ) → Home → Option (List ℕ) → List ℕ → ℕ → List ℕ → Bool → Type 0
IsLast I h index b k blocks true = next_number_of b ≡ 0
IsLast I h index b k blocks false = (next_number_of b ≢ 0) × ¬ IsLink I h (known index blocks) (most h index blocks) b (suc k)

-- The headers from `start` on map these blocks, up to the last header that exists.
pub record Reaches (I : List (List ℕ)) (h : Home) (index : Option (List ℕ)) (start : ℕ) (blocks : List ℕ) (whole : Bool) : Type 0 where
  pub k : ℕ
  pub n : ℕ
  pub before : List ℕ
  pub comes : ComesTo I h index start k n before
  pub here : IsSegment I h (known index before) (most h index before) n k
  pub named : blocks ≡ before ++ blocks_of (header_by I h (known index before) n)
  pub last : IsLast I h index (header_by I h (known index before) n) k blocks whole

-- the first header of n exists
abbrev pub Begins : List (List ℕ) → VolumeLayout → ℕ → Type 0
Begins I L n = IsSegment I L.home (known (index_for L n) []) (most L.home (index_for L n) []) n 0

-- the headers of n that exist map these blocks
abbrev pub ReachesBy : List (List ℕ) → VolumeLayout → ℕ → List ℕ → Bool → Type 0
ReachesBy I L n blocks whole = Reaches I L.home (index_for L n) n blocks whole

-- the number of these blocks, and one of them past the end of an image of `len` blocks, if there is one
pub record IsReachOf (len : ℕ) (blocks : List ℕ) (r : Reach) : Type 0 where
  pub count : r.count ≡ length blocks
  pub past : IsPast len blocks r.past

-- A chain that is traversed whole is the chain of the file, and a file with a chain is traversed whole.
abbrev pub WholeIsChain : Type 0
WholeIsChain = (I : List (List ℕ)) (h : Home) (index : Option (List ℕ)) (start : ℕ) (blocks : List ℕ)
    → (Reaches I h index start blocks true → (others : List ℕ) × Follows I h index [] 0 start others blocks)
    × ((others : List ℕ) → Follows I h index [] 0 start others blocks → Reaches I h index start blocks true)

-- The result of a traversal is unique.
abbrev pub ReachedIsOne : Type 0
ReachedIsOne = (I : List (List ℕ)) (h : Home) (index : Option (List ℕ)) (start : ℕ) (blocks others : List ℕ) (whole other : Bool)
    → Reaches I h index start blocks whole → Reaches I h index start others other → (blocks ≡ others) × (whole ≡ other)
