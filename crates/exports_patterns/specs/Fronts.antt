-- Texts in order, and which of them another text begins with. A text of the list is told by one more than its place.
--     text_at texts k      the text at a place; the empty one past the end
--     StandsAt entries place entry      this entry stands at the place
--     IsAscending texts      the texts don't fall
--     Covers texts text most at      of the first so many, each that the text begins with stands before `at`, and the
--         one just before it begins with it
--     IsTop texts text most at      `at` tells the last of the first so many that the text begins with; 0 where it
--         begins with none
--     LinkedBelow texts links most      each of the first so many has its link: the last one before it that it begins
--         with
--     HasAllLinks texts links      each text has its link
--     AreFronts texts links      the texts don't fall, and each has its link
use Rattle.std.specs.Prelude.{◌≡◌, ◌<◌, ◌≤◌, ◌-◌, ℕ, List, [], length, slice_index, slice_index_or, false}
use Rattle.std.specs.Ordering.{nat_cmp, is_lt}
use Rattle.std.specs.Cmp.Lexicographic.{slice_cmp}
use Rattle.node_spec.specs.PatternKeys.{StartsWith}

abbrev pub text_at : List (List ℕ) → ℕ → List ℕ
text_at texts k = slice_index_or texts k []

abbrev pub StandsAt : {X : Type 0} → List X → ℕ → X → Type 0
StandsAt entries place entry = (place < length entries) × (slice_index_or entries place entry ≡ entry)

abbrev pub IsAscending : List (List ℕ) → Type 0
IsAscending texts =
    (i j : ℕ) → i ≤ j → j < length texts → is_lt (slice_cmp nat_cmp (text_at texts j) (text_at texts i)) ≡ false

abbrev pub Covers : List (List ℕ) → List ℕ → ℕ → ℕ → Type 0
Covers texts text most at =
    (k : ℕ) → k < most → StartsWith text (text_at texts k)
    → (k < at) × StartsWith (text_at texts (at - 1)) (text_at texts k)

pub record IsTop (texts : List (List ℕ)) (text : List ℕ) (most at : ℕ) : Type 0 where
  pub within : at ≤ most
  pub begins : 0 < at → StartsWith text (text_at texts (at - 1))
  pub covers : Covers texts text most at

pub record HasLink (texts : List (List ℕ)) (i link : ℕ) : Type 0 where
  pub before : link ≤ i
  pub covers : Covers texts (text_at texts i) i link

abbrev pub LinkedBelow : List (List ℕ) → List ℕ → ℕ → Type 0
LinkedBelow texts links most = (i : ℕ) → i < most → HasLink texts i (slice_index links i)

pub record HasAllLinks (texts : List (List ℕ)) (links : List ℕ) : Type 0 where
  pub each : LinkedBelow texts links (length links)
  pub all : length links ≡ length texts

abbrev pub AreFronts : List (List ℕ) → List ℕ → Type 0
AreFronts texts links = IsAscending texts × HasAllLinks texts links
