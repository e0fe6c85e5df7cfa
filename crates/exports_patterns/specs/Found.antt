-- The key that is found, in the words of the choice among keys.
--     keys_of members      the keys of an object's members, in order
--     IsFound keys asked found      the match stands for the choice among these keys, at a place where that key is
--     Finds keys asked result      so does what is found, if anything is
--     HasSpan asked found      the span of the match may be cut out of the text
use Rattle.std.specs.Prelude.{◌≡◌, ◌≤◌, ℕ, List, slice_get, Option, Some, MatchOption, if◌then◌else◌, true}
use Rattle.std.specs.Str.{IsCharBoundary}
use Rattle.json_spec.specs.Value.{names_of}
use Rattle.ordered_json.specs.declared.value.Members.{Members}
use Rattle.ordered_json.specs.Lists.{pairs_of}
use Rattle.ordered_json.specs.Shown.{members_of}
use Rattle.node_spec.specs.PatternKeys.{KeyMatch, Itself, PatternMatch, Matches, IsChoice, MatchesNone}
use Rattle.exports_patterns.specs.declared.pattern_keys.Match.{Match}

abbrev pub keys_of : Members → List (List ℕ)
keys_of members = names_of (members_of (pairs_of members))

abbrev pub match_shown : Match → KeyMatch
match_shown found = if found.exact then Itself else PatternMatch found.from found.to

-- the key matches so; the span of a key that matches by itself is 0 and 0
pub record IsMatch (asked key : List ℕ) (found : Match) : Type 0 where
  pub matches : Matches asked key (match_shown found)
  pub no_span : found.exact ≡ true → (found.from ≡ 0) × (found.to ≡ 0)

pub record IsFound (keys : List (List ℕ)) (asked : List ℕ) (found : Match) : Type 0 where
  pub key : List ℕ
  pub stands : slice_get keys found.index ≡ Some key
  pub chosen : IsChoice keys asked key (match_shown found)
  pub no_span : found.exact ≡ true → (found.from ≡ 0) × (found.to ≡ 0)

-- what is found among these keys
abbrev pub Finds : List (List ℕ) → List ℕ → Option Match → Type 0
Finds keys asked result = MatchOption result (MatchesNone keys asked) (IsFound keys asked)

pub record HasSpan (asked : List ℕ) (found : Match) : Type 0 where
  pub ordered : found.from ≤ found.to
  pub begins : IsCharBoundary asked found.from
  pub ends : IsCharBoundary asked found.to
