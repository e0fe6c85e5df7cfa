-- The token that is told by its span, as the grammar sees it, and as it is kept.
--     sight_at text token line depth behind      the token as the grammar sees it
--     IsSpotOf text token line depth behind spot      the spot tells of it
--     HasNoRoom token depth behind      no spot can tell of it
use Rattle.std.specs.Prelude.{◌≡◌, ◌≤◌, ◌^◌, ℕ, Bool, List, slice_range}
use Rattle.module_spec.specs.declared.token.Token.{Token}
use Rattle.grammar_spec.specs.Sights.{Sight}
use Rattle.grammar_tokens.specs.declared.spot.Spot.{Spot}
use Rattle.grammar_tokens.specs.Spots.{sight_of, IsSpot}

abbrev pub sight_at : List ℕ → Token → Bool → ℕ → ℕ → Sight
sight_at text token line depth behind =
    record {
      kind = token.kind;
      text = slice_range text token.from token.to;
      from = token.from;
      line = line;
      depth = depth;
      behind = behind;
    }

pub record IsSpotOf (text : List ℕ) (token : Token) (line : Bool) (depth behind : ℕ) (s : Spot) : Type 0 where
  pub kept : IsSpot text s
  pub sight : sight_of text s ≡ sight_at text token line depth behind
  pub from : s.from ≡ token.from
  pub to : s.to ≡ token.to

-- own: it ends at 4 GiB or above, or so many brackets are open before it or behind it that their number has no room in
-- two bytes
pub data HasNoRoom (token : Token) (depth behind : ℕ) : Type 0 where
  far : 2 ^ 32 ≤ token.to → HasNoRoom token depth behind
  deep_before : 2 ^ 16 ≤ depth → HasNoRoom token depth behind
  deep_behind : 2 ^ 16 ≤ behind → HasNoRoom token depth behind
