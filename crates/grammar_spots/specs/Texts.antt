-- The tokens of a text as they are kept.
--     IsCut text spot      its token stands between characters
--     AreSpots text before spots      these tell of the tokens of the text, which were read, the last one first
--     SpotsOf text spots      the text has tokens, and these tell of them all
use Rattle.std.specs.Prelude.{◌≡◌, ℕ, List, All, map, reverse}
use Rattle.std.specs.Str.{IsCharBoundary}
use Rattle.module_spec.specs.Tokens.{Lexeme, Reaches, IsNext}
use Rattle.module_spec.specs.Tokens.Next.{Ends}
use Rattle.grammar_spec.specs.Sights.{sights}
use Rattle.grammar_tokens.specs.declared.spot.Spot.{Spot}
use Rattle.grammar_tokens.specs.Spots.{sight_of, IsSpot}

-- own: it begins and ends between characters
pub record IsCut (text : List ℕ) (s : Spot) : Type 0 where
  pub begins : IsCharBoundary text s.from
  pub ends : IsCharBoundary text s.to

pub record AreSpots (text : List ℕ) (before : List Lexeme) (spots : List Spot) : Type 0 where
  pub sights : map (sight_of text) spots ≡ reverse (sights text before)
  pub kept : All (IsSpot text) spots
  pub cut : All (IsCut text) spots

pub record SpotsOf (text : List ℕ) (spots : List Spot) : Type 0 where
  pub before : List Lexeme
  pub rest : List ℕ
  pub reached : Reaches text before rest
  pub ends : IsNext before rest Ends
  pub are : AreSpots text before spots
