-- What is kept of a token, and the token as the grammar sees it.
--     sight_of text spot      the token that is kept so, in this text
--     Agrees spot t           what is kept of it says what the grammar says
--     IsSpot text spot        it stands in the text, and agrees
--     arrows_behind tokens    for each token, whether an arrow stands behind what it opens
--     AreUnset count signs      there are so many, and none of them is set
--     AreTokens text spots arrows      the spots stand in the text, and these are their arrows, the last one first
use Rattle.std.specs.Prelude.{◌≡◌, ◌≤◌, ℕ, Bool, false, List, [], ◌∷◌, All, codes, length, map, reverse, slice_range}
use Rattle.std.specs.Prelude.{slice_index_or}
use Rattle.grammar_spec.specs.Sights.{Sight, is_ident, is_any_of, assignment_operators, operators, is_closing, sign_behind}
use Rattle.grammar_tokens.specs.declared.spot.Spot.{Spot}

-- behind a word that changes what follows it, one of these says that it is a key itself
abbrev pub key_ends : List (List ℕ)
key_ends = codes "(" ∷ codes "," ∷ codes ";" ∷ codes ":" ∷ codes "=" ∷ codes "}" ∷ []

-- behind a name, one of these says that it is a property and its value
abbrev pub short_ends : List (List ℕ)
short_ends = codes "," ∷ codes "=" ∷ codes "}" ∷ []

abbrev pub sight_of : List ℕ → Spot → Sight
sight_of text s =
    record {
      kind = s.kind;
      text = slice_range text s.from s.to;
      from = s.from;
      line = s.line;
      depth = s.depth;
      behind = s.behind;
    }

pub record Agrees (s : Spot) (t : Sight) : Type 0 where
  pub kind : s.kind ≡ t.kind
  pub line : s.line ≡ t.line
  pub depth : s.depth ≡ t.depth
  pub behind : s.behind ≡ t.behind
  pub ident : s.ident ≡ is_ident t
  pub assigns : s.assigns ≡ is_any_of assignment_operators t
  pub operates : s.operates ≡ is_any_of operators t
  pub closes : s.closes ≡ is_closing t
  pub ends_key : s.ends_key ≡ is_any_of key_ends t
  pub ends_short : s.ends_short ≡ is_any_of short_ends t

pub record IsSpot (text : List ℕ) (s : Spot) : Type 0 where
  pub begins : s.from ≤ s.to
  pub ends : s.to ≤ length text
  pub says : Agrees s (sight_of text s)

-- for each token, whether the arrow sign stands behind the next one that leaves as many brackets open as are open
-- before it: for a round bracket that opens, that is its partner
abbrev pub arrows_behind : List Sight → List Bool
arrows_behind [] = []
arrows_behind (t ∷ rest) = sign_behind t.depth rest ∷ arrows_behind rest

-- the same of the token with that number
abbrev pub arrow_at : List Sight → ℕ → Bool
arrow_at tokens at = slice_index_or (arrows_behind tokens) at false

pub record AreTokens (text : List ℕ) (spots : List Spot) (arrows : List Bool) : Type 0 where
  pub within : All (IsSpot text) spots
  pub told : arrows ≡ reverse (arrows_behind (map (sight_of text) spots))

pub record AreUnset (count : ℕ) (signs : List Bool) : Type 0 where
  pub size : length signs ≡ count
  pub unset : (at : ℕ) → slice_index_or signs at false ≡ false
