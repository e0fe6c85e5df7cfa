-- The laws of this crate.
use Rattle.std.specs.Prelude.{◌≡◌, ◌⊎◌, ℕ, false, ◌==◌, List, [], ◌∷◌, ◌++◌, All, Some, None, Result, Ok, Err, IsUtf8}
use Rattle.page_spec.specs.declared.kinds.Piece.{Piece}
use Rattle.page_spec.specs.declared.kinds.PieceKind.TheVariants.{Text, Start, End, Raw}
use Rattle.page_spec.specs.declared.kinds.InjectFault.{InjectFault}
use Rattle.page_spec.specs.declared.kinds.InjectFault.TheVariants.{Memory}
use Rattle.page_spec.specs.Pieces.{Part, part, Pieces, page_of}
use Rattle.page_spec.specs.Attributes.{Value, attribute}
use Rattle.page_spec.specs.ImportMaps.{IsOneMap}
use Rattle.page_spec.specs.Places.{IsPieceOf, value_span, AtBoundaries}
use Rattle.page_spec.specs.Injection.{start_tag, end_tag, Injection, TakesMaps, KeepsMapsOut}

-- a page has one list of pieces
abbrev pub OnePieces : Type 0
OnePieces = (page : List ℕ) (some other : List Part) → Pieces None page some → Pieces None page other → some ≡ other

-- the page has a list of pieces
pub record HasPieces (page : List ℕ) : Type 0 where
  pub parts : List Part
  pub pieces : Pieces None page parts

-- each page has its pieces
abbrev pub SomePieces : Type 0
SomePieces = (page : List ℕ) → HasPieces page

-- the pieces follow each other and cover the page
abbrev pub PiecesCover : Type 0
PiecesCover = (page : List ℕ) (parts : List Part) → Pieces None page parts → page ≡ page_of parts

-- no piece of a page begins or ends within a character
abbrev pub PiecesAreUtf8 : Type 0
PiecesAreUtf8 =
    (page : List ℕ) (parts : List Part) → Pieces None page parts → IsUtf8 page → All (λ p. IsUtf8 p.text) parts

-- no character is cut at the places of a piece
abbrev pub PiecesEndAtBoundaries : Type 0
PiecesEndAtBoundaries =
    (page : List ℕ) (piece : Piece) → IsPieceOf page piece → IsUtf8 page → AtBoundaries page piece.from piece.to

-- the tag ends with the value's tail, which begins with its text
pub record StandsIn (tag : List ℕ) (value : Value) : Type 0 where
  pub front : List ℕ
  pub back : List ℕ
  pub ends : tag ≡ front ++ value.tail
  pub begins : value.tail ≡ value.text ++ back

-- an attribute's value stands in its tag
abbrev pub ValuesStandInTags : Type 0
ValuesStandInTags = (name tag : List ℕ) (value : Value) → attribute name tag ≡ Some value → StandsIn tag value

-- no character is cut at the places of an attribute's value
abbrev pub ValuesEndAtBoundaries : Type 0
ValuesEndAtBoundaries =
    (page name : List ℕ) (piece : Piece) (span : ℕ × ℕ) → IsPieceOf page piece → IsUtf8 page
    → value_span name page piece ≡ Some span → AtBoundaries page span.0 span.1

-- a map and a page have one outcome
abbrev pub OneInjection : Type 0
OneInjection =
    (text page : List ℕ) (some other : Result (List ℕ) InjectFault) → Injection text page some
    → Injection text page other → some ≡ other

-- the map and the page have an outcome
pub record HasInjection (text page : List ℕ) : Type 0 where
  pub out : Result (List ℕ) InjectFault
  pub injection : Injection text page out

-- each map and page have an outcome
abbrev pub SomeInjection : Type 0
SomeInjection = (text page : List ℕ) → HasInjection text page

-- no map can be put into the page, and the fault is the same for each
pub record AreKeptOut (page : List ℕ) : Type 0 where
  pub fault : InjectFault
  pub keeps : KeepsMapsOut page fault

-- a page takes each map, or keeps each out, whatever the map, and never for want of memory
pub record TakesOrKeepsOut : Type 0 where
  pub either : (page : List ℕ) → TakesMaps page ⊎ AreKeptOut page
  pub no_memory : (text page : List ℕ) → Injection text page (Err Memory) → ⊥

-- a map that no tag of the page can be read into
pub record IsPlainMap (text : List ℕ) : Type 0 where
  pub utf8 : IsUtf8 text
  pub no_markup : All (λ b. (b == 60) ≡ false) text

-- the pieces of the element that is put into a page for a map, with the line end behind it
abbrev pub map_element : List ℕ → List Part
map_element text = part Start start_tag ∷ part Raw text ∷ part End end_tag ∷ part Text (10 ∷ []) ∷ []

-- a map has the place of a piece of raw text, or an element with it stands between two pieces; all other pieces are
-- the same
pub data PutBetween (text : List ℕ) : List Part → List Part → Type 0 where
  in_place : (before : List Part) (start raw : Part) (behind : List Part)
      → PutBetween text (before ++ start ∷ raw ∷ behind) (before ++ start ∷ part Raw text ∷ behind)
  new : (before behind : List Part) → PutBetween text (before ++ behind) (before ++ (map_element text ++ behind))

-- the pieces of a page into which a map was put are those that it had, but for the map
abbrev pub InjectedPieces : Type 0
InjectedPieces =
    (text page new : List ℕ) (parts others : List Part) → IsPlainMap text → Injection text page (Ok new)
    → Pieces None page parts → Pieces None new others → PutBetween text parts others

-- a page into which a map was put has one import map element, and the map is its raw text
abbrev pub OneMapAfter : Type 0
OneMapAfter =
    (text page new : List ℕ) → IsPlainMap text → Injection text page (Ok new) → IsOneMap text new

-- a map that is put into a page again changes nothing
abbrev pub SamePageAgain : Type 0
SamePageAgain = (text page new : List ℕ) → IsPlainMap text → Injection text page (Ok new) → Injection text new (Ok new)

-- a page into which a map was put is UTF-8
abbrev pub InjectedIsUtf8 : Type 0
InjectedIsUtf8 = (text page new : List ℕ) → IsPlainMap text → Injection text page (Ok new) → IsUtf8 new
