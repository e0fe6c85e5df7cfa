-- Pieces and values by their places: offsets in the page, in bytes.
--     span from p                       the piece of a part that begins at the offset
--     spans from parts                  the pieces of the parts, the first of which begins at the offset
--     Reaches page before within rest   behind these pieces of the page the rest is left; `within`: whose raw text
--                                       comes there
--     IsPieceOf page piece              the piece is one of the page's
--     text_at page piece                the bytes between the piece's places
--     part_at page piece                the piece as its kind and its text
--     value_span name page piece        where the value of the first attribute of that name stands; None but for a
--                                       start tag
--     broken_at from parts              where the first broken piece begins
--     AtBoundaries page from to         no character of the page is cut at these places
use Rattle.std.specs.Prelude.{◌≡◌, ℕ, ◌+◌, ◌-◌, List, [], ◌∷◌, ◌++◌, length, take, drop, if◌then◌else◌, Option, Some}
use Rattle.std.specs.Prelude.{None, option_map, IsCharBoundary}
use Rattle.page_spec.specs.declared.kinds.Piece.{Piece}
use Rattle.page_spec.specs.declared.kinds.RawElement.{RawElement}
use Rattle.page_spec.specs.Pieces.{Part, part, Pieces, page_of}
use Rattle.page_spec.specs.Attributes.{Value, attribute}
use Rattle.page_spec.specs.ImportMaps.{is_start, is_broken}

abbrev pub span : ℕ → Part → Piece
span n p = record { kind = p.kind; from = n; to = n + length p.text }

abbrev pub spans : ℕ → List Part → List Piece
spans n [] = []
spans n (p ∷ parts) = span n p ∷ spans (n + length p.text) parts

pub record Reaches (page : List ℕ) (before : List Part) (within : Option RawElement) (rest : List ℕ) : Type 0 where
  pub cut : page ≡ page_of before ++ rest
  pub onward : (parts : List Part) → Pieces within rest parts → Pieces None page (before ++ parts)

pub record IsPieceOf (page : List ℕ) (piece : Piece) : Type 0 where
  pub before : List Part
  pub p : Part
  pub behind : List Part
  pub pieces : Pieces None page (before ++ p ∷ behind)
  pub is : piece ≡ span (length (page_of before)) p

abbrev pub text_at : List ℕ → Piece → List ℕ
text_at page piece = take (piece.to - piece.from) (drop piece.from page)

abbrev pub part_at : List ℕ → Piece → Part
part_at page piece = part piece.kind (text_at page piece)

-- the span of a value in a tag that ends at the offset
abbrev pub span_of : ℕ → Value → ℕ × ℕ
span_of n value = (n - length value.tail, (n - length value.tail) + length value.text)

abbrev pub value_span : List ℕ → List ℕ → Piece → Option (ℕ × ℕ)
value_span name page piece =
    if is_start piece.kind then option_map (span_of piece.to) (attribute name (text_at page piece)) else None

abbrev pub broken_at : ℕ → List Part → Option ℕ
broken_at n [] = None
broken_at n (p ∷ parts) = if is_broken p.kind then Some n else broken_at (n + length p.text) parts

pub record AtBoundaries (page : List ℕ) (from to : ℕ) : Type 0 where
  pub begin : IsCharBoundary page from
  pub end : IsCharBoundary page to
