-- Import map elements. HTML Standard, 4.12.1, "The script element".
--     is_start, is_end, is_raw, is_broken kind
--                              the kind is that of a start tag, an end tag, raw text or a broken piece
--     is_start_of name p       the piece is a start tag of that name
--     is_end_of name p         the piece is an end tag of that name
--     is_script p              the piece is the start tag of a script
--     stripped bytes           the bytes without the white space at their front and their end
--     is_map_type text         there is a type, and it is that of an import map
--     is_map_start p           the piece is the start tag of a script whose type, without white space around it and in
--                              lower case, is `importmap`
--     raw_behind parts         the raw text with which the pieces begin
--     map_of p parts           the raw text of the import map element that begins with p, where one does; the parts
--                              are behind p
--     begins_map p parts       an import map element begins with p
--     with_map map maps        the texts, with this one before them where there is one
--     import_maps parts        the raw texts of all import map elements
--     IsOneMap text page       the page has one import map element, and this is its raw text
-- own: which element stands in which isn't known, so a script in a template or in a foreign element counts as well.
use Rattle.std.specs.Prelude.{◌≡◌, ℕ, Bool, true, false, ◌&&◌, List, [], ◌∷◌, if◌then◌else◌, Option, Some, None}
use Rattle.std.specs.Prelude.{is_some, drop, reverse, codes, bytes_eq}
use Rattle.page_spec.specs.declared.kinds.PieceKind.{PieceKind}
use Rattle.page_spec.specs.declared.kinds.PieceKind.TheVariants.{Start, End, Raw, Broken}
use Rattle.page_spec.specs.Tokenizer.{lowered}
use Rattle.page_spec.specs.Pieces.{tag_name, is_name, Part, Pieces}
use Rattle.page_spec.specs.Attributes.{skip_whitespace, attribute_text}

abbrev pub is_start : PieceKind → Bool
is_start Start = true
is_start other = false

abbrev pub is_end : PieceKind → Bool
is_end End = true
is_end other = false

abbrev pub is_raw : PieceKind → Bool
is_raw Raw = true
is_raw other = false

abbrev pub is_broken : PieceKind → Bool
is_broken Broken = true
is_broken other = false

abbrev pub is_start_of : List ℕ → Part → Bool
is_start_of name p = is_start p.kind && is_name name (tag_name (drop 1 p.text))

abbrev pub is_end_of : List ℕ → Part → Bool
is_end_of name p = is_end p.kind && is_name name (tag_name (drop 2 p.text))

abbrev pub is_script : Part → Bool
is_script p = is_start_of (codes "script") p

abbrev pub stripped : List ℕ → List ℕ
stripped bytes = reverse (skip_whitespace (reverse (skip_whitespace bytes)))

-- the type of an import map
abbrev pub is_map_text : List ℕ → Bool
is_map_text text = bytes_eq (lowered (stripped text)) (codes "importmap")

abbrev pub is_map_type : Option (List ℕ) → Bool
is_map_type None = false
is_map_type (Some text) = is_map_text text

unfoldable pub is_map_start : Part → Bool
is_map_start p = is_script p && is_map_type (attribute_text (codes "type") p.text)

abbrev pub raw_behind : List Part → Option (List ℕ)
raw_behind [] = None
raw_behind (q ∷ parts) = if is_raw q.kind then Some q.text else None

abbrev pub map_of : Part → List Part → Option (List ℕ)
map_of p parts = if is_map_start p then raw_behind parts else None

abbrev pub begins_map : Part → List Part → Bool
begins_map p parts = is_some (map_of p parts)

abbrev pub with_map : Option (List ℕ) → List (List ℕ) → List (List ℕ)
with_map None maps = maps
with_map (Some text) maps = text ∷ maps

abbrev pub import_maps : List Part → List (List ℕ)
import_maps [] = []
import_maps (p ∷ parts) = with_map (map_of p parts) (import_maps parts)

pub record IsOneMap (text page : List ℕ) : Type 0 where
  pub parts : List Part
  pub pieces : Pieces None page parts
  pub only : import_maps parts ≡ text ∷ []
