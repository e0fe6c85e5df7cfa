-- The pieces of a page. HTML Standard, 13.2.5, "Tokenization", and 13.2.6, "Tree construction", for the elements with
-- raw text.
--     opening bytes                what a `<` before these bytes opens; None where the `<` is text
--     ends_name byte               the byte ends a tag name: white space, `/` or `>`
--     tag_name bytes               the tag name at the front, in lower case; None where the page ends before it does
--     is_name wanted name          there is a name, and it is the one that is wanted
--     name_of element              the tag name of the element
--     closes element bytes         the element's end tag begins at the front
--     behind_raw element bytes     what is left behind the element's raw text; None where no end tag of it comes
--     behind_text bytes            what is left behind text
--     front kind within rest       the front of this kind, element and rest
--     broken                       the front of a broken piece, which takes all that is left
--     started name rest            a start tag of the name; broken where it has no end, and where it is a `plaintext`
--     first_piece within bytes     the piece at the front; `within` is the element whose raw text comes here
--     Part                         a piece as its kind and its text
--     part kind text               the part of this kind and text
--     Pieces within bytes parts    the pieces of the bytes are these
--     page_of parts                the texts of the pieces one behind the other
-- own: a script's raw text ends at its first end tag, whatever `<!--` stands before it; `noscript` is read as with
-- scripting on.
use Rattle.std.specs.Char.{is_ascii_alphabetic, is_ascii_whitespace, to_ascii_lowercase}
use Rattle.std.specs.Prelude.{◌≡◌, ℕ, Bool, true, false, ◌&&◌, ◌||◌, ◌==◌, List, [], ◌∷◌, ◌++◌, if◌then◌else◌, Option}
use Rattle.std.specs.Prelude.{Some, None, option_map, is_some, codes, bytes_eq}
use Rattle.page_spec.specs.declared.kinds.PieceKind.{PieceKind}
use Rattle.page_spec.specs.declared.kinds.PieceKind.TheVariants.{Text, Comment, Start, End, Raw, Broken}
use Rattle.page_spec.specs.declared.kinds.RawElement.{RawElement}
use Rattle.page_spec.specs.declared.kinds.RawElement.TheVariants.{Script, Style, Title, Textarea, Iframe, Noembed}
use Rattle.page_spec.specs.declared.kinds.RawElement.TheVariants.{Noframes, Noscript, Xmp}
use Rattle.page_spec.specs.declared.kinds.State.TheVariants.{TagOpen}
use Rattle.page_spec.specs.Tokenizer.{behind_markup}

-- what `</` before these bytes opens
abbrev pub opening_end : List ℕ → Option PieceKind
opening_end [] = None
opening_end (b ∷ rest) = Some (if is_ascii_alphabetic b then End else Comment)

abbrev pub opening : List ℕ → Option PieceKind
opening [] = None
opening (b ∷ rest) =
    if is_ascii_alphabetic b then Some Start
    else if b == 33 || b == 63 then Some Comment
    else if b == 47 then opening_end rest
    else None

abbrev pub ends_name : ℕ → Bool
ends_name b = is_ascii_whitespace b || b == 47 || b == 62

abbrev pub tag_name : List ℕ → Option (List ℕ)
tag_name [] = None
tag_name (b ∷ rest) = if ends_name b then Some [] else option_map (λ name. to_ascii_lowercase b ∷ name) (tag_name rest)

abbrev pub is_name : List ℕ → Option (List ℕ) → Bool
is_name wanted None = false
is_name wanted (Some name) = bytes_eq name wanted

abbrev pub name_of : RawElement → List ℕ
name_of Script = codes "script"
name_of Style = codes "style"
name_of Title = codes "title"
name_of Textarea = codes "textarea"
name_of Iframe = codes "iframe"
name_of Noembed = codes "noembed"
name_of Noframes = codes "noframes"
name_of Noscript = codes "noscript"
name_of Xmp = codes "xmp"

-- the element of this tag name
abbrev pub raw_element : Option (List ℕ) → Option RawElement
raw_element name =
    if is_name (name_of Script) name then Some Script
    else if is_name (name_of Style) name then Some Style
    else if is_name (name_of Title) name then Some Title
    else if is_name (name_of Textarea) name then Some Textarea
    else if is_name (name_of Iframe) name then Some Iframe
    else if is_name (name_of Noembed) name then Some Noembed
    else if is_name (name_of Noframes) name then Some Noframes
    else if is_name (name_of Noscript) name then Some Noscript
    else if is_name (name_of Xmp) name then Some Xmp
    else None

abbrev pub closes : RawElement → List ℕ → Bool
closes element [] = false
closes element (b ∷ []) = false
closes element (b ∷ c ∷ rest) = b == 60 && c == 47 && is_name (name_of element) (tag_name rest)

abbrev pub behind_raw : RawElement → List ℕ → Option (List ℕ)
behind_raw element [] = None
behind_raw element (b ∷ rest) = if closes element (b ∷ rest) then Some (b ∷ rest) else behind_raw element rest

-- text ends before these bytes: the page ends, or markup begins
abbrev pub ends_text : List ℕ → Bool
ends_text [] = true
ends_text (b ∷ rest) = b == 60 && is_some (opening rest)

abbrev pub behind_text : List ℕ → List ℕ
behind_text [] = []
behind_text (b ∷ rest) = if ends_text (b ∷ rest) then b ∷ rest else behind_text rest

-- the piece at the front: its kind, the element whose raw text comes behind it, and what is left behind it
pub record Front : Type 0 where
  pub kind : PieceKind
  pub within : Option RawElement
  pub rest : List ℕ

abbrev pub front : PieceKind → Option RawElement → List ℕ → Front
front k w r = record { kind = k; within = w; rest = r }

abbrev pub broken : Front
broken = front Broken None []

-- a piece of this kind, where it has its end
abbrev pub ended : PieceKind → Option (List ℕ) → Front
ended kind None = broken
ended kind (Some rest) = front kind None rest

abbrev pub started : Option (List ℕ) → Option (List ℕ) → Front
started name None = broken
started name (Some rest) = if is_name (codes "plaintext") name then broken else front Start (raw_element name) rest

-- the piece behind whose `<` the bytes stand
abbrev pub markup : Option PieceKind → List ℕ → Front
markup None rest = front Text None (behind_text rest)
markup (Some Start) rest = started (tag_name rest) (behind_markup TagOpen rest)
markup (Some kind) rest = ended kind (behind_markup TagOpen rest)

unfoldable pub first_piece : Option RawElement → List ℕ → Option Front
first_piece (Some element) bytes = Some (ended Raw (behind_raw element bytes))
first_piece None [] = None
first_piece None (b ∷ rest) = Some (if b == 60 then markup (opening rest) rest else front Text None (behind_text rest))

pub record Part : Type 0 where
  pub kind : PieceKind
  pub text : List ℕ

abbrev pub part : PieceKind → List ℕ → Part
part k t = record { kind = k; text = t }

pub data Pieces : Option RawElement → List ℕ → List Part → Type 0 where
  none : {within : Option RawElement} {bytes : List ℕ} → first_piece within bytes ≡ None → Pieces within bytes []
  piece : {within next : Option RawElement} {bytes rest : List ℕ} {p : Part} {parts : List Part}
      → bytes ≡ p.text ++ rest → first_piece within bytes ≡ Some (front p.kind next rest) → Pieces next rest parts
      → Pieces within bytes (p ∷ parts)

abbrev pub page_of : List Part → List ℕ
page_of [] = []
page_of (p ∷ parts) = p.text ++ page_of parts
