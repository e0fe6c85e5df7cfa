-- Worked examples: pages with their pieces, start tags with their attributes, and what comes of a map and a page.
--     PageExamples          a page with its pieces, and their places
--     CommentExamples       comments, and where they end
--     TextExamples          text, and where it ends
--     TagExamples           tags, and where they end
--     RawExamples           raw text, and where it begins and ends
--     AttributeExamples     start tags with the value of an attribute
--     ImportMapExamples     start tags that are those of import map elements, and such as aren't
--     InjectionExamples     pages into which a map is put
--     RefusalExamples       pages that keep a map out, and why
use Rattle.std.specs.Prelude.{◌≡◌, ℕ, Bool, true, false, List, [], ◌∷◌, ◌++◌, codes, Some, None, Ok, Err}
use Rattle.page_spec.specs.declared.kinds.InjectFault.TheVariants.{PageUnclear, TwoMaps, NoPlace}
use Rattle.page_spec.specs.declared.kinds.Piece.{Piece}
use Rattle.page_spec.specs.declared.kinds.PieceKind.{PieceKind}
use Rattle.page_spec.specs.declared.kinds.PieceKind.TheVariants.{Text, Comment, Start, End, Raw}
use Rattle.page_spec.specs.declared.kinds.RawElement.TheVariants.{Script, Title}
use Rattle.page_spec.specs.Pieces.{front, broken, first_piece, Part, part, Pieces}
use Rattle.page_spec.specs.Places.{spans}
use Rattle.page_spec.specs.Attributes.{value, attribute}
use Rattle.page_spec.specs.ImportMaps.{is_map_start}
use Rattle.page_spec.specs.Injection.{Injection}

abbrev at : PieceKind → ℕ → ℕ → Piece
at k n m = record { kind = k; from = n; to = m }

abbrev paragraph : List Part
paragraph = part Start (codes "<p>") ∷ part Text (codes "x") ∷ part End (codes "</p>") ∷ []

-- a page whole
pub record PageExamples : Type 0 where
  pub pieces : Pieces None (codes "<p>x</p>") paragraph
  pub places : spans 0 paragraph ≡ at Start 0 3 ∷ at Text 3 4 ∷ at End 4 8 ∷ []

abbrev comes : List ℕ → PieceKind → List ℕ → Type 0
comes bytes kind rest = first_piece None bytes ≡ Some (front kind None rest)

abbrev breaks : List ℕ → Type 0
breaks bytes = first_piece None bytes ≡ Some broken

-- a comment ends with the first `-->` or `--!>`, or is whole from the first; other declarations end with the next `>`
pub record CommentExamples : Type 0 where
  pub plain : comes (codes "<!-- > -- -> --><p>") Comment (codes "<p>")
  pub bang : comes (codes "<!--a--!>-->") Comment (codes "-->")
  pub empty : comes (codes "<!-->-->") Comment (codes "-->")
  pub dash : comes (codes "<!--->-->") Comment (codes "-->")
  pub nested : comes (codes "<!--<!--->-->") Comment (codes "-->")
  pub more_dashes : comes (codes "<!----->x") Comment (codes "x")
  pub one_dash : comes (codes "<!->x") Comment (codes "x")
  pub doctype : comes (codes "<!doctype html><p>") Comment (codes "<p>")
  pub cdata : comes (codes "<![CDATA[a>b]]>") Comment (codes "b]]>")
  pub instruction : comes (codes "<?xml?><p>") Comment (codes "<p>")
  pub no_name : comes (codes "</ a>x") Comment (codes "x")
  pub bare : comes (codes "</>x") Comment (codes "x")
  pub unended : breaks (codes "<!-- a --")
  pub only : breaks (codes "<!")

-- text runs to what opens markup; a `<` before anything else is text
pub record TextExamples : Type 0 where
  pub less : comes (codes "a < b <3<p>") Text (codes "<p>")
  pub slash_ends : comes (codes "a</") Text []
  pub end : first_piece None [] ≡ None

-- a tag ends behind its values, quoted or not
pub record TagExamples : Type 0 where
  pub quoted : comes (codes "<a b='>' c=\">\" d>x") Start (codes "x")
  pub unquoted : comes (codes "<a b=/'c>x") Start (codes "x")
  pub no_value : comes (codes "<a b=>x") Start (codes "x")
  pub name_begins_so : comes (codes "<a =\"b>x") Start (codes "x")
  pub end : comes (codes "</a b='>'>x") End (codes "x")
  pub unended : breaks (codes "<a b='>")
  pub plaintext : breaks (codes "<PlainText>a</plaintext>")

-- raw text runs to its element's end tag, and to no other
pub record RawExamples : Type 0 where
  pub begins : first_piece None (codes "<TITLE lang=en>a") ≡ Some (front Start (Some Title) (codes "a"))
  pub ends : first_piece (Some Script) (codes "a</b></scripts></SCRIPT\tx>")
      ≡ Some (front Raw None (codes "</SCRIPT\tx>"))
  pub empty : first_piece (Some Title) (codes "</title/>") ≡ Some (front Raw None (codes "</title/>"))
  pub unended : first_piece (Some Title) (codes "a</title") ≡ Some broken
  pub page_ends : first_piece (Some Script) [] ≡ Some broken

-- the first attribute of the name, in upper or lower case; its value, and where it begins
pub record AttributeExamples : Type 0 where
  pub first : attribute (codes "TYPE") (codes "<script a=b/c Type = ' x' type=y>")
      ≡ Some (value (codes " x") (codes " x' type=y>"))
  pub unquoted : attribute (codes "b") (codes "<a b=\"\" b=c>") ≡ Some (value [] (codes "\" b=c>"))
  pub no_value : attribute (codes "b") (codes "<a b c>") ≡ Some (value [] (codes " c>"))
  pub equals_first : attribute (codes "=b") (codes "<a =b=c>") ≡ Some (value (codes "c") (codes "c>"))
  pub in_value : attribute (codes "b") (codes "<a c='b=d' e=b>") ≡ None
  pub no_name : attribute [] (codes "<a =>") ≡ None

abbrev is_map : List ℕ → Bool
is_map text = is_map_start (part Start text)

pub record ImportMapExamples : Type 0 where
  pub plain : is_map (codes "<script type=importmap>") ≡ true
  pub other_case : is_map (codes "<SCRIPT a=b/c TYPE = ' ImportMap\t'>") ≡ true
  pub first_decides : is_map (codes "<script type=module type=importmap>") ≡ false
  pub other_element : is_map (codes "<link type=importmap>") ≡ false
  pub other_type : is_map (codes "<script type=importmaps>") ≡ false

abbrev element_of : List ℕ → List ℕ
element_of map = codes "<script type=\"importmap\">" ++ (map ++ codes "</script>")

-- a map goes before the head's end, before the first script or link, or into the import map element that is there
pub record InjectionExamples : Type 0 where
  pub head_end : Injection (codes "{}") (codes "<head></head>\n")
      (Ok (codes "<head><script type=\"importmap\">{}</script>\n</head>\n"))
  pub again : Injection (codes "{}") (codes "<head><script type=\"importmap\">{}</script>\n</head>\n")
      (Ok (codes "<head><script type=\"importmap\">{}</script>\n</head>\n"))
  pub other_map : Injection (codes "{1}") (codes "<script type='ImportMap'>a</script>")
      (Ok (codes "<script type='ImportMap'>{1}</script>"))
  pub before_link : Injection (codes "{}") (codes "<LINK></head>")
      (Ok (codes "<script type=\"importmap\">{}</script>\n<LINK></head>"))
  pub behind_a_script : Injection (codes "{}") (codes "<script></script><script type=importmap></script>")
      (Ok (codes "<script></script><script type=importmap>{}</script>"))

-- what refuses a map, and the first place of it
pub record RefusalExamples : Type 0 where
  pub no_place : Injection (codes "{}") (codes "<p>") (Err NoPlace)
  pub cut_off : Injection (codes "{}") (codes "<head") (Err (PageUnclear 0))
  pub not_utf8 : Injection (codes "{}") (60 ∷ 112 ∷ 62 ∷ 255 ∷ []) (Err (PageUnclear 3))
  pub two_maps : Injection (codes "{}") (codes "<script type=importmap></script><script type=importmap></script>")
      (Err (TwoMaps 32))
  pub second_with_src : Injection (codes "{}")
      (codes "<script type=importmap></script><script type=importmap src></script>") (Err (PageUnclear 32))
  pub base_before : Injection (codes "{}") (codes "<base><head") (Err (PageUnclear 0))
  pub reference : Injection (codes "{}") (codes "<script type='a&b'></script>") (Err (PageUnclear 0))
  pub hidden : Injection (codes "{}") (codes "<script>a<!--</script>") (Err (PageUnclear 9))
  pub unended_map : Injection (codes "{}") (codes "<script type=importmap src>") (Err (PageUnclear 27))

abbrev pub WorkedExamples : Type 0
WorkedExamples =
    PageExamples × CommentExamples × TextExamples × TagExamples × RawExamples × AttributeExamples × ImportMapExamples
    × InjectionExamples × RefusalExamples
