-- One pass over the pieces of a page.
--     AreNext page piece next         the piece is the page's, and the next one, where there is one, is the one
--                                     behind it
--     parts_behind page next          what stands behind a piece, as far as an import map element turns on it
--     map_at page piece next          where the raw text of the import map element stands that begins with the piece
--     plain_fault from p              the fault of a piece that begins no script
--     found_more page found piece next     what is found with the piece, behind what was found before it
--     site parts                      where a map goes among the pieces, or the fault that decides
--     IsSite page out                 the same of a page
--     IsSiteOf page site              a map goes there in the page
--     TakesMapsAt page place          the same, and the page takes each map
--     TakesMapsAs bytes shown         the page that is shown is these bytes, and they take each map
use Rattle.std.specs.Prelude.{◌≡◌, ◌||◌, codes, ℕ, ⊤, false, List, [], ◌∷◌, if◌then◌else◌, Option, Some, None, Result}
use Rattle.std.specs.Prelude.{Ok, Err, IsUtf8}
use Rattle.std.specs.Option.{option_or}
use Rattle.page_spec.specs.declared.kinds.InjectFault.{InjectFault}
use Rattle.page_spec.specs.declared.kinds.InjectFault.TheVariants.{PageUnclear, NoPlace}
use Rattle.page_spec.specs.declared.kinds.Piece.{Piece}
use Rattle.page_spec.specs.Pieces.{Part, Pieces}
use Rattle.page_spec.specs.ImportMaps.{is_broken, is_raw, is_start_of, is_map_start}
use Rattle.page_spec.specs.Places.{IsPieceOf, part_at}
use Rattle.page_spec.specs.Faults.{first_fault}
use Rattle.page_spec.specs.Injection.{map_span, is_place, place, unless_faulted, TakesMaps}
use Rattle.html_inject.specs.declared.search.Found.{Found}
use Rattle.html_inject.specs.declared.search.Site.{Site}
use Rattle.html_inject.specs.declared.search.Site.TheVariants.{Map, Place}

abbrev pub IsBehind : List ℕ → ℕ → Option Piece → Type 0
IsBehind page n None = ⊤
IsBehind page n (Some next) = IsPieceOf page next × (next.from ≡ n)

pub record AreNext (page : List ℕ) (piece : Piece) (next : Option Piece) : Type 0 where
  pub first : IsPieceOf page piece
  pub second : IsBehind page piece.to next

abbrev pub parts_behind : List ℕ → Option Piece → List Part
parts_behind page None = []
parts_behind page (Some next) = part_at page next ∷ []

abbrev pub map_at : List ℕ → Piece → Option Piece → Option (ℕ × ℕ)
map_at page piece None = None
map_at page piece (Some next) =
    if is_map_start (part_at page piece) then (if is_raw next.kind then Some (next.from, next.to) else None) else None

-- the fault of a piece that begins no script
abbrev pub plain_fault : ℕ → Part → Option InjectFault
plain_fault n p = if is_broken p.kind || is_start_of (codes "base") p then Some (PageUnclear n) else None

abbrev pub place_at : List ℕ → Piece → Option ℕ
place_at page piece = if is_place (part_at page piece) then Some piece.from else None

abbrev pub found_more : List ℕ → Found → Piece → Option Piece → Found
found_more page found piece next =
    record { map = option_or found.map (map_at page piece next); place = option_or found.place (place_at page piece) }

abbrev pub chosen : Option (ℕ × ℕ) → Option ℕ → Result Site InjectFault
chosen (Some span) n = Ok (Map span.0 span.1)
chosen None (Some n) = Ok (Place n)
chosen None None = Err NoPlace

abbrev pub site : List Part → Result Site InjectFault
site parts = unless_faulted (first_fault 0 false parts) (chosen (map_span 0 parts) (place 0 parts))

pub record IsSite (page : List ℕ) (out : Result Site InjectFault) : Type 0 where
  pub parts : List Part
  pub pieces : Pieces None page parts
  pub is : out ≡ site parts

pub record IsSiteOf (page : List ℕ) (place : Site) : Type 0 where
  pub utf8 : IsUtf8 page
  pub is : IsSite page (Ok place)

pub record TakesMapsAt (page : List ℕ) (place : Site) : Type 0 where
  pub site : IsSiteOf page place
  pub takes : TakesMaps page

pub record TakesMapsAs (bytes shown : List ℕ) : Type 0 where
  pub page : shown ≡ bytes
  pub takes : TakesMaps bytes
