-- A map put into a page. own, but for UTF-8 (Encoding Standard) and where import maps may stand (HTML Standard,
-- 4.12.1).
--     map_span from parts          where the raw text of the first import map element stands, from an offset on
--     span_or from raw later       where this raw text stands, which begins at the offset; without one the later place
--     is_place p                   a map may be put before the piece: a start tag of a script or link, or the head's
--                                  end tag
--     place from parts             where the first such piece begins
--     start_tag, end_tag           the tags of the import map element that is put into a page
--     element map                  the import map element of a map, and a line end
--     replaced from to text page   the page with the text in place of what stands from one offset to the other
--     put_into map page span from  the page with the map in place of the span; else with its element at the offset;
--                                  or NoPlace, where there is neither
--     unless_faulted fault out     the fault, or else what comes without one
--     injected map page parts      what comes of the map and the page of these pieces
--     Injection map page out       what comes of the map and the page: a page, or the fault that decides
--     HasPage map page             the map can be put into the page
--     TakesMaps page               each map can
--     KeepsMapsOut page fault      no map can, and this is the fault
use Rattle.std.specs.Prelude.{◌≡◌, ℕ, ◌+◌, Bool, true, false, ◌||◌, List, [], ◌∷◌, ◌++◌, length, take, drop}
use Rattle.std.specs.Prelude.{if◌then◌else◌, Option, Some, None, Result, Ok, Err, codes}
use Rattle.std.specs.Str.{is_utf8}
use Rattle.std.specs.Str.Lossy.{utf8_valid_len}
use Rattle.page_spec.specs.declared.kinds.InjectFault.{InjectFault}
use Rattle.page_spec.specs.declared.kinds.InjectFault.TheVariants.{PageUnclear, NoPlace}
use Rattle.page_spec.specs.Pieces.{Part, Pieces}
use Rattle.page_spec.specs.ImportMaps.{is_start_of, is_end_of, map_of}
use Rattle.page_spec.specs.Faults.{first_fault}

abbrev pub span_or : ℕ → Option (List ℕ) → Option (ℕ × ℕ) → Option (ℕ × ℕ)
span_or n (Some raw) later = Some (n, n + length raw)
span_or n None later = later

abbrev pub map_span : ℕ → List Part → Option (ℕ × ℕ)
map_span n [] = None
map_span n (p ∷ parts) = span_or (n + length p.text) (map_of p parts) (map_span (n + length p.text) parts)

abbrev pub is_place : Part → Bool
is_place p = is_start_of (codes "script") p || is_start_of (codes "link") p || is_end_of (codes "head") p

abbrev pub place : ℕ → List Part → Option ℕ
place n [] = None
place n (p ∷ parts) = if is_place p then Some n else place (n + length p.text) parts

abbrev pub start_tag : List ℕ
start_tag = codes "<script type=\"importmap\">"

abbrev pub end_tag : List ℕ
end_tag = codes "</script>"

abbrev pub element : List ℕ → List ℕ
element text = start_tag ++ (text ++ (end_tag ++ 10 ∷ []))

abbrev pub replaced : ℕ → ℕ → List ℕ → List ℕ → List ℕ
replaced from to text page = take from page ++ (text ++ drop to page)

abbrev pub put_into : List ℕ → List ℕ → Option (ℕ × ℕ) → Option ℕ → Result (List ℕ) InjectFault
put_into text page (Some span) n = Ok (replaced span.0 span.1 text page)
put_into text page None (Some n) = Ok (replaced n n (element text) page)
put_into text page None None = Err NoPlace

abbrev pub unless_faulted : {A : Type 0} → Option InjectFault → Result A InjectFault → Result A InjectFault
unless_faulted (Some fault) out = Err fault
unless_faulted None out = out

abbrev pub injected : List ℕ → List ℕ → List Part → Result (List ℕ) InjectFault
injected text page parts =
    unless_faulted (first_fault 0 false parts) (put_into text page (map_span 0 parts) (place 0 parts))

pub data Injection (text page : List ℕ) : Result (List ℕ) InjectFault → Type 0 where
  not_utf8 : is_utf8 page ≡ false → Injection text page (Err (PageUnclear (utf8_valid_len page)))
  utf8 : {parts : List Part} → is_utf8 page ≡ true → Pieces None page parts
      → Injection text page (injected text page parts)

pub record HasPage (text page : List ℕ) : Type 0 where
  pub new : List ℕ
  pub injection : Injection text page (Ok new)

abbrev pub TakesMaps : List ℕ → Type 0
TakesMaps page = (text : List ℕ) → HasPage text page

abbrev pub KeepsMapsOut : List ℕ → InjectFault → Type 0
KeepsMapsOut page fault = (text : List ℕ) → Injection text page (Err fault)
