-- What keeps a map out of a page, in order of place. own, but for what an import map element may be (HTML Standard,
-- 4.12.1).
--     is_unclear p parts               the piece makes the page unclear; the parts are behind it
--     holds_ampersand text             `&` stands in the text, where there is a text
--     comment_at from bytes            the place of the first `<!--` in the bytes, from an offset on
--     fault_at from seen p parts       the fault of the piece that begins at the offset; `seen`: an import map
--                                      element came before
--     or_later fault later             the fault, or the later one where there is none
--     first_fault from seen parts      the first fault of the pieces
-- A page is unclear where a piece is Broken, where it has a `base` (which changes what the map's addresses mean),
-- where a script's type holds `&` (which may begin a character reference), where an import map element has a `src`,
-- and where a script's text holds `<!--` (behind which its end tag need not end it).
use Rattle.std.specs.Prelude.{ℕ, ◌+◌, Bool, false, ◌&&◌, ◌||◌, ◌==◌, nat_eq, List, [], ◌∷◌, length, if◌then◌else◌}
use Rattle.std.specs.Prelude.{Option, Some, None, option_map, is_some, codes}
use Rattle.std.specs.List.{list_any, starts_with}
use Rattle.page_spec.specs.declared.kinds.InjectFault.{InjectFault}
use Rattle.page_spec.specs.declared.kinds.InjectFault.TheVariants.{PageUnclear, TwoMaps}
use Rattle.page_spec.specs.Pieces.{Part}
use Rattle.page_spec.specs.Attributes.{attribute_text}
use Rattle.page_spec.specs.ImportMaps.{is_broken, is_start_of, is_script, raw_behind, begins_map}

abbrev pub holds_ampersand : Option (List ℕ) → Bool
holds_ampersand None = false
holds_ampersand (Some text) = list_any (λ b. b == 38) text

abbrev pub is_unclear : Part → List Part → Bool
is_unclear p parts =
    is_broken p.kind
    || is_start_of (codes "base") p
    || is_script p && holds_ampersand (attribute_text (codes "type") p.text)
    || begins_map p parts && is_some (attribute_text (codes "src") p.text)

abbrev pub comment_at : ℕ → List ℕ → Option ℕ
comment_at n [] = None
comment_at n (b ∷ rest) = if starts_with nat_eq (b ∷ rest) (codes "<!--") then Some n else comment_at (n + 1) rest

-- the fault of a script's raw text that begins at the offset
abbrev pub raw_fault : ℕ → Option (List ℕ) → Option InjectFault
raw_fault n None = None
raw_fault n (Some raw) = option_map PageUnclear (comment_at n raw)

abbrev pub fault_at : ℕ → Bool → Part → List Part → Option InjectFault
fault_at n seen p parts =
    if is_unclear p parts then Some (PageUnclear n)
    else if seen && begins_map p parts then Some (TwoMaps n)
    else if is_script p then raw_fault (n + length p.text) (raw_behind parts)
    else None

abbrev pub or_later : Option InjectFault → Option InjectFault → Option InjectFault
or_later (Some fault) later = Some fault
or_later None later = later

abbrev pub first_fault : ℕ → Bool → List Part → Option InjectFault
first_fault n seen [] = None
first_fault n seen (p ∷ parts) =
    or_later (fault_at n seen p parts) (first_fault (n + length p.text) (seen || begins_map p parts) parts)
