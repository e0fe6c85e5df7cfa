-- What comes of a map and a page, by the place that was found for the map.
use Rattle.std.specs.Prelude.{IsUtf8, MatchResult}
use Rattle.std.specs.Str.{is_utf8}
use Rattle.std.specs.Str.Lossy.{utf8_valid_len}
use Rattle.std.proofs.Common.{◌≡◌, ℕ, ◌+◌, ◌≤◌, List, [], ◌++◌, length, true, false, Bool, Option, Some, None, Result, Ok, Err, refl, sym, ◌∙◌, ap, subst, arith}
use Rattle.std.proofs.lemmas.Option.{same_Some}
use Rattle.std.proofs.lemmas.List.{length-append}
use Rattle.std.proofs.lemmas.Str.{IsUtf8-from_is_utf8, is_utf8-from_IsUtf8}
use Rattle.page_spec.specs.declared.kinds.InjectFault.{InjectFault}
use Rattle.page_spec.specs.declared.kinds.InjectFault.TheVariants.{PageUnclear}
use Rattle.page_spec.specs.Pieces.{Part, Pieces, page_of}
use Rattle.page_spec.specs.Faults.{first_fault}
use Rattle.page_spec.specs.Injection.{map_span, place, element, replaced, put_into, unless_faulted, injected, Injection, TakesMaps, KeepsMapsOut}
use Rattle.page_spec.specs.Injection.Injection.{not_utf8, utf8}
use Rattle.page_spec.proofs.Cover.{pieces_cover}
use Rattle.page_spec.proofs.Putting.{some_replaced, some_inserted, replaced_site, inserted_place}
use Rattle.html_inject.specs.declared.search.Site.{Site}
use Rattle.html_inject.specs.declared.search.Site.TheVariants.{Map, Place}
use Rattle.html_inject.specs.Search.{chosen, site, IsSite, IsSiteOf, TakesMapsAt}

-- what comes of a map that goes there
abbrev pub finished : List ℕ → List ℕ → Result Site InjectFault → Result (List ℕ) InjectFault
finished text page (Ok (Map from to)) = Ok (replaced from to text page)
finished text page (Ok (Place n)) = Ok (replaced n n (element text) page)
finished text page (Err fault) = Err fault

finished_by : (text page : List ℕ) (fault : Option InjectFault) (span : Option (ℕ × ℕ)) (n : Option ℕ) → unless_faulted fault (put_into text page span n) ≡ finished text page (unless_faulted fault (chosen span n))
finished_by text page (Some fault) span n = refl
finished_by text page None (Some span) n = refl
finished_by text page None None (Some n) = refl
finished_by text page None None None = refl

finished_site : (text page : List ℕ) (parts : List Part) → injected text page parts ≡ finished text page (site parts)
finished_site text page parts = finished_by text page (first_fault 0 false parts) (map_span 0 parts) (place 0 parts)

pub comes_of : (text page body : List ℕ) (out : Result Site InjectFault) → body ≡ page → IsUtf8 page → IsSite body out → Injection text page (finished text page out)
comes_of text page body out e u s =
    let pieces = subst (λ b. Pieces None b s.parts) e s.pieces in
    subst (λ o. Injection text page o) (finished_site text page s.parts ∙ ap (λ o. finished text page o) (sym s.is)) (utf8 (is_utf8-from_IsUtf8 page u) pieces)

pub comes_of_bad_byte : (text page : List ℕ) (n : ℕ) → (IsUtf8 page → ⊥) → n ≡ utf8_valid_len page → Injection text page (Err (PageUnclear n))
comes_of_bad_byte text page n u e = subst (λ n. Injection text page (Err (PageUnclear n))) (sym e) (not_utf8 (by_test (is_utf8 page) refl)) where
  by_test : (c : Bool) → is_utf8 page ≡ c → is_utf8 page ≡ false
  by_test true p = absurd (u (IsUtf8-from_is_utf8 page p))
  by_test false p = p

-- ---- the place lies in the page

abbrev here : Site → Result Site InjectFault
here s = Ok s

site_same : {s t : Site} → here s ≡ here t → s ≡ t
site_same e = cc

abbrev from_of : Site → ℕ
from_of (Map from to) = from
from_of (Place n) = n

abbrev to_of : Site → ℕ
to_of (Map from to) = to
to_of (Place n) = n

-- the offsets of a place are those of the map's span, or of the place for a new element
pub record Fits (page : List ℕ) (s : Site) : Type 0 where
  pub from : from_of s ≤ length page
  pub to : to_of s ≤ length page

span_fits : (parts : List Part) (span : ℕ × ℕ) → map_span 0 parts ≡ Some span → Fits (page_of parts) (Map span.0 span.1)
span_fits parts span e =
    let r = some_replaced [] 0 parts e in
    let s = replaced_site [] 0 parts r.others r.is in
    let p : span ≡ (0 + length s.front, (0 + length s.front) + length s.old) = same_Some _ _ (sym e ∙ s.span) in
    let f = ap (λ (q : ℕ × ℕ). q.0) p in
    let t = ap (λ (q : ℕ × ℕ). q.1) p in
    let l = ap length s.was in
    let m = length-append s.front (s.old ++ s.back) in
    let k = length-append s.old s.back in
    record { from = omega (arith, f, l, m, k); to = omega (arith, t, l, m, k) }

place_fits : (parts : List Part) (n : ℕ) → place 0 parts ≡ Some n → Fits (page_of parts) (Place n)
place_fits parts n e =
    let r = some_inserted [] 0 parts e in
    let s = inserted_place [] 0 parts r.others r.is in
    let p : n ≡ 0 + length s.front = same_Some _ _ (sym e ∙ s.at_place) in
    let l = ap length s.was in
    let m = length-append s.front s.back in
    record { from = omega (arith, p, l, m); to = omega (arith, p, l, m) }

chosen_fits : (parts : List Part) (fault : Option InjectFault) (span : Option (ℕ × ℕ)) (n : Option ℕ) (s : Site) → map_span 0 parts ≡ span → place 0 parts ≡ n → here s ≡ unless_faulted fault (chosen span n) → Fits (page_of parts) s
chosen_fits parts (Some fault) span n s m p e = absurd (cc)
chosen_fits parts None (Some span) n s m p e = subst (λ s. Fits (page_of parts) s) (sym (site_same e)) (span_fits parts span m)
chosen_fits parts None None (Some n) s m p e = subst (λ s. Fits (page_of parts) s) (sym (site_same e)) (place_fits parts n p)
chosen_fits parts None None None s m p e = absurd (cc)

pub site_fits : (page body : List ℕ) (s : Site) → body ≡ page → IsSite body (here s) → Fits page s
site_fits page body s e i = subst (λ b. Fits b s) (sym (pieces_cover body i.parts i.pieces) ∙ e) (chosen_fits i.parts (first_fault 0 false i.parts) (map_span 0 i.parts) (place 0 i.parts) s refl refl i.is)

-- ---- what a search says of the page

site_is : (page body : List ℕ) (s : Site) → body ≡ page → IsUtf8 page → IsSite body (here s) → IsSiteOf page s
site_is page body s e u i = record { utf8 = u; is = subst (λ b. IsSite b (here s)) e i }

site_takes : (page body : List ℕ) (s : Site) → body ≡ page → IsUtf8 page → IsSite body (here s) → TakesMaps page
site_takes page body (Map from to) e u i = λ text. record { new = _; injection = comes_of text page body (here (Map from to)) e u i }
site_takes page body (Place n) e u i = λ text. record { new = _; injection = comes_of text page body (here (Place n)) e u i }

pub takes_or_keeps_out : (page body : List ℕ) (out : Result Site InjectFault) → body ≡ page → IsUtf8 page → IsSite body out → MatchResult out (TakesMapsAt page) (KeepsMapsOut page)
takes_or_keeps_out page body (Ok s) e u i = record { site = site_is page body s e u i; takes = site_takes page body s e u i }
takes_or_keeps_out page body (Err fault) e u i = λ text. comes_of text page body (Err fault) e u i

-- ---- a map at its site

pub fits : (page : List ℕ) (s : Site) → IsSiteOf page s → Fits page s
fits page s i = site_fits page page s refl i.is

pub map_comes : (text page new : List ℕ) (s : Site) (from to : ℕ) → IsSiteOf page s → s ≡ Map from to → new ≡ replaced from to text page → Injection text page (Ok new)
map_comes text page new s from to i e n =
    let site = subst (λ s. IsSite page (here s)) e i.is in
    subst (λ new. Injection text page (Ok new)) (sym n) (comes_of text page page (here (Map from to)) refl i.utf8 site)

pub element_comes : (text page new : List ℕ) (s : Site) (n : ℕ) → IsSiteOf page s → s ≡ Place n → new ≡ replaced n n (element text) page → Injection text page (Ok new)
element_comes text page new s n i e m =
    let site = subst (λ s. IsSite page (here s)) e i.is in
    subst (λ new. Injection text page (Ok new)) (sym m) (comes_of text page page (here (Place n)) refl i.utf8 site)
