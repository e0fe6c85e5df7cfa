-- The search for the place of a map, piece by piece.
use Rattle.std.specs.Prelude.{◌&&◌, ◌||◌, is_some, codes, IfSome}
use Rattle.std.proofs.Common.{◌≡◌, ℕ, ◌+◌, ◌-◌, ◌<◌, List, [], ◌∷◌, ◌++◌, length, take, drop, Bool, true, false, Option, Some, None, Err, if◌then◌else◌, refl, sym, ◌∙◌, ap, subst, arith}
use Rattle.std.specs.Option.{option_or}
use Rattle.std.proofs.Math.Seq.{take-append_seam, drop-append_seam}
use Rattle.std.proofs.lemmas.List.{length-append, append-nil}
use Rattle.page_spec.specs.declared.kinds.InjectFault.{InjectFault}
use Rattle.page_spec.specs.declared.kinds.InjectFault.TheVariants.{PageUnclear, TwoMaps}
use Rattle.page_spec.specs.declared.kinds.RawElement.{RawElement}
use Rattle.page_spec.specs.declared.kinds.Piece.{Piece}
use Rattle.page_spec.specs.Pieces.{front, Part, part, Pieces, page_of}
use Rattle.page_spec.specs.Pieces.Pieces.{none}
use Rattle.page_spec.specs.Attributes.{attribute_text}
use Rattle.page_spec.specs.ImportMaps.{is_broken, is_raw, is_start_of, is_script, is_map_start, raw_behind, map_of, begins_map}
use Rattle.page_spec.specs.Faults.{holds_ampersand, raw_fault, fault_at, or_later, first_fault}
use Rattle.page_spec.specs.Injection.{span_or, map_span, is_place, place, unless_faulted}
use Rattle.page_spec.specs.Places.{Reaches, IsPieceOf, text_at, part_at}
use Rattle.page_spec.proofs.Existence.{size, smaller, some_pieces_within}
use Rattle.page_spec.proofs.Putting.{map_of_alike}
use Rattle.page_spec.proofs.Reading.{nothing_read, read_further, one_more, one_more_page}
use Rattle.html_scan.specs.Steps.{NextIs}
use Rattle.html_scan.proofs.Spans.{text_length}
use Rattle.html_inject.specs.declared.search.Found.{Found}
use Rattle.html_inject.specs.Search.{IsBehind, AreNext, parts_behind, map_at, place_at, found_more, chosen, IsSite}

-- the pieces before the next one were read, and the reader stands behind that one
abbrev IsRead : List ℕ → List ℕ × (Option RawElement × List ℕ) → List Part → Option Piece → Type 0
IsRead page view before None = Pieces None page before
IsRead page view before (Some next) = Reaches page (before ++ part_at page next ∷ []) view.1.0 view.1.1

-- the parts begin with raw text where the next piece is that
abbrev Follow : List ℕ → Option Piece → List Part → Type 0
Follow page next parts = raw_behind parts ≡ raw_behind (parts_behind page next)

pub record Searching (page : List ℕ) (view : List ℕ × (Option RawElement × List ℕ)) (next : Option Piece) (found : Found) : Type 0 where
  pub same : view.0 ≡ page
  pub before : List Part
  pub read : IsRead page view before next
  pub behind : IsBehind page (length (page_of before)) next
  pub faults : (parts : List Part) → Follow page next parts → first_fault 0 false (before ++ parts) ≡ first_fault (length (page_of before)) (is_some found.map) parts
  pub maps : (parts : List Part) → Follow page next parts → map_span 0 (before ++ parts) ≡ option_or found.map (map_span (length (page_of before)) parts)
  pub places : (parts : List Part) → place 0 (before ++ parts) ≡ option_or found.place (place (length (page_of before)) parts)

-- ---- a call of the reader, with the pieces so far

-- the pieces that were read, where the reader stood behind them and one more was asked for
record Ahead (page : List ℕ) (before : List Part) (next : Option Piece) (after : Option RawElement) (left : List ℕ) : Type 0 where
  read : IsRead page (page, (after, left)) before next
  behind : IsBehind page (length (page_of before)) next

found_text : (page : List ℕ) (before : List Part) (text left : List ℕ) (found : Piece) → page ≡ page_of before ++ (text ++ left) → found.from ≡ length (page_of before) → found.to ≡ found.from + length text → text_at page found ≡ text
found_text page before text left found e f t =
    let size : found.to - found.from ≡ length text = omega (arith, t) in
    let rest : drop found.from page ≡ text ++ left = ap (λ n. drop n page) f ∙ (ap (λ b. drop (length (page_of before)) b) e ∙ drop-append_seam (page_of before) (text ++ left)) in
    ap (λ n. take n (drop found.from page)) size ∙ (ap (λ b. take (length text) b) rest ∙ take-append_seam text left)

ahead : (page : List ℕ) (before : List Part) (within : Option RawElement) (rest : List ℕ) (next : Option Piece) (after : Option RawElement) (left : List ℕ) → Reaches page before within rest → NextIs page within rest next after left → IfSome next (λ q. IsPieceOf page q) → Ahead page before next after left
ahead page before within rest None after left r s o = record { read = subst (λ ps. Pieces None page ps) (append-nil before) (r.onward [] (none s.0)); behind = tt }
ahead page before within rest (Some q) after left r s o =
    let a = ap length r.cut ∙ length-append (page_of before) rest in
    let from : q.from ≡ length (page_of before) = (let f = s.from in omega (arith, a, f)) in
    let text : text_at page q ≡ s.text = found_text page before s.text left q (r.cut ∙ ap (λ b. page_of before ++ b) s.cut) from s.to in
    let go : Reaches page (before ++ part q.kind s.text ∷ []) after left = read_further page before within after rest s.text left q.kind r s.cut s.first in
    record { read = subst (λ t. Reaches page (before ++ part q.kind t ∷ []) after left) (sym text) go; behind = (o, from) }

-- ---- one piece more

further : (page : List ℕ) (before : List Part) (piece : Piece) → IsPieceOf page piece → piece.from ≡ length (page_of before) → length (page_of (before ++ part_at page piece ∷ [])) ≡ piece.to
further page before piece o e =
    let a = ap length (one_more_page before (part_at page piece)) ∙ length-append (page_of before) (text_at page piece) in
    let b = text_length page piece o in
    omega (arith, a, b, e)

moved : (page : List ℕ) (n m : ℕ) (next : Option Piece) → n ≡ m → IsBehind page n next → IsBehind page m next
moved page n m None e b = tt
moved page n m (Some q) e b = (b.0, b.1 ∙ e)

-- what is known of a piece and the next one, where the search comes to them
pub record Pair (page : List ℕ) (before : List Part) (piece : Piece) (next : Option Piece) (after : Option RawElement) (left : List ℕ) : Type 0 where
  pub pair : AreNext page piece next
  pub from : piece.from ≡ length (page_of before)
  pub to : length (page_of (before ++ part_at page piece ∷ [])) ≡ piece.to
  pub read : IsRead page (page, (after, left)) (before ++ part_at page piece ∷ []) next
  pub behind : IsBehind page (length (page_of (before ++ part_at page piece ∷ []))) next

pub paired : (page : List ℕ) (view : List ℕ × (Option RawElement × List ℕ)) (piece : Piece) (next : Option Piece) (after : Option RawElement) (left : List ℕ) (found : Found) → (s : Searching page view (Some piece) found) → NextIs view.0 view.1.0 view.1.1 next after left → IfSome next (λ q. IsPieceOf view.0 q) → Pair page s.before piece next after left
paired page view piece next after left found s n o =
    let a = ahead page (s.before ++ part_at page piece ∷ []) view.1.0 view.1.1 next after left s.read (subst (λ p. NextIs p view.1.0 view.1.1 next after left) s.same n) (subst (λ p. IfSome next (λ q. IsPieceOf p q)) s.same o) in
    let to = further page s.before piece s.behind.0 s.behind.1 in
    record { pair = record { first = s.behind.0; second = moved page _ piece.to next to a.behind }; from = s.behind.1; to = to; read = a.read; behind = a.behind }

-- the fault of a piece turns on the raw text behind it alone
fault_alike : (n : ℕ) (seen : Bool) (p : Part) (parts others : List Part) → raw_behind parts ≡ raw_behind others → fault_at n seen p parts ≡ fault_at n seen p others
fault_alike n seen p parts others e = ap (λ raw. if (is_broken p.kind || is_start_of (codes "base") p || is_script p && holds_ampersand (attribute_text (codes "type") p.text) || is_some (if is_map_start p then raw else None) && is_some (attribute_text (codes "src") p.text)) then Some (PageUnclear n) else if seen && is_some (if is_map_start p then raw else None) then Some (TwoMaps n) else if is_script p then raw_fault (n + length p.text) raw else None) e

abbrev some_span : ℕ → ℕ → Option (ℕ × ℕ)
some_span n m = Some (n, m)

abbrev holds_text : Option (List ℕ) → Bool
holds_text o = is_some o

-- the span of the map that begins with the piece
map_is : (page : List ℕ) (piece : Piece) (next : Option Piece) → AreNext page piece next → (later : Option (ℕ × ℕ)) → span_or piece.to (map_of (part_at page piece) (parts_behind page next)) later ≡ option_or (map_at page piece next) later
map_is page piece None a later = by_start (is_map_start (part_at page piece)) where
  by_start : (c : Bool) → span_or piece.to (if c then None else None) later ≡ later
  by_start true = refl
  by_start false = refl
map_is page piece (Some q) a later = by_start (is_map_start (part_at page piece)) (is_raw q.kind) where
  spans : some_span piece.to (piece.to + length (text_at page q)) ≡ some_span q.from q.to
  spans = ap (λ n. some_span n (n + length (text_at page q))) (sym a.second.1) ∙ ap (λ m. some_span q.from m) (text_length page q a.second.0)

  by_start : (c d : Bool) → span_or piece.to (if c then (if d then Some (text_at page q) else None) else None) later ≡ option_or (if c then (if d then Some (q.from, q.to) else None) else None) later
  by_start true true = spans
  by_start true false = refl
  by_start false d = refl

begins_is : (page : List ℕ) (piece : Piece) (next : Option Piece) → begins_map (part_at page piece) (parts_behind page next) ≡ is_some (map_at page piece next)
begins_is page piece None = by_start (is_map_start (part_at page piece)) where
  by_start : (c : Bool) → holds_text (if c then None else None) ≡ false
  by_start true = refl
  by_start false = refl
begins_is page piece (Some q) = by_start (is_map_start (part_at page piece)) (is_raw q.kind) where
  by_start : (c d : Bool) → is_some (if c then (if d then Some (text_at page q) else None) else None) ≡ is_some (if c then (if d then some_span q.from q.to else None) else None)
  by_start true true = refl
  by_start true false = refl
  by_start false d = refl

some_or : {A : Type 0} (x y : Option A) → (is_some x || is_some y) ≡ is_some (option_or x y)
some_or None y = refl
some_or (Some a) y = refl

or_assoc : {A : Type 0} (x y z : Option A) → option_or x (option_or y z) ≡ option_or (option_or x y) z
or_assoc None y z = refl
or_assoc (Some a) y z = refl

or_none : {A : Type 0} (x : Option A) → option_or x None ≡ x
or_none None = refl
or_none (Some a) = refl

-- the offset behind a piece
behind_place : (page : List ℕ) (before : List Part) (piece : Piece) → IsPieceOf page piece → piece.from ≡ length (page_of before) → length (page_of before) + length (text_at page piece) ≡ length (page_of (before ++ part_at page piece ∷ []))
behind_place page before piece o e = sym (ap length (one_more_page before (part_at page piece)) ∙ length-append (page_of before) (text_at page piece))

faults_on : (page : List ℕ) (before : List Part) (piece : Piece) (next : Option Piece) (after : Option RawElement) (left : List ℕ) (found : Found) → (q : Pair page before piece next after left) → ((parts : List Part) → first_fault 0 false (before ++ part_at page piece ∷ parts) ≡ first_fault (length (page_of before)) (is_some found.map) (part_at page piece ∷ parts)) → fault_at piece.from (is_some found.map) (part_at page piece) (parts_behind page next) ≡ None → (parts : List Part) → raw_behind parts ≡ raw_behind (parts_behind page next) → first_fault 0 false ((before ++ part_at page piece ∷ []) ++ parts) ≡ first_fault (length (page_of (before ++ part_at page piece ∷ []))) (is_some (option_or found.map (map_at page piece next))) parts
faults_on page before piece next after left found q go none_here parts f =
    let p = part_at page piece in
    let n = length (page_of before) in
    let seen = is_some found.map in
    let here : fault_at n seen p parts ≡ None = fault_alike n seen p parts (parts_behind page next) f ∙ (ap (λ m. fault_at m seen p (parts_behind page next)) (sym q.from) ∙ none_here) in
    let begun : begins_map p parts ≡ is_some (map_at page piece next) = ap is_some (map_of_alike p parts (parts_behind page next) f) ∙ begins_is page piece next in
    let seen_now : (seen || begins_map p parts) ≡ is_some (option_or found.map (map_at page piece next)) = ap (λ c. seen || c) begun ∙ some_or found.map (map_at page piece next) in
    let m = behind_place page before piece q.pair.first q.from in
    ap (λ ps. first_fault 0 false ps) (one_more before p parts) ∙ (go parts ∙ (ap (λ o. or_later o (first_fault (n + length p.text) (seen || begins_map p parts) parts)) here ∙ (ap (λ k. first_fault k (seen || begins_map p parts) parts) m ∙ ap (λ c. first_fault (length (page_of (before ++ p ∷ []))) c parts) seen_now)))

maps_on : (page : List ℕ) (before : List Part) (piece : Piece) (next : Option Piece) (after : Option RawElement) (left : List ℕ) (found : Found) → (q : Pair page before piece next after left) → ((parts : List Part) → map_span 0 (before ++ part_at page piece ∷ parts) ≡ option_or found.map (map_span (length (page_of before)) (part_at page piece ∷ parts))) → (parts : List Part) → raw_behind parts ≡ raw_behind (parts_behind page next) → map_span 0 ((before ++ part_at page piece ∷ []) ++ parts) ≡ option_or (option_or found.map (map_at page piece next)) (map_span (length (page_of (before ++ part_at page piece ∷ []))) parts)
maps_on page before piece next after left found q go parts f =
    let p = part_at page piece in
    let n = length (page_of before) in
    let m = behind_place page before piece q.pair.first q.from in
    let t : n + length p.text ≡ piece.to = m ∙ q.to in
    let later = map_span (length (page_of (before ++ p ∷ []))) parts in
    let here : span_or (n + length p.text) (map_of p parts) (map_span (n + length p.text) parts) ≡ option_or (map_at page piece next) later =
    ap (λ k. span_or (n + length p.text) (map_of p parts) (map_span k parts)) m ∙ (ap (λ k. span_or k (map_of p parts) later) t ∙ (ap (λ o. span_or piece.to o later) (map_of_alike p parts (parts_behind page next) f) ∙ map_is page piece next q.pair later)) in
    ap (λ ps. map_span 0 ps) (one_more before p parts) ∙ (go parts ∙ (ap (λ o. option_or found.map o) here ∙ or_assoc found.map (map_at page piece next) later))

places_on : (page : List ℕ) (before : List Part) (piece : Piece) (next : Option Piece) (after : Option RawElement) (left : List ℕ) (found : Found) → (q : Pair page before piece next after left) → ((parts : List Part) → place 0 (before ++ part_at page piece ∷ parts) ≡ option_or found.place (place (length (page_of before)) (part_at page piece ∷ parts))) → (parts : List Part) → place 0 ((before ++ part_at page piece ∷ []) ++ parts) ≡ option_or (option_or found.place (place_at page piece)) (place (length (page_of (before ++ part_at page piece ∷ []))) parts)
places_on page before piece next after left found q go parts =
    let p = part_at page piece in
    let n = length (page_of before) in
    let m = behind_place page before piece q.pair.first q.from in
    let later = place (length (page_of (before ++ p ∷ []))) parts in
    let here : (if is_place p then Some n else place (n + length p.text) parts) ≡ option_or (place_at page piece) later =
    ap (λ k. if is_place p then Some n else place k parts) m ∙ (ap (λ k. if is_place p then Some k else later) (sym q.from) ∙ by_place (is_place p) piece.from later) in
    ap (λ ps. place 0 ps) (one_more before p parts) ∙ (go parts ∙ (ap (λ o. option_or found.place o) here ∙ or_assoc found.place (place_at page piece) later)) where
      by_place : (c : Bool) (k : ℕ) (later : Option ℕ) → (if c then Some k else later) ≡ option_or (if c then Some k else None) later
      by_place true k later = refl
      by_place false k later = refl

pub searched_further : (page : List ℕ) (view new : List ℕ × (Option RawElement × List ℕ)) (piece : Piece) (next : Option Piece) (found : Found) → (s : Searching page view (Some piece) found) → new.0 ≡ view.0 → Pair page s.before piece next new.1.0 new.1.1 → fault_at piece.from (is_some found.map) (part_at page piece) (parts_behind page next) ≡ None → Searching page new next (found_more page found piece next)
searched_further page view new piece next found s same q none_here = record {
  same = same ∙ s.same;
  before = s.before ++ part_at page piece ∷ [];
  read = read_at next q.read;
  behind = q.behind;
  faults = faults_on page s.before piece next new.1.0 new.1.1 found q (λ parts. s.faults (part_at page piece ∷ parts) refl) none_here;
  maps = maps_on page s.before piece next new.1.0 new.1.1 found q (λ parts. s.maps (part_at page piece ∷ parts) refl);
  places = places_on page s.before piece next new.1.0 new.1.1 found q (λ parts. s.places (part_at page piece ∷ parts));
} where
  read_at : (next : Option Piece) → IsRead page (page, (new.1.0, new.1.1)) (s.before ++ part_at page piece ∷ []) next → IsRead page new (s.before ++ part_at page piece ∷ []) next
  read_at None r = r
  read_at (Some n) r = r

-- ---- begin and ends

pub search_begins : (page : List ℕ) (view : List ℕ × (Option RawElement × List ℕ)) (next : Option Piece) (found : Found) → view.0 ≡ page → NextIs page None page next view.1.0 view.1.1 → IfSome next (λ q. IsPieceOf page q) → found ≡ record { map = None; place = None } → Searching page view next found
search_begins page view next found same n o e =
    let a = ahead page [] None page next view.1.0 view.1.1 (nothing_read page) n o in
    rw e (record { same = same; before = []; read = read_at next a.read; behind = a.behind; faults = λ parts f. refl; maps = λ parts f. refl; places = λ parts. refl }) where
      read_at : (next : Option Piece) → IsRead page (page, (view.1.0, view.1.1)) [] next → IsRead page view [] next
      read_at None r = r
      read_at (Some n) r = r

pub search_ends : (page : List ℕ) (view : List ℕ × (Option RawElement × List ℕ)) (found : Found) → Searching page view None found → IsSite page (chosen found.map found.place)
search_ends page view found s =
    let same = append-nil s.before in
    let f : first_fault 0 false s.before ≡ None = ap (λ ps. first_fault 0 false ps) (sym same) ∙ s.faults [] refl in
    let m : map_span 0 s.before ≡ found.map = ap (λ ps. map_span 0 ps) (sym same) ∙ (s.maps [] refl ∙ or_none found.map) in
    let p : place 0 s.before ≡ found.place = ap (λ ps. place 0 ps) (sym same) ∙ (s.places [] ∙ or_none found.place) in
    record { parts = s.before; pieces = s.read; is = sym (ap (λ o. unless_faulted o (chosen (map_span 0 s.before) (place 0 s.before))) f ∙ (ap (λ o. chosen o (place 0 s.before)) m ∙ ap (λ o. chosen found.map o) p)) }

-- all pieces of a page, from those before a piece on
record Whole (page : List ℕ) (before : List Part) (next : Option Piece) : Type 0 where
  parts : List Part
  pieces : Pieces None page (before ++ parts)
  follow : raw_behind parts ≡ raw_behind (parts_behind page next)

whole : (page : List ℕ) (before : List Part) (next : Option Piece) (after : Option RawElement) (left : List ℕ) → IsRead page (page, (after, left)) before next → Whole page before next
whole page before None after left r = record { parts = []; pieces = subst (λ ps. Pieces None page ps) (sym (append-nil before)) r; follow = refl }
whole page before (Some q) after left r =
    let tail = some_pieces_within after left in
    record { parts = part_at page q ∷ tail.parts; pieces = subst (λ ps. Pieces None page ps) (one_more before (part_at page q) tail.parts) (r.onward tail.parts tail.pieces); follow = refl }

pub search_faults : (page : List ℕ) (view : List ℕ × (Option RawElement × List ℕ)) (piece : Piece) (next : Option Piece) (after : Option RawElement) (left : List ℕ) (found : Found) (fault : InjectFault) → (s : Searching page view (Some piece) found) → Pair page s.before piece next after left → fault_at piece.from (is_some found.map) (part_at page piece) (parts_behind page next) ≡ Some fault → IsSite page (Err fault)
search_faults page view piece next after left found fault s q e =
    let p = part_at page piece in
    let n = length (page_of s.before) in
    let w = whole page (s.before ++ p ∷ []) next after left q.read in
    let here : fault_at n (is_some found.map) p w.parts ≡ Some fault = fault_alike n (is_some found.map) p w.parts (parts_behind page next) w.follow ∙ (ap (λ m. fault_at m (is_some found.map) p (parts_behind page next)) (sym q.from) ∙ e) in
    let first : first_fault 0 false ((s.before ++ p ∷ []) ++ w.parts) ≡ Some fault = ap (λ ps. first_fault 0 false ps) (one_more s.before p w.parts) ∙ (s.faults (p ∷ w.parts) refl ∙ ap (λ o. or_later o (first_fault (n + length p.text) (is_some found.map || begins_map p w.parts) w.parts)) here) in
    let all = (s.before ++ p ∷ []) ++ w.parts in
    record { parts = all; pieces = w.pieces; is = sym (ap (λ o. unless_faulted o (chosen (map_span 0 all) (place 0 all))) first) }

-- ---- the measure

abbrev one_if : Option Piece → ℕ
one_if None = 0
one_if (Some q) = 1

abbrev pub left_to_search : List ℕ × (Option RawElement × List ℕ) → Option Piece → ℕ
left_to_search view next = size view.1.0 view.1.1 + one_if next

pub less_to_search : (view new : List ℕ × (Option RawElement × List ℕ)) (piece : Piece) (next : Option Piece) → NextIs view.0 view.1.0 view.1.1 next new.1.0 new.1.1 → left_to_search new next < left_to_search view (Some piece)
less_to_search view new piece None n =
    let e : size new.1.0 new.1.1 ≡ size view.1.0 view.1.1 = ap (λ w. size w new.1.1) n.1 ∙ ap (λ r. size view.1.0 r) n.2 in
    omega (arith, e)
less_to_search view new piece (Some q) s = let l = smaller view.1.0 view.1.1 (front q.kind new.1.0 new.1.1) s.first in omega (arith, l)

-- ---- as the loop has it

pub at_piece : (page : List ℕ) (view : List ℕ × (Option RawElement × List ℕ)) (next : Option Piece) (piece : Piece) (found : Found) → next ≡ Some piece → Searching page view next found → Searching page view (Some piece) found
at_piece page view next piece found e s = subst (λ n. Searching page view n found) e s

pub begins_with : (page : List ℕ) (first view : List ℕ × (Option RawElement × List ℕ)) (next : Option Piece) → first ≡ (page, (None, page)) → view.0 ≡ first.0 → NextIs first.0 first.1.0 first.1.1 next view.1.0 view.1.1 → IfSome next (λ q. IsPieceOf first.0 q) → Searching page view next (record { map = None; place = None })
begins_with page first view next e same n o =
    search_begins page view next (record { map = None; place = None }) (same ∙ ap (λ (v : List ℕ × (Option RawElement × List ℕ)). v.0) e) (subst (λ (v : List ℕ × (Option RawElement × List ℕ)). NextIs v.0 v.1.0 v.1.1 next view.1.0 view.1.1) e n) (subst (λ (v : List ℕ × (Option RawElement × List ℕ)). IfSome next (λ q. IsPieceOf v.0 q)) e o) refl

pub unfaulted : (piece : Piece) (seen now : Bool) (p : Part) (parts : List Part) (out : Option InjectFault) → seen ≡ now → out ≡ fault_at piece.from seen p parts → fault_at piece.from now p parts ≡ out
unfaulted piece seen now p parts out e f = sym (f ∙ ap (λ s. fault_at piece.from s p parts) e)
