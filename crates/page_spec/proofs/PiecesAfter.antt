-- The pieces of the page with the map are the pieces among which the map was put.
use Rattle.std.specs.Char.{is_ascii_alphabetic}
use Rattle.std.specs.Prelude.{codes, is_some}
use Rattle.std.proofs.Common.{◌≡◌, ℕ, List, [], ◌∷◌, ◌++◌, All, Bool, true, false, ◌==◌, Option, Some, None, if◌then◌else◌, refl, sym, ◌∙◌, ap, subst}
use Rattle.std.proofs.lemmas.Bool.{and_parts, eqb-true}
use Rattle.std.proofs.lemmas.List.{append_cancel_right, append-nil}
use Rattle.std.proofs.lemmas.List.Elements.{All-head, All-tail}
use Rattle.std.proofs.lemmas.Slice.Eq.{bytes_eq-Decides}
use Rattle.page_spec.specs.declared.kinds.RawElement.{RawElement}
use Rattle.page_spec.specs.declared.kinds.RawElement.TheVariants.{Script, Style, Title, Textarea, Iframe, Noembed, Noframes, Noscript, Xmp}
use Rattle.page_spec.specs.declared.kinds.PieceKind.{PieceKind}
use Rattle.page_spec.specs.declared.kinds.PieceKind.TheVariants.{Text, Comment, Start, End, Raw}
use Rattle.page_spec.specs.declared.kinds.State.TheVariants.{TagOpen}
use Rattle.page_spec.specs.Pieces.{opening, tag_name, is_name, name_of, closes, behind_raw, ends_text, behind_text, Front, front, ended, first_piece, Part, part, Pieces, page_of}
use Rattle.page_spec.specs.Pieces.Pieces.{none, piece}
use Rattle.page_spec.specs.ImportMaps.{is_broken, is_raw}
use Rattle.page_spec.specs.Injection.{is_place, start_tag, end_tag}
use Rattle.page_spec.specs.Laws.{map_element}
use Rattle.page_spec.proofs.Markup.{Whole, no_last, name_moved}
use Rattle.page_spec.proofs.Markup.Whole.{last, more}
use Rattle.page_spec.proofs.Joins.Joins.{markup_comes}
use Rattle.page_spec.proofs.Shapes.{Shape, Bare, shape_of}
use Rattle.page_spec.proofs.Shapes.Bare.{an_end, a_comment}
use Rattle.page_spec.proofs.Shapes.Shape.{raw_text, words, start, bare, cut_off}
use Rattle.page_spec.proofs.Cover.{covered}
use Rattle.page_spec.proofs.Steps.{Alike, Stays, step_of, words_there}
use Rattle.page_spec.proofs.Clean.{Clean, whole_piece}
use Rattle.page_spec.proofs.Clean.Clean.{fine}
use Rattle.page_spec.proofs.Putting.{Replaced, Inserted}
use Rattle.page_spec.proofs.Putting.Replaced.{here, later}
use Rattle.page_spec.proofs.Putting.Inserted.{before, behind}

pub record Moved (within : Option RawElement) (bytes : List ℕ) (others : List Part) : Type 0 where
  pub pieces : Pieces within (page_of others) others
  pub page_alike : within ≡ None → Alike bytes (page_of others)

-- ---- a piece before the map

stays_piece : (within next : Option RawElement) (bytes rest text : List ℕ) (p : Part) (parts : List Part) → p.text ≡ text → Stays within bytes text (front p.kind next rest) (page_of parts) → Pieces next (page_of parts) parts → Moved within bytes (p ∷ parts)
stays_piece within next bytes rest text p parts e s x =
    let t = subst (λ t. Stays within bytes t (front p.kind next rest) (page_of parts)) (sym e) s in
    record { pieces = piece {rest = page_of parts} refl t.again x; page_alike = t.alike }

moved_behind : (within next : Option RawElement) (bytes rest : List ℕ) (p : Part) (parts : List Part) → bytes ≡ p.text ++ rest → first_piece within bytes ≡ Some (front p.kind next rest) → is_broken p.kind ≡ false → Pieces next (page_of parts) parts → (next ≡ None → Alike rest (page_of parts)) → Moved within bytes (p ∷ parts)
moved_behind within next bytes rest p parts c e b x a =
    let s = step_of within bytes (front p.kind next rest) b (shape_of within bytes (front p.kind next rest) e) in
    stays_piece within next bytes rest s.text p parts (append_cancel_right p.text s.text rest (sym c ∙ s.cut)) (s.stays (page_of parts) a) x

-- ---- the raw text of the map

record IsRawAt (within : Option RawElement) (f : Front) : Type 0 where
  element : RawElement
  is : within ≡ Some element
  after : f.within ≡ None
  closed : closes element f.rest ≡ true

raw_at : (within : Option RawElement) (bytes : List ℕ) (f : Front) → is_raw f.kind ≡ true → Shape within bytes f → IsRawAt within f
raw_at within bytes f k (raw_text {element} u e r c) = record { element = element; is = refl; after = refl; closed = c }
raw_at within bytes f k (words b u e n t z) = absurd (cc)
raw_at within bytes f k (start t rest e w o p) = absurd (cc)
raw_at within bytes f k (bare j t an_end e w o) = absurd (cc)
raw_at within bytes f k (bare j t a_comment e w o) = absurd (cc)
raw_at within bytes f k cut_off = absurd (cc)

not_less : (element : RawElement) (b : ℕ) (rest : List ℕ) → (b == 60) ≡ false → closes element (b ∷ rest) ≡ false
not_less element b [] e = refl
not_less element b (c ∷ rest) e = rw e refl

stays_closed : (element : RawElement) (rest : List ℕ) → closes element rest ≡ true → behind_raw element rest ≡ Some rest
stays_closed element [] e = absurd (cc)
stays_closed element (b ∷ rest) e = rw e refl

raw_plain : (element : RawElement) (text rest : List ℕ) → All (λ b. (b == 60) ≡ false) text → closes element rest ≡ true → behind_raw element (text ++ rest) ≡ Some rest
raw_plain element [] rest a c = stays_closed element rest c
raw_plain element (b ∷ text) rest a c = let p = not_less element b (text ++ rest) (All-head (λ b. (b == 60) ≡ false) b text a) in rw p (raw_plain element text rest (All-tail (λ b. (b == 60) ≡ false) b text a) c)

raw_there : (element : RawElement) (text rest : List ℕ) → All (λ b. (b == 60) ≡ false) text → closes element rest ≡ true → first_piece (Some element) (text ++ rest) ≡ Some (front Raw None rest)
unfolding first_piece
raw_there element text rest a c = ap (λ m. Some (ended Raw m)) (raw_plain element text rest a c)

some_is_not_none : {within : Option RawElement} {element : RawElement} → within ≡ Some element → within ≡ None → ⊥
some_is_not_none e f = absurd (cc)

map_pieces : (within : Option RawElement) (text : List ℕ) (f : Front) (parts : List Part) → All (λ b. (b == 60) ≡ false) text → IsRawAt within f → Pieces f.within f.rest parts → Pieces within (page_of (part Raw text ∷ parts)) (part Raw text ∷ parts)
map_pieces within text f parts a r x =
    let c : f.rest ≡ page_of parts = covered f.within f.rest parts x in
    let after = r.after in
    let y : Pieces None f.rest parts = subst (λ w. Pieces w f.rest parts) after x in
    let z : Pieces None (page_of parts) parts = subst (λ b. Pieces None b parts) c y in
    let k : closes r.element (page_of parts) ≡ true = subst (λ b. closes r.element b ≡ true) c r.closed in
    subst (λ w. Pieces w (page_of (part Raw text ∷ parts)) (part Raw text ∷ parts)) (sym r.is) (piece {rest = page_of parts} refl (raw_there r.element text (page_of parts) a k) z)

pub replaced_moved : (text : List ℕ) (within : Option RawElement) (bytes : List ℕ) (seen : Bool) (parts others : List Part) → All (λ b. (b == 60) ≡ false) text → Pieces within bytes parts → Clean seen parts → Replaced text parts others → Moved within bytes others
replaced_moved text within bytes seen parts others a (none e) c r = elim r [ ]
replaced_moved text within bytes seen parts others a (piece {next} {rest} {p} c e (piece {next = last_next} {rest = last_rest} {p = q} {parts = left} d g x)) (fine f l) (here i k) =
    let r : IsRawAt next (front q.kind last_next last_rest) = raw_at next rest (front q.kind last_next last_rest) k (shape_of next rest (front q.kind last_next last_rest) g) in
    moved_behind within next bytes rest p (part Raw text ∷ left) c e (whole_piece seen p _ f) (map_pieces next text (front q.kind last_next last_rest) left a r x) (λ n. absurd (some_is_not_none r.is n))
replaced_moved text within bytes seen parts others a (piece {next} {rest} {p} {parts = left} c e x) (fine f l) (later {others = right} n r) =
    let tail = replaced_moved text next rest _ left right a x l r in
    moved_behind within next bytes rest p right c e (whole_piece seen p left f) tail.pieces tail.page_alike

-- ---- the place of a new element

differs : (element : RawElement) → name_of element ≡ codes "head" → ⊥
differs Script e = absurd (cc)
differs Style e = absurd (cc)
differs Title e = absurd (cc)
differs Textarea e = absurd (cc)
differs Iframe e = absurd (cc)
differs Noembed e = absurd (cc)
differs Noframes e = absurd (cc)
differs Noscript e = absurd (cc)
differs Xmp e = absurd (cc)

one_name : (element : RawElement) (name : Option (List ℕ)) → is_name (name_of element) name ≡ true → is_name (codes "head") name ≡ true → ⊥
one_name element None e f = absurd (cc)
one_name element (Some name) e f = differs element (sym ((bytes_eq-Decides name (name_of element)).0 e) ∙ (bytes_eq-Decides name (codes "head")).0 f)

opening_slash : (v : List ℕ) → opening (47 ∷ v) ≡ Some Start → ⊥
opening_slash [] e = absurd (cc)
opening_slash (c ∷ v) e = choice (is_ascii_alphabetic c) e where
  choice : (b : Bool) → Some (if b then End else Comment) ≡ Some Start → ⊥
  choice true e = absurd (cc)
  choice false e = absurd (cc)

name_of_text : (b : ℕ) (t rest : List ℕ) → Whole TagOpen (b ∷ t) → tag_name (t ++ rest) ≡ tag_name t
name_of_text b t rest (last l) = absurd (no_last b l)
name_of_text b t rest (more l w) = name_moved _ t rest [] w ∙ ap tag_name (append-nil t)

start_closes_none : (element : RawElement) (t rest : List ℕ) → Whole TagOpen t → opening (t ++ rest) ≡ Some Start → closes element (60 ∷ (t ++ rest)) ≡ true → ⊥
start_closes_none element [] rest w o c = elim w [ ]
start_closes_none element (b ∷ t) rest w o c = let q = eqb-true b 47 (and_parts (b == 47) (is_name (name_of element) (tag_name (t ++ rest))) c).0 in opening_slash (t ++ rest) (subst (λ b. opening (b ∷ (t ++ rest)) ≡ Some Start) q o)

head_closes_none : (element : RawElement) (t rest : List ℕ) → Whole TagOpen t → is_place (part End (60 ∷ t)) ≡ true → closes element (60 ∷ (t ++ rest)) ≡ true → ⊥
head_closes_none element [] rest w p c = elim w [ ]
head_closes_none element (b ∷ t) rest w p c = let q = (and_parts (b == 47) (is_name (name_of element) (tag_name (t ++ rest))) c).1 in one_name element (tag_name t) (subst (λ m. is_name (name_of element) m ≡ true) (name_of_text b t rest w) q) p

record PlaceAt (within : Option RawElement) (bytes : List ℕ) : Type 0 where
  outside : within ≡ None
  rest : List ℕ
  is : bytes ≡ 60 ∷ rest
  stopped : ends_text (60 ∷ rest) ≡ true
  unclosed : (element : RawElement) → closes element (60 ∷ rest) ≡ true → ⊥

bare_place : (bytes : List ℕ) (k : PieceKind) (t rest text : List ℕ) → Bare k → bytes ≡ 60 ∷ (t ++ rest) → Whole TagOpen t → opening (t ++ rest) ≡ Some k → text ≡ 60 ∷ t → is_place (part k text) ≡ true → PlaceAt None bytes
bare_place bytes k t rest text an_end e w o same p = record { outside = refl; rest = t ++ rest; is = e; stopped = ap is_some o; unclosed = λ element x. head_closes_none element t rest w (subst (λ t. is_place (part End t) ≡ true) same p) x }
bare_place bytes k t rest text a_comment e w o same p = absurd (cc)

place_of : (within : Option RawElement) (bytes : List ℕ) (f : Front) (text : List ℕ) → Shape within bytes f → is_place (part f.kind text) ≡ true → bytes ≡ text ++ f.rest → PlaceAt within bytes
place_of within bytes f text (raw_text u e r z) p c = absurd (cc)
place_of within bytes f text (words b u e n t z) p c = absurd (cc)
place_of within bytes f text (start t rest e w o n) p c = record { outside = refl; rest = t ++ rest; is = e; stopped = ap is_some o; unclosed = λ element x. start_closes_none element t rest w o x }
place_of within bytes f text (bare k t b e w o) p c = bare_place bytes k t f.rest text b e w o (append_cancel_right text (60 ∷ t) f.rest (sym c ∙ e)) p
place_of within bytes f text cut_off p c = absurd (cc)

stopped_text : (bytes : List ℕ) → ends_text bytes ≡ true → behind_text bytes ≡ bytes
stopped_text [] e = refl
stopped_text (b ∷ rest) e = rw e refl

newline_there : (bytes : List ℕ) → ends_text bytes ≡ true → first_piece None (10 ∷ bytes) ≡ Some (front Text None bytes)
newline_there bytes e = words_there 10 bytes refl ∙ ap (λ r. Some (front Text None r)) (stopped_text bytes e)

end_there : (rest : List ℕ) → first_piece None (end_tag ++ rest) ≡ Some (front End None rest)
unfolding first_piece
end_there rest = refl

start_tag_there : (rest : List ℕ) → first_piece None (start_tag ++ rest) ≡ Some (front Start (Some Script) rest)
unfolding first_piece
start_tag_there rest = refl

element_pieces : (text : List ℕ) (parts : List Part) → All (λ b. (b == 60) ≡ false) text → ends_text (page_of parts) ≡ true → Pieces None (page_of parts) parts → Pieces None (page_of (map_element text ++ parts)) (map_element text ++ parts)
element_pieces text parts a s x =
    let old = page_of parts in
    let w : Pieces None (10 ∷ old) (part Text (10 ∷ []) ∷ parts) = piece {rest = old} refl (newline_there old s) x in
    let z : Pieces None (end_tag ++ 10 ∷ old) (part End end_tag ∷ part Text (10 ∷ []) ∷ parts) = piece {rest = 10 ∷ old} refl (end_there (10 ∷ old)) w in
    let y : Pieces (Some Script) (text ++ (end_tag ++ 10 ∷ old)) (part Raw text ∷ part End end_tag ∷ part Text (10 ∷ []) ∷ parts) = piece {rest = end_tag ++ 10 ∷ old} refl (raw_there Script text (end_tag ++ 10 ∷ old) a refl) z in
    piece {rest = text ++ (end_tag ++ 10 ∷ old)} refl (start_tag_there (text ++ (end_tag ++ 10 ∷ old))) y

alike_place : (bytes x : List ℕ) (within : Option RawElement) → PlaceAt within bytes → ends_text (60 ∷ x) ≡ true → Alike bytes (60 ∷ x)
alike_place bytes x within p s = subst (λ b. Alike b (60 ∷ x)) (sym p.is) (record { joins = λ y. markup_comes y s; raws = λ element y. absurd (p.unclosed element y) })

pub inserted_moved : (text : List ℕ) (within : Option RawElement) (bytes : List ℕ) (seen : Bool) (parts others : List Part) → All (λ b. (b == 60) ≡ false) text → Pieces within bytes parts → Clean seen parts → Inserted text parts others → Moved within bytes others
inserted_moved text within bytes seen parts others a (none e) c r = elim r [ ]
inserted_moved text within bytes seen parts others a (piece {next} {rest} {p} {parts = left} c e x) (fine f l) (before i) =
    let site = place_of within bytes (front p.kind next rest) p.text (shape_of within bytes (front p.kind next rest) e) i c in
    let whole : bytes ≡ page_of (p ∷ left) = covered within bytes (p ∷ left) (piece {rest = rest} c e x) in
    let z : Pieces None (page_of (p ∷ left)) (p ∷ left) = subst (λ w. Pieces w (page_of (p ∷ left)) (p ∷ left)) site.outside (subst (λ b. Pieces within b (p ∷ left)) whole (piece {rest = rest} c e x)) in
    let s : ends_text (page_of (p ∷ left)) ≡ true = ap ends_text (sym whole ∙ site.is) ∙ site.stopped in
    let y = element_pieces text (p ∷ left) a s z in
    record { pieces = subst (λ w. Pieces w (page_of (map_element text ++ p ∷ left)) (map_element text ++ p ∷ left)) (sym site.outside) y; page_alike = λ n. alike_place bytes _ within site refl }
inserted_moved text within bytes seen parts others a (piece {next} {rest} {p} {parts = left} c e x) (fine f l) (behind {others = right} i r) =
    let tail = inserted_moved text next rest _ left right a x l r in
    moved_behind within next bytes rest p right c e (whole_piece seen p left f) tail.pieces tail.page_alike
