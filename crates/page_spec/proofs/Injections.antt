-- The laws on a map and a page.
use Rattle.std.specs.Prelude.{All, IsUtf8}
use Rattle.std.specs.Str.{is_utf8}
use Rattle.std.specs.Str.Lossy.{utf8_valid_len}
use Rattle.std.proofs.Common.{◌≡◌, ℕ, ◌+◌, List, [], ◌∷◌, ◌++◌, length, take, drop, Bool, true, false, ◌==◌, Option, Some, None, Result, Ok, Err, append_assoc, refl, sym, ◌∙◌, ap, subst, arith}
use Rattle.std.proofs.Math.Seq.{take-append_seam, drop-append_seam}
use Rattle.std.proofs.lemmas.Option.{same_Some}
use Rattle.std.proofs.lemmas.List.{length-append}
use Rattle.std.proofs.lemmas.List.Elements.{All-cons, All-head, All-tail}
use Rattle.std.proofs.lemmas.Str.{IsUtf8-from_is_utf8, is_utf8-from_IsUtf8}
use Rattle.page_spec.specs.declared.kinds.InjectFault.{InjectFault}
use Rattle.page_spec.specs.declared.kinds.InjectFault.TheVariants.{PageUnclear}
use Rattle.page_spec.specs.declared.kinds.PieceKind.TheVariants.{Text, Start, End, Raw}
use Rattle.page_spec.specs.Pieces.{Part, part, Pieces, page_of}
use Rattle.page_spec.specs.ImportMaps.{is_map_start, import_maps}
use Rattle.page_spec.specs.Attributes.{attribute}
use Rattle.page_spec.specs.Faults.{first_fault}
use Rattle.page_spec.specs.Injection.{map_span, place, start_tag, end_tag, element, replaced, put_into, unless_faulted, injected, Injection}
use Rattle.page_spec.specs.Injection.Injection.{not_utf8, utf8}
use Rattle.page_spec.specs.Laws.{OneInjection, HasInjection, SomeInjection, IsPlainMap, InjectedPieces, OneMapAfter, SamePageAgain, InjectedIsUtf8, PutBetween}
use Rattle.page_spec.proofs.Cover.{one_pieces, pieces_cover}
use Rattle.page_spec.proofs.Existence.{some_pieces}
use Rattle.page_spec.proofs.Characters.{pieces_are_utf8, page_utf8}
use Rattle.page_spec.proofs.Clean.{Clean, clean_from, clean_is}
use Rattle.page_spec.proofs.Maps.{NoMaps, no_span}
use Rattle.page_spec.proofs.Maps.NoMaps.{another}
use Rattle.page_spec.proofs.Putting.{Replaced, Inserted, Site, Place, some_replaced, some_inserted, replaced_site, inserted_place, replaced_again, map_of_alike, inserted_raw, replaced_between, inserted_between}
use Rattle.page_spec.proofs.Putting.Replaced.{here, later}
use Rattle.page_spec.proofs.Putting.Inserted.{before, behind}
use Rattle.page_spec.proofs.PiecesAfter.{replaced_moved, inserted_moved}
use Rattle.page_spec.proofs.CleanAfter.{replaced_clean, inserted_clean, replaced_maps, inserted_maps}

pub one_injection : OneInjection
one_injection text page some other (not_utf8 e) (not_utf8 f) = refl
one_injection text page some other (not_utf8 e) (utf8 f y) = absurd (cc)
one_injection text page some other (utf8 e x) (not_utf8 f) = absurd (cc)
one_injection text page some other (utf8 {parts} e x) (utf8 {parts = others} f y) = ap (λ ps. injected text page ps) (one_pieces page parts others x y)

pub some_injection : SomeInjection
some_injection text page = by_test (is_utf8 page) refl where
  by_test : (c : Bool) → is_utf8 page ≡ c → HasInjection text page
  by_test false e = record { out = Err (PageUnclear (utf8_valid_len page)); injection = not_utf8 e }
  by_test true e = let s = some_pieces page in record { out = injected text page s.parts; injection = utf8 e s.pieces }

-- ---- the pieces among which the map was put

-- how the map was put among the pieces: into an element that was there, or with a new one
pub data Put (text : List ℕ) (parts others : List Part) : Type 0 where
  as_replaced : Replaced text parts others → Put text parts others
  as_inserted : NoMaps parts → Inserted text parts others → Put text parts others

pub record Putting (text page result : List ℕ) : Type 0 where
  pub parts : List Part
  pub others : List Part
  pub is_text : is_utf8 page ≡ true
  pub pieces : Pieces None page parts
  pub clean : Clean false parts
  pub put : Put text parts others
  pub is : result ≡ page_of others

seam_replaced : (front old text back : List ℕ) → replaced (0 + length front) ((0 + length front) + length old) text (front ++ (old ++ back)) ≡ front ++ (text ++ back)
seam_replaced front old text back =
    let zero : 0 + length front ≡ length front = omega arith in
    let first : take (0 + length front) (front ++ (old ++ back)) ≡ front = ap (λ n. take n (front ++ (old ++ back))) zero ∙ take-append_seam front (old ++ back) in
    let ends : (0 + length front) + length old ≡ length (front ++ old) = (let l = length-append front old in omega (arith, l)) in
    let last : drop ((0 + length front) + length old) (front ++ (old ++ back)) ≡ back = ap (λ n. drop n (front ++ (old ++ back))) ends ∙ (ap (λ b. drop (length (front ++ old)) b) (sym (append_assoc front old back)) ∙ drop-append_seam (front ++ old) back) in
    ap (λ x. x ++ (text ++ drop ((0 + length front) + length old) (front ++ (old ++ back)))) first ∙ ap (λ x. front ++ (text ++ x)) last

-- what stands behind the site is what the map's span says
pub site_replaced : (text page : List ℕ) (parts others : List Part) (sp : ℕ × ℕ) → page ≡ page_of parts → map_span 0 parts ≡ Some sp → Site text 0 parts others → replaced sp.0 sp.1 text page ≡ page_of others
site_replaced text page parts others sp c e s =
    let p = same_Some _ _ (sym e ∙ s.span) in
    ap (λ sp. replaced sp.0 sp.1 text page) p ∙ (ap (λ b. replaced (0 + length s.front) ((0 + length s.front) + length s.old) text b) (c ∙ s.was) ∙ (seam_replaced s.front s.old text s.back ∙ sym s.now))

place_inserted : (text page : List ℕ) (parts others : List Part) (n : ℕ) → page ≡ page_of parts → place 0 parts ≡ Some n → Place text 0 parts others → replaced n n (element text) page ≡ page_of others
place_inserted text page parts others n c e s =
    let p : n ≡ 0 + length s.front = same_Some _ _ (sym e ∙ s.at_place) in
    let q : n ≡ (0 + length s.front) + length {A = ℕ} [] = omega (arith, p) in
    ap (λ m. replaced m n (element text) page) p ∙ (ap (λ m. replaced (0 + length s.front) m (element text) page) q ∙ (ap (λ b. replaced (0 + length s.front) ((0 + length s.front) + length {A = ℕ} []) (element text) b) (c ∙ s.was) ∙ (seam_replaced s.front [] (element text) s.back ∙ sym s.now)))

abbrev pub as_page : List ℕ → Result (List ℕ) InjectFault
as_page x = Ok x

pub ok_same : {x y : List ℕ} → as_page x ≡ as_page y → x ≡ y
ok_same e = cc

put_by : (text page result : List ℕ) (parts : List Part) → is_utf8 page ≡ true → Pieces None page parts → (fault : Option InjectFault) (span : Option (ℕ × ℕ)) (at_place : Option ℕ) → first_fault 0 false parts ≡ fault → map_span 0 parts ≡ span → place 0 parts ≡ at_place → unless_faulted fault (put_into text page span at_place) ≡ Ok result → Putting text page result
put_by text page result parts u x (Some fault) span n f s p e = absurd (cc)
put_by text page result parts u x None (Some sp) n f s p e =
    let r = some_replaced text 0 parts s in
    record { parts = parts; others = r.others; is_text = u; pieces = x; clean = clean_from 0 false parts f; put = as_replaced r.is; is = sym (ok_same e) ∙ site_replaced text page parts r.others sp (pieces_cover page parts x) s (replaced_site text 0 parts r.others r.is) }
put_by text page result parts u x None None (Some n) f s p e =
    let r = some_inserted text 0 parts p in
    record { parts = parts; others = r.others; is_text = u; pieces = x; clean = clean_from 0 false parts f; put = as_inserted (no_span 0 parts s) r.is; is = sym (ok_same e) ∙ place_inserted text page parts r.others n (pieces_cover page parts x) p (inserted_place text 0 parts r.others r.is) }
put_by text page result parts u x None None None f s p e = absurd (cc)

putting_by : (text page result : List ℕ) (out : Result (List ℕ) InjectFault) → Injection text page out → out ≡ Ok result → Putting text page result
putting_by text page result out (not_utf8 u) e = absurd (cc)
putting_by text page result out (utf8 {parts} u x) e = put_by text page result parts u x (first_fault 0 false parts) (map_span 0 parts) (place 0 parts) refl refl refl e

pub putting : (text page result : List ℕ) → Injection text page (Ok result) → Putting text page result
putting text page result i = putting_by text page result (Ok result) i refl

-- ---- the laws

pieces_put : (text page : List ℕ) (parts others : List Part) → All (λ b. (b == 60) ≡ false) text → Pieces None page parts → Clean false parts → Put text parts others → Pieces None (page_of others) others
pieces_put text page parts others a x c (as_replaced r) = (replaced_moved text None page false parts others a x c r).pieces
pieces_put text page parts others a x c (as_inserted n r) = (inserted_moved text None page false parts others a x c r).pieces

clean_put : (text : List ℕ) (parts others : List Part) → All (λ b. (b == 60) ≡ false) text → Clean false parts → Put text parts others → Clean false others
clean_put text parts others a c (as_replaced r) = replaced_clean text false parts others a c r
clean_put text parts others a c (as_inserted n r) = inserted_clean text parts others a n c r

maps_put : (text : List ℕ) (parts others : List Part) → Clean false parts → Put text parts others → import_maps others ≡ text ∷ []
maps_put text parts others c (as_replaced r) = replaced_maps text parts others c r
maps_put text parts others c (as_inserted n r) = inserted_maps text parts others n r

put_between : (text : List ℕ) (parts others : List Part) → Put text parts others → PutBetween text parts others
put_between text parts others (as_replaced r) = replaced_between text parts others r
put_between text parts others (as_inserted n r) = inserted_between text parts others r

pieces_now : (text page result : List ℕ) → IsPlainMap text → (p : Putting text page result) → Pieces None result p.others
pieces_now text page result m p = subst (λ b. Pieces None b p.others) (sym p.is) (pieces_put text page p.parts p.others m.no_markup p.pieces p.clean p.put)

pub injected_pieces : InjectedPieces
injected_pieces text page new parts others m i x y =
    let p = putting text page new i in
    let first : p.parts ≡ parts = one_pieces page p.parts parts p.pieces x in
    let second : p.others ≡ others = one_pieces new p.others others (pieces_now text page new m p) y in
    subst (λ ps. PutBetween text ps others) first (subst (λ qs. PutBetween text p.parts qs) second (put_between text p.parts p.others p.put))

pub one_map_after : OneMapAfter
one_map_after text page new m i =
    let p = putting text page new i in
    record { parts = p.others; pieces = pieces_now text page new m p; only = maps_put text p.parts p.others p.clean p.put }

-- ---- characters

replaced_utf8 : (text : List ℕ) (parts others : List Part) → IsUtf8 text → All (λ p. IsUtf8 p.text) parts → Replaced text parts others → All (λ p. IsUtf8 p.text) others
replaced_utf8 text parts others u a (here {p} {q} {parts = left} m k) =
    let behind_p = All-tail (λ p. IsUtf8 p.text) p (q ∷ left) a in
    All-cons (λ p. IsUtf8 p.text) p (part Raw text ∷ left) (All-head (λ p. IsUtf8 p.text) p (q ∷ left) a) (All-cons (λ p. IsUtf8 p.text) (part Raw text) left u (All-tail (λ p. IsUtf8 p.text) q left behind_p))
replaced_utf8 text parts others u a (later {p} {parts = left} {others = right} n r) =
    All-cons (λ p. IsUtf8 p.text) p right (All-head (λ p. IsUtf8 p.text) p left a) (replaced_utf8 text left right u (All-tail (λ p. IsUtf8 p.text) p left a) r)

start_tag_utf8 : IsUtf8 start_tag
unfolding lib.Utf8.encode
start_tag_utf8 = (start_tag, (refl, refl))

end_tag_utf8 : IsUtf8 end_tag
unfolding lib.Utf8.encode
end_tag_utf8 = (end_tag, (refl, refl))

line_end_utf8 : IsUtf8 (10 ∷ [])
unfolding lib.Utf8.encode
line_end_utf8 = (10 ∷ [], (refl, refl))

inserted_utf8 : (text : List ℕ) (parts others : List Part) → IsUtf8 text → All (λ p. IsUtf8 p.text) parts → Inserted text parts others → All (λ p. IsUtf8 p.text) others
inserted_utf8 text parts others u a (before {p} {parts = left} i) =
    let line = All-cons (λ p. IsUtf8 p.text) (part Text (10 ∷ [])) (p ∷ left) line_end_utf8 a in
    let closed = All-cons (λ p. IsUtf8 p.text) (part End end_tag) (part Text (10 ∷ []) ∷ p ∷ left) end_tag_utf8 line in
    let raw = All-cons (λ p. IsUtf8 p.text) (part Raw text) (part End end_tag ∷ part Text (10 ∷ []) ∷ p ∷ left) u closed in
    All-cons (λ p. IsUtf8 p.text) (part Start start_tag) (part Raw text ∷ part End end_tag ∷ part Text (10 ∷ []) ∷ p ∷ left) start_tag_utf8 raw
inserted_utf8 text parts others u a (behind {p} {parts = left} {others = right} i r) =
    All-cons (λ p. IsUtf8 p.text) p right (All-head (λ p. IsUtf8 p.text) p left a) (inserted_utf8 text left right u (All-tail (λ p. IsUtf8 p.text) p left a) r)

put_utf8 : (text : List ℕ) (parts others : List Part) → IsUtf8 text → All (λ p. IsUtf8 p.text) parts → Put text parts others → All (λ p. IsUtf8 p.text) others
put_utf8 text parts others u a (as_replaced r) = replaced_utf8 text parts others u a r
put_utf8 text parts others u a (as_inserted n r) = inserted_utf8 text parts others u a r

utf8_now : (text page result : List ℕ) → IsPlainMap text → Putting text page result → IsUtf8 result
utf8_now text page result m p = subst IsUtf8 (sym p.is) (page_utf8 p.others (put_utf8 text p.parts p.others m.utf8 (pieces_are_utf8 page p.parts p.pieces (IsUtf8-from_is_utf8 page p.is_text)) p.put))

pub injected_is_utf8 : InjectedIsUtf8
injected_is_utf8 text page new m i = utf8_now text page new m (putting text page new i)

-- ---- again

start_is_map : is_map_start (part Start start_tag) ≡ true
unfolding is_map_start attribute
start_is_map = refl

replaced_inserted : (text : List ℕ) (parts others : List Part) → Inserted text parts others → NoMaps parts → Replaced text others others
replaced_inserted text parts others (before {p} {parts = left} i) n = here (start_is_map) refl
replaced_inserted text parts others (behind {p} {parts = left} {others = right} i r) (another e n) =
    later (sym (map_of_alike p left right (inserted_raw text left right r)) ∙ e) (replaced_inserted text left right r n)

put_again : (text : List ℕ) (parts others : List Part) → Put text parts others → Replaced text others others
put_again text parts others (as_replaced r) = replaced_again text parts others r
put_again text parts others (as_inserted n r) = replaced_inserted text parts others r n

again_by : (text new : List ℕ) (others : List Part) → new ≡ page_of others → first_fault 0 false others ≡ None → Replaced text others others → (s : Site text 0 others others) → injected text new others ≡ Ok new
again_by text new others c f r s =
    let span = s.span in
    ap (λ o. unless_faulted o (put_into text new (map_span 0 others) (place 0 others))) f ∙ (ap (λ o. put_into text new o (place 0 others)) span ∙ ap as_page (site_replaced text new others others (0 + length s.front, (0 + length s.front) + length s.old) c span s ∙ sym c))

pub same_page_again : SamePageAgain
same_page_again text page new m i =
    let p = putting text page new i in
    let u = is_utf8-from_IsUtf8 new (utf8_now text page new m p) in
    let f = clean_is 0 false p.others (clean_put text p.parts p.others m.no_markup p.clean p.put) in
    let r = put_again text p.parts p.others p.put in
    subst (λ out. Injection text new out) (again_by text new p.others p.is f r (replaced_site text 0 p.others p.others r)) (utf8 u (pieces_now text page new m p))
