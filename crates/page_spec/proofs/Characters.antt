-- No piece begins or ends within a character: it ends before a `<`, behind a `>`, or where the page ends.
use Rattle.std.specs.Prelude.{All, IsUtf8, IsCharBoundary, is_some}
use Rattle.std.proofs.Common.{◌≡◌, ℕ, ◌+◌, List, [], ◌∷◌, ◌++◌, length, true, ◌==◌, ◌&&◌, Option, None, append_assoc, sym, ◌∙◌, ap, subst, arith}
use Rattle.std.proofs.Math.Seq.{take-append_seam, drop-append_seam, get_or-append_seam}
use Rattle.std.proofs.lemmas.Bool.{and_parts, eqb-true}
use Rattle.std.proofs.lemmas.List.{length-append, append_cancel_right, append-nil}
use Rattle.std.proofs.lemmas.List.Elements.{All-nil, All-cons, All-head, All-tail}
use Rattle.std.proofs.lemmas.Str.{IsUtf8-take, IsUtf8-drop, IsUtf8-append, IsUtf8-nil, IsCharBoundary-at_seam, IsUtf8-nil, IsCharBoundary-before_ascii, IsCharBoundary-after_ascii}
use Rattle.page_spec.specs.declared.kinds.RawElement.{RawElement}
use Rattle.page_spec.specs.declared.kinds.State.TheVariants.{TagOpen}
use Rattle.page_spec.specs.Pieces.{is_name, name_of, tag_name, closes, ends_text, opening, Front, front, Part, Pieces, page_of}
use Rattle.page_spec.specs.Pieces.Pieces.{none, piece}
use Rattle.page_spec.specs.Laws.{PiecesAreUtf8, PiecesEndAtBoundaries}
use Rattle.page_spec.proofs.Cover.{pieces_cover, page_of-append}
use Rattle.page_spec.proofs.Markup.{Whole, ends_so}
use Rattle.page_spec.proofs.Shapes.{Shape, shape_of}
use Rattle.page_spec.proofs.Shapes.Shape.{raw_text, words, start, bare, cut_off}

pub record Both (xs ys : List ℕ) : Type 0 where
  pub first : IsUtf8 xs
  pub second : IsUtf8 ys

pub at_seam : (xs ys : List ℕ) → IsUtf8 (xs ++ ys) → IsCharBoundary (xs ++ ys) (length xs) → Both xs ys
at_seam xs ys u b = record { first = subst IsUtf8 (take-append_seam xs ys) (IsUtf8-take (xs ++ ys) (length xs) u b); second = subst IsUtf8 (drop-append_seam xs ys) (IsUtf8-drop (xs ++ ys) (length xs) u b) }

pub at_end : (xs : List ℕ) → IsUtf8 (xs ++ []) → Both xs []
at_end xs u = record { first = subst IsUtf8 (append-nil xs) u; second = IsUtf8-nil }

before_markup : (xs ys : List ℕ) → IsUtf8 (xs ++ 60 ∷ ys) → Both xs (60 ∷ ys)
before_markup xs ys u = at_seam xs (60 ∷ ys) u (IsCharBoundary-before_ascii (xs ++ 60 ∷ ys) (length xs) (let l = length-append xs (60 ∷ ys) in omega (arith, l)) (let e = get_or-append_seam xs 60 ys 0 in omega (arith, e)))

behind_tag_utf8 : (xs ys : List ℕ) → IsUtf8 ((xs ++ 62 ∷ []) ++ ys) → Both (xs ++ 62 ∷ []) ys
behind_tag_utf8 xs ys u =
    let same : (xs ++ 62 ∷ []) ++ ys ≡ xs ++ 62 ∷ ys = append_assoc xs (62 ∷ []) ys in
    let b : IsCharBoundary (xs ++ 62 ∷ ys) (length xs + 1) = IsCharBoundary-after_ascii (xs ++ 62 ∷ ys) (length xs) (subst IsUtf8 same u) (let l = length-append xs (62 ∷ ys) in omega (arith, l)) (let e = get_or-append_seam xs 62 ys 0 in omega (arith, e)) in
    at_seam (xs ++ 62 ∷ []) ys u (subst (λ bytes. IsCharBoundary bytes (length (xs ++ 62 ∷ []))) (sym same) (subst (λ n. IsCharBoundary (xs ++ 62 ∷ ys) n) (sym (length-append xs (62 ∷ []))) b))

before_end_of_text : (xs ys : List ℕ) → ends_text ys ≡ true → IsUtf8 (xs ++ ys) → Both xs ys
before_end_of_text xs [] e u = at_end xs u
before_end_of_text xs (b ∷ ys) e u =
    let p = eqb-true b 60 (and_parts (b == 60) (is_some (opening ys)) e).0 in
    subst (λ b. IsUtf8 (xs ++ b ∷ ys) → Both xs (b ∷ ys)) (sym p) (before_markup xs ys) u

before_end_tag : (element : RawElement) (xs ys : List ℕ) → closes element ys ≡ true → IsUtf8 (xs ++ ys) → Both xs ys
before_end_tag element xs [] e u = absurd (cc)
before_end_tag element xs (b ∷ []) e u = absurd (cc)
before_end_tag element xs (b ∷ c ∷ ys) e u =
    let p = eqb-true b 60 (and_parts (b == 60) (c == 47) (and_parts (b == 60 && c == 47) (is_name (name_of element) (tag_name ys)) e).0).0 in
    subst (λ b. IsUtf8 (xs ++ b ∷ c ∷ ys) → Both xs (b ∷ c ∷ ys)) (sym p) (before_markup xs (c ∷ ys)) u

at_markup : (bytes t rest text : List ℕ) → bytes ≡ 60 ∷ (t ++ rest) → Whole TagOpen t → IsUtf8 bytes → bytes ≡ text ++ rest → Both text rest
at_markup bytes t rest text e w v d =
    let l = ends_so TagOpen t w in
    let same : text ≡ 60 ∷ (l.front ++ 62 ∷ []) = append_cancel_right text (60 ∷ t) rest (sym d ∙ e) ∙ ap (λ t. 60 ∷ t) l.is in
    subst (λ x. IsUtf8 (x ++ rest) → Both x rest) (sym same) (behind_tag_utf8 (60 ∷ l.front) rest) (subst IsUtf8 d v)

cut_at : (within : Option RawElement) (bytes : List ℕ) (f : Front) → Shape within bytes f → IsUtf8 bytes → (text : List ℕ) → bytes ≡ text ++ f.rest → Both text f.rest
cut_at within bytes f (raw_text {element} u e r c) v text d = before_end_tag element text f.rest c (subst IsUtf8 d v)
cut_at within bytes f (words b u e n t z) v text d = before_end_of_text text f.rest z (subst IsUtf8 d v)
cut_at within bytes f (start t rest e w o p) v text d = at_markup bytes t rest text e w v d
cut_at within bytes f (bare k t b e w o) v text d = at_markup bytes t f.rest text e w v d
cut_at within bytes f cut_off v text d = at_end text (subst IsUtf8 d v)

pub pieces_utf8 : (within : Option RawElement) (bytes : List ℕ) (parts : List Part) → Pieces within bytes parts → IsUtf8 bytes → All (λ p. IsUtf8 p.text) parts
pieces_utf8 within bytes parts (none e) u = All-nil (λ p. IsUtf8 p.text)
pieces_utf8 within bytes parts (piece {next} {rest} {p} {parts = more} c e x) u =
    let b = cut_at within bytes (front p.kind next rest) (shape_of within bytes (front p.kind next rest) e) u p.text c in
    All-cons (λ p. IsUtf8 p.text) p more b.first (pieces_utf8 next rest more x b.second)

pub pieces_are_utf8 : PiecesAreUtf8
pieces_are_utf8 page parts x u = pieces_utf8 None page parts x u

pub page_utf8 : (parts : List Part) → All (λ p. IsUtf8 p.text) parts → IsUtf8 (page_of parts)
page_utf8 [] a = IsUtf8-nil
page_utf8 (p ∷ parts) a = IsUtf8-append p.text (page_of parts) (All-head (λ p. IsUtf8 p.text) p parts a) (page_utf8 parts (All-tail (λ p. IsUtf8 p.text) p parts a))

behind_all : (before parts : List Part) → All (λ p. IsUtf8 p.text) (before ++ parts) → All (λ p. IsUtf8 p.text) parts
behind_all [] parts a = a
behind_all (q ∷ before) parts a = behind_all before parts (All-tail (λ p. IsUtf8 p.text) q (before ++ parts) a)

pub boundary : (page xs ys : List ℕ) (n : ℕ) → page ≡ xs ++ ys → n ≡ length xs → IsUtf8 ys → IsCharBoundary page n
boundary page xs ys n e l u = subst (λ n. IsCharBoundary page n) (sym l) (IsCharBoundary-at_seam page xs ys e u)

pub pieces_end_at_boundaries : PiecesEndAtBoundaries
pieces_end_at_boundaries page found o u =
    let all = behind_all o.before (o.p ∷ o.behind) (pieces_are_utf8 page (o.before ++ o.p ∷ o.behind) o.pieces u) in
    let rest = All-tail (λ p. IsUtf8 p.text) o.p o.behind all in
    let whole : page ≡ page_of o.before ++ page_of (o.p ∷ o.behind) = pieces_cover page (o.before ++ o.p ∷ o.behind) o.pieces ∙ page_of-append o.before (o.p ∷ o.behind) in
    let further : page ≡ (page_of o.before ++ o.p.text) ++ page_of o.behind = whole ∙ sym (append_assoc (page_of o.before) o.p.text (page_of o.behind)) in
    record {
      begin = boundary page (page_of o.before) (page_of (o.p ∷ o.behind)) found.from whole (ap (λ s. s.from) o.is) (page_utf8 (o.p ∷ o.behind) all);
      end = boundary page (page_of o.before ++ o.p.text) (page_of o.behind) found.to further (ap (λ s. s.to) o.is ∙ sym (length-append (page_of o.before) o.p.text)) (page_utf8 o.behind rest);
    }
