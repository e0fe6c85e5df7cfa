-- A page has one list of pieces, which cover it.
use Rattle.std.proofs.Common.{append_assoc, ◌≡◌, ℕ, List, [], ◌∷◌, ◌++◌, Option, Some, None, refl, sym, ◌∙◌, ap, subst}
use Rattle.std.proofs.lemmas.List.{append_cancel_right}
use Rattle.page_spec.specs.declared.kinds.RawElement.{RawElement}
use Rattle.page_spec.specs.declared.kinds.PieceKind.{PieceKind}
use Rattle.page_spec.specs.Pieces.{Front, front, first_piece, Part, part, Pieces, page_of}
use Rattle.page_spec.specs.Pieces.Pieces.{none, piece}
use Rattle.page_spec.specs.Laws.{OnePieces, PiecesCover}

record Same (kind k : PieceKind) (within w : Option RawElement) (rest more : List ℕ) : Type 0 where
  kinds : k ≡ kind
  withins : w ≡ within
  rests : more ≡ rest

same_front : (within : Option RawElement) (bytes : List ℕ) {kind k : PieceKind} {next w : Option RawElement} {rest more : List ℕ} → first_piece within bytes ≡ Some (front kind next rest) → first_piece within bytes ≡ Some (front k w more) → Same kind k next w rest more
same_front within bytes {kind} {k} {next} {w} {rest} {more} e f =
    let a : Front = front k w more in let b : Front = front kind next rest in let p : a ≡ b = cc in
    record { kinds = ap (λ p. p.kind) p; withins = ap (λ p. p.within) p; rests = ap (λ p. p.rest) p }

one_cut : (within : Option RawElement) (bytes : List ℕ) (some other : List Part) → Pieces within bytes some → Pieces within bytes other → some ≡ other
one_cut within bytes some other (none e) (none f) = refl
one_cut within bytes some other (none e) (piece c f q) = absurd (cc)
one_cut within bytes some other (piece c e p) (none f) = absurd (cc)
one_cut within bytes some other (piece {next} {rest} {p} {parts} c e x) (piece {next = w} {rest = more} {p = q} {parts = others} d f y) =
    let s = same_front within bytes e f in
    let rests = s.rests in
    let withins = s.withins in
    let texts : q.text ≡ p.text = append_cancel_right q.text p.text rest (subst (λ m. q.text ++ m ≡ p.text ++ rest) rests (sym d ∙ c)) in
    let tails : parts ≡ others = one_cut next rest parts others x (subst (λ x. Pieces x rest others) withins (subst (λ m. Pieces w m others) rests y)) in
    (ap (λ k. part k p.text ∷ parts) (sym s.kinds) ∙ ap (λ t. part q.kind t ∷ parts) (sym texts)) ∙ ap (λ ps. q ∷ ps) tails

pub one_pieces : OnePieces
one_pieces page some other p q = one_cut None page some other p q

nothing_left : (within : Option RawElement) (bytes : List ℕ) → first_piece within bytes ≡ None → bytes ≡ []
unfolding first_piece
nothing_left None [] e = refl
nothing_left None (b ∷ rest) e = absurd (cc)
nothing_left (Some x) bytes e = absurd (cc)

pub covered : (within : Option RawElement) (bytes : List ℕ) (parts : List Part) → Pieces within bytes parts → bytes ≡ page_of parts
covered within bytes parts (none e) = nothing_left within bytes e
covered within bytes parts (piece {rest} {p} {parts = more} c e x) = c ∙ ap (λ r. p.text ++ r) (covered _ rest more x)

pub pieces_cover : PiecesCover
pieces_cover page parts p = covered None page parts p

pub page_of-append : (xs ys : List Part) → page_of (xs ++ ys) ≡ page_of xs ++ page_of ys
page_of-append [] ys = refl
page_of-append (p ∷ xs) ys = ap (λ r. p.text ++ r) (page_of-append xs ys) ∙ sym (append_assoc p.text (page_of xs) (page_of ys))
