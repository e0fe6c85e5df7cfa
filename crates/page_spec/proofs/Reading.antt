-- A page read in order, piece by piece.
use Rattle.std.proofs.Common.{◌≡◌, ℕ, ◌+◌, ◌-◌, ◌≤◌, List, [], ◌∷◌, ◌++◌, length, take, drop, Option, Some, None, append_assoc, refl, sym, ◌∙◌, ap, subst, arith}
use Rattle.std.proofs.Math.Seq.{take-append_seam, drop-append_seam}
use Rattle.std.proofs.lemmas.List.{length-append, append-nil}
use Rattle.page_spec.specs.declared.kinds.RawElement.{RawElement}
use Rattle.page_spec.specs.declared.kinds.Piece.{Piece}
use Rattle.page_spec.specs.declared.kinds.PieceKind.{PieceKind}
use Rattle.page_spec.specs.Pieces.{front, first_piece, Part, part, Pieces, page_of}
use Rattle.page_spec.specs.Pieces.Pieces.{piece}
use Rattle.page_spec.specs.Places.{span, Reaches, IsPieceOf, text_at}
use Rattle.page_spec.proofs.Cover.{pieces_cover, page_of-append}
use Rattle.page_spec.proofs.Existence.{some_pieces_within}

pub nothing_read : (page : List ℕ) → Reaches page [] None page
nothing_read page = record { cut = refl; onward = λ parts x. x }

pub one_more : (before : List Part) (p : Part) (parts : List Part) → (before ++ p ∷ []) ++ parts ≡ before ++ p ∷ parts
one_more before p parts = append_assoc before (p ∷ []) parts

pub one_more_page : (before : List Part) (p : Part) → page_of (before ++ p ∷ []) ≡ page_of before ++ p.text
one_more_page before p = page_of-append before (p ∷ []) ∙ ap (λ r. page_of before ++ r) (append-nil p.text)

pub read_further : (page : List ℕ) (before : List Part) (within next : Option RawElement) (bytes text rest : List ℕ) (kind : PieceKind) → Reaches page before within bytes → bytes ≡ text ++ rest → first_piece within bytes ≡ Some (front kind next rest) → Reaches page (before ++ part kind text ∷ []) next rest
read_further page before within next bytes text rest kind r c e =
    let p = part kind text in
    record {
      cut = r.cut ∙ (ap (λ b. page_of before ++ b) c ∙ (sym (append_assoc (page_of before) text rest) ∙ ap (λ b. b ++ rest) (sym (one_more_page before p))));
      onward = λ parts x. subst (λ ps. Pieces None page ps) (sym (one_more before p parts)) (r.onward (p ∷ parts) (piece {rest = rest} c e x));
    }

pub read_piece : (page : List ℕ) (before : List Part) (within next : Option RawElement) (bytes text rest : List ℕ) (found : Piece) → Reaches page before within bytes → bytes ≡ text ++ rest → first_piece within bytes ≡ Some (front found.kind next rest) → found ≡ span (length (page_of before)) (part found.kind text) → IsPieceOf page found
read_piece page before within next bytes text rest found r c e s =
    let tail = some_pieces_within next rest in
    record { before = before; p = part found.kind text; behind = tail.parts; pieces = r.onward (part found.kind text ∷ tail.parts) (piece {rest = rest} c e tail.pieces); is = s }

-- the text between a piece's places is that of its part
pub text_is : (page : List ℕ) (found : Piece) → (o : IsPieceOf page found) → text_at page found ≡ o.p.text
text_is page found o =
    let n = length (page_of o.before) in
    let whole : page ≡ page_of o.before ++ (o.p.text ++ page_of o.behind) = pieces_cover page (o.before ++ o.p ∷ o.behind) o.pieces ∙ page_of-append o.before (o.p ∷ o.behind) in
    let rest : drop n page ≡ o.p.text ++ page_of o.behind = ap (λ b. drop n b) whole ∙ drop-append_seam (page_of o.before) (o.p.text ++ page_of o.behind) in
    let size : (n + length o.p.text) - n ≡ length o.p.text = omega arith in
    ap (λ s. take (s.to - s.from) (drop s.from page)) o.is ∙ (ap (λ m. take m (drop n page)) size ∙ (ap (λ b. take (length o.p.text) b) rest ∙ take-append_seam o.p.text (page_of o.behind)))

pub record Within (page : List ℕ) (found : Piece) : Type 0 where
  pub order : found.from ≤ found.to
  pub most : found.to ≤ length page

pub stands_within : (page : List ℕ) (found : Piece) → IsPieceOf page found → Within page found
stands_within page found o =
    let whole : page ≡ page_of o.before ++ (o.p.text ++ page_of o.behind) = pieces_cover page (o.before ++ o.p ∷ o.behind) o.pieces ∙ page_of-append o.before (o.p ∷ o.behind) in
    let l = ap length whole in
    let m = length-append (page_of o.before) (o.p.text ++ page_of o.behind) in
    let k = length-append o.p.text (page_of o.behind) in
    let f : found.from ≡ length (page_of o.before) = ap (λ s. s.from) o.is in
    let t : found.to ≡ length (page_of o.before) + length o.p.text = ap (λ s. s.to) o.is in
    record { order = omega (arith, f, t); most = omega (arith, l, m, k, t) }
