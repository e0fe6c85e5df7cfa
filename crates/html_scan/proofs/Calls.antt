-- What one call of the scanner does.
use Rattle.std.proofs.Common.{◌≡◌, ℕ, ◌+◌, ◌-◌, ◌≤◌, List, [], ◌∷◌, ◌++◌, length, Option, Some, None, sym, ◌∙◌, ap, arith}
use Rattle.std.proofs.lemmas.List.{length-append}
use Rattle.page_spec.specs.declared.kinds.RawElement.{RawElement}
use Rattle.page_spec.specs.declared.kinds.PieceKind.{PieceKind}
use Rattle.page_spec.specs.declared.kinds.Piece.{Piece}
use Rattle.page_spec.specs.Pieces.{front, first_piece, part, page_of}
use Rattle.page_spec.specs.Places.{span, IsPieceOf}
use Rattle.page_spec.proofs.Shapes.{Cut, first_cut}
use Rattle.page_spec.proofs.Reading.{nothing_read, read_further, read_piece}
use Rattle.html_scan.specs.Steps.{IsScanner, Stepped}

pub begun : (page : List ℕ) → IsScanner page None page
begun page = record { before = []; reached = nothing_read page }

rest_fits : (page : List ℕ) (within : Option RawElement) (rest : List ℕ) → IsScanner page within rest → length rest ≤ length page
rest_fits page within rest s = let l = ap length s.reached.cut in let m = length-append (page_of s.before) rest in omega (arith, l, m)

piece_cut : (within : Option RawElement) (rest : List ℕ) (kind : PieceKind) (after : Option RawElement) (left : List ℕ) → Some (front kind after left) ≡ first_piece within rest → Cut rest left
piece_cut within rest kind after left e = first_cut within rest (front kind after left) (sym e)

abbrev found_at : List ℕ → List ℕ → PieceKind → List ℕ → Piece
found_at page rest kind left = record { kind = kind; from = length page - length rest; to = length page - length left }

pub record Call (page : List ℕ) (within : Option RawElement) (rest : List ℕ) (kind : PieceKind) (after : Option RawElement) (left : List ℕ) : Type 0 where
  pub fits : length left ≤ length page
  pub scanner : IsScanner page after left
  pub found : IsPieceOf page (found_at page rest kind left)
  pub stepped : Stepped page within rest (found_at page rest kind left) after left

begins_at : (p b r : ℕ) → p ≡ b + r → p - r ≡ b
begins_at p b r e = omega (arith, e)

ends_at : (p b r t l : ℕ) → p ≡ b + r → r ≡ t + l → p - l ≡ b + t
ends_at p b r t l e f = omega (arith, e, f)

pub call : (page : List ℕ) (within : Option RawElement) (rest : List ℕ) (kind : PieceKind) (after : Option RawElement) (left : List ℕ) → IsScanner page within rest → Some (front kind after left) ≡ first_piece within rest → Call page within rest kind after left
call page within rest kind after left s e =
    let c = piece_cut within rest kind after left e in
    let whole = ap length s.reached.cut ∙ length-append (page_of s.before) rest in
    let parted = ap length c.cut ∙ length-append c.text left in
    let from : length page - length rest ≡ length (page_of s.before) = begins_at (length page) (length (page_of s.before)) (length rest) whole in
    let to : length page - length left ≡ length (page_of s.before) + length c.text = ends_at (length page) (length (page_of s.before)) (length rest) (length c.text) (length left) whole parted in
    let place : found_at page rest kind left ≡ span (length (page_of s.before)) (part kind c.text) = ap (λ n. record { kind = kind; from = n; to = length page - length left }) from ∙ ap (λ n. record { kind = kind; from = length (page_of s.before); to = n }) to in
    record {
      fits = omega (arith, whole, parted);
      scanner = record { before = s.before ++ part kind c.text ∷ []; reached = read_further page s.before within after rest c.text left kind s.reached c.cut (sym e) };
      found = read_piece page s.before within after rest c.text left (found_at page rest kind left) s.reached c.cut (sym e) place;
      stepped = record { text = c.text; cut = c.cut; first = sym e; from = omega (arith, whole); to = omega (arith, from, to) };
    }

pub found_in : (view : List ℕ × (Option RawElement × List ℕ)) (page : List ℕ) (within : Option RawElement) (rest : List ℕ) (kind : PieceKind) (after : Option RawElement) (left : List ℕ) → view ≡ (page, (within, rest)) → IsScanner page within rest → Some (front kind after left) ≡ first_piece within rest → IsPieceOf view.0 (found_at page rest kind left)
found_in view page within rest kind after left v s e = rw v ((call page within rest kind after left s e).found)

pub stepped_in : (view : List ℕ × (Option RawElement × List ℕ)) (page : List ℕ) (within : Option RawElement) (rest : List ℕ) (kind : PieceKind) (after : Option RawElement) (left : List ℕ) → view ≡ (page, (within, rest)) → IsScanner page within rest → Some (front kind after left) ≡ first_piece within rest → Stepped view.0 view.1.0 view.1.1 (found_at page rest kind left) after left
stepped_in view page within rest kind after left v s e = rw v ((call page within rest kind after left s e).stepped)
