-- What a scanner's calls say.
--     IsScanner page within rest                     the page's pieces were read up to the rest; `within`: whose raw
--                                                    text comes there
--     NextIs page within rest found after left       this piece, or none, comes next, and then that is left
use Rattle.std.specs.Prelude.{◌≡◌, ℕ, ◌+◌, List, ◌++◌, Option, Some, None, length}
use Rattle.page_spec.specs.declared.kinds.Piece.{Piece}
use Rattle.page_spec.specs.declared.kinds.RawElement.{RawElement}
use Rattle.page_spec.specs.Pieces.{front, first_piece, Part}
use Rattle.page_spec.specs.Places.{Reaches}

pub record IsScanner (page : List ℕ) (within : Option RawElement) (rest : List ℕ) : Type 0 where
  pub before : List Part
  pub reached : Reaches page before within rest

-- the text of the piece is what stands between what was left before it and what is left behind it
pub record Stepped (page : List ℕ) (within : Option RawElement) (rest : List ℕ) (piece : Piece)
    (after : Option RawElement) (left : List ℕ) : Type 0 where
  pub text : List ℕ
  pub cut : rest ≡ text ++ left
  pub first : first_piece within rest ≡ Some (front piece.kind after left)
  pub from : piece.from + length rest ≡ length page
  pub to : piece.to ≡ piece.from + length text

abbrev pub NextIs : List ℕ → Option RawElement → List ℕ → Option Piece → Option RawElement → List ℕ → Type 0
NextIs page within rest None after left = (first_piece within rest ≡ None) × (after ≡ within) × (left ≡ rest)
NextIs page within rest (Some piece) after left = Stepped page within rest piece after left
