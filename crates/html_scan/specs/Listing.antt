-- The pieces of a page as a list.
--     Lists page pieces     the page has these pieces, none of which is broken
--     Breaks page at        the first broken piece begins at the offset
use Rattle.std.specs.Prelude.{◌≡◌, ℕ, List, Some, None, ⊤}
use Rattle.page_spec.specs.declared.kinds.Piece.{Piece}
use Rattle.page_spec.specs.Pieces.{Part, Pieces}
use Rattle.page_spec.specs.Places.{spans, broken_at}
use Rattle.html_scan.specs.declared.whole.ScanFault.{ScanFault}
use Rattle.html_scan.specs.declared.whole.ScanFault.TheVariants.{PageUnclear, Memory}

pub record Lists (page : List ℕ) (pieces : List Piece) : Type 0 where
  pub parts : List Part
  pub cut : Pieces None page parts
  pub whole : broken_at 0 parts ≡ None
  pub are : pieces ≡ spans 0 parts

pub record Breaks (page : List ℕ) (place : ℕ) : Type 0 where
  pub parts : List Part
  pub cut : Pieces None page parts
  pub first : broken_at 0 parts ≡ Some place

abbrev pub IsFault : List ℕ → ScanFault → Type 0
IsFault page (PageUnclear place) = Breaks page place
IsFault page Memory = ⊤
