-- Each page has its pieces: each piece leaves fewer bytes, or as many and no raw text to come.
use Rattle.std.proofs.Common.{◌≡◌, ℕ, zero, suc, ◌+◌, ◌*◌, ◌≤◌, ◌<◌, List, [], ◌∷◌, ◌++◌, length, Option, Some, None, refl, ap, arith}
use Rattle.std.proofs.lemmas.List.{length-append}
use Rattle.page_spec.specs.declared.kinds.RawElement.{RawElement}
use Rattle.page_spec.specs.Pieces.{Front, first_piece, raw_element, tag_name, Part, part, Pieces}
use Rattle.page_spec.specs.Pieces.Pieces.{none, piece}
use Rattle.page_spec.specs.Laws.{SomePieces}
use Rattle.page_spec.proofs.Shapes.{Shape, shape_of, first_cut}
use Rattle.page_spec.proofs.Shapes.Shape.{raw_text, words, start, bare, cut_off}

abbrev pub size : Option RawElement → List ℕ → ℕ
size None bytes = 2 * length bytes
size (Some element) bytes = 2 * length bytes + 1

size_most : (within : Option RawElement) (bytes : List ℕ) → size within bytes ≤ 2 * length bytes + 1
size_most None bytes = omega arith
size_most (Some element) bytes = omega arith

longer_by : (b : ℕ) (u bytes rest : List ℕ) → bytes ≡ b ∷ (u ++ rest) → length rest < length bytes
longer_by b u bytes rest e = let l = ap length e in let m = length-append u rest in omega (arith, l, m)

next_size : (within : Option RawElement) (rest bytes : List ℕ) → length rest < length bytes → size within rest < 2 * length bytes
next_size within rest bytes l = let m = size_most within rest in omega (arith, l, m)

something : (within : Option RawElement) (bytes : List ℕ) (f : Front) → first_piece within bytes ≡ Some f → 0 < size within bytes
unfolding first_piece
something None [] f e = absurd (cc)
something None (b ∷ rest) f e = omega arith
something (Some element) bytes f e = omega arith

raw_size : (u bytes rest : List ℕ) → bytes ≡ u ++ rest → 2 * length rest < 2 * length bytes + 1
raw_size u bytes rest e = let l = ap length e in let m = length-append u rest in omega (arith, l, m)

smaller_by : (within : Option RawElement) (bytes : List ℕ) (f : Front) → 0 < size within bytes → Shape within bytes f → size f.within f.rest < size within bytes
smaller_by within bytes f l (raw_text u e r c) = raw_size u bytes _ e
smaller_by within bytes f l (words b u e n t z) = next_size None _ bytes (longer_by b u bytes _ e)
smaller_by within bytes f l (start t rest e w o p) = next_size (raw_element (tag_name (t ++ rest))) rest bytes (longer_by 60 t bytes rest e)
smaller_by within bytes f l (bare k t b e w o) = next_size None _ bytes (longer_by 60 t bytes _ e)
smaller_by within bytes f l cut_off = l

pub smaller : (within : Option RawElement) (bytes : List ℕ) (f : Front) → first_piece within bytes ≡ Some f → size f.within f.rest < size within bytes
smaller within bytes f e = smaller_by within bytes f (something within bytes f e) (shape_of within bytes f e)

pub record HasPiecesWithin (within : Option RawElement) (bytes : List ℕ) : Type 0 where
  pub parts : List Part
  pub pieces : Pieces within bytes parts

some_by : (n : ℕ) (within : Option RawElement) (bytes : List ℕ) (o : Option Front) → first_piece within bytes ≡ o → size within bytes ≤ n → ((w : Option RawElement) (b : List ℕ) → suc (size w b) ≤ n → HasPiecesWithin w b) → HasPiecesWithin within bytes
some_by n within bytes None e l go = record { parts = []; pieces = none e }
some_by n within bytes (Some f) e l go =
    let c = first_cut within bytes f e in
    let s = smaller within bytes f e in
    let tail = go f.within f.rest (omega (arith, s, l)) in
    record { parts = part f.kind c.text ∷ tail.parts; pieces = piece {rest = f.rest} c.cut e tail.pieces }

some_within : (n : ℕ) (within : Option RawElement) (bytes : List ℕ) → size within bytes ≤ n → HasPiecesWithin within bytes
some_within zero within bytes l = some_by zero within bytes (first_piece within bytes) refl l (λ w b m. absurd (omega (arith, m)))
some_within (suc n) within bytes l = some_by (suc n) within bytes (first_piece within bytes) refl l (λ w b m. some_within n w b (omega (arith, m)))

pub some_pieces_within : (within : Option RawElement) (bytes : List ℕ) → HasPiecesWithin within bytes
some_pieces_within within bytes = some_within (size within bytes) within bytes (omega arith)

pub some_pieces : SomePieces
some_pieces page = let s = some_pieces_within None page in record { parts = s.parts; pieces = s.pieces }
