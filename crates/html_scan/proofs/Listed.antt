-- The pieces that were read so far, as a list.
use Rattle.std.proofs.Common.{◌≡◌, ℕ, ◌+◌, ◌<◌, List, [], ◌∷◌, ◌++◌, length, true, false, Option, Some, None, append_assoc, refl, sym, ◌∙◌, ap, subst, arith}
use Rattle.std.proofs.lemmas.List.{length-append, append-nil}
use Rattle.page_spec.specs.declared.kinds.RawElement.{RawElement}
use Rattle.page_spec.specs.declared.kinds.Piece.{Piece}
use Rattle.page_spec.specs.declared.kinds.PieceKind.{PieceKind}
use Rattle.page_spec.specs.declared.kinds.PieceKind.TheVariants.{Text, Comment, Start, End, Raw, Broken}
use Rattle.page_spec.specs.Pieces.{front, first_piece, Part, part, Pieces, page_of}
use Rattle.page_spec.specs.Pieces.Pieces.{none}
use Rattle.page_spec.specs.ImportMaps.{is_broken}
use Rattle.page_spec.specs.Places.{span, spans, broken_at, Reaches}
use Rattle.page_spec.proofs.Existence.{size, smaller, some_pieces_within}
use Rattle.page_spec.proofs.Putting.{longer}
use Rattle.page_spec.proofs.Reading.{nothing_read, read_further, one_more_page}
use Rattle.html_scan.specs.Steps.{Stepped}
use Rattle.html_scan.specs.Listing.{Lists, Breaks}

-- the pieces so far, none of them broken
pub record Listing (page : List ℕ) (view : List ℕ × (Option RawElement × List ℕ)) (pieces : List Piece) : Type 0 where
  pub same : view.0 ≡ page
  pub before : List Part
  pub reached : Reaches page before view.1.0 view.1.1
  pub whole : (parts : List Part) → broken_at 0 (before ++ parts) ≡ broken_at (length (page_of before)) parts
  pub are : pieces ≡ spans 0 before

pub nothing_listed : (page : List ℕ) (view : List ℕ × (Option RawElement × List ℕ)) (pieces : List Piece) → view ≡ (page, (None, page)) → pieces ≡ [] → Listing page view pieces
nothing_listed page view pieces v e = rw v (record { same = refl; before = []; reached = nothing_read page; whole = λ parts. refl; are = e })

pub all_listed : (page : List ℕ) (view : List ℕ × (Option RawElement × List ℕ)) (pieces : List Piece) → Listing page view pieces → first_piece view.1.0 view.1.1 ≡ None → Lists page pieces
all_listed page view pieces l e =
    let same = append-nil l.before in
    record {
      parts = l.before;
      cut = subst (λ ps. Pieces None page ps) same (l.reached.onward [] (none e));
      whole = ap (λ ps. broken_at 0 ps) (sym same) ∙ l.whole [];
      are = l.are;
    }

-- the place of a piece is as long as what was read before it
begins : (page : List ℕ) (view : List ℕ × (Option RawElement × List ℕ)) (pieces : List Piece) (found : Piece) (after : Option RawElement) (left : List ℕ) → (l : Listing page view pieces) → Stepped view.0 view.1.0 view.1.1 found after left → found.from ≡ length (page_of l.before)
begins page view pieces found after left l s =
    let a = ap length l.reached.cut ∙ length-append (page_of l.before) view.1.1 in
    let b = s.from ∙ ap length l.same in
    omega (arith, a, b)

at_broken : (n : ℕ) (p : Part) (parts : List Part) → is_broken p.kind ≡ true → broken_at n (p ∷ parts) ≡ Some n
at_broken n p parts e = rw e refl

behind_whole : (n : ℕ) (p : Part) (parts : List Part) → is_broken p.kind ≡ false → broken_at n (p ∷ parts) ≡ broken_at (n + length p.text) parts
behind_whole n p parts e = rw e refl

pub fault_found : (page : List ℕ) (view : List ℕ × (Option RawElement × List ℕ)) (pieces : List Piece) (found : Piece) (after : Option RawElement) (left : List ℕ) → Listing page view pieces → Stepped view.0 view.1.0 view.1.1 found after left → is_broken found.kind ≡ true → Breaks page found.from
fault_found page view pieces found after left l s k =
    let r = read_further page l.before view.1.0 after view.1.1 s.text left found.kind l.reached s.cut s.first in
    let tail = some_pieces_within after left in
    let p = part found.kind s.text in
    let n = begins page view pieces found after left l s in
    record {
      parts = (l.before ++ p ∷ []) ++ tail.parts;
      cut = r.onward tail.parts tail.pieces;
      first = ap (λ ps. broken_at 0 ps) (append_assoc l.before (p ∷ []) tail.parts) ∙ (l.whole (p ∷ tail.parts) ∙ (at_broken (length (page_of l.before)) p tail.parts k ∙ ap (λ m. Some m) (sym n)));
    }

spans-append : (n : ℕ) (xs : List Part) (p : Part) → spans n (xs ++ p ∷ []) ≡ spans n xs ++ span (n + length (page_of xs)) p ∷ []
spans-append n [] p = ap (λ m. span m p ∷ []) (omega arith)
spans-append n (x ∷ xs) p =
    let further = spans-append (n + length x.text) xs p in
    let seam = longer n x.text (page_of xs) in
    ap (λ r. span n x ∷ r) (further ∙ ap (λ m. spans (n + length x.text) xs ++ span m p ∷ []) seam)

found_span : (page : List ℕ) (view : List ℕ × (Option RawElement × List ℕ)) (pieces : List Piece) (found : Piece) (after : Option RawElement) (left : List ℕ) → (l : Listing page view pieces) → (s : Stepped view.0 view.1.0 view.1.1 found after left) → found ≡ span (0 + length (page_of l.before)) (part found.kind s.text)
found_span page view pieces found after left l s =
    let n = begins page view pieces found after left l s in
    let zero : found.from ≡ 0 + length (page_of l.before) = omega (arith, n) in
    let to : found.to ≡ (0 + length (page_of l.before)) + length s.text = (let t = s.to in omega (arith, n, t)) in
    λ i. record { kind = found.kind; from = zero i; to = to i }

pub one_more_listed : (page : List ℕ) (view new : List ℕ × (Option RawElement × List ℕ)) (pieces more : List Piece) (found : Piece) → Listing page view pieces → new.0 ≡ view.0 → Stepped view.0 view.1.0 view.1.1 found new.1.0 new.1.1 → is_broken found.kind ≡ false → more ≡ pieces ++ found ∷ [] → Listing page new more
one_more_listed page view new pieces more found l same s k e =
    let p = part found.kind s.text in
    let size_now : length (page_of (l.before ++ p ∷ [])) ≡ length (page_of l.before) + length s.text = ap length (one_more_page l.before p) ∙ length-append (page_of l.before) s.text in
    record {
      same = same ∙ l.same;
      before = l.before ++ p ∷ [];
      reached = read_further page l.before view.1.0 new.1.0 view.1.1 s.text new.1.1 found.kind l.reached s.cut s.first;
      whole = λ parts. ap (λ ps. broken_at 0 ps) (append_assoc l.before (p ∷ []) parts) ∙ (l.whole (p ∷ parts) ∙ (behind_whole (length (page_of l.before)) p parts k ∙ ap (λ n. broken_at n parts) (sym size_now)));
      are = e ∙ (ap (λ ps. ps ++ found ∷ []) l.are ∙ (ap (λ q. spans 0 l.before ++ q ∷ []) (found_span page view pieces found new.1.0 new.1.1 l s) ∙ sym (spans-append 0 l.before p)));
    }

pub less_left : (page : List ℕ) (view : List ℕ × (Option RawElement × List ℕ)) (found : Piece) (after : Option RawElement) (left : List ℕ) → Stepped view.0 view.1.0 view.1.1 found after left → size after left < size view.1.0 view.1.1
less_left page view found after left s = smaller view.1.0 view.1.1 (front found.kind after left) s.first

pub whole_kind : (kind : PieceKind) → (kind ≡ Broken → ⊥) → is_broken kind ≡ false
whole_kind Broken n = absurd (n refl)
whole_kind Text n = refl
whole_kind Comment n = refl
whole_kind Start n = refl
whole_kind End n = refl
whole_kind Raw n = refl
