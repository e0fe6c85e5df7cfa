-- A token that is spelled `{` opens a curly bracket, and the braces of a declaration end at its partner.
use Rattle.std.proofs.Common.{◌≡◌, ◌≢◌, ◌<◌, ◌≤◌, ◌+◌, ◌-◌, ◌==◌, ℕ, zero, suc, Bool, true, false, ◌&&◌, codes, bytes_eq, List, [], ◌∷◌, ◌++◌, length, reverse, take, drop, if◌then◌else◌, Option, Some, None, refl, sym, ap, ◌∙◌, subst, arith, append_assoc}
use Rattle.std.proofs.lemmas.Grind.{reverse_onto}
use Rattle.std.proofs.lemmas.List.{length-append}
use Rattle.std.proofs.lemmas.Slice.Eq.{bytes_eq-Decides}
use Rattle.module_spec.specs.declared.token.Mark.TheVariants.{OpenCurly}
use Rattle.module_spec.specs.declared.token.Sort.{Sort}
use Rattle.module_spec.specs.declared.token.Sort.TheVariants.{Name, Punctuator}
use Rattle.module_spec.specs.declared.token.Bracket.{Bracket}
use Rattle.module_spec.specs.declared.token.LexKind.{LexKind}
use Rattle.module_spec.specs.declared.token.LexKind.TheVariants.{Unreadable}
use Rattle.module_spec.specs.Characters.{name_size}
use Rattle.module_spec.specs.Sorts.{opens, closes}
use Rattle.module_spec.specs.Tokens.{Piece, piece, Lexeme, Next, next_at, next_from, unless_refused, refusal, is_template, opener, count, depth, IsNext, Reaches}
use Rattle.module_spec.specs.Tokens.Next.{Ends, Faults, Gives}
use Rattle.module_spec.specs.Tokens.IsNext.{next}
use Rattle.module_spec.specs.Tokens.Reaches.{go}
use Rattle.module_spec.specs.Brackets.{ArePartners, StaysOpen}
use Rattle.module_spec.specs.Places.{Placed, placed, places, is_mark, is_punctuator_kind}
use Rattle.module_spec.specs.Declarations.{UpToPartner}
use Rattle.module_spec.specs.Declarations.UpToPartner.{partner, inside}
use Rattle.module_spec.specs.Declarations.Braces.{curly}
use Rattle.module_spec.proofs.BracketLaws.{curly_partners}
use Rattle.es_module_parser.specs.Laws.{CurlyOpens, BracesArePartners}

-- ---- a token that is spelled `{`

curly_piece : (regex part : Bool) (rest : List ℕ) → piece regex part (123 ∷ rest) ≡ Some (Punctuator OpenCurly, drop 1 (123 ∷ rest))
unfolding piece name_size
curly_piece regex part rest = refl

abbrev sort_of : Piece → Sort
sort_of None = Name
sort_of (Some found) = found.0

first_is : (n b : ℕ) (rest : List ℕ) → take n (b ∷ rest) ≡ 123 ∷ [] → b ≡ 123
first_is zero b rest e = absurd (cc)
first_is (suc n) b rest e = cc

-- what is known of a token that comes next
data OpensCurly : Next → Type 0 where
  at_end : OpensCurly Ends
  at_fault : {left : ℕ} {kind : LexKind} → OpensCurly (Faults left kind)
  a_curly : {t : Lexeme} {after : List ℕ} → (t.text ≡ 123 ∷ [] → t.sort ≡ Punctuator OpenCurly) → OpensCurly (Gives t after)

unless_curly : (refused : Option LexKind) (regex part : Bool) (b : ℕ) (rest after : List ℕ) (sort : Sort) → piece regex part (b ∷ rest) ≡ Some (sort, after) → OpensCurly (unless_refused refused sort (b ∷ rest) after)
unless_curly (Some kind) regex part b rest after sort e = at_fault
unless_curly None regex part b rest after sort e =
    a_curly (λ f. ap sort_of (sym (subst (λ x. piece regex part (x ∷ rest) ≡ Some (sort, after)) (first_is (length (b ∷ rest) - length after) b rest f) e) ∙ curly_piece regex part rest))

found_curly : (found : Piece) (innermost : Option Bracket) (d : ℕ) (regex part : Bool) (b : ℕ) (rest : List ℕ) → piece regex part (b ∷ rest) ≡ found → OpensCurly (next_from innermost d (b ∷ rest) found)
found_curly None innermost d regex part b rest e = at_fault
found_curly (Some found) innermost d regex part b rest e = unless_curly (refusal (opens found.0) (closes found.0) innermost d) regex part b rest found.1 found.0 e

end_curly : (c : Bool) → OpensCurly (if c then Ends else Faults 0 Unreadable)
end_curly true = at_end
end_curly false = at_fault

next_curly : (slash : Bool) (innermost : Option Bracket) (d : ℕ) (bytes : List ℕ) → OpensCurly (next_at slash innermost d bytes)
unfolding next_at
next_curly slash innermost d [] = end_curly (d == 0)
next_curly slash innermost d (b ∷ rest) = found_curly (piece slash (is_template innermost) (b ∷ rest)) innermost d slash (is_template innermost) b rest refl

of_curly : {t : Lexeme} {after : List ℕ} → OpensCurly (Gives t after) → t.text ≡ 123 ∷ [] → t.sort ≡ Punctuator OpenCurly
of_curly (a_curly h) e = h e

curly_sort : {before : List Lexeme} {rest after : List ℕ} {t : Lexeme} → IsNext before rest (Gives t after) → t.text ≡ 123 ∷ [] → t.sort ≡ Punctuator OpenCurly
curly_sort {before} (next {at} {bytes} {slash} s i k e) f = of_curly (subst (λ out. OpensCurly out) (sym e) (next_curly slash (opener at) (depth before) bytes)) f

sort_at : {text : List ℕ} {t : Lexeme} {before : List Lexeme} {rest : List ℕ} → Reaches text (t ∷ before) rest → t.text ≡ 123 ∷ [] → t.sort ≡ Punctuator OpenCurly
sort_at (go r n) e = curly_sort n e

pub curly_opens : CurlyOpens
curly_opens text t before rest r e = ap opens (sort_at r e)

both : (c d : Bool) → (c && d) ≡ true → d ≡ true
both true d e = e
both false d e = absurd (cc)

mark_text : (t : Placed) (m : List ℕ) → is_mark t m ≡ true → t.text ≡ m
mark_text t m e = (bytes_eq-Decides t.text m).0 (both (is_punctuator_kind t.token.kind) (bytes_eq t.text m) e)

-- ---- the tokens of a text that are placed so

data Placing (size : ℕ) (inner : List Lexeme) : List Lexeme → List Placed → Type 0 where
  nothing : Placing size inner [] []
  one : {t : Lexeme} {held : List Lexeme} {p : Placed} {ps : List Placed} → p ≡ placed size (held ++ inner) t → Placing size inner held ps → Placing size inner (t ∷ held) (p ∷ ps)

length_places : (size : ℕ) (before : List Lexeme) → length (places size before) ≡ length before
length_places size [] = refl
length_places size (t ∷ before) = ap suc (length_places size before)

placing : (size : ℕ) (inner held : List Lexeme) (ps : List Placed) → places size (held ++ inner) ≡ ps ++ places size inner → Placing size inner held ps
placing size inner [] [] e = nothing
placing size inner [] (p ∷ ps) e =
    let l = ap (λ (xs : List Placed). length xs) e in let m = length-append ps (places size inner) in absurd (omega (arith, l, m))
placing size inner (t ∷ held) [] e =
    let l = ap (λ (xs : List Placed). length xs) e in
    let m = length_places size (held ++ inner) in let n = length-append held inner in let o = length_places size inner in absurd (omega (arith, l, m, n, o))
placing size inner (t ∷ held) (p ∷ ps) e =
    let first : p ≡ placed size (held ++ inner) t = cc in
    let more : places size (held ++ inner) ≡ ps ++ places size inner = cc in
    one first (placing size inner held ps more)

-- ---- the last token first

data Open : List Placed → Type 0 where
  none : Open []
  more : {p : Placed} {ps : List Placed} → p.behind ≢ 0 → Open ps → Open (p ∷ ps)

open_before : {ps : List Placed} (p : Placed) → p.behind ≢ 0 → Open ps → Open (ps ++ p ∷ [])
open_before p n none = more n none
open_before p n (more m o) = more m (open_before p n o)

-- behind the last token no bracket is open, and some are behind the others
record Turned (tokens : List Placed) : Type 0 where
  pub last : Placed
  pub front : List Placed
  pub turned : reverse tokens ≡ last ∷ front
  pub closed : last.behind ≡ 0
  pub stays : Open front

onto_turned : (t : Placed) {tokens : List Placed} → t.behind ≢ 0 → (u : Turned tokens) → reverse (t ∷ tokens) ≡ u.last ∷ (u.front ++ t ∷ [])
onto_turned t {tokens} n u = reverse_onto tokens t [] ∙ ap (λ (ps : List Placed). ps ++ t ∷ []) u.turned

turn : {tokens : List Placed} → UpToPartner tokens → Turned tokens
turn (partner {t} e) = record { last = t; front = []; turned = refl; closed = e; stays = none }
turn (inside {t} {tokens} n u) =
    let v : Turned tokens = turn u in
    record { last = v.last; front = v.front ++ t ∷ []; turned = onto_turned t n v; closed = v.closed; stays = open_before t n v.stays }

some_left : (later : List Lexeme) (x : Lexeme) (back : List Lexeme) → [] ≡ later ++ x ∷ back → ⊥
some_left [] x back e = absurd (cc)
some_left (l ∷ later) x back e = absurd (cc)

stays_at : {size : ℕ} {inner held : List Lexeme} {ps : List Placed} → Placing size inner held ps → Open ps → (later : List Lexeme) (x : Lexeme) (back : List Lexeme) → held ≡ later ++ x ∷ back → depth (x ∷ (back ++ inner)) ≢ 0
stays_at nothing o later x back e = absurd (some_left later x back e)
stays_at {size} {inner} (one {t} {held} {p} {ps} f m) (more n o) [] x back e =
    let here : t ≡ x = cc in
    let behind : held ≡ back = cc in
    λ g. n (ap (λ (q : Placed). q.behind) f ∙ (ap (λ (xs : List Lexeme). depth (t ∷ (xs ++ inner))) behind ∙ (ap (λ y. depth (y ∷ (back ++ inner))) here ∙ g)))
stays_at (one {t} {held} f m) (more n o) (l ∷ later) x back e =
    let behind : held ≡ later ++ x ∷ back = cc in
    stays_at m o later x back behind

-- the first token of all
record First (size : ℕ) (inner held : List Lexeme) (p : Placed) : Type 0 where
  pub o : Lexeme
  pub between : List Lexeme
  pub split : held ≡ between ++ o ∷ []
  pub first : p ≡ placed size inner o

first_at : {size : ℕ} {inner held : List Lexeme} (front : List Placed) (p : Placed) → Placing size inner held (front ++ p ∷ []) → First size inner held p
first_at [] p (one {t} f nothing) = record { o = t; between = []; split = refl; first = f }
first_at (q ∷ front) p (one {t} f m) =
    let x = first_at front p m in record { o = x.o; between = t ∷ x.between; split = ap (λ (xs : List Lexeme). t ∷ xs) x.split; first = x.first }

reach_back : {text : List ℕ} {rest : List ℕ} (front back : List Lexeme) → Reaches text (front ++ back) rest → (end : List ℕ) × Reaches text back end
reach_back {rest} [] back r = (rest, r)
reach_back (f ∷ front) back (go r n) = reach_back front back r

-- ---- braces

opened_deep : (o : Lexeme) (inner : List Lexeme) → o.sort ≡ Punctuator OpenCurly → depth (o ∷ inner) ≡ 0 → ⊥
opened_deep o inner e f =
    let g : depth inner + 1 - 0 ≡ 0 = subst (λ s. (depth inner + count (opens s)) - count (closes s) ≡ 0) e f in absurd (omega (arith, g))

above : (a b : ℕ) → a ≡ 0 → b ≢ 0 → a < b
above a zero e n = absurd (n refl)
above a (suc b) e n = omega (arith, e)

suffix_open : {size : ℕ} {inner held : List Lexeme} {ps : List Placed} → Placing size inner held ps → Open ps → (later front : List Lexeme) (o : Lexeme) → held ≡ later ++ (front ++ o ∷ []) → depth ((front ++ o ∷ []) ++ inner) ≢ 0
suffix_open m n later [] o e = stays_at m n later o [] e
suffix_open m n later (f ∷ front) o e = stays_at m n later f (front ++ o ∷ []) e

stays_open : {size : ℕ} {inner held : List Lexeme} {ps : List Placed} (o : Lexeme) (between : List Lexeme) → Placing size inner held ps → Open ps → held ≡ between ++ o ∷ [] → depth inner ≡ 0 → StaysOpen between o inner
stays_open {inner} {held} o between m n e z = λ later front f.
    let split : held ≡ later ++ (front ++ o ∷ []) = e ∙ (ap (λ (xs : List Lexeme). xs ++ o ∷ []) f ∙ append_assoc later front (o ∷ [])) in
    let joined : (front ++ o ∷ []) ++ inner ≡ front ++ o ∷ inner = append_assoc front (o ∷ []) inner in
    above (depth inner) (depth (front ++ o ∷ inner)) z (λ g. suffix_open m n later front o split (ap depth joined ∙ g))

closing : (text : List ℕ) (held inner : List Lexeme) (rest : List ℕ) (to : ℕ) (last p : Placed) (front : List Placed) → Placing (length text) inner held (last ∷ (front ++ p ∷ [])) → last.behind ≡ 0 → Open (front ++ p ∷ []) → p.text ≡ codes "{" → Reaches text (held ++ inner) rest → depth inner ≡ 0 → suc to ≡ length (held ++ inner) → ArePartners (held ++ inner) (length inner) to
closing text [] inner rest to last p front x c stays q r z s = elim x [ ]
closing text (t ∷ held) inner rest to last p front (one f m) c stays q r z s =
    let x : First (length text) inner held p = first_at front p m in
    let before_is : held ++ inner ≡ x.between ++ x.o ∷ inner = ap (λ (xs : List Lexeme). xs ++ inner) x.split ∙ append_assoc x.between (x.o ∷ []) inner in
    let all_is : t ∷ (held ++ inner) ≡ t ∷ (x.between ++ x.o ∷ inner) = ap (λ (xs : List Lexeme). t ∷ xs) before_is in
    let reached : Reaches text (t ∷ (x.between ++ x.o ∷ inner)) rest = subst (λ (xs : List Lexeme). Reaches text xs rest) all_is r in
    let back = reach_back (t ∷ x.between) (x.o ∷ inner) reached in
    let sort : x.o.sort ≡ Punctuator OpenCurly = sort_at back.1 (sym (ap (λ (y : Placed). y.text) x.first) ∙ q) in
    let none_open : depth (t ∷ (x.between ++ x.o ∷ inner)) ≡ 0 = sym (ap depth all_is) ∙ (sym (ap (λ (y : Placed). y.behind) f) ∙ c) in
    let shut : depth (t ∷ (x.between ++ x.o ∷ inner)) ≤ depth inner = omega (arith, none_open) in
    let partners : ArePartners (t ∷ (x.between ++ x.o ∷ inner)) (length inner) (length (x.between ++ x.o ∷ inner)) = curly_partners text t x.o x.between inner rest reached (ap opens sort) (stays_open x.o x.between m stays x.split z) shut in
    let lengths = ap (λ (xs : List Lexeme). length xs) before_is in
    let to_is : length (x.between ++ x.o ∷ inner) ≡ to = omega (arith, lengths, s) in
    subst (λ n. ArePartners (t ∷ (held ++ inner)) (length inner) n) to_is (subst (λ (xs : List Lexeme). ArePartners xs (length inner) (length (x.between ++ x.o ∷ inner))) (sym all_is) partners)

alone : {text : List ℕ} {held inner : List Lexeme} {rest : List ℕ} {p : Placed} → Placing (length text) inner held (p ∷ []) → p.behind ≡ 0 → p.text ≡ codes "{" → Reaches text (held ++ inner) rest → ⊥
alone {inner} (one {t} f nothing) c q r = opened_deep t inner (sort_at r (sym (ap (λ (y : Placed). y.text) f) ∙ q)) (sym (ap (λ (y : Placed). y.behind) f) ∙ c)

up_to : (text : List ℕ) (held inner : List Lexeme) (rest : List ℕ) (p : Placed) (tokens : List Placed) (to : ℕ) → Reaches text (held ++ inner) rest → depth inner ≡ 0 → p.text ≡ codes "{" → UpToPartner (p ∷ tokens) → places (length text) (held ++ inner) ≡ reverse (p ∷ tokens) ++ places (length text) inner → suc to ≡ length (held ++ inner) → ArePartners (held ++ inner) (length inner) to
up_to text held inner rest p [] to r z q (partner c) e s = absurd (alone (placing (length text) inner held (p ∷ []) e) c q r)
up_to text held inner rest p tokens to r z q (inside n u) e s =
    let x : Turned tokens = turn u in
    let m = placing (length text) inner held (x.last ∷ (x.front ++ p ∷ [])) (e ∙ ap (λ (ps : List Placed). ps ++ places (length text) inner) (onto_turned p n x)) in
    closing text held inner rest to x.last p x.front m x.closed (open_before p n x.stays) q r z s

pub braces_are_partners : BracesArePartners
braces_are_partners text held inner rest braces to r z (curly {t} {tokens} q u) e s = up_to text held inner rest t tokens to r z (mark_text t (codes "{") q) u e s
