-- Brackets that are open, and partners.
use Rattle.std.proofs.Common.{◌≡◌, ◌≤◌, ◌<◌, ◌+◌, ◌-◌, ◌==◌, ℕ, List, [], ◌∷◌, ◌++◌, Bool, true, false, length, if◌then◌else◌, Option, Some, None, refl, sym, ◌∙◌, ap, subst, arith}
use Rattle.std.specs.Prelude.{drop}
use Rattle.std.proofs.lemmas.List.{length-append}
use Rattle.module_spec.specs.declared.token.Mark.TheVariants.{OpenRound, OpenSquare, OpenCurly, CloseRound, CloseSquare, CloseCurly, Dot, Step, Stop, Operator}
use Rattle.module_spec.specs.declared.token.Sort.{Sort}
use Rattle.module_spec.specs.declared.token.Sort.TheVariants.{Name, Private, Number, Text, TemplateWhole, TemplateHead, TemplateMiddle, TemplateTail, Regex, Punctuator}
use Rattle.module_spec.specs.declared.token.Bracket.{Bracket}
use Rattle.module_spec.specs.declared.token.Bracket.TheVariants.{Round, Square, Curly, Template}
use Rattle.module_spec.specs.declared.token.LexKind.{LexKind}
use Rattle.module_spec.specs.declared.token.LexKind.TheVariants.{Unreadable}
use Rattle.module_spec.specs.Sorts.{opens, closes, same_bracket}
use Rattle.module_spec.specs.Tokens.{Piece, piece, Lexeme, Balanced, Innermost, Next, next_from, next_at, unless_refused, refusal, is_closed_by, is_template, opener, count, depth, IsNext, Reaches}
use Rattle.module_spec.specs.Tokens.Innermost.{none, bracket}
use Rattle.module_spec.specs.Tokens.Next.{Ends, Faults, Gives}
use Rattle.module_spec.specs.Tokens.IsNext.{next}
use Rattle.module_spec.specs.Tokens.Reaches.{begin, go}
use Rattle.module_spec.specs.Brackets.{StaysOpen}
use Rattle.module_spec.specs.Laws.{DepthCounts, OnePartner, CurlyPartners}
use Rattle.module_spec.specs.OutlineReading.{open_brackets, with_opened, without_closed, innermost as innermost_of}
use Rattle.module_spec.proofs.TokenLaws.{innermost_top, one_innermost}

-- ---- a token that is given closes nothing but the innermost bracket

-- what comes next is the end, a fault, or a token that isn't refused
pub data Allowed (innermost : Option Bracket) (d : ℕ) : Next → Type 0 where
  at_end : Allowed innermost d Ends
  at_fault : {left : ℕ} {kind : LexKind} → Allowed innermost d (Faults left kind)
  allowed : {t : Lexeme} {after : List ℕ} → refusal (opens t.sort) (closes t.sort) innermost d ≡ None → Allowed innermost d (Gives t after)

unless_allowed : (refused : Option LexKind) (innermost : Option Bracket) (d : ℕ) (sort : Sort) (bytes rest : List ℕ) → refusal (opens sort) (closes sort) innermost d ≡ refused → Allowed innermost d (unless_refused refused sort bytes rest)
unless_allowed None innermost d sort bytes rest e = allowed e
unless_allowed (Some kind) innermost d sort bytes rest e = at_fault

found_allowed : (found : Piece) (innermost : Option Bracket) (d : ℕ) (bytes : List ℕ) → Allowed innermost d (next_from innermost d bytes found)
found_allowed None innermost d bytes = at_fault
found_allowed (Some found) innermost d bytes = unless_allowed (refusal (opens found.0) (closes found.0) innermost d) innermost d found.0 bytes found.1 refl

end_allowed : (c : Bool) (innermost : Option Bracket) (d : ℕ) → Allowed innermost d (if c then Ends else Faults 0 Unreadable)
end_allowed true innermost d = at_end
end_allowed false innermost d = at_fault

pub next_allowed : (slash : Bool) (innermost : Option Bracket) (d : ℕ) (bytes : List ℕ) → Allowed innermost d (next_at slash innermost d bytes)
unfolding next_at
next_allowed slash innermost d [] = end_allowed (d == 0) innermost d
next_allowed slash innermost d (b ∷ rest) = found_allowed (piece slash (is_template innermost) (b ∷ rest)) innermost d (b ∷ rest)

of_allowed : {innermost : Option Bracket} {d : ℕ} {t : Lexeme} {after : List ℕ} → Allowed innermost d (Gives t after) → refusal (opens t.sort) (closes t.sort) innermost d ≡ None
of_allowed (allowed e) = e

same_is : (a b : Bracket) → same_bracket a b ≡ true → a ≡ b
same_is Round Round e = refl
same_is Square Square e = refl
same_is Curly Curly e = refl
same_is Template Template e = refl
same_is Round Square e = absurd (cc)
same_is Round Curly e = absurd (cc)
same_is Round Template e = absurd (cc)
same_is Square Round e = absurd (cc)
same_is Square Curly e = absurd (cc)
same_is Square Template e = absurd (cc)
same_is Curly Round e = absurd (cc)
same_is Curly Square e = absurd (cc)
same_is Curly Template e = absurd (cc)
same_is Template Round e = absurd (cc)
same_is Template Square e = absurd (cc)
same_is Template Curly e = absurd (cc)

closed_is : (innermost : Option Bracket) (k : Bracket) → is_closed_by innermost k ≡ true → innermost ≡ Some k
closed_is None k e = absurd (cc)
closed_is (Some opened) k e = ap (λ x. Some x) (same_is opened k e)

unless_closed : (c : Bool) → (if c then None else Some Unreadable) ≡ None → c ≡ true
unless_closed true e = refl
unless_closed false e = absurd (cc)

refusal_says : (opened : Option Bracket) (k : Bracket) (innermost : Option Bracket) (d : ℕ) → refusal opened (Some k) innermost d ≡ None → innermost ≡ Some k
refusal_says opened k innermost d e = closed_is innermost k (unless_closed (is_closed_by innermost k) e)

-- what isn't refused closes the innermost bracket or none
pub closes_innermost : (opened closed innermost : Option Bracket) (d : ℕ) (k : Bracket) → refusal opened closed innermost d ≡ None → closed ≡ Some k → innermost ≡ Some k
closes_innermost opened closed innermost d k e f = refusal_says opened k innermost d (subst (λ c. refusal opened c innermost d ≡ None) f e)

-- what is known of a token that comes next: where it closes a bracket, that is the innermost one
record Comes (t : Lexeme) (before : List Lexeme) : Type 0 where
  pub at : List Lexeme
  pub inner : Innermost before at
  pub closing : (k : Bracket) → closes t.sort ≡ Some k → opener at ≡ Some k

comes : {before : List Lexeme} {rest after : List ℕ} {t : Lexeme} → IsNext before rest (Gives t after) → Comes t before
comes {before} {t} (next {at} {bytes} {slash} s i k e) =
    let says = of_allowed (subst (λ out. Allowed (opener at) (depth before) out) (sym e) (next_allowed slash (opener at) (depth before) bytes)) in
    record { at = at; inner = i; closing = λ k c. refusal_says (opens t.sort) k (opener at) (depth before) (subst (λ closed. refusal (opens t.sort) closed (opener at) (depth before) ≡ None) c says) }

-- ---- as many brackets are open as are counted

some_at : (at : List Lexeme) (k : Bracket) → opener at ≡ Some k → 1 ≤ length at
some_at [] k e = absurd (cc)
some_at (o ∷ at) k e = omega arith

some_top : (stack : List (List Lexeme)) → 1 ≤ length (innermost_of stack) → 1 ≤ length stack
some_top [] l = absurd (omega arith)
some_top (x ∷ stack) l = omega arith

closes_some : {t : Lexeme} {before : List Lexeme} {k : Bracket} → Comes t before → closes t.sort ≡ Some k → 1 ≤ length (open_brackets before)
closes_some {before} {k} c e =
    let top = innermost_top before c.at c.inner in
    some_top (open_brackets before) (subst (λ (x : List Lexeme). 1 ≤ length x) (sym top) (some_at c.at k (c.closing k e)))

length_behind : (stack : List (List Lexeme)) → length (drop 1 stack) ≡ length stack - 1
length_behind [] = omega arith
length_behind (x ∷ stack) = omega arith

length_closed : (c : Option Bracket) (stack : List (List Lexeme)) → length (without_closed c stack) ≡ length stack - count c
length_closed None stack = omega arith
length_closed (Some k) stack = length_behind stack

length_opened : (o : Option Bracket) (x : List Lexeme) (stack : List (List Lexeme)) → length (with_opened o x stack) ≡ length stack + count o
length_opened None x stack = omega arith
length_opened (Some k) x stack = omega arith

-- a closing token comes where a bracket is open
enough : {t : Lexeme} {before : List Lexeme} (c : Option Bracket) → closes t.sort ≡ c → Comes t before → count c ≤ length (open_brackets before)
enough None e c = omega arith
enough (Some k) e c = closes_some c e

pub open_is_depth : (text : List ℕ) (before : List Lexeme) (rest : List ℕ) → Reaches text before rest → length (open_brackets before) ≡ depth before
open_is_depth text before rest (begin e) = refl
open_is_depth text before rest (go {t} {before = first} {rest = middle} r n) =
    let so_far = open_is_depth text first middle r in
    let some = enough (closes t.sort) refl (comes n) in
    let pops = length_closed (closes t.sort) (open_brackets first) in
    let pushes = length_opened (opens t.sort) (t ∷ first) (without_closed (closes t.sort) (open_brackets first)) in
    omega (arith, so_far, some, pops, pushes)

pub depth_counts : DepthCounts
depth_counts text before rest (begin e) = refl
depth_counts text before rest (go {t} {before = first} {rest = middle} r n) =
    let so_far = depth_counts text first middle r in
    let size = open_is_depth text first middle r in
    let some = enough (closes t.sort) refl (comes n) in
    omega (arith, so_far, size, some)

-- ---- partners

same_back : (front other : List Lexeme) (c d : Lexeme) (back end : List Lexeme) → length back ≡ length end → front ++ c ∷ back ≡ other ++ d ∷ end → back ≡ end
same_back [] [] c d back end l e = cc
same_back [] (x ∷ other) c d back end l e =
    let f : back ≡ other ++ d ∷ end = cc in
    let g = ap (λ (xs : List Lexeme). length xs) f in
    let h = length-append other (d ∷ end) in absurd (omega (arith, g, h, l))
same_back (x ∷ front) [] c d back end l e =
    let f : front ++ c ∷ back ≡ end = cc in
    let g = ap (λ (xs : List Lexeme). length xs) f in
    let h = length-append front (c ∷ back) in absurd (omega (arith, g, h, l))
same_back (x ∷ front) (y ∷ other) c d back end l e = same_back front other c d back end l (let f : front ++ c ∷ back ≡ other ++ d ∷ end = cc in f)

pub one_partner : OnePartner
one_partner tokens some other to p q =
    let backs : p.before ≡ q.before = same_back p.later q.later p.closer q.closer p.before q.before (sym p.ends ∙ q.ends) (sym p.split ∙ q.split) in
    let one = one_innermost p.before (p.opener ∷ p.inner) (q.opener ∷ q.inner) (bracket p.balanced p.opened) (bracket (subst (λ (b : List Lexeme). Balanced b (q.opener ∷ q.inner)) (sym backs) q.balanced) q.opened) in
    let inners : p.inner ≡ q.inner = cc in
    p.starts ∙ (ap (λ (xs : List Lexeme). length xs) inners ∙ sym q.starts)

balanced_of : {before at : List Lexeme} (o : Lexeme) (inner : List Lexeme) → at ≡ o ∷ inner → Innermost before at → Balanced before (o ∷ inner)
balanced_of o inner e (none b) = absurd (cc)
balanced_of {before} o inner e (bracket b opened) = subst (λ x. Balanced before x) e b

-- ---- the partner of a `{`

-- the list lies in the stack, with so many below it
data Lies (x : List Lexeme) (below : ℕ) : List (List Lexeme) → Type 0 where
  on_top : {stack : List (List Lexeme)} → length stack ≡ below → Lies x below (x ∷ stack)
  deeper : {y : List Lexeme} {stack : List (List Lexeme)} → Lies x below stack → Lies x below (y ∷ stack)

-- what opens or closes a curly bracket does nothing else
curly_opens_alone : (s : Sort) → opens s ≡ Some Curly → closes s ≡ None
curly_opens_alone Name e = refl
curly_opens_alone Private e = refl
curly_opens_alone Number e = refl
curly_opens_alone Text e = refl
curly_opens_alone TemplateWhole e = refl
curly_opens_alone TemplateHead e = refl
curly_opens_alone TemplateMiddle e = absurd (cc)
curly_opens_alone TemplateTail e = absurd (cc)
curly_opens_alone Regex e = refl
curly_opens_alone (Punctuator OpenRound) e = refl
curly_opens_alone (Punctuator OpenSquare) e = refl
curly_opens_alone (Punctuator OpenCurly) e = refl
curly_opens_alone (Punctuator CloseRound) e = absurd (cc)
curly_opens_alone (Punctuator CloseSquare) e = absurd (cc)
curly_opens_alone (Punctuator CloseCurly) e = absurd (cc)
curly_opens_alone (Punctuator Dot) e = refl
curly_opens_alone (Punctuator Step) e = refl
curly_opens_alone (Punctuator Stop) e = refl
curly_opens_alone (Punctuator Operator) e = refl

curly_closes_alone : (s : Sort) → closes s ≡ Some Curly → opens s ≡ None
curly_closes_alone Name e = refl
curly_closes_alone Private e = refl
curly_closes_alone Number e = refl
curly_closes_alone Text e = refl
curly_closes_alone TemplateWhole e = refl
curly_closes_alone TemplateHead e = absurd (cc)
curly_closes_alone TemplateMiddle e = absurd (cc)
curly_closes_alone TemplateTail e = refl
curly_closes_alone Regex e = refl
curly_closes_alone (Punctuator OpenRound) e = absurd (cc)
curly_closes_alone (Punctuator OpenSquare) e = absurd (cc)
curly_closes_alone (Punctuator OpenCurly) e = absurd (cc)
curly_closes_alone (Punctuator CloseRound) e = refl
curly_closes_alone (Punctuator CloseSquare) e = refl
curly_closes_alone (Punctuator CloseCurly) e = refl
curly_closes_alone (Punctuator Dot) e = refl
curly_closes_alone (Punctuator Step) e = refl
curly_closes_alone (Punctuator Stop) e = refl
curly_closes_alone (Punctuator Operator) e = refl

top_lies : {before : List Lexeme} {t : Lexeme} (o : Lexeme) (inner : List Lexeme) (k : Bracket) {stack : List (List Lexeme)} → Comes t before → open_brackets before ≡ (o ∷ inner) ∷ stack → opens o.sort ≡ Some Curly → closes t.sort ≡ Some k → k ≡ Curly
top_lies {before} {t} o inner k {stack} c s opened closed =
    let at_is : c.at ≡ o ∷ inner = sym (innermost_top before c.at c.inner) ∙ ap innermost_of s in
    let same : opens o.sort ≡ Some k = sym (ap opener at_is) ∙ c.closing k closed in
    let e : Some Curly ≡ Some k = sym opened ∙ same in cc

opened_lies : {x : List Lexeme} {n : ℕ} {stack : List (List Lexeme)} (o : Option Bracket) (y : List Lexeme) → Lies x n stack → Lies x n (with_opened o y stack)
opened_lies None y l = l
opened_lies (Some k) y l = deeper l

closed_lies : {t o : Lexeme} {before inner : List Lexeme} {stack : List (List Lexeme)} (closed : Option Bracket) → closes t.sort ≡ closed → Comes t before → open_brackets before ≡ stack → length (open_brackets before) ≡ depth before → opens o.sort ≡ Some Curly → depth inner < depth (t ∷ before) → Lies (o ∷ inner) (depth inner) stack → Lies (o ∷ inner) (depth inner) (without_closed closed stack)
closed_lies None e c s size opened stays l = l
closed_lies {t} {o} {before} {inner} (Some k) e c s size opened stays (on_top below) =
    let curly : k ≡ Curly = top_lies o inner k c s opened e in
    let no_open = ap count (curly_closes_alone t.sort (e ∙ ap (λ x. Some x) curly)) in
    let one_close = ap count e in
    let sized = ap (λ (xs : List (List Lexeme)). length xs) s in
    absurd (omega (arith, below, size, sized, no_open, one_close, stays))
closed_lies (Some k) e c s size opened stays (deeper l) = l

-- as long as more brackets are open than before it, what opened one lies in the stack
lies : (text : List ℕ) (o : Lexeme) (between inner : List Lexeme) (rest : List ℕ) → Reaches text (between ++ o ∷ inner) rest → opens o.sort ≡ Some Curly → StaysOpen between o inner → Lies (o ∷ inner) (depth inner) (open_brackets (between ++ o ∷ inner))
lies text o [] inner rest (go {rest = middle} r n) opened stays =
    rw (opened, curly_opens_alone o.sort opened) (on_top (open_is_depth text inner middle r))
lies text o (t ∷ between) inner rest (go {rest = middle} r n) opened stays =
    let before : List Lexeme = between ++ o ∷ inner in
    let so_far = lies text o between inner middle r opened (λ later front e. stays (t ∷ later) front (ap (λ xs. t ∷ xs) e)) in
    opened_lies (opens t.sort) (t ∷ before) (closed_lies (closes t.sort) refl (comes n) refl (open_is_depth text before middle r) opened (stays [] (t ∷ between) refl) so_far)

lies_long : {x : List Lexeme} {n : ℕ} {stack : List (List Lexeme)} → Lies x n stack → n < length stack
lies_long (on_top e) = omega (arith, e)
lies_long (deeper l) = let m = lies_long l in omega (arith, m)

count_at_most : (k : Option Bracket) → count k ≤ 1
count_at_most None = omega arith
count_at_most (Some k) = omega arith

record Closes (t o : Lexeme) (before inner : List Lexeme) : Type 0 where
  pub balanced : Balanced before (o ∷ inner)
  pub closed : closes t.sort ≡ Some Curly

closes_it : {t o : Lexeme} {before inner : List Lexeme} {stack : List (List Lexeme)} (closed : Option Bracket) → closes t.sort ≡ closed → Comes t before → open_brackets before ≡ stack → length (open_brackets before) ≡ depth before → opens o.sort ≡ Some Curly → depth (t ∷ before) ≤ depth inner → Lies (o ∷ inner) (depth inner) stack → Closes t o before inner
closes_it {t} None e c s size opened back (on_top below) = let no_close = ap count e in let sized = ap (λ (xs : List (List Lexeme)). length xs) s in absurd (omega (arith, below, size, sized, no_close, back))
closes_it {t} {o} {before} {inner} (Some k) e c s size opened back (on_top below) =
    let at_is : c.at ≡ o ∷ inner = sym (innermost_top before c.at c.inner) ∙ ap innermost_of s in
    let curly : k ≡ Curly = top_lies o inner k c s opened e in
    record { balanced = balanced_of o inner at_is c.inner; closed = e ∙ ap (λ x. Some x) curly }
closes_it closed e c s size opened back (deeper l) =
    let one = count_at_most closed in let closing = ap count e in let more = lies_long l in
    let sized = ap (λ (xs : List (List Lexeme)). length xs) s in absurd (omega (arith, more, size, sized, closing, one, back))

pub curly_partners : CurlyPartners
curly_partners text t o between inner rest (go {rest = middle} r n) opened stays back =
    let before : List Lexeme = between ++ o ∷ inner in
    let it = closes_it (closes t.sort) refl (comes n) refl (open_is_depth text before middle r) opened back (lies text o between inner middle r opened stays) in
    record { opener = o; closer = t; inner = inner; before = before; later = []; bracket = Curly; split = refl; balanced = it.balanced; opened = opened; closed = it.closed; starts = refl; ends = refl }
