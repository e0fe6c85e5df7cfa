-- Worked examples at the limit of open brackets: texts of opening round brackets alone.
use Rattle.std.specs.Prelude.{◌≡◌, ℕ, zero, suc, ◌+◌, ◌-◌, ◌≤◌, ◌<◌, ◌==◌, Bool, true, false, List, [], ◌∷◌, if◌then◌else◌, Option, Some, None, Result, Err, length}
use Rattle.std.proofs.Common.{refl, sym, ap, subst, ◌∙◌, arith}
use Rattle.std.proofs.lemmas.List.{length-replicate}
use Rattle.std.proofs.lemmas.Bool.{ne_eqb, eq-eqb}
use Rattle.module_spec.specs.declared.token.Mark.TheVariants.{OpenRound}
use Rattle.module_spec.specs.declared.token.Sort.{Sort}
use Rattle.module_spec.specs.declared.token.Sort.TheVariants.{Punctuator}
use Rattle.module_spec.specs.declared.token.Bracket.{Bracket}
use Rattle.module_spec.specs.declared.token.LexKind.TheVariants.{Unreadable, TooDeep}
use Rattle.module_spec.specs.declared.token.Token.{Token}
use Rattle.module_spec.specs.declared.token.LexFault.{LexFault}
use Rattle.module_spec.specs.Examples.{rounds}
use Rattle.module_spec.specs.Characters.{name_size}
use Rattle.module_spec.specs.Spellings.{blank_rest, hashbang_rest}
use Rattle.module_spec.specs.Tokens.{Lexeme, lexeme, piece, next_at, unless_refused, opener, depth, most_brackets, Innermost, Slash, IsNext, Reaches, ReadsTokens}
use Rattle.module_spec.specs.Tokens.Balanced.{same}
use Rattle.module_spec.specs.Tokens.Innermost.{none, bracket}
use Rattle.module_spec.specs.Tokens.Slash.{start, token}
use Rattle.module_spec.specs.Tokens.Skips.{stop}
use Rattle.module_spec.specs.Tokens.Next.{Ends, Faults, Gives}
use Rattle.module_spec.specs.Tokens.IsNext.{next}
use Rattle.module_spec.specs.Tokens.Reaches.{begin, go}
use Rattle.module_spec.specs.Tokens.ReadsTokens.{fault}

-- the bracket before so many others
abbrev opening : ℕ → Lexeme
opening left = lexeme (Punctuator OpenRound) (rounds (suc left)) (rounds left)

-- so many brackets that are read, before so many others
abbrev opened : ℕ → ℕ → List Lexeme
opened zero left = []
opened (suc count) left = opening left ∷ opened count (suc left)

innermost_opened : (count left : ℕ) → Innermost (opened count left) (opened count left)
innermost_opened zero left = none same
innermost_opened (suc count) left = bracket same refl

slash : (count left : ℕ) → Slash (opened count left) true
slash zero left = start
slash (suc count) left = token (innermost_opened count (suc left)) refl

depth-opened : (count left : ℕ) → depth (opened count left) ≡ count
depth-opened zero left = refl
depth-opened (suc count) left = let e = depth-opened count (suc left) in omega (arith, e)

unless_deep : (deep : Bool) (sort : Sort) (bytes rest : List ℕ) → deep ≡ false → Gives (lexeme sort bytes rest) rest ≡ unless_refused (if deep then Some TooDeep else None) sort bytes rest
unless_deep true sort bytes rest e = absurd (cc)
unless_deep false sort bytes rest e = refl

where_deep : (deep : Bool) (sort : Sort) (bytes rest : List ℕ) → deep ≡ true → Faults (length bytes) TooDeep ≡ unless_refused (if deep then Some TooDeep else None) sort bytes rest
where_deep true sort bytes rest e = refl
where_deep false sort bytes rest e = absurd (cc)

taken : (top : Option Bracket) (open_count left : ℕ) → (open_count == most_brackets) ≡ false → Gives (opening left) (rounds left) ≡ next_at true top open_count (rounds (suc left))
unfolding name_size piece next_at
taken top open_count left e = unless_deep (open_count == most_brackets) (Punctuator OpenRound) (rounds (suc left)) (rounds left) e

refused : (top : Option Bracket) (open_count left : ℕ) → (open_count == most_brackets) ≡ true → Faults (length (rounds (suc left))) TooDeep ≡ next_at true top open_count (rounds (suc left))
unfolding name_size piece next_at
refused top open_count left e = where_deep (open_count == most_brackets) (Punctuator OpenRound) (rounds (suc left)) (rounds left) e

not_most : (count : ℕ) → count < most_brackets → (count == most_brackets) ≡ false
not_most count below = ne_eqb count most_brackets (λ e. omega arith)

at_bracket : (count left : ℕ) → count < most_brackets → IsNext (opened count (suc left)) (rounds (suc left)) (Gives (opening left) (rounds left))
unfolding blank_rest
at_bracket count left below =
    let deep = depth-opened count (suc left) in
    next (slash count (suc left)) (innermost_opened count (suc left)) (stop refl)
    (taken (opener (opened count (suc left))) (depth (opened count (suc left))) left (subst (λ n. (n == most_brackets) ≡ false) (sym deep) (not_most count below)))

no_hashbang : (count : ℕ) → rounds count ≡ hashbang_rest (rounds count)
no_hashbang zero = refl
no_hashbang (suc zero) = refl
no_hashbang (suc (suc count)) = refl

reached : (text : List ℕ) (count left : ℕ) → text ≡ rounds (count + left) → count ≤ most_brackets → Reaches text (opened count left) (rounds left)
reached text zero left e at_most =
    let same_sum : 0 + left ≡ left = omega arith in
    begin (subst (λ all. rounds left ≡ hashbang_rest all) (sym (e ∙ ap rounds same_sum)) (no_hashbang left))
reached text (suc count) left e at_most =
    let same_sum : suc count + left ≡ count + suc left = omega arith in
    go (reached text count (suc left) (e ∙ ap rounds same_sum) (omega arith)) (at_bracket count left (omega arith))

abbrev unreadable : ℕ → Result (List Token) LexFault
unreadable at = Err (record { at = at; kind = Unreadable })

abbrev deep : ℕ → Result (List Token) LexFault
deep at = Err (record { at = at; kind = TooDeep })

-- the bracket behind as many as may be open
pub one_too_many : (count : ℕ) → count ≡ most_brackets → ReadsTokens (rounds (suc count)) (Err (record { at = count; kind = TooDeep }))
unfolding blank_rest
one_too_many count e =
    let sum : suc count ≡ count + 1 = omega arith in
    let size : length (rounds (suc count)) ≡ suc count = length-replicate (suc count) 40 in
    let place : count ≡ length (rounds (suc count)) - 1 = omega (arith, size) in
    fault (reached (rounds (suc count)) count 1 (ap rounds sum) (omega arith))
    (next (slash count 1) (innermost_opened count 1) (stop refl) (refused (opener (opened count 1)) (depth (opened count 1)) 0 (eq-eqb _ _ (depth-opened count 1 ∙ e))))
    (ap deep place)

unless_open : (closed : Bool) → closed ≡ false → Faults 0 Unreadable ≡ (if closed then Ends else Faults 0 Unreadable)
unless_open true e = absurd (cc)
unless_open false e = refl

left_open : (top : Option Bracket) (open_count : ℕ) → (open_count == 0) ≡ false → Faults 0 Unreadable ≡ next_at true top open_count []
unfolding next_at
left_open top open_count e = unless_open (open_count == 0) e

-- as many as may be open, and the end
pub as_many_as_may : (count : ℕ) → count ≡ most_brackets → ReadsTokens (rounds count) (Err (record { at = count; kind = Unreadable }))
unfolding blank_rest
as_many_as_may count e =
    let sum : count ≡ count + 0 = omega arith in
    let size : length (rounds count) ≡ count = length-replicate count 40 in
    let place : count ≡ length (rounds count) - 0 = omega (arith, size) in
    let counted = depth-opened count 0 in
    fault (reached (rounds count) count 0 (ap rounds sum) (omega arith))
    (next (slash count 0) (innermost_opened count 0) (stop refl) (left_open (opener (opened count 0)) (depth (opened count 0)) (ne_eqb _ _ (λ zero_open. omega (arith, counted)))))
    (ap unreadable place)
