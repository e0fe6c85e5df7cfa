-- What one call of the lexer says of the tokens.
use Rattle.std.proofs.Common.{◌≡◌, ◌≤◌, ◌<◌, ◌-◌, ◌+◌, ℕ, Bool, List, [], ◌∷◌, length, take, Option, None, refl, sym, ◌∙◌, ap, subst, arith}
use Rattle.module_spec.specs.declared.token.Bracket.{Bracket}
use Rattle.module_spec.specs.declared.token.LexKind.{LexKind}
use Rattle.module_spec.specs.declared.token.Sort.{Sort}
use Rattle.module_spec.specs.declared.token.Kind.{Kind}
use Rattle.module_spec.specs.Examples.{span}
use Rattle.module_spec.specs.Sorts.{opens, closes, kind_of}
use Rattle.module_spec.specs.Spellings.{hashbang_rest}
use Rattle.module_spec.specs.Tokens.{Lexeme, Skips, Next, next_at, lexeme, refusal, opener, depth, is_property, IsNext, Reaches, most_brackets, fault_of}
use Rattle.module_spec.specs.Tokens.Next.{Ends, Faults, Gives}
use Rattle.module_spec.specs.Tokens.IsNext.{next}
use Rattle.module_spec.specs.Tokens.Reaches.{begin, go}
use Rattle.module_spec.proofs.Suffixes.{at_most, skip_suffix, given_shorter, hashbang_suffix}
use Rattle.std.specs.Str.{IsUtf8}
use Rattle.module_spec.specs.Spans.{IsSpan}
use Rattle.module_spec.proofs.SpanLemmas.{next_stands}
use Rattle.module_spec.proofs.TokenLaws.{one_reach}
use Rattle.es_lexer.specs.declared.state.Open.{Open}
use Rattle.es_lexer.specs.declared.state.Last.{Last}
use Rattle.es_lexer.specs.Open.{top_of, top_bracket, changed, names_property, slash_is_regex}
use Rattle.es_lexer.specs.State.{Follows, IsLexer, no_last}
use Rattle.es_lexer.specs.Steps.{GivesToken}
use Rattle.es_lexer.proofs.Stack.{top, top_opener, state_after, state_at_start}

-- at the start
pub started : (text rest : List ℕ) (last : Last) (stack : List Open) (room : ℕ) → IsUtf8 text → rest ≡ hashbang_rest text → stack ≡ [] → most_brackets ≤ room → last ≡ no_last → IsLexer text rest last stack room
started text rest last stack room u e f l is =
    record {
      utf8 = u;
      before = [];
      reached = begin e;
      state = rw (f, is) state_at_start;
      reserved = l;
      few = rw f (omega arith);
      within = rw e (at_most (hashbang_suffix text));
    }

-- what a call looks at: the bytes behind all space, with the innermost bracket and the number of open ones
pub record Look (text rest bytes : List ℕ) (last : Last) (stack : List Open) (room : ℕ) (inner : Option Bracket) (d : ℕ) : Type 0 where
  pub lexer : IsLexer text rest last stack room
  pub skips : Skips rest bytes
  pub innermost : inner ≡ top_bracket (top_of stack)
  pub deep : d ≡ length stack

pub looked : {text rest bytes : List ℕ} {last : Last} {stack : List Open} {room : ℕ} {top : Option Open} {inner : Option Bracket} (items counted : List Open) → IsLexer text rest last stack room → Skips rest bytes → items ≡ stack → top ≡ top_of items → inner ≡ top_bracket top → counted ≡ stack → Look text rest bytes last stack room inner (length counted)
looked items counted l s e f g h = record { lexer = l; skips = s; innermost = g ∙ ap top_bracket (f ∙ ap top_of e); deep = ap (λ (xs : List Open). length xs) h }

own_step : {text rest bytes : List ℕ} {last : Last} {stack : List Open} {room : ℕ} {inner : Option Bracket} {d : ℕ} {out : Next} (l : Look text rest bytes last stack room inner d) → next_at (slash_is_regex last) inner d bytes ≡ out → IsNext l.lexer.before rest out
own_step {stack} {inner} {d} l e =
    let s = l.lexer.state in
    let at = top l.lexer.before stack s.brackets in
    let opened : inner ≡ opener at.at = l.innermost ∙ top_opener at.kept in
    let deep : d ≡ depth l.lexer.before = l.deep ∙ s.deep in
    next s.slash at.inner l.skips (sym e ∙ rw (opened, deep) refl)

step : {text rest bytes : List ℕ} {last : Last} {stack : List Open} {room : ℕ} {inner : Option Bracket} {d : ℕ} {out : Next} → Look text rest bytes last stack room inner d → next_at (slash_is_regex last) inner d bytes ≡ out → (before : List Lexeme) → Reaches text before rest → IsNext before rest out
step {text} {rest} {out} l e before r = subst (λ b. IsNext b rest out) (one_reach text l.lexer.before before rest l.lexer.reached r) (own_step l e)

pub skip_at_most : {text rest bytes : List ℕ} {last : Last} {stack : List Open} {room : ℕ} {inner : Option Bracket} {d : ℕ} → Look text rest bytes last stack room inner d → length bytes ≤ length text
skip_at_most l = let m = at_most (skip_suffix l.skips) in let w = l.lexer.within in omega arith

pub rest_shorter : {text rest bytes after : List ℕ} {last : Last} {stack : List Open} {room : ℕ} {inner : Option Bracket} {d : ℕ} {t : Lexeme} → Look text rest bytes last stack room inner d → next_at (slash_is_regex last) inner d bytes ≡ Gives t after → length after < length bytes
rest_shorter {bytes} {after} {last} {inner} {d} {t} l e = given_shorter (slash_is_regex last) inner d bytes after t (sym e)

-- the state behind a token
pub behind : {text rest bytes after : List ℕ} {last new : Last} {stack : List Open} {room more : ℕ} {inner : Option Bracket} {d : ℕ} (sort : Sort) (l : Look text rest bytes last stack room inner d) → next_at (slash_is_regex last) inner d bytes ≡ Gives (lexeme sort bytes after) after → refusal (opens sort) (closes sort) inner d ≡ None → room ≤ more → Follows last new (top_of stack) sort (take (length bytes - length after) bytes) → IsLexer text after new (changed (opens sort) (closes sort) last stack) more
behind {bytes} {after} {last} {new} {stack} {d} sort l e r m f =
    let t : Lexeme = lexeme sort bytes after in
    let s = l.lexer.state in
    let g : refusal (opens sort) (closes sort) (top_bracket (top_of stack)) (depth l.lexer.before) ≡ None = rw (← l.innermost, ← s.deep, ← l.deep) r in
    let next = state_after t l.lexer.before last new stack s l.lexer.few g f in
    let shorter = rest_shorter l e in
    let w = skip_at_most l in
    let big = l.lexer.reserved in
    record {
      utf8 = l.lexer.utf8;
      before = t ∷ l.lexer.before;
      reached = go l.lexer.reached (own_step l e);
      state = next.state;
      reserved = omega arith;
      few = next.few;
      within = omega arith;
    }

-- ---- the answers of a call, where the lexer is told as a pair

-- what a number or a flag tells of the tokens that were given
abbrev Tells : {A : Type 0} → List ℕ × List ℕ → A → (List Lexeme → A) → Type 0
Tells now told of = (before : List Lexeme) × Reaches now.0 before now.1 × (told ≡ of before)

pub depth_of : {text rest : List ℕ} (now : List ℕ × List ℕ) {last : Last} {stack : List Open} {room : ℕ} (items : List Open) → (text, rest) ≡ now → IsLexer text rest last stack room → items ≡ stack → Tells now (length items) depth
depth_of now items e l f = subst (λ (p : List ℕ × List ℕ). Tells p (length items) depth) e (l.before, l.reached, ap (λ (xs : List Open). length xs) f ∙ l.state.deep)

pub property_of : {text rest : List ℕ} (now : List ℕ × List ℕ) {last : Last} {stack : List Open} {room : ℕ} {told : Bool} → (text, rest) ≡ now → IsLexer text rest last stack room → told ≡ names_property last → Tells now told is_property
property_of now {told} e l f = subst (λ (p : List ℕ × List ℕ). Tells p told is_property) e (l.before, l.reached, f ∙ l.state.property)

pub stood : {text rest : List ℕ} (now : List ℕ × List ℕ) {last : Last} {stack : List Open} {room : ℕ} → (text, rest) ≡ now → IsLexer text rest last stack room → (before : List Lexeme) × Reaches now.0 before now.1
stood now e l = subst (λ (p : List ℕ × List ℕ). (before : List Lexeme) × Reaches p.0 before p.1) e (l.before, l.reached)

pub faulted : {text rest bytes : List ℕ} (now : List ℕ × List ℕ) {last : Last} {stack : List Open} {room : ℕ} {inner : Option Bracket} {d : ℕ} (kind : LexKind) → (text, rest) ≡ now → Look text rest bytes last stack room inner d → next_at (slash_is_regex last) inner d bytes ≡ Faults (length bytes) kind
    → (before : List Lexeme) → Reaches now.0 before now.1 → (left : ℕ) × IsNext before now.1 (Faults left kind) × (fault_of (length text) (length bytes) kind ≡ fault_of (length now.0) left kind) × (now.1 ≡ now.1)
faulted {text} {bytes} now kind e l f =
    subst (λ (p : List ℕ × List ℕ). (before : List Lexeme) → Reaches p.0 before p.1 → (left : ℕ) × IsNext before p.1 (Faults left kind) × (fault_of (length text) (length bytes) kind ≡ fault_of (length p.0) left kind) × (p.1 ≡ p.1)) e
    (λ before r. (length bytes, step l f before r, refl, refl))

pub ended : {text rest bytes : List ℕ} (now : List ℕ × List ℕ) {last : Last} {stack : List Open} {room : ℕ} {inner : Option Bracket} {d : ℕ} → (text, rest) ≡ now → Look text rest bytes last stack room inner d → next_at (slash_is_regex last) inner d bytes ≡ Ends
    → (before : List Lexeme) → Reaches now.0 before now.1 → IsNext before now.1 Ends × (now.1 ≡ now.1)
ended now e l f = subst (λ (p : List ℕ × List ℕ). (before : List Lexeme) → Reaches p.0 before p.1 → IsNext before p.1 Ends × (p.1 ≡ p.1)) e (λ before r. (step l f before r, refl))

pub given : {text rest bytes after : List ℕ} (now : List ℕ × List ℕ) {last : Last} {stack : List Open} {room : ℕ} {inner : Option Bracket} {d : ℕ} (sort : Sort) (kind : Kind) → (text, rest) ≡ now → Look text rest bytes last stack room inner d → next_at (slash_is_regex last) inner d bytes ≡ Gives (lexeme sort bytes after) after → kind ≡ kind_of sort
    → (before : List Lexeme) → Reaches now.0 before now.1 → GivesToken now.0 before now.1 (span kind (length text - length bytes) (length text - length bytes + length (take (length bytes - length after) bytes))) after
given {text} {rest} {bytes} {after} now sort kind e l f g =
    subst (λ (p : List ℕ × List ℕ). (before : List Lexeme) → Reaches p.0 before p.1 → GivesToken p.0 before p.1 (span kind (length text - length bytes) (length text - length bytes + length (take (length bytes - length after) bytes))) after) e
    (λ before r. record { lexeme = lexeme sort bytes after; next = step l f before r; told = rw g refl; slice = (next_stands text l.lexer.utf8 before rest after (lexeme sort bytes after) r (step l f before r)).slice })

pub spanned : {text rest bytes after : List ℕ} (now : List ℕ × List ℕ) {last : Last} {stack : List Open} {room : ℕ} {inner : Option Bracket} {d : ℕ} (sort : Sort) (kind : Kind) → (text, rest) ≡ now → Look text rest bytes last stack room inner d → next_at (slash_is_regex last) inner d bytes ≡ Gives (lexeme sort bytes after) after
    → IsSpan now.0 (span kind (length text - length bytes) (length text - length bytes + length (take (length bytes - length after) bytes)))
spanned {text} {rest} {bytes} {after} now sort kind e l f =
    let stands = next_stands text l.lexer.utf8 l.lexer.before rest after (lexeme sort bytes after) l.lexer.reached (own_step l f) in
    subst (λ (p : List ℕ × List ℕ). IsSpan p.0 (span kind (length text - length bytes) (length text - length bytes + length (take (length bytes - length after) bytes)))) e
    (record { some = stands.span.some; begins = stands.span.begins; ends = stands.span.ends })
