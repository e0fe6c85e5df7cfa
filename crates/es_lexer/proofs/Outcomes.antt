-- Each text has an outcome: a reader that keeps a stack has one.
use Rattle.std.proofs.Common.{◌≡◌, ◌≤◌, ◌<◌, ◌==◌, ◌||◌, ◌&&◌, ℕ, zero, suc, Bool, true, false, if◌then◌else◌, List, [], ◌∷◌, length, map, reverse, Option, Some, None, Result, Ok, Err, refl, ap, arith}
use Rattle.module_spec.specs.declared.token.Bracket.{Bracket}
use Rattle.module_spec.specs.declared.token.LexKind.{LexKind}
use Rattle.module_spec.specs.declared.token.LexKind.TheVariants.{Unreadable}
use Rattle.module_spec.specs.declared.token.Token.{Token}
use Rattle.module_spec.specs.declared.token.LexFault.{LexFault}
use Rattle.module_spec.specs.declared.token.Sort.{Sort}
use Rattle.module_spec.specs.declared.token.Word.{Word}
use Rattle.module_spec.specs.declared.token.Word.TheVariants.{Other}
use Rattle.module_spec.specs.Sorts.{opens, closes, is_for, is_await}
use Rattle.module_spec.specs.Spellings.{blank_rest, hashbang_rest}
use Rattle.module_spec.specs.Tokens.{Piece, piece, Lexeme, lexeme, name_word, Next, next_from, next_at, unless_refused, refusal, is_template, depth, Skips, IsNext, Reaches, ReadsTokens, token_of, fault_of, most_brackets}
use Rattle.module_spec.specs.Tokens.Next.{Ends, Faults, Gives}
use Rattle.module_spec.specs.Tokens.Skips.{stop, more}
use Rattle.module_spec.specs.Tokens.IsNext.{next}
use Rattle.module_spec.specs.Tokens.Reaches.{begin, go}
use Rattle.module_spec.specs.Tokens.ReadsTokens.{all, fault}
use Rattle.module_spec.proofs.Suffixes.{blank_shorter, next_shorter}
use Rattle.es_lexer.specs.declared.state.Open.{Open}
use Rattle.es_lexer.specs.declared.state.Last.{Last}
use Rattle.es_lexer.specs.Open.{top_of, top_bracket, changed, names_property, slash_is_regex, sort_around}
use Rattle.es_lexer.specs.State.{Follows, State, no_last}
use Rattle.es_lexer.specs.Outcomes.{SomeTokens}
use Rattle.es_lexer.proofs.Stack.{top, top_opener, state_after, state_at_start}

-- ---- white space

record Skipped (bytes : List ℕ) : Type 0 where
  pub end : List ℕ
  pub skips : Skips bytes end

data IsBlank (bytes : List ℕ) : Option (List ℕ) → Type 0 where
  none_left : blank_rest bytes ≡ None → IsBlank bytes None
  one_left : {rest : List ℕ} → blank_rest bytes ≡ Some rest → IsBlank bytes (Some rest)

is_blank : (bytes : List ℕ) (out : Option (List ℕ)) → blank_rest bytes ≡ out → IsBlank bytes out
is_blank bytes None e = none_left e
is_blank bytes (Some rest) e = one_left e

skipped_by : (n : ℕ) (bytes : List ℕ) → length bytes < suc n → ((rest : List ℕ) → length rest < n → Skipped rest) → {out : Option (List ℕ)} → IsBlank bytes out → Skipped bytes
skipped_by n bytes l further (none_left e) = record { end = bytes; skips = stop e }
skipped_by n bytes l further (one_left {rest} e) = let m = blank_shorter bytes rest e in let there = further rest (omega arith) in record { end = there.end; skips = more e there.skips }

skipped : (n : ℕ) (bytes : List ℕ) → length bytes < n → Skipped bytes
skipped zero bytes l = absurd (omega arith)
skipped (suc n) bytes l = skipped_by n bytes l (λ rest m. skipped n rest m) (is_blank bytes (blank_rest bytes) refl)

-- ---- one step

data Seen (inner : Option Bracket) (d : ℕ) (bytes : List ℕ) : Next → Type 0 where
  sees_end : Seen inner d bytes Ends
  sees_fault : (left : ℕ) (kind : LexKind) → Seen inner d bytes (Faults left kind)
  sees_token : (sort : Sort) (after : List ℕ) → refusal (opens sort) (closes sort) inner d ≡ None → Seen inner d bytes (Gives (lexeme sort bytes after) after)

seen_unless : (inner : Option Bracket) (d : ℕ) (bytes : List ℕ) (refused : Option LexKind) (sort : Sort) (rest : List ℕ) → refusal (opens sort) (closes sort) inner d ≡ refused → Seen inner d bytes (unless_refused refused sort bytes rest)
seen_unless inner d bytes None sort rest e = sees_token sort rest e
seen_unless inner d bytes (Some kind) sort rest e = sees_fault (length bytes) kind

seen_from : (inner : Option Bracket) (d : ℕ) (bytes : List ℕ) (found : Piece) → Seen inner d bytes (next_from inner d bytes found)
seen_from inner d bytes None = sees_fault (length bytes) Unreadable
seen_from inner d bytes (Some found) = seen_unless inner d bytes (refusal (opens found.0) (closes found.0) inner d) found.0 found.1 refl

seen_end : (inner : Option Bracket) (d : ℕ) (c : Bool) → Seen inner d [] (if c then Ends else Faults 0 Unreadable)
seen_end inner d true = sees_end
seen_end inner d false = sees_fault 0 Unreadable

seen : (slash : Bool) (inner : Option Bracket) (d : ℕ) (bytes : List ℕ) → Seen inner d bytes (next_at slash inner d bytes)
unfolding next_at
seen slash inner d [] = seen_end inner d (d == 0)
seen slash inner d (b ∷ rest) = seen_from inner d (b ∷ rest) (piece slash (is_template inner) (b ∷ rest))

-- what is kept behind one more token
abbrev next_word : Last → Sort → List ℕ → Word
next_word last sort text = if names_property last then Other else name_word sort text

abbrev followed : Last → Option Open → Sort → List ℕ → Last
followed last t sort text = record {
  sort = sort;
  word = next_word last sort text;
  for_head = is_for (next_word last sort text) || is_await (next_word last sort text) && is_for last.word;
  around = sort_around sort (next_word last sort text) t;
}

-- ---- the whole text

record Outcome (text : List ℕ) : Type 0 where
  pub outcome : Result (List Token) LexFault
  pub reads : ReadsTokens text outcome

record Reader (text : List ℕ) (before : List Lexeme) (rest : List ℕ) (last : Last) (stack : List Open) : Type 0 where
  pub reached : Reaches text before rest
  pub state : State before last stack
  pub few : length stack ≤ most_brackets

-- reading goes on from every shorter rest
abbrev Further : ℕ → List ℕ → Type 0
Further n text = (before : List Lexeme) (rest : List ℕ) (last : Last) (stack : List Open) → length rest < n → Reader text before rest last stack → Outcome text

read_by : (n : ℕ) (text : List ℕ) (before : List Lexeme) (rest : List ℕ) (last : Last) (stack : List Open) (bytes : List ℕ) → length rest < suc n → Reader text before rest last stack → Further n text → (out : Next) → IsNext before rest out → Seen (top_bracket (top_of stack)) (depth before) bytes out → Outcome text
read_by n text before rest last stack bytes l r further out i sees_end = record { outcome = Ok (reverse (map (token_of (length text)) before)); reads = all r.reached i refl }
read_by n text before rest last stack bytes l r further out i (sees_fault left kind) = record { outcome = Err (fault_of (length text) left kind); reads = fault r.reached i refl }
read_by n text before rest last stack bytes l r further out i (sees_token sort after e) =
    let t : Lexeme = lexeme sort bytes after in
    let new : Last = followed last (top_of stack) sort t.text in
    let follows : Follows last new (top_of stack) sort t.text = record { same = refl; word = refl; for_head = refl; around = refl } in
    let later = state_after t before last new stack r.state r.few e follows in
    let m = next_shorter before rest after t i in
    further (t ∷ before) after new (changed (opens sort) (closes sort) last stack) (omega arith) (record { reached = go r.reached i; state = later.state; few = later.few })

read : (n : ℕ) (text : List ℕ) → Further n text
read zero text before rest last stack l r = absurd (omega arith)
read (suc n) text before rest last stack l r =
    let s = skipped (suc (length rest)) rest (omega arith) in
    let at = top before stack r.state.brackets in
    let out : Next = next_at (slash_is_regex last) (top_bracket (top_of stack)) (depth before) s.end in
    let comes : IsNext before rest out = next r.state.slash at.inner s.skips (ap (λ (k : Option Bracket). next_at (slash_is_regex last) k (depth before) s.end) (top_opener at.kept)) in
    read_by n text before rest last stack s.end l r (λ b x y z m w. read n text b x y z m w) out comes (seen (slash_is_regex last) (top_bracket (top_of stack)) (depth before) s.end)

pub some_tokens : SomeTokens
some_tokens text =
    let rest = hashbang_rest text in
    let out = read (suc (length rest)) text [] rest no_last [] (omega arith) (record { reached = begin refl; state = state_at_start; few = omega arith }) in
    (out.outcome, out.reads)
