-- A text has one list of tokens or one first fault.
use Rattle.std.specs.Prelude.{drop}
use Rattle.std.proofs.Common.{◌≡◌, ℕ, ◌<◌, List, [], ◌∷◌, Bool, length, Option, Some, None, ◌⊎◌, inl, inr, refl, sym, ◌∙◌, ap, subst, arith}
use Rattle.module_spec.specs.declared.token.Bracket.{Bracket}
use Rattle.module_spec.specs.declared.token.LexKind.{LexKind}
use Rattle.module_spec.specs.Sorts.{opens, closes}
use Rattle.module_spec.specs.Spellings.{hashbang_rest}
use Rattle.module_spec.specs.OutlineReading.{open_brackets, without_closed, innermost}
use Rattle.module_spec.specs.Tokens.{Lexeme, Balanced, Outside, Innermost, opener, depth, plain_word, slash_after, Slash, Next, next_at, Skips, IsNext, Reaches}
use Rattle.module_spec.specs.Laws.{OneTokens, OneReach}
use Rattle.module_spec.proofs.Suffixes.{next_shorter}
use Rattle.module_spec.specs.Tokens.Balanced.{same, neither, closed}
use Rattle.module_spec.specs.Tokens.Outside.{first, later}
use Rattle.module_spec.specs.Tokens.Innermost.{none, bracket}
use Rattle.module_spec.specs.Tokens.Slash.{start, token}
use Rattle.module_spec.specs.Tokens.Next.{Ends, Faults, Gives}
use Rattle.module_spec.specs.Tokens.Skips.{stop, more}
use Rattle.module_spec.specs.Tokens.IsNext.{next}
use Rattle.module_spec.specs.Tokens.Reaches.{begin, go}
use Rattle.module_spec.specs.Tokens.ReadsTokens.{all, fault}

-- ---- the brackets that are open

at_neither : (t : Lexeme) (before : List Lexeme) → opens t.sort ≡ None → closes t.sort ≡ None → open_brackets (t ∷ before) ≡ open_brackets before
at_neither t before o c = rw (o, c) refl

at_closer : (t : Lexeme) (k : Bracket) (before : List Lexeme) → opens t.sort ≡ None → closes t.sort ≡ Some k → open_brackets (t ∷ before) ≡ drop 1 (open_brackets before)
at_closer t k before o c = rw (o, c) refl

at_opener : (o : Lexeme) (k : Bracket) (before : List Lexeme) → opens o.sort ≡ Some k → open_brackets (o ∷ before) ≡ (o ∷ before) ∷ without_closed (closes o.sort) (open_brackets before)
at_opener o k before e = rw e refl

closed_none : (c : Option Bracket) (stack : List (List Lexeme)) → c ≡ None → without_closed c stack ≡ stack
closed_none c stack e = rw e refl

closed_some : (c : Option Bracket) (k : Bracket) (stack : List (List Lexeme)) → c ≡ Some k → without_closed c stack ≡ drop 1 stack
closed_some c k stack e = rw e refl

mutual
  balanced_brackets : (before at : List Lexeme) → Balanced before at → open_brackets before ≡ open_brackets at
  balanced_brackets before at same = refl
  balanced_brackets before at (neither {t} {before = rest} o c b) = at_neither t rest o c ∙ balanced_brackets rest at b
  balanced_brackets before at (closed {t} {o} {k} {before = rest} {inner} {outer} no_open is_closed b is_opened out b2) =
      at_closer t k rest no_open is_closed ∙ (ap (drop 1) (balanced_brackets rest (o ∷ inner) b ∙ at_opener o k inner is_opened) ∙ (outside_brackets o inner outer out ∙ balanced_brackets outer at b2))

  outside_brackets : (o : Lexeme) (inner outer : List Lexeme) → Outside o inner outer → without_closed (closes o.sort) (open_brackets inner) ≡ open_brackets outer
  outside_brackets o inner outer (first e) = closed_none _ _ e
  outside_brackets o inner outer (later {p} {k} {before} e b is_opened out) =
      closed_some _ k _ e ∙ (ap (drop 1) (balanced_brackets inner (p ∷ before) b ∙ at_opener p _ before is_opened) ∙ outside_brackets p before outer out)

pub innermost_top : (before at : List Lexeme) → Innermost before at → innermost (open_brackets before) ≡ at
innermost_top before at (none b) = ap innermost (balanced_brackets before [] b)
innermost_top before at (bracket {o} {k} {at = outer} b e) = ap innermost (balanced_brackets before (o ∷ outer) b ∙ at_opener o k outer e)

-- ---- one step

pub one_innermost : (before some found : List Lexeme) → Innermost before some → Innermost before found → some ≡ found
one_innermost before some found a b = sym (innermost_top before some a) ∙ innermost_top before found b

pub one_slash : (before : List Lexeme) (some other : Bool) → Slash before some → Slash before other → some ≡ other
one_slash before some other start start = refl
one_slash before some other (token {t} {before = rest} {at} i e) (token {at = place} j f) =
    e ∙ (ap (λ at. slash_after t.sort (plain_word (t ∷ rest)) at) (one_innermost rest at place i j) ∙ sym f)

pub one_skip : (bytes some other : List ℕ) → Skips bytes some → Skips bytes other → some ≡ other
one_skip bytes some other (stop e) (stop f) = refl
one_skip bytes some other (stop e) (more f s) = absurd (cc)
one_skip bytes some other (more e s) (stop f) = absurd (cc)
one_skip bytes some other (more {rest} e s) (more {rest = behind} f r) = one_skip rest some other s (let same : behind ≡ rest = cc in subst (λ x. Skips x other) same r)

pub one_next : (before : List Lexeme) (rest : List ℕ) (some other : Next) → IsNext before rest some → IsNext before rest other → some ≡ other
one_next before rest some other (next {at} {bytes} {slash} s i k e) (next {at = place} {bytes = behind} {slash = regex} r j l f) =
    let slashes = one_slash before slash regex s r in
    let places = one_innermost before at place i j in
    let texts = one_skip rest bytes behind k l in
    let same : next_at slash (opener at) (depth before) bytes ≡ next_at regex (opener place) (depth before) behind = rw (slashes, places, texts) refl in
    e ∙ (same ∙ sym f)

-- ---- runs over one text are fronts of each other

pub data Onward : List Lexeme → List ℕ → List Lexeme → List ℕ → Type 0 where
  here : {a : List Lexeme} {r : List ℕ} → Onward a r a r
  on : {t : Lexeme} {a b : List Lexeme} {r s after : List ℕ} → Onward a r b s → IsNext b s (Gives t after) → Onward a r (t ∷ b) after

record Same (a : List Lexeme) (r : List ℕ) (b : List Lexeme) (s : List ℕ) : Type 0 where
  pub lexemes : a ≡ b
  pub rests : r ≡ s

record First (a : List Lexeme) (r : List ℕ) (b : List Lexeme) (s : List ℕ) : Type 0 where
  pub t : Lexeme
  pub after : List ℕ
  pub given : IsNext a r (Gives t after)
  pub then_on : Onward (t ∷ a) after b s

added : {a b : List Lexeme} {r s after : List ℕ} {t : Lexeme} → IsNext b s (Gives t after) → Same a r b s ⊎ First a r b s → Same a r (t ∷ b) after ⊎ First a r (t ∷ b) after
added {a} {b} {r} {s} {after} {t} n (inl e) =
    inr (record { t = t; after = after; given = subst (λ z. IsNext z r (Gives t after)) (sym e.lexemes) (subst (λ z. IsNext b z (Gives t after)) (sym e.rests) n); then_on = subst (λ z. Onward (t ∷ a) after (t ∷ z) after) e.lexemes here })
added n (inr f) = inr (record { t = f.t; after = f.after; given = f.given; then_on = on f.then_on n })

from_front : (a b : List Lexeme) (r s : List ℕ) → Onward a r b s → Same a r b s ⊎ First a r b s
from_front a b r s here = inl (record { lexemes = refl; rests = refl })
from_front a b r s (on {b = c} {s = q} o n) = added n (from_front a c r q o)

from_start : (text : List ℕ) (b : List Lexeme) (r s : List ℕ) → r ≡ hashbang_rest text → Reaches text b s → Onward [] r b s
from_start text b r s e (begin f) = subst (λ z. Onward [] r [] z) (e ∙ sym f) here
from_start text b r s e (go {before} {rest} run n) = on (from_start text before r rest e run) n

stepped : {t u : Lexeme} {a b : List Lexeme} {r s after behind : List ℕ} → IsNext a r (Gives t after) → IsNext a r (Gives u behind) → Onward (u ∷ a) behind b s → Onward (t ∷ a) after b s
stepped {t} {u} {a} {b} {r} {s} {after} {behind} m n o =
    let e = one_next a r (Gives t after) (Gives u behind) m n in
    let f : t ≡ u = cc in
    let g : after ≡ behind = cc in
    subst (λ z. Onward (z ∷ a) after b s) (sym f) (subst (λ z. Onward (u ∷ a) z b s) (sym g) o)

one_more : {t : Lexeme} {a b : List Lexeme} {r s after : List ℕ} → IsNext a r (Gives t after) → Onward a r b s → Same a r b s ⊎ First a r b s → Onward (t ∷ a) after b s ⊎ Onward b s (t ∷ a) after
one_more {t} {a} {b} {r} {s} {after} n o (inl e) = inr (on (subst (λ z. Onward z s a r) e.lexemes (subst (λ z. Onward a z a r) e.rests here)) n)
one_more n o (inr f) = inl (stepped n f.given f.then_on)

one_further : {t : Lexeme} {a b : List Lexeme} {r s after : List ℕ} → IsNext a r (Gives t after) → Onward a r b s ⊎ Onward b s a r → Onward (t ∷ a) after b s ⊎ Onward b s (t ∷ a) after
one_further {t} {a} {b} {r} {s} n (inl o) = one_more n o (from_front a b r s o)
one_further n (inr o) = inr (on o n)

linear : (text : List ℕ) (a b : List Lexeme) (r s : List ℕ) → Reaches text a r → Reaches text b s → Onward a r b s ⊎ Onward b s a r
linear text a b r s (begin e) y = inl (from_start text b r s e y)
linear text a b r s (go {before} {rest} x n) y = one_further n (linear text before b rest s x y)

-- ---- a run that came to an end is the only one

-- the step gives no token
abbrev pub IsLast : Next → Type 0
IsLast out = (t : Lexeme) (after : List ℕ) → out ≡ Gives t after → ⊥

no_further : {a b : List Lexeme} {r s : List ℕ} {out : Next} → IsNext a r out → IsLast out → Same a r b s ⊎ First a r b s → Same a r b s
no_further n last (inl e) = e
no_further {a} {b} {r} {s} {out} n last (inr f) = absurd (last f.t f.after (one_next a r out (Gives f.t f.after) n f.given))

turned : {a b : List Lexeme} {r s : List ℕ} → Same a r b s → Same b s a r
turned e = record { lexemes = sym e.lexemes; rests = sym e.rests }

met : {a b : List Lexeme} {r s : List ℕ} {out end : Next} → IsNext a r out → IsLast out → IsNext b s end → IsLast end → Onward a r b s ⊎ Onward b s a r → Same a r b s
met {a} {b} {r} {s} n last m final (inl o) = no_further n last (from_front a b r s o)
met {a} {b} {r} {s} n last m final (inr o) = turned (no_further m final (from_front b a s r o))

pub record SameEnd (a b : List Lexeme) (out end : Next) : Type 0 where
  pub lexemes : a ≡ b
  pub outs : out ≡ end

pub same_end : (text : List ℕ) (a b : List Lexeme) (r s : List ℕ) (out end : Next) → Reaches text a r → IsNext a r out → IsLast out → Reaches text b s → IsNext b s end → IsLast end → SameEnd a b out end
same_end text a b r s out end x n last y m final =
    let e = met n last m final (linear text a b r s x y) in
    record { lexemes = e.lexemes; outs = one_next a r out end n (subst (λ z. IsNext z r end) (sym e.lexemes) (subst (λ z. IsNext b z end) (sym e.rests) m)) }

pub ends_last : IsLast Ends
ends_last t after e = cc

pub faults_last : (left : ℕ) (kind : LexKind) → IsLast (Faults left kind)
faults_last left kind t after e = cc

pub one_tokens : OneTokens
one_tokens text some found (all {before} {rest} x n e) (all {before = behind} {rest = back} y m f) =
    let same = same_end text before behind rest back Ends Ends x n ends_last y m ends_last in
    let g = same.lexemes in cc
one_tokens text some found (all {before} {rest} x n e) (fault {before = behind} {rest = back} {left} {kind} y m f) =
    let same = same_end text before behind rest back Ends (Faults left kind) x n ends_last y m (faults_last left kind) in
    let g = same.outs in cc
one_tokens text some found (fault {before} {rest} {left} {kind} x n e) (all {before = behind} {rest = back} y m f) =
    let same = same_end text before behind rest back (Faults left kind) Ends x n (faults_last left kind) y m ends_last in
    let g = same.outs in cc
one_tokens text some found (fault {before} {rest} {left} {kind} x n e) (fault {before = behind} {rest = back} {left = size} {kind = why} y m f) =
    let same = same_end text before behind rest back (Faults left kind) (Faults size why) x n (faults_last left kind) y m (faults_last size why) in
    let g = same.outs in
    let lefts : left ≡ size = cc in
    let kinds : kind ≡ why = cc in
    rw (e, f, lefts, kinds) refl

-- ---- and the tokens before a rest are the only ones

shorter : {t : Lexeme} {a b : List Lexeme} {r s after : List ℕ} → length after < length s → Same a r b s ⊎ (length s < length r) → Same a r (t ∷ b) after ⊎ (length after < length r)
shorter {t} {a} {b} {r} {s} {after} l (inl e) = inr (let f : length r ≡ length s = ap length e.rests in omega arith)
shorter l (inr m) = inr (omega arith)

further_is_shorter : {a b : List Lexeme} {r s : List ℕ} → Onward a r b s → Same a r b s ⊎ (length s < length r)
further_is_shorter here = inl (record { lexemes = refl; rests = refl })
further_is_shorter (on {t} {b} {s} {after} o n) = shorter (next_shorter b s after t n) (further_is_shorter o)

same_rest : {a b : List Lexeme} {r : List ℕ} → Same a r b r ⊎ (length r < length r) → a ≡ b
same_rest (inl e) = e.lexemes
same_rest (inr l) = absurd (omega arith)

one_of : {a b : List Lexeme} {r : List ℕ} → Onward a r b r ⊎ Onward b r a r → a ≡ b
one_of (inl o) = same_rest (further_is_shorter o)
one_of (inr o) = sym (same_rest (further_is_shorter o))

pub one_reach : OneReach
one_reach text a b r x y = one_of (linear text a b r r x y)
