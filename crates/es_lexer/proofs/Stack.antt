-- One more token: what is kept agrees with the tokens again.
use Rattle.std.proofs.Common.{◌≡◌, ◌≢◌, ◌≤◌, ◌+◌, ◌-◌, ◌==◌, ℕ, Bool, true, false, not, if◌then◌else◌, List, [], ◌∷◌, ◌++◌, length, take, Option, Some, None, refl, sym, ◌∙◌, ap, subst, arith}
use Rattle.std.proofs.lemmas.List.{length_push, length-take-le}
use Rattle.std.proofs.lemmas.Bool.{eqb-false}
use Rattle.module_spec.specs.declared.token.Bracket as brackets
use Rattle.module_spec.specs.declared.token.Bracket.TheVariants as bracket
use Rattle.module_spec.specs.declared.token.Mark.{Mark}
use Rattle.module_spec.specs.declared.token.Mark.TheVariants.{OpenRound, OpenSquare, OpenCurly, CloseRound, CloseSquare, CloseCurly, Dot, Step, Stop, Operator}
use Rattle.module_spec.specs.declared.token.Sort.{Sort}
use Rattle.module_spec.specs.declared.token.Sort.TheVariants.{Name, Private, Number, Text, TemplateWhole, TemplateHead, TemplateMiddle, TemplateTail, Regex, Punctuator}
use Rattle.module_spec.specs.declared.token.Word.{Word}
use Rattle.module_spec.specs.declared.token.Word.TheVariants.{Condition, For, Await, Of, Value, Statement, Other}
use Rattle.module_spec.specs.declared.token.LexKind.TheVariants.{TooDeep}
use Rattle.module_spec.specs.Sorts.{opens, closes, is_dot, sort_before_value}
use Rattle.module_spec.specs.Tokens.{Lexeme, Balanced, Innermost, depth, opener, plain_word, name_word, refusal, slash_after, slash_after_mark, slash_after_word, in_for, closed_round, closed_curly, most_brackets}
use Rattle.module_spec.specs.Tokens.Balanced.{same, neither, closed}
use Rattle.module_spec.specs.Tokens.Outside.{first, later}
use Rattle.module_spec.specs.Tokens.Innermost.{none, bracket as innermost}
use Rattle.module_spec.specs.Tokens.Slash.{start, token}
use Rattle.module_spec.proofs.BracketLaws.{closes_innermost}
use Rattle.es_lexer.specs.declared.state.Open.{Open}
use Rattle.es_lexer.specs.declared.state.Open.TheVariants.{Round, Square, Curly, Template}
use Rattle.es_lexer.specs.declared.state.Last.{Last}
use Rattle.es_lexer.specs.Open.{bracket_of, top_of, top_bracket, opened, changed, is_control, is_block, is_for_head, slash_behind, slash_behind_mark, slash_behind_word, sort_around, mark_around, word_around}
use Rattle.es_lexer.specs.State.{Facts, Follows, IsStack, State, no_last}
use Rattle.es_lexer.specs.State.IsStack.{empty, inside}
use Rattle.es_lexer.proofs.Tops.{top_of_more, front_of}

-- ---- the innermost bracket

-- what is kept of the innermost bracket, by the tokens up to it
pub data IsTop : Option Open → List Lexeme → Type 0 where
  no_top : IsTop None []
  a_top : {o : Lexeme} {inner : List Lexeme} (x : Open) → opens o.sort ≡ Some (bracket_of x) → Facts x inner → IsTop (Some x) (o ∷ inner)

pub record Top (before : List Lexeme) (stack : List Open) : Type 0 where
  pub at : List Lexeme
  pub inner : Innermost before at
  pub kept : IsTop (top_of stack) at

pub top : (before : List Lexeme) (stack : List Open) → IsStack before stack → Top before stack
top before stack (empty b) = record { at = []; inner = none b; kept = no_top }
top before stack (inside {o} {inner} x front b e facts out below split) =
    record { at = o ∷ inner; inner = innermost b e; kept = subst (λ s. IsTop (top_of s) (o ∷ inner)) (sym split) (subst (λ t. IsTop t (o ∷ inner)) (sym (top_of_more front x)) (a_top x e facts)) }

pub top_opener : {t : Option Open} {at : List Lexeme} → IsTop t at → top_bracket t ≡ opener at
top_opener no_top = refl
top_opener (a_top x e facts) = sym e

-- ---- the slash

abbrev Allowed : Sort → List Lexeme → Type 0
Allowed sort at = (k : brackets.Bracket) → closes sort ≡ Some k → opener at ≡ Some k

control_kept : {t : Option Open} {at : List Lexeme} → IsTop t at → opener at ≡ Some bracket.Round → is_control t ≡ closed_round at
control_kept no_top f = refl
control_kept (a_top (Round control head) e facts) f = facts.0
control_kept (a_top Square e facts) f = absurd (cc)
control_kept (a_top (Curly value) e facts) f = absurd (cc)
control_kept (a_top Template e facts) f = absurd (cc)

block_kept : {t : Option Open} {at : List Lexeme} → IsTop t at → opener at ≡ Some bracket.Curly → is_block t ≡ closed_curly at
block_kept no_top f = absurd (cc)
block_kept (a_top (Round control head) e facts) f = absurd (cc)
block_kept (a_top Square e facts) f = absurd (cc)
block_kept (a_top (Curly value) e facts) f = ap not facts
block_kept (a_top Template e facts) f = absurd (cc)

for_kept : {t : Option Open} {at : List Lexeme} → IsTop t at → is_for_head t ≡ in_for at
for_kept no_top = refl
for_kept (a_top (Round control head) e facts) = rw e facts.1
for_kept (a_top Square e facts) = rw e refl
for_kept (a_top (Curly value) e facts) = rw e refl
for_kept (a_top Template e facts) = rw e refl

word_kept : {t : Option Open} {at : List Lexeme} (w : Word) → IsTop t at → slash_behind_word w (word_around w t) ≡ slash_after_word w at
word_kept Condition i = refl
word_kept For i = refl
word_kept Await i = refl
word_kept Of i = for_kept i
word_kept Value i = refl
word_kept Statement i = refl
word_kept Other i = refl

mark_kept : {t : Option Open} {at : List Lexeme} (mark : Mark) → IsTop t at → Allowed (Punctuator mark) at → slash_behind_mark mark (mark_around mark t) ≡ slash_after_mark mark at
mark_kept OpenRound i a = refl
mark_kept OpenSquare i a = refl
mark_kept OpenCurly i a = refl
mark_kept CloseRound i a = control_kept i (a bracket.Round refl)
mark_kept CloseSquare i a = refl
mark_kept CloseCurly i a = block_kept i (a bracket.Curly refl)
mark_kept Dot i a = refl
mark_kept Step i a = refl
mark_kept Stop i a = refl
mark_kept Operator i a = refl

slash_kept : {t : Option Open} {at : List Lexeme} (sort : Sort) (w : Word) → IsTop t at → Allowed sort at → slash_behind sort w (sort_around sort w t) ≡ slash_after sort w at
slash_kept Name w i a = word_kept w i
slash_kept Private w i a = refl
slash_kept Number w i a = refl
slash_kept Text w i a = refl
slash_kept TemplateWhole w i a = refl
slash_kept TemplateHead w i a = refl
slash_kept TemplateMiddle w i a = refl
slash_kept TemplateTail w i a = refl
slash_kept Regex w i a = refl
slash_kept (Punctuator mark) w i a = mark_kept mark i a

-- ---- what is not refused

below : (d : ℕ) (c : Bool) → (d == most_brackets) ≡ c → (if c then Some TooDeep else None) ≡ None → d ≢ most_brackets
below d true e f = absurd (cc)
below d false e f = eqb-false d most_brackets e

pub has_room : (k : brackets.Bracket) (inner : Option brackets.Bracket) (d : ℕ) → refusal (Some k) None inner d ≡ None → d ≢ most_brackets
has_room k inner d e = below d (d == most_brackets) refl e

-- ---- the brackets

outward : {outer before : List Lexeme} {stack : List Open} → ((at : List Lexeme) → Balanced outer at → Balanced before at) → IsStack outer stack → IsStack before stack
outward onto (empty b) = empty (onto [] b)
outward onto (inside {o} {inner} x front b e facts out below split) = inside x front (onto (o ∷ inner) b) e facts out below split

stays : (t : Lexeme) {before : List Lexeme} {stack : List Open} → opens t.sort ≡ None → closes t.sort ≡ None → IsStack before stack → IsStack (t ∷ before) stack
stays t o c s = outward (λ at b. neither o c b) s

grows : (t : Lexeme) (x : Open) {before : List Lexeme} {stack : List Open} → opens t.sort ≡ Some (bracket_of x) → closes t.sort ≡ None → Facts x before → IsStack before stack → IsStack (t ∷ before) (stack ++ x ∷ [])
grows t x {before} {stack} o c facts s = inside x stack same o facts (first c) s refl

shrinks : (t : Lexeme) (k : brackets.Bracket) {before : List Lexeme} {stack : List Open} → opens t.sort ≡ None → closes t.sort ≡ Some k → IsStack before stack → top_bracket (top_of stack) ≡ Some k → IsStack (t ∷ before) (take (length stack - 1) stack)
shrinks t k o c (empty b) e = absurd (cc)
shrinks t k {before} {stack} o c (inside {o = opener} {inner} {outer} x front b f facts out below split) e =
    let kinds : Some (bracket_of x) ≡ Some k = sym (ap top_bracket (top_of_more front x)) ∙ (sym (ap (λ s. top_bracket (top_of s)) split) ∙ e) in
    subst (λ s. IsStack (t ∷ before) s) (sym (ap (λ s. take (length s - 1) s) split ∙ front_of front x)) (outward (λ at balanced. closed o c b (f ∙ kinds) out balanced) below)

of_template : (before : List Lexeme) (x : Open) → Some (bracket_of x) ≡ Some bracket.Template → Facts x before
of_template before (Round control head) e = absurd (cc)
of_template before Square e = absurd (cc)
of_template before (Curly value) e = absurd (cc)
of_template before Template e = tt

passes : (t : Lexeme) {before : List Lexeme} {stack : List Open} → opens t.sort ≡ Some bracket.Template → closes t.sort ≡ Some bracket.Template → IsStack before stack → top_bracket (top_of stack) ≡ Some bracket.Template → IsStack (t ∷ before) stack
passes t o c (empty b) e = absurd (cc)
passes t {before} {stack} o c (inside {o = opener} {inner} {outer} x front b f facts out below split) e =
    let kinds : Some (bracket_of x) ≡ Some bracket.Template = sym (ap top_bracket (top_of_more front x)) ∙ (sym (ap (λ s. top_bracket (top_of s)) split) ∙ e) in
    inside x front same (o ∙ sym kinds) (of_template before x kinds) (later c b (f ∙ kinds) out) below split

-- what a new bracket keeps
opened_bracket : (k : brackets.Bracket) (last : Last) → bracket_of (opened k last) ≡ k
opened_bracket bracket.Round last = refl
opened_bracket bracket.Square last = refl
opened_bracket bracket.Curly last = refl
opened_bracket bracket.Template last = refl

opened_facts : (k : brackets.Bracket) {before : List Lexeme} {last : Last} {stack : List Open} → State before last stack → Facts (opened k last) before
opened_facts bracket.Round s = (rw (s.word, s.for_head) refl, s.for_head)
opened_facts bracket.Square s = tt
opened_facts bracket.Curly s = s.value
opened_facts bracket.Template s = tt

-- a token that opens and closes is a template's part
is_middle : (sort : Sort) (k l : brackets.Bracket) → opens sort ≡ Some k → closes sort ≡ Some l → (k ≡ bracket.Template) × (l ≡ bracket.Template)
is_middle Name k l o c = absurd (cc)
is_middle Private k l o c = absurd (cc)
is_middle Number k l o c = absurd (cc)
is_middle Text k l o c = absurd (cc)
is_middle TemplateWhole k l o c = absurd (cc)
is_middle TemplateHead k l o c = absurd (cc)
is_middle TemplateMiddle k l o c = (cc, cc)
is_middle TemplateTail k l o c = absurd (cc)
is_middle Regex k l o c = absurd (cc)
is_middle (Punctuator OpenRound) k l o c = absurd (cc)
is_middle (Punctuator OpenSquare) k l o c = absurd (cc)
is_middle (Punctuator OpenCurly) k l o c = absurd (cc)
is_middle (Punctuator CloseRound) k l o c = absurd (cc)
is_middle (Punctuator CloseSquare) k l o c = absurd (cc)
is_middle (Punctuator CloseCurly) k l o c = absurd (cc)
is_middle (Punctuator Dot) k l o c = absurd (cc)
is_middle (Punctuator Step) k l o c = absurd (cc)
is_middle (Punctuator Stop) k l o c = absurd (cc)
is_middle (Punctuator Operator) k l o c = absurd (cc)

-- the stack after one token
record Changed (t : Lexeme) (before : List Lexeme) (stack : List Open) : Type 0 where
  pub brackets : IsStack (t ∷ before) stack
  pub deep : length stack ≡ depth (t ∷ before)
  pub few : length stack ≤ most_brackets

deep_neither : (t : Lexeme) (before : List Lexeme) → opens t.sort ≡ None → closes t.sort ≡ None → depth (t ∷ before) ≡ depth before
deep_neither t before o c = rw (o, c) (omega arith)

deep_opener : (t : Lexeme) (before : List Lexeme) (k : brackets.Bracket) → opens t.sort ≡ Some k → closes t.sort ≡ None → depth (t ∷ before) ≡ depth before + 1
deep_opener t before k o c = rw (o, c) (omega arith)

deep_closer : (t : Lexeme) (before : List Lexeme) (k : brackets.Bracket) → opens t.sort ≡ None → closes t.sort ≡ Some k → depth (t ∷ before) ≡ depth before - 1
deep_closer t before k o c = rw (o, c) (omega arith)

deep_both : (t : Lexeme) (before : List Lexeme) (k l : brackets.Bracket) → opens t.sort ≡ Some k → closes t.sort ≡ Some l → depth (t ∷ before) ≡ depth before
deep_both t before k l o c = rw (o, c) (omega arith)

changed_by : (t : Lexeme) (before : List Lexeme) (last : Last) (stack : List Open) (o c : Option brackets.Bracket) → opens t.sort ≡ o → closes t.sort ≡ c → State before last stack → length stack ≤ most_brackets → refusal o c (top_bracket (top_of stack)) (depth before) ≡ None → Changed t before (changed o c last stack)
changed_by t before last stack None None e f s l r = record { brackets = stays t e f s.brackets; deep = s.deep ∙ sym (deep_neither t before e f); few = l }
changed_by t before last stack (Some k) None e f s l r =
    let x : Open = opened k last in
    let d = has_room k (top_bracket (top_of stack)) (depth before) r in
    let g = s.deep in
    record {
      brackets = grows t x (e ∙ ap (λ b. Some b) (sym (opened_bracket k last))) f (opened_facts k s) s.brackets;
      deep = length_push stack x ∙ (ap (λ n. n + 1) s.deep ∙ sym (deep_opener t before k e f));
      few = omega (arith, length_push stack x);
    }
changed_by t before last stack None (Some k) e f s l r =
    let a = closes_innermost None (Some k) (top_bracket (top_of stack)) (depth before) k r refl in
    record {
      brackets = shrinks t k e f s.brackets a;
      deep = length-take-le (length stack - 1) stack (omega arith) ∙ (ap (λ n. n - 1) s.deep ∙ sym (deep_closer t before k e f));
      few = omega (arith, length-take-le (length stack - 1) stack (omega arith));
    }
changed_by t before last stack (Some k) (Some l) e f s few r =
    let a = closes_innermost (Some k) (Some l) (top_bracket (top_of stack)) (depth before) l r refl in
    let m = is_middle t.sort k l e f in
    record {
      brackets = passes t (e ∙ ap (λ b. Some b) m.0) (f ∙ ap (λ b. Some b) m.1) s.brackets (a ∙ ap (λ b. Some b) m.1);
      deep = s.deep ∙ sym (deep_both t before k l e f);
      few = few;
    }

pub record After (t : Lexeme) (before : List Lexeme) (next : Last) (stack : List Open) : Type 0 where
  pub state : State (t ∷ before) next stack
  pub few : length stack ≤ most_brackets

pub state_after : (t : Lexeme) (before : List Lexeme) (last next : Last) (stack : List Open) → State before last stack → length stack ≤ most_brackets → refusal (opens t.sort) (closes t.sort) (top_bracket (top_of stack)) (depth before) ≡ None → Follows last next (top_of stack) t.sort t.text → After t before next (changed (opens t.sort) (closes t.sort) last stack)
state_after t before last next stack s l r f =
    let here = changed_by t before last stack (opens t.sort) (closes t.sort) refl refl s l r in
    let inner = top before stack s.brackets in
    let words : next.word ≡ plain_word (t ∷ before) = f.word ∙ ap (λ p. if p then Other else name_word t.sort t.text) s.property in
    let may : Allowed t.sort inner.at = λ k e. sym (top_opener inner.kept) ∙ closes_innermost (opens t.sort) (closes t.sort) (top_bracket (top_of stack)) (depth before) k r e in
    record {
      state = record {
        word = words;
        property = ap (λ sort. is_dot sort) f.same;
        for_head = f.for_head ∙ rw (words, s.word) refl;
        value = ap (λ sort. sort_before_value sort next.word) f.same ∙ ap (λ w. sort_before_value t.sort w) words;
        slash = token inner.inner (ap (λ sort. slash_behind sort next.word next.around) f.same ∙ (ap (λ o. slash_behind t.sort next.word o) f.around ∙ (slash_kept t.sort next.word inner.kept may ∙ ap (λ w. slash_after t.sort w inner.at) words)));
        brackets = here.brackets;
        deep = here.deep;
      };
      few = here.few;
    }

-- at the start
pub state_at_start : State [] no_last []
state_at_start = record { word = refl; property = refl; for_head = refl; value = refl; slash = start; brackets = empty same; deep = refl }
