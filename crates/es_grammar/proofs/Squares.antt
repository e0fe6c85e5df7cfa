-- A `]` begins no expression.
use Rattle.std.proofs.Common.{◌≡◌, ◌<◌, ◌&&◌, ◌==◌, ℕ, suc, Bool, true, false, codes, List, Option, Some, None, bytes_eq, refl, ◌∙◌, ap, arith}
use Rattle.std.specs.List.{slice_get}
use Rattle.std.proofs.lemmas.Slice.Eq.{bytes_eq-Decides}
use Rattle.module_spec.specs.declared.token.Kind as kinds
use Rattle.module_spec.specs.declared.token.Kind.TheVariants as kind
use Rattle.grammar_spec.specs.declared.names.Context.{Context}
use Rattle.grammar_spec.specs.declared.names.Rule.TheVariants.{Function, Class, Template, Primary, Left, Unary, Bin, Cond, Assign}
use Rattle.grammar_spec.specs.declared.names.Guard.TheVariants as guard
use Rattle.grammar_spec.specs.Sights.{Sight, there, at_place, code_of, is_kind, is_word, is_ident, is_quoted, passes, holds}
use Rattle.grammar_spec.specs.Forms.{quoted, rule}
use Rattle.grammar_spec.specs.Statements.{body}
use Rattle.grammar_spec.specs.Readings.{most_open}
use Rattle.es_grammar.specs.Turning.{Absent}
use Rattle.es_grammar.specs.Turning.Absent.{no_word, no_one, no_guard, no_first, no_maybe, no_many, no_choice, no_rule, no_nested}

abbrev square : ℕ → Bool → ℕ → ℕ → Sight
square from line depth behind =
    record { kind = kind.Punctuator; text = codes "]"; from = from; line = line; depth = depth; behind = behind }

module _ (tokens : List Sight) (at from : ℕ) (line : Bool) (depth behind : ℕ) (e : slice_get tokens at ≡ Some (square from line depth behind)) where
  isnt : (is : Sight → Bool) → is (square from line depth behind) ≡ false → at_place is tokens at ≡ false
  isnt is f = ap (there is) e ∙ f

  no : {c : Context} (word : List ℕ) → is_word word (square from line depth behind) ≡ false → Absent tokens c at (quoted word)
  no word f = no_word (isnt (is_word word) f)

  no_arrow : holds guard.Arrow tokens at ≡ false
  unfolding holds
  no_arrow = rw e refl

  no_async_arrow : holds guard.AsyncArrow tokens at ≡ false
  unfolding holds
  no_async_arrow = rw e refl

  no_async : holds guard.AsyncFunction tokens at ≡ false
  unfolding holds
  no_async = rw e refl

  no_private : holds guard.PrivateIn tokens at ≡ false
  unfolding holds
  no_private = rw e refl

  no_new : holds guard.NewOperator tokens at ≡ false
  unfolding holds
  no_new = rw e refl

  no_function : {c : Context} → Absent tokens c at (body Function)
  unfolding body
  no_function = no_maybe (no_first (no_guard no_async)) (no_first (no (codes "function") refl))

  no_class : {c : Context} → Absent tokens c at (body Class)
  unfolding body
  no_class = no_first (no (codes "class") refl)

  no_template : {c : Context} → Absent tokens c at (body Template)
  unfolding body passes
  no_template = no_choice (no_one (isnt (is_kind kind.TemplateWhole) refl)) (no_first (no_one (isnt (is_kind kind.TemplateHead) refl)))

  no_primary : {c : Context} → Absent tokens c at (body Primary)
  unfolding body passes
  no_primary =
      no_choice (no_rule no_function)
      (no_choice (no_rule no_class)
      (no_choice (no_one (isnt is_ident refl))
      (no_choice (no (codes "this") refl)
      (no_choice (no (codes "super") refl)
      (no_choice (no (codes "null") refl)
      (no_choice (no (codes "true") refl)
      (no_choice (no (codes "false") refl)
      (no_choice (no_one (isnt (is_kind kind.Number) refl))
      (no_choice (no_one (isnt (is_kind kind.Text) refl))
      (no_choice (no_one (isnt (is_kind kind.Regex) refl))
      (no_choice (no_rule no_template)
      (no_choice (no_first (no (codes "(") refl))
      (no_choice (no_first (no (codes "[") refl))
      (no_choice (no_first (no (codes "{") refl))
      (no_choice (no_first (no (codes "new") refl)) (no_first (no (codes "import") refl)))))))))))))))))

  no_left : {c : Context} → Absent tokens c at (body Left)
  unfolding body
  no_left = no_many (no_first (no_guard no_new)) (no_first (no_rule no_primary))

  no_unary : {c : Context} → c.opened < most_open → Absent tokens c at (body Unary)
  unfolding body
  no_unary l =
      no_nested l
      (no_choice
      (no_first
      (no_choice (no (codes "delete") refl)
      (no_choice (no (codes "void") refl)
      (no_choice (no (codes "typeof") refl)
      (no_choice (no (codes "+") refl)
      (no_choice (no (codes "-") refl)
      (no_choice (no (codes "~") refl)
      (no_choice (no (codes "!") refl)
      (no_choice (no (codes "++") refl) (no_choice (no (codes "--") refl) (no (codes "await") refl)))))))))))
      (no_choice (no_first (no_guard no_private)) (no_first (no_rule no_left))))

  no_bin : {c : Context} → c.opened < most_open → Absent tokens c at (body Bin)
  unfolding body
  no_bin l = no_first (no_rule (no_unary l))

  no_cond : {c : Context} → c.opened < most_open → Absent tokens c at (body Cond)
  unfolding body
  no_cond l = no_first (no_rule (no_bin l))

  no_assign : {c : Context} → suc c.opened < most_open → Absent tokens c at (body Assign)
  unfolding body
  no_assign l =
      no_nested (omega (l, arith))
      (no_choice (no_first (no_guard no_arrow))
      (no_choice (no_first (no_guard no_async_arrow))
      (no_choice (no_first (no (codes "yield") refl)) (no_first (no_rule (no_cond l))))))

-- ---- by what is found there

is_right : (a b : Bool) → (a && b) ≡ true → b ≡ true
is_right true b e = e
is_right false b e = absurd (cc)

punctuator : (k : kinds.Kind) → (code_of k == code_of kind.Punctuator) ≡ true → k ≡ kind.Punctuator
punctuator kind.Name e = absurd (cc)
punctuator kind.Private e = absurd (cc)
punctuator kind.Number e = absurd (cc)
punctuator kind.Text e = absurd (cc)
punctuator kind.TemplateWhole e = absurd (cc)
punctuator kind.TemplateHead e = absurd (cc)
punctuator kind.TemplateMiddle e = absurd (cc)
punctuator kind.TemplateTail e = absurd (cc)
punctuator kind.Regex e = absurd (cc)
punctuator kind.Punctuator e = refl

abbrev with_kind : Sight → kinds.Kind → Sight
with_kind t k = record { kind = k; text = t.text; from = t.from; line = t.line; depth = t.depth; behind = t.behind }

abbrev with_text : Sight → List ℕ → Sight
with_text t x = record { kind = kind.Punctuator; text = x; from = t.from; line = t.line; depth = t.depth; behind = t.behind }

square_is : (t : Sight) → is_kind kind.Punctuator t ≡ true → is_word (codes "]") t ≡ true → t ≡ square t.from t.line t.depth t.behind
square_is t k w =
    ap (with_kind t) (punctuator t.kind k)
    ∙ ap (with_text t) ((bytes_eq-Decides t.text (codes "]")).0 (is_right _ (bytes_eq t.text (codes "]")) w))

square_found : (tokens : List Sight) (at : ℕ) (o : Option Sight) {c : Context} → slice_get tokens at ≡ o
    → there (is_kind kind.Punctuator) o ≡ true → there (is_word (codes "]")) o ≡ true → suc c.opened < most_open
    → Absent tokens c at (rule Assign)
square_found tokens at None e k w l = absurd (cc)
square_found tokens at (Some t) e k w l =
    no_rule (no_assign tokens at t.from t.line t.depth t.behind (e ∙ ap Some (square_is t k w)) l)

pub square_at : {tokens : List Sight} {c : Context} {at : ℕ} → suc c.opened < most_open
    → at_place (is_kind kind.Punctuator) tokens at ≡ true → is_quoted (codes "]") tokens at ≡ true
    → Absent tokens c at (rule Assign)
square_at {tokens} {at} l k w = square_found tokens at (slice_get tokens at) refl k w l
