-- Import calls beside declarations.
use Rattle.std.specs.Prelude.{slice_get}
use Rattle.std.proofs.Common.{◌≡◌, ℕ, zero, suc, Bool, true, false, ◌&&◌, ◌||◌, codes, List, [], ◌∷◌, ◌++◌, length, if◌then◌else◌, Option, Some, None, refl, sym, ap, ◌∙◌, subst, arith, append_assoc}
use Rattle.std.proofs.lemmas.List.{length-append}
use Rattle.module_spec.specs.Places.{Placed, is_text, is_word, is_mark, is_top}
use Rattle.module_spec.specs.Forms.{Form, declaration, begins_expression, behind_import, import_declaration, export_declaration, called, begins_call, is_argument}
use Rattle.module_spec.specs.Forms.Form.{wrong, none, alone, asks}
use Rattle.module_spec.specs.Declarations.{ImportDeclaration, ExportFrom}
use Rattle.module_spec.specs.Declarations.FromClause.{from_module}
use Rattle.module_spec.specs.Declarations.ImportDeclaration.{effects, bindings}
use Rattle.module_spec.specs.Declarations.ExportFrom.{exports}
use Rattle.module_spec.specs.Outlines.{Finding, found, with_call, and_call, findings, declared, calls, without_calls, only_calls, all_right, requests, declares, outline_of}
use Rattle.module_spec.specs.Outlines.Finding.{specifier}
use Rattle.module_spec.specs.Laws.{IsImportCall, CallsAreImportCalls, DeclarationsStay, CallsAreFound, SameWithoutCalls, OneKindOfRequest}
use Rattle.module_spec.proofs.Terminals.{name_no_mark, word_is_name}
use Rattle.module_spec.proofs.FormLaws.{forms_are_productions}

-- ---- what an import call is

record Both (a b : Bool) : Type 0 where
  left : a ≡ true
  right : b ≡ true

both : (a b : Bool) → (a && b) ≡ true → Both a b
both true b e = record { left = refl; right = e }
both false b e = absurd (cc)

record Chosen (c : Bool) (s x : Placed) : Type 0 where
  holds : c ≡ true
  same : s ≡ x

chosen : (c : Bool) (s x : Placed) → (if c then Some s else None) ≡ Some x → Chosen c s x
chosen true s x e = record { holds = refl; same = cc }
chosen false s x e = absurd (cc)

call_is : (before : List Placed) (s t : Placed) → called before t ≡ Some s → IsImportCall before s t
call_is [] s t e = absurd (cc)
call_is (x ∷ []) s t e = absurd (cc)
call_is (x ∷ (bracket ∷ [])) s t e = absurd (cc)
call_is (x ∷ (bracket ∷ (word ∷ outer))) s t e =
    let c = chosen (is_argument x t && begins_call word bracket) x s e in
    let two = both (is_argument x t) (begins_call word bracket) c.holds in
    let argument = both (is_text x) (is_mark t (codes ")") || is_mark t (codes ",")) two.left in
    let begun = both word.plain (is_word word (codes "import") && is_mark bracket (codes "(")) two.right in
    let named = both (is_word word (codes "import")) (is_mark bracket (codes "(")) begun.right in
    record {
      word = word;
      bracket = bracket;
      outer = outer;
      split = ap (λ y. y ∷ (bracket ∷ (word ∷ outer))) c.same;
      plain = begun.left;
      named = named.left;
      opened = named.right;
      string = subst (λ y. is_text y ≡ true) c.same argument.left;
      ended = argument.right;
    }

is_call : (before : List Placed) (s t : Placed) → IsImportCall before s t → called before t ≡ Some s
is_call before s t i = ap (λ b. called b t) i.split ∙ rw (i.string, i.ended, i.plain, i.named, i.opened) refl

pub calls_are_import_calls : CallsAreImportCalls
calls_are_import_calls before s t = (call_is before s t, is_call before s t)

-- ---- declarations stay as they are

without_call : (c : Option Placed) (more : List Finding) → without_calls (with_call c more) ≡ without_calls more
without_call None more = refl
without_call (Some s) more = refl

found_same : (t : Placed) (asked : Option ℕ) (f : Form) (next other : Option ℕ → List Finding) → ((n : Option ℕ) → without_calls (next n) ≡ other n) → without_calls (found t asked f next) ≡ found t asked f other
found_same t asked wrong next other h = refl
found_same t asked alone next other h = h None
found_same t asked (asks count) next other h = h (Some count)
found_same t None none next other h = h None
found_same t (Some zero) none next other h = ap (λ fs. specifier t ∷ fs) (h None)
found_same t (Some (suc count)) none next other h = h (Some count)

pub declarations_stay : DeclarationsStay
declarations_stay before asked [] = refl
declarations_stay before asked (t ∷ rest) =
    without_call (called before t) (found t asked (declaration t rest) (λ next. findings (t ∷ before) next rest))
    ∙ found_same t asked (declaration t rest) (λ next. findings (t ∷ before) next rest) (λ next. declared next rest) (λ n. declarations_stay (t ∷ before) n rest)

-- ---- the calls are found

right_call : (c : Option Placed) (more : List Finding) → all_right (with_call c more) ≡ all_right more
right_call None more = refl
right_call (Some s) more = refl

only_call : (c : Option Placed) (more : List Finding) → only_calls (with_call c more) ≡ and_call c (only_calls more)
only_call None more = refl
only_call (Some s) more = refl

found_calls : (t : Placed) (asked : Option ℕ) (f : Form) (next : Option ℕ → List Finding) (of : List Placed) → ((n : Option ℕ) → all_right (next n) ≡ true → only_calls (next n) ≡ of) → all_right (found t asked f next) ≡ true → only_calls (found t asked f next) ≡ of
found_calls t asked wrong next of h e = absurd (cc)
found_calls t asked alone next of h e = h None e
found_calls t asked (asks count) next of h e = h (Some count) e
found_calls t None none next of h e = h None e
found_calls t (Some zero) none next of h e = h None e
found_calls t (Some (suc count)) none next of h e = h (Some count) e

pub calls_are_found : CallsAreFound
calls_are_found before asked [] e = refl
calls_are_found before asked (t ∷ rest) e =
    let of : List Finding = found t asked (declaration t rest) (λ next. findings (t ∷ before) next rest) in
    only_call (called before t) of
    ∙ ap (λ x. and_call (called before t) x)
    (found_calls t asked (declaration t rest) (λ next. findings (t ∷ before) next rest) (calls (t ∷ before) rest) (λ n. calls_are_found (t ∷ before) n rest) (sym (right_call (called before t) of) ∙ e))

-- ---- without calls

no_call_at : (c : Option Placed) (more : List Placed) → and_call c more ≡ [] → c ≡ None
no_call_at None more e = refl
no_call_at (Some s) more e = absurd (cc)

no_call_behind : (c : Option Placed) (more : List Placed) → and_call c more ≡ [] → more ≡ []
no_call_behind None more e = e
no_call_behind (Some s) more e = absurd (cc)

found_alike : (t : Placed) (asked : Option ℕ) (f : Form) (next other : Option ℕ → List Finding) → ((n : Option ℕ) → next n ≡ other n) → found t asked f next ≡ found t asked f other
found_alike t asked wrong next other h = refl
found_alike t asked alone next other h = h None
found_alike t asked (asks count) next other h = h (Some count)
found_alike t None none next other h = h None
found_alike t (Some zero) none next other h = ap (λ fs. specifier t ∷ fs) (h None)
found_alike t (Some (suc count)) none next other h = h (Some count)

alike : (before : List Placed) (asked : Option ℕ) (tokens : List Placed) → calls before tokens ≡ [] → findings before asked tokens ≡ declared asked tokens
alike before asked [] e = refl
alike before asked (t ∷ rest) e =
    let of : List Finding = found t asked (declaration t rest) (λ next. findings (t ∷ before) next rest) in
    ap (λ c. with_call c of) (no_call_at (called before t) (calls (t ∷ before) rest) e)
    ∙ found_alike t asked (declaration t rest) (λ next. findings (t ∷ before) next rest) (λ next. declared next rest)
    (λ n. alike (t ∷ before) n rest (no_call_behind (called before t) (calls (t ∷ before) rest) e))

pub same_without_calls : SameWithoutCalls
same_without_calls tokens e = ap (λ fs. outline_of (requests [] fs) (declares tokens)) (alike [] None tokens e)

-- ---- of one kind

same_some : (b t : Placed) → Some t ≡ Some b → t ≡ b
same_some b t e = cc

at_length : (clause : List Placed) (f : Placed) (more : List Placed) → slice_get (clause ++ f ∷ more) (length clause) ≡ Some f
at_length [] f more = refl
at_length (c ∷ clause) f more = at_length clause f more

-- the token before the last one of a clause and a `from` clause
before_last : (t : Placed) (clause : List Placed) (f s : Placed) (more tokens : List Placed) (count : ℕ) → tokens ≡ (clause ++ f ∷ s ∷ []) ++ more → length (clause ++ f ∷ s ∷ []) ≡ suc count → slice_get (t ∷ tokens) count ≡ Some f
before_last t clause f s more tokens count e l =
    let lengths = length-append clause (f ∷ s ∷ []) in
    let count_is : count ≡ suc (length clause) = omega (arith, l, lengths) in
    ap (λ n. slice_get (t ∷ tokens) n) count_is
    ∙ (ap (λ xs. slice_get xs (length clause)) (e ∙ append_assoc clause (f ∷ s ∷ []) more)
    ∙ at_length clause f (s ∷ more))

no_round : (w : List ℕ) (f b : Placed) → is_word f w ≡ true → Some f ≡ Some b → is_mark b (codes "(") ≡ false
no_round w f b e same = subst (λ x. is_mark x (codes "(") ≡ false) (same_some b f same) (name_no_mark f (codes "(") (word_is_name f w e))

import_kind : (t : Placed) (tokens : List Placed) (count : ℕ) (b : Placed) {front : List Placed} (rest : List Placed) → is_word t (codes "import") ≡ true → ImportDeclaration front → tokens ≡ front ++ rest → length front ≡ suc count → slice_get (t ∷ tokens) count ≡ Some b → is_mark b (codes "(") ≡ false
import_kind t tokens count b rest named (effects p) e l g =
    let count_is : count ≡ 0 = omega (arith, l) in
    no_round (codes "import") t b named (sym (ap (λ n. slice_get (t ∷ tokens) n) count_is) ∙ g)
import_kind t tokens count b rest named (bindings {clause} c (from_module {f} {s} p q)) e l g =
    no_round (codes "from") f b p (sym (before_last t clause f s rest tokens count e l) ∙ g)

export_kind : (t : Placed) (tokens : List Placed) (count : ℕ) (b : Placed) {front : List Placed} (rest : List Placed) → ExportFrom front → tokens ≡ front ++ rest → length front ≡ suc count → slice_get (t ∷ tokens) count ≡ Some b → is_mark b (codes "(") ≡ false
export_kind t tokens count b rest (exports {clause} c (from_module {f} {s} p q)) e l g =
    no_round (codes "from") f b p (sym (before_last t clause f s rest tokens count e l) ∙ g)

expression_asks : (c : Bool) (f : Form) (count : ℕ) → (if c then none else f) ≡ asks count → f ≡ asks count
expression_asks true f count e = absurd (cc)
expression_asks false f count e = e

kind_by : (t : Placed) (rest : List Placed) (count : ℕ) (b : Placed) (top i x : Bool) → is_word t (codes "import") ≡ i → (if top && i then behind_import rest else if top && x then export_declaration rest else none) ≡ asks count → slice_get (t ∷ rest) count ≡ Some b → is_mark b (codes "(") ≡ false
kind_by t rest count b true true x named e g =
    let asked = ((forms_are_productions rest).0.asking count).0 (expression_asks (begins_expression rest) (import_declaration rest) count e) in
    import_kind t rest count b asked.rest named asked.produced asked.split asked.counted g
kind_by t rest count b true false true named e g =
    let asked = ((forms_are_productions rest).1.asking count).0 e in
    export_kind t rest count b asked.rest asked.produced asked.split asked.counted g
kind_by t rest count b true false false named e g = absurd (cc)
kind_by t rest count b false i x named e g = absurd (cc)

pub one_kind_of_request : OneKindOfRequest
one_kind_of_request t rest count e b g = kind_by t rest count b (is_top t) (is_word t (codes "import")) (is_word t (codes "export")) refl e g
