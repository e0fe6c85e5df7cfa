-- The literals of the requests of a text stand in the text.
--     requests_inside      those of an outline that is read from it
use Rattle.std.proofs.Common.{◌≡◌, ◌≤◌, ℕ, zero, suc, Bool, true, false, List, [], ◌∷◌, ◌++◌, length, reverse, Option, Some, None, Result, Ok, Err, IfSome, refl, sym, ap, ◌∙◌, subst, arith}
use Rattle.std.specs.Prelude.{All, ⊤, ◌==◌, if◌then◌else◌}
use Rattle.std.specs.Str.{IsUtf8}
use Rattle.std.proofs.lemmas.List.{reverse-append}
use Rattle.std.proofs.lemmas.List.Elements.{All-nil, All-cons, All-head, All-tail, All-push, All-weaker}
use Rattle.module_spec.specs.declared.request.Request.{Request}
use Rattle.module_spec.specs.declared.request.ModuleFault.{ModuleFault}
use Rattle.module_spec.specs.declared.request.ModuleFault.TheVariants.{TooManyRequests}
use Rattle.module_spec.specs.declared.token.Token.{Token}
use Rattle.module_spec.specs.Forms.{Form, declaration, called}
use Rattle.module_spec.specs.Forms.Form.{wrong, none, alone, asks}
use Rattle.module_spec.specs.Outlines.{Outline, ReadsOutline, Finding, wrong_form, specifier, import_call, found, with_call, findings, most_requests, asked_by, asked_for, requests, declares, outline_of}
use Rattle.module_spec.specs.Outlines.ReadsOutline.{all, fault}
use Rattle.module_spec.specs.Places.{Placed, placed, places}
use Rattle.module_spec.specs.Spans.{Stands}
use Rattle.module_spec.specs.StringValues.{string_value}
use Rattle.module_spec.specs.Tokens.{Lexeme, token_of}
use Rattle.module_spec.proofs.SpanLemmas.{tokens_stand}
use Rattle.module_sources.specs.Shown.{AreInside}

abbrev Within : ℕ → Token → Type 0
Within size t = (t.from ≤ t.to) × (t.to ≤ size)

abbrev Sits : ℕ → Placed → Type 0
Sits size t = Within size t.token

abbrev Inside : ℕ → Request → Type 0
Inside size r = (r.from ≤ r.to) × (r.to ≤ size)

abbrev IsFound : ℕ → Finding → Type 0
IsFound size (wrong_form at) = ⊤
IsFound size (specifier t) = Sits size t
IsFound size (import_call t) = Sits size t

-- ---- tokens

within : (text : List ℕ) (t : Lexeme) → Stands text t → Within (length text) (token_of (length text) t)
within text t stands = (let some = stands.span.some in omega (arith, some), stands.span.ends.0)

placed_within : (size : ℕ) (before : List Lexeme) → All (λ t. Within size (token_of size t)) before → All (Sits size) (places size before)
placed_within size [] every = All-nil (Sits size)
placed_within size (t ∷ before) every =
    All-cons (Sits size) (placed size before t) (places size before)
    (All-head (λ (u : Lexeme). Within size (token_of size u)) t before every)
    (placed_within size before (All-tail (λ (u : Lexeme). Within size (token_of size u)) t before every))

all_reversed : {X : Type 0} (P : X → Type 0) (xs : List X) → All P xs → All P (reverse xs)
all_reversed P [] every = All-nil P
all_reversed P (x ∷ xs) every =
    subst (All P) (sym (reverse-append (x ∷ []) xs))
    (All-push P (reverse xs) x (all_reversed P xs (All-tail P x xs every)) (All-head P x xs every))

-- ---- findings

some_if : (size : ℕ) (is : Bool) (s : Placed) → Sits size s → IfSome (if is then Some s else None) (Sits size)
some_if size true s sits = sits
some_if size false s sits = tt

called_sits : (size : ℕ) (before : List Placed) (t : Placed) → All (Sits size) before → IfSome (called before t) (Sits size)
called_sits size [] t every = tt
called_sits size (s ∷ []) t every = tt
called_sits size (s ∷ (bracket ∷ [])) t every = tt
called_sits size (s ∷ (bracket ∷ (word ∷ before))) t every =
    some_if size _ s (All-head (Sits size) s (bracket ∷ (word ∷ before)) every)

found_sits : (size : ℕ) (t : Placed) (asked : Option ℕ) (form : Form) (next : Option ℕ → List Finding) → Sits size t
    → ((o : Option ℕ) → All (IsFound size) (next o)) → All (IsFound size) (found t asked form next)
found_sits size t asked wrong next sits every =
    All-cons (IsFound size) (wrong_form t.token.from) [] tt (All-nil (IsFound size))
found_sits size t asked alone next sits every = every None
found_sits size t asked (asks count) next sits every = every (Some count)
found_sits size t None none next sits every = every None
found_sits size t (Some zero) none next sits every =
    All-cons (IsFound size) (specifier t) (next None) sits (every None)
found_sits size t (Some (suc count)) none next sits every = every (Some count)

with_call_sits : (size : ℕ) (o : Option Placed) (more : List Finding) → IfSome o (Sits size) → All (IsFound size) more
    → All (IsFound size) (with_call o more)
with_call_sits size None more sits every = every
with_call_sits size (Some s) more sits every = All-cons (IsFound size) (import_call s) more sits every

findings_sit : (size : ℕ) (before : List Placed) (asked : Option ℕ) (tokens : List Placed) → All (Sits size) before
    → All (Sits size) tokens → All (IsFound size) (findings before asked tokens)
findings_sit size before asked [] behind every = All-nil (IsFound size)
findings_sit size before asked (t ∷ rest) behind every =
    let here = All-head (Sits size) t rest every in
    with_call_sits size (called before t) _ (called_sits size before t behind)
    (found_sits size t asked (declaration t rest) (λ next. findings (t ∷ before) next rest) here
    (λ o. findings_sit size (t ∷ before) o rest (All-cons (Sits size) t before here behind) (All-tail (Sits size) t rest every)))

-- ---- requests

where_room : (full : Bool) (next : Result (List Request) ModuleFault) (asked : List Request) (X : Type 0)
    → (next ≡ Ok asked → X) → (if full then Err TooManyRequests else next) ≡ Ok asked → X
where_room true next asked X on e = absurd (cc)
where_room false next asked X on e = on e

asked_inside : (size : ℕ) (t : Placed) (value : Option (List ℕ)) (so_far asked : List Request)
    (next : List Request → Result (List Request) ModuleFault) → Sits size t → All (Inside size) so_far
    → ((more : List Request) → All (Inside size) more → next more ≡ Ok asked → All (Inside size) asked)
    → asked_for t value so_far next ≡ Ok asked → All (Inside size) asked
asked_inside size t None so_far asked next sits every on e = absurd (cc)
asked_inside size t (Some text) so_far asked next sits every on e =
    where_room (length so_far == most_requests) (next (so_far ++ asked_by t text ∷ [])) asked (All (Inside size) asked)
    (on (so_far ++ asked_by t text ∷ []) (All-push (Inside size) so_far (asked_by t text) every sits)) e

all_inside : (size : ℕ) (so_far : List Request) (those : List Finding) (asked : List Request) → All (Inside size) so_far
    → All (IsFound size) those → requests so_far those ≡ Ok asked → All (Inside size) asked
all_inside size so_far [] asked every sit e = let same : so_far ≡ asked = cc in subst (All (Inside size)) same every
all_inside size so_far (wrong_form at ∷ those) asked every sit e = absurd (cc)
all_inside size so_far (specifier t ∷ those) asked every sit e =
    asked_inside size t (string_value t.text) so_far asked (λ more. requests more those)
    (All-head (IsFound size) (specifier t) those sit) every
    (λ more now. all_inside size more those asked now (All-tail (IsFound size) (specifier t) those sit)) e
all_inside size so_far (import_call t ∷ those) asked every sit e =
    asked_inside size t (string_value t.text) so_far asked (λ more. requests more those)
    (All-head (IsFound size) (import_call t) those sit) every
    (λ more now. all_inside size more those asked now (All-tail (IsFound size) (import_call t) those sit)) e

asked_of : (found : Result (List Request) ModuleFault) (declared : Bool) (o : Outline) → outline_of found declared ≡ Ok o
    → found ≡ Ok o.requests
asked_of (Ok asked) declared o e =
    let same : record { requests = asked; declares = declared } ≡ o = cc in ap (λ (p : Outline). Ok p.requests) same
asked_of (Err why) declared o e = absurd (cc)

inside_by : (text : List ℕ) (out : Result Outline ModuleFault) (o : Outline) → IsUtf8 text → ReadsOutline text out → out ≡ Ok o
    → AreInside text o.requests
inside_by text out o utf8 (all {before} {rest} reaches next e) is =
    let size = length text in
    let stand = All-weaker (Stands text) (λ (t : Lexeme). Within size (token_of size t)) (within text) before (tokens_stand text utf8 before rest reaches) in
    let sit = all_reversed (Sits size) (places size before) (placed_within size before stand) in
    all_inside size [] (findings [] None (reverse (places size before))) o.requests (All-nil (Inside size))
    (findings_sit size [] None (reverse (places size before)) (All-nil (Sits size)) sit)
    (asked_of (requests [] (findings [] None (reverse (places size before)))) (declares (reverse (places size before))) o (sym e ∙ is))
inside_by text out o utf8 (fault reaches next e) is = absurd (cc)

pub requests_inside : (bytes text : List ℕ) (o : Outline) → text ≡ bytes → IsUtf8 bytes → ReadsOutline text (Ok o)
    → AreInside bytes o.requests
requests_inside bytes text o same utf8 reads =
    subst (λ b. AreInside b o.requests) same (inside_by text (Ok o) o (subst IsUtf8 (sym same) utf8) reads refl)
