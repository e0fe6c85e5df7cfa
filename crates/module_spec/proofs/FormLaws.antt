-- The forms are the productions.
use Rattle.std.proofs.Common.{◌≡◌, ◌≢◌, ◌+◌, ℕ, zero, suc, Bool, true, false, ◌||◌, ◌==◌, codes, List, [], ◌∷◌, ◌++◌, length, if◌then◌else◌, refl, sym, ap, ◌∙◌, subst, arith, append_assoc, append-nil}
use Rattle.std.proofs.lemmas.List.{length-append}
use Rattle.std.proofs.lemmas.Bool.{ne_eqb, eq-eqb, eqb-true, eqb-false, cond-true, cond-false}
use Rattle.module_spec.specs.Places.{Placed, is_name, is_text, is_word, is_mark}
use Rattle.module_spec.specs.Forms.{Form, further, module_specifier, from_clause, imported_binding, name_space_import, braces, second_binding, behind_default, import_declaration, module_export_name, export_all, named_specifier, named_exports, is_exported, export_declaration}
use Rattle.module_spec.specs.Forms.Form.{wrong, none, alone, asks}
use Rattle.module_spec.specs.Declarations.{UpToPartner, Braces, FromClause, NameSpaceImport, ImportClause, ImportDeclaration, ExportFromClause, ExportFrom, ExportAlone, Begins, Asks}
use Rattle.module_spec.specs.Declarations.UpToPartner.{partner, inside}
use Rattle.module_spec.specs.Declarations.Braces.{curly}
use Rattle.module_spec.specs.Declarations.FromClause.{from_module}
use Rattle.module_spec.specs.Declarations.NameSpaceImport.{star_as}
use Rattle.module_spec.specs.Declarations.ImportClause.{default_binding, name_space, named, default_and_name_space, default_and_named}
use Rattle.module_spec.specs.Declarations.ImportDeclaration.{effects, bindings}
use Rattle.module_spec.specs.Declarations.ExportFromClause.{star, star_as_name, names}
use Rattle.module_spec.specs.Declarations.ExportFrom.{exports}
use Rattle.module_spec.specs.Declarations.ExportAlone.{names_alone, first_word}
use Rattle.module_spec.specs.Laws.{ImportForms, ExportForms, FormsAreProductions}
use Rattle.module_spec.proofs.Terminals.{name_no_text, mark_no_name, mark_no_text, mark_no_word, name_no_mark, one_mark, one_word, word_is_name}

-- ---- a choice

-- ---- what a form comes to is a production

data Sound (P A : List Placed → Type 0) (tokens : List Placed) : Form → Type 0 where
  refused : Sound P A tokens wrong
  asking : {count : ℕ} → Asks P tokens count → Sound P A tokens (asks count)
  lonely : Begins A tokens → Sound P A tokens alone

if_sound : {P A : List Placed → Type 0} {tokens : List Placed} {f g : Form} (c : Bool) → (c ≡ true → Sound P A tokens f) → (c ≡ false → Sound P A tokens g) → Sound P A tokens (if c then f else g)
if_sound true x y = x refl
if_sound false x y = y refl

further_sound : (P A : List Placed → Type 0) (t : Placed) {rest : List Placed} {f : Form} → Sound (λ tail. P (t ∷ tail)) (λ tail. A (t ∷ tail)) rest f → Sound P A (t ∷ rest) (further f)
further_sound P A t refused = refused
further_sound P A t (asking a) = asking (record { front = t ∷ a.front; rest = a.rest; split = ap (λ (xs : List Placed). t ∷ xs) a.split; produced = a.produced; counted = ap suc a.counted })
further_sound P A t (lonely b) = lonely (record { front = t ∷ b.front; rest = b.rest; split = ap (λ (xs : List Placed). t ∷ xs) b.split; produced = b.produced })

last_sound : (P A : List Placed → Type 0) (t : Placed) (rest : List Placed) → P (t ∷ []) → Sound P A (t ∷ rest) (asks 0)
last_sound P A t rest p = asking (record { front = t ∷ []; rest = rest; split = refl; produced = p; counted = refl })

module_sound : (P A : List Placed → Type 0) → ((s : Placed) → is_text s ≡ true → P (s ∷ [])) → (tokens : List Placed) → Sound P A tokens (module_specifier tokens)
module_sound P A h [] = refused
module_sound P A h (t ∷ rest) = if_sound (is_text t) (λ c. last_sound P A t rest (h t c)) (λ c. refused)

from_sound : (P A : List Placed → Type 0) → ((from : List Placed) → FromClause from → P from) → (tokens : List Placed) → Sound P A tokens (from_clause tokens)
from_sound P A h [] = refused
from_sound P A h (t ∷ rest) = if_sound (is_word t (codes "from")) (λ c. further_sound P A t (module_sound (λ tail. P (t ∷ tail)) (λ tail. A (t ∷ tail)) (λ s d. h (t ∷ s ∷ []) (from_module c d)) rest)) (λ c. refused)

-- `next` is sound behind the braces
braces_sound : (P A : List Placed → Type 0) (next : List Placed → Form) → ((inner rest : List Placed) → UpToPartner inner → Sound (λ tail. P (inner ++ tail)) (λ tail. A (inner ++ tail)) rest (next rest)) → (tokens : List Placed) → Sound P A tokens (braces next tokens)
braces_sound P A next h [] = refused
braces_sound P A next h (t ∷ rest) =
    further_sound P A t (if_sound (t.behind == 0)
    (λ c. h (t ∷ []) rest (partner (eqb-true t.behind 0 c)))
    (λ c. braces_sound (λ tail. P (t ∷ tail)) (λ tail. A (t ∷ tail)) next (λ inner more u. h (t ∷ inner) more (inside (eqb-false t.behind 0 c) u)) rest))

curly_sound : (P A : List Placed → Type 0) (next : List Placed → Form) (t : Placed) → is_mark t (codes "{") ≡ true → ((clause rest : List Placed) → Braces clause → Sound (λ tail. P (clause ++ tail)) (λ tail. A (clause ++ tail)) rest (next rest)) → (rest : List Placed) → Sound P A (t ∷ rest) (braces next (t ∷ rest))
curly_sound P A next t p h rest =
    further_sound P A t (if_sound (t.behind == 0)
    (λ c. h (t ∷ []) rest (curly p (partner (eqb-true t.behind 0 c))))
    (λ c. braces_sound (λ tail. P (t ∷ tail)) (λ tail. A (t ∷ tail)) next (λ inner more u. h (t ∷ inner) more (curly p (inside (eqb-false t.behind 0 c) u))) rest))

curly_from_sound : (P A : List Placed → Type 0) (t : Placed) → is_mark t (codes "{") ≡ true → ((clause from : List Placed) → Braces clause → FromClause from → P (clause ++ from)) → (rest : List Placed) → Sound P A (t ∷ rest) (braces from_clause (t ∷ rest))
curly_from_sound P A t p h rest = curly_sound P A from_clause t p (λ clause more b. from_sound (λ tail. P (clause ++ tail)) (λ tail. A (clause ++ tail)) (λ from f. h clause from b f) more) rest

-- ---- imports

binding_sound : (P A : List Placed → Type 0) → ((x : Placed) (from : List Placed) → is_name x ≡ true → FromClause from → P (x ∷ from)) → (tokens : List Placed) → Sound P A tokens (imported_binding tokens)
binding_sound P A h [] = refused
binding_sound P A h (x ∷ rest) = if_sound (is_name x) (λ c. further_sound P A x (from_sound (λ tail. P (x ∷ tail)) (λ tail. A (x ∷ tail)) (λ from f. h x from c f) rest)) (λ c. refused)

-- behind the `*`
star_sound : (P A : List Placed → Type 0) (s : Placed) → is_mark s (codes "*") ≡ true → ((clause from : List Placed) → NameSpaceImport clause → FromClause from → P (clause ++ from)) → (rest : List Placed) → Sound P A (s ∷ rest) (further (name_space_import rest))
star_sound P A s p h [] = refused
star_sound P A s p h (a ∷ rest) =
    further_sound P A s (if_sound (is_word a (codes "as"))
    (λ c. further_sound (λ tail. P (s ∷ tail)) (λ tail. A (s ∷ tail)) a (binding_sound (λ tail. P (s ∷ a ∷ tail)) (λ tail. A (s ∷ a ∷ tail)) (λ x from d f. h (s ∷ a ∷ x ∷ []) from (star_as p c d) f) rest))
    (λ c. refused))

second_sound : (P A : List Placed → Type 0) → ((clause from : List Placed) → NameSpaceImport clause → FromClause from → P (clause ++ from)) → ((clause from : List Placed) → Braces clause → FromClause from → P (clause ++ from)) → (tokens : List Placed) → Sound P A tokens (second_binding tokens)
second_sound P A h k [] = refused
second_sound P A h k (t ∷ rest) =
    if_sound (is_mark t (codes "*")) (λ c. star_sound P A t c h rest)
    (λ d. if_sound (is_mark t (codes "{")) (λ c. curly_from_sound P A t c k rest) (λ c. refused))

default_sound : (P A : List Placed → Type 0) (x : Placed) → is_name x ≡ true → ((clause from : List Placed) → ImportClause clause → FromClause from → P (clause ++ from)) → (rest : List Placed) → Sound P A (x ∷ rest) (further (behind_default rest))
default_sound P A x p h [] = refused
default_sound P A x p h (t ∷ rest) =
    further_sound P A x (if_sound (is_word t (codes "from"))
    (λ c. further_sound (λ tail. P (x ∷ tail)) (λ tail. A (x ∷ tail)) t (module_sound (λ tail. P (x ∷ t ∷ tail)) (λ tail. A (x ∷ t ∷ tail)) (λ s d. h (x ∷ []) (t ∷ s ∷ []) (default_binding p) (from_module c d)) rest))
    (λ d. if_sound (is_mark t (codes ","))
    (λ c. further_sound (λ tail. P (x ∷ tail)) (λ tail. A (x ∷ tail)) t (second_sound (λ tail. P (x ∷ t ∷ tail)) (λ tail. A (x ∷ t ∷ tail)) (λ c2 from n f. h (x ∷ t ∷ c2) from (default_and_name_space p c n) f) (λ c2 from n f. h (x ∷ t ∷ c2) from (default_and_named p c n) f) rest))
    (λ c. refused)))

import_sound : (A : List Placed → Type 0) (tokens : List Placed) → Sound ImportDeclaration A tokens (import_declaration tokens)
import_sound A [] = refused
import_sound A (t ∷ rest) =
    if_sound (is_text t) (λ c. last_sound ImportDeclaration A t rest (effects c))
    (λ d. if_sound (is_name t) (λ c. default_sound ImportDeclaration A t c (λ c2 from i f. bindings i f) rest)
    (λ d. if_sound (is_mark t (codes "*")) (λ c. star_sound ImportDeclaration A t c (λ c2 from n f. bindings (name_space n) f) rest)
    (λ d. if_sound (is_mark t (codes "{")) (λ c. curly_from_sound ImportDeclaration A t c (λ c2 from b f. bindings (named b) f) rest) (λ c. refused))))

-- ---- exports

export_name_sound : (P A : List Placed → Type 0) → ((x : Placed) (from : List Placed) → (is_name x || is_text x) ≡ true → FromClause from → P (x ∷ from)) → (tokens : List Placed) → Sound P A tokens (module_export_name tokens)
export_name_sound P A h [] = refused
export_name_sound P A h (x ∷ rest) = if_sound (is_name x || is_text x) (λ c. further_sound P A x (from_sound (λ tail. P (x ∷ tail)) (λ tail. A (x ∷ tail)) (λ from f. h x from c f) rest)) (λ c. refused)

-- behind the `*`
all_sound : (P A : List Placed → Type 0) (s : Placed) → is_mark s (codes "*") ≡ true → ((clause from : List Placed) → ExportFromClause clause → FromClause from → P (clause ++ from)) → (rest : List Placed) → Sound P A (s ∷ rest) (further (export_all rest))
all_sound P A s p h [] = refused
all_sound P A s p h (t ∷ rest) =
    further_sound P A s (if_sound (is_word t (codes "from"))
    (λ c. further_sound (λ tail. P (s ∷ tail)) (λ tail. A (s ∷ tail)) t (module_sound (λ tail. P (s ∷ t ∷ tail)) (λ tail. A (s ∷ t ∷ tail)) (λ m d. h (s ∷ []) (t ∷ m ∷ []) (star p) (from_module c d)) rest))
    (λ d. if_sound (is_word t (codes "as"))
    (λ c. further_sound (λ tail. P (s ∷ tail)) (λ tail. A (s ∷ tail)) t (export_name_sound (λ tail. P (s ∷ t ∷ tail)) (λ tail. A (s ∷ t ∷ tail)) (λ x from n f. h (s ∷ t ∷ x ∷ []) from (star_as_name p c n) f) rest))
    (λ c. refused)))

-- behind the braces
nothing_more : (P A : List Placed → Type 0) (rest : List Placed) → A [] → Sound P A rest alone
nothing_more P A rest a = lonely (record { front = []; rest = rest; split = refl; produced = a })

-- a production that isn't followed by more of the form
specifier_sound : (P A : List Placed → Type 0) → ((s : Placed) → is_text s ≡ true → P (s ∷ [])) → A [] → (tokens : List Placed) → Sound P A tokens (named_specifier tokens)
specifier_sound P A h a [] = nothing_more P A [] a
specifier_sound P A h a (s ∷ rest) = if_sound (is_text s) (λ c. last_sound P A s rest (h s c)) (λ c. nothing_more P A (s ∷ rest) a)

lonely_before : {A : List Placed → Type 0} {tokens : List Placed} → A [] → Begins A tokens
lonely_before {A} {tokens} a = record { front = []; rest = tokens; split = refl; produced = a }

-- the same where what is alone ends before this token
further_named : (P A : List Placed → Type 0) (t : Placed) {rest : List Placed} {f : Form} → A [] → Sound (λ tail. P (t ∷ tail)) (λ tail. A []) rest f → Sound P A (t ∷ rest) (further f)
further_named P A t a refused = refused
further_named P A t a (asking r) = asking (record { front = t ∷ r.front; rest = r.rest; split = ap (λ (xs : List Placed). t ∷ xs) r.split; produced = r.produced; counted = ap suc r.counted })
further_named P A t a (lonely b) = lonely (lonely_before a)

named_sound : (P A : List Placed → Type 0) → ((from : List Placed) → FromClause from → P from) → A [] → (tokens : List Placed) → Sound P A tokens (named_exports tokens)
named_sound P A h a [] = nothing_more P A [] a
named_sound P A h a (t ∷ rest) =
    if_sound (is_word t (codes "from")) (λ c. further_named P A t a (specifier_sound (λ tail. P (t ∷ tail)) (λ tail. A []) (λ s d. h (t ∷ s ∷ []) (from_module c d)) a rest))
    (λ c. nothing_more P A (t ∷ rest) a)

export_sound : (tokens : List Placed) → Sound ExportFrom ExportAlone tokens (export_declaration tokens)
export_sound [] = refused
export_sound (t ∷ rest) =
    if_sound (is_mark t (codes "*")) (λ c. all_sound ExportFrom ExportAlone t c (λ c2 from e f. exports e f) rest)
    (λ d. if_sound (is_mark t (codes "{"))
    (λ c. curly_sound ExportFrom ExportAlone named_exports t c (λ c2 more b. named_sound (λ tail. ExportFrom (c2 ++ tail)) (λ tail. ExportAlone (c2 ++ tail)) (λ from f. exports (names b) f) (subst ExportAlone (sym (append-nil c2)) (names_alone b)) more) rest)
    (λ d. if_sound (is_exported t) (λ c. lonely (record { front = t ∷ []; rest = rest; split = refl; produced = first_word c })) (λ c. refused)))

-- ---- and each production is what the form comes to

-- a form behind so many tokens
abbrev behind : ℕ → Form → Form
behind zero f = f
behind (suc n) f = further (behind n f)

behind_asks : (n m : ℕ) → behind n (asks m) ≡ asks (n + m)
behind_asks zero m = ap asks (let e : m ≡ 0 + m = omega arith in e)
behind_asks (suc n) m = ap further (behind_asks n m) ∙ ap asks (let e : suc (n + m) ≡ suc n + m = omega arith in e)

from_gives : {from : List Placed} → FromClause from → (rest : List Placed) → from_clause (from ++ rest) ≡ asks 1
from_gives (from_module {f} {s} p q) rest = cond-true (is_word f (codes "from")) (further (module_specifier (s ∷ rest))) wrong p ∙ ap further (cond-true (is_text s) (asks 0) wrong q)

from_length : {from : List Placed} → FromClause from → length from ≡ 2
from_length (from_module p q) = refl

partner_gives : {tokens : List Placed} → UpToPartner tokens → (next : List Placed → Form) (rest : List Placed) → braces next (tokens ++ rest) ≡ behind (length tokens) (next rest)
partner_gives (partner {t} e) next rest = ap further (cond-true (t.behind == 0) (next rest) (braces next rest) (eq-eqb t.behind 0 e))
partner_gives (inside {t} {tokens} e u) next rest = ap further (cond-false (t.behind == 0) (next (tokens ++ rest)) (braces next (tokens ++ rest)) (ne_eqb t.behind 0 e) ∙ partner_gives u next rest)

name_space_gives : (a x : Placed) (rest : List Placed) → is_word a (codes "as") ≡ true → is_name x ≡ true → name_space_import (a ∷ x ∷ rest) ≡ behind 2 (from_clause rest)
name_space_gives a x rest q r = cond-true (is_word a (codes "as")) (further (imported_binding (x ∷ rest))) wrong q ∙ ap further (cond-true (is_name x) (further (from_clause rest)) wrong r)

second_star : {tokens : List Placed} → NameSpaceImport tokens → (rest : List Placed) → second_binding (tokens ++ rest) ≡ behind (length tokens) (from_clause rest)
second_star (star_as {s} {a} {x} p q r) rest =
    cond-true (is_mark s (codes "*")) (further (name_space_import (a ∷ x ∷ rest))) (if is_mark s (codes "{") then braces from_clause (s ∷ a ∷ x ∷ rest) else wrong) p ∙ ap further (name_space_gives a x rest q r)

second_curly : {tokens : List Placed} → Braces tokens → (rest : List Placed) → second_binding (tokens ++ rest) ≡ behind (length tokens) (from_clause rest)
second_curly (curly {t} {tokens} p u) rest =
    cond-false (is_mark t (codes "*")) (further (name_space_import (tokens ++ rest))) (if is_mark t (codes "{") then braces from_clause (t ∷ tokens ++ rest) else wrong) (one_mark t (codes "{") (codes "*") p refl)
    ∙ (cond-true (is_mark t (codes "{")) (braces from_clause (t ∷ tokens ++ rest)) wrong p ∙ partner_gives u from_clause rest)

-- a comma behind a default binding
comma_gives : (c : Placed) (rest : List Placed) → is_mark c (codes ",") ≡ true → behind_default (c ∷ rest) ≡ further (second_binding rest)
comma_gives c rest p =
    cond-false (is_word c (codes "from")) (further (module_specifier rest)) (if is_mark c (codes ",") then further (second_binding rest) else wrong) (mark_no_word c (codes ",") (codes "from") p)
    ∙ cond-true (is_mark c (codes ",")) (further (second_binding rest)) wrong p

default_from : {from : List Placed} → FromClause from → (rest : List Placed) → behind_default (from ++ rest) ≡ from_clause (from ++ rest)
default_from (from_module {f} {s} p q) rest =
    cond-true (is_word f (codes "from")) (further (module_specifier (s ∷ rest))) (if is_mark f (codes ",") then further (second_binding (s ∷ rest)) else wrong) p
    ∙ sym (cond-true (is_word f (codes "from")) (further (module_specifier (s ∷ rest))) wrong p)

abbrev by_curly : Placed → List Placed → Form
by_curly t rest = if is_mark t (codes "{") then braces from_clause (t ∷ rest) else wrong

abbrev by_mark : Placed → List Placed → Form
by_mark t rest = if is_mark t (codes "*") then further (name_space_import rest) else by_curly t rest

abbrev by_name : Placed → List Placed → Form
by_name t rest = if is_name t then further (behind_default rest) else by_mark t rest

import_name : (x : Placed) (rest : List Placed) → is_name x ≡ true → import_declaration (x ∷ rest) ≡ further (behind_default rest)
import_name x rest p = cond-false (is_text x) (asks 0) (by_name x rest) (name_no_text x p) ∙ cond-true (is_name x) (further (behind_default rest)) (by_mark x rest) p

import_mark : (t : Placed) (rest : List Placed) (m : List ℕ) → is_mark t m ≡ true → import_declaration (t ∷ rest) ≡ by_mark t rest
import_mark t rest m p = cond-false (is_text t) (asks 0) (by_name t rest) (mark_no_text t m p) ∙ cond-false (is_name t) (further (behind_default rest)) (by_mark t rest) (mark_no_name t m p)

clause_gives : {tokens from : List Placed} → ImportClause tokens → FromClause from → (rest : List Placed) → import_declaration (tokens ++ (from ++ rest)) ≡ behind (length tokens) (from_clause (from ++ rest))
clause_gives {from} (default_binding {x} p) f rest = import_name x (from ++ rest) p ∙ ap further (default_from f rest)
clause_gives {from} (name_space (star_as {s} {a} {x} p q r)) f rest =
    import_mark s (a ∷ x ∷ (from ++ rest)) (codes "*") p
    ∙ (cond-true (is_mark s (codes "*")) (further (name_space_import (a ∷ x ∷ (from ++ rest)))) (by_curly s (a ∷ x ∷ (from ++ rest))) p ∙ ap further (name_space_gives a x (from ++ rest) q r))
clause_gives {from} (named (curly {t} {tokens} p u)) f rest =
    import_mark t (tokens ++ (from ++ rest)) (codes "{") p
    ∙ (cond-false (is_mark t (codes "*")) (further (name_space_import (tokens ++ (from ++ rest)))) (by_curly t (tokens ++ (from ++ rest))) (one_mark t (codes "{") (codes "*") p refl)
    ∙ (cond-true (is_mark t (codes "{")) (braces from_clause (t ∷ tokens ++ (from ++ rest))) wrong p ∙ partner_gives u from_clause (from ++ rest)))
clause_gives {from} (default_and_name_space {x} {c} {tokens} p q n) f rest =
    import_name x (c ∷ (tokens ++ (from ++ rest))) p ∙ ap further (comma_gives c (tokens ++ (from ++ rest)) q ∙ ap further (second_star n (from ++ rest)))
clause_gives {from} (default_and_named {x} {c} {tokens} p q b) f rest =
    import_name x (c ∷ (tokens ++ (from ++ rest))) p ∙ ap further (comma_gives c (tokens ++ (from ++ rest)) q ∙ ap further (second_curly b (from ++ rest)))

-- the number of tokens before the module specifier, of what stands before a from clause
one_before : (tokens from : List Placed) (count : ℕ) → length from ≡ 2 → length (tokens ++ from) ≡ suc count → length tokens + 1 ≡ count
one_before tokens from count e f = let l = length-append tokens from in omega (arith, e, f, l)

import_gives : {tokens : List Placed} → ImportDeclaration tokens → (count : ℕ) (rest : List Placed) → length tokens ≡ suc count → import_declaration (tokens ++ rest) ≡ asks count
import_gives (effects {s} p) count rest e = cond-true (is_text s) (asks 0) (by_name s rest) p ∙ ap asks (let f : 0 ≡ count = omega (arith, e) in f)
import_gives (bindings {clause} {from} c f) count rest e =
    ap import_declaration (append_assoc clause from rest)
    ∙ (clause_gives c f rest
    ∙ (ap (behind (length clause)) (from_gives f rest)
    ∙ (behind_asks (length clause) 1 ∙ ap asks (one_before clause from count (from_length f) e))))

import_complete : (tokens : List Placed) (count : ℕ) → Asks ImportDeclaration tokens count → import_declaration tokens ≡ asks count
import_complete tokens count a = ap import_declaration a.split ∙ import_gives a.produced count a.rest a.counted

-- ---- exports

abbrev by_word : Placed → List Placed → Form
by_word t rest = if is_exported t then alone else wrong

abbrev export_curly : Placed → List Placed → Form
export_curly t rest = if is_mark t (codes "{") then braces named_exports (t ∷ rest) else by_word t rest

export_star : (s : Placed) (rest : List Placed) → is_mark s (codes "*") ≡ true → export_declaration (s ∷ rest) ≡ further (export_all rest)
export_star s rest p = cond-true (is_mark s (codes "*")) (further (export_all rest)) (export_curly s rest) p

all_from : {from : List Placed} → FromClause from → (rest : List Placed) → export_all (from ++ rest) ≡ from_clause (from ++ rest)
all_from (from_module {f} {s} p q) rest =
    cond-true (is_word f (codes "from")) (further (module_specifier (s ∷ rest))) (if is_word f (codes "as") then further (module_export_name (s ∷ rest)) else wrong) p
    ∙ sym (cond-true (is_word f (codes "from")) (further (module_specifier (s ∷ rest))) wrong p)

all_as_name : (a x : Placed) (rest : List Placed) → is_word a (codes "as") ≡ true → (is_name x || is_text x) ≡ true → export_all (a ∷ x ∷ rest) ≡ behind 2 (from_clause rest)
all_as_name a x rest p q =
    cond-false (is_word a (codes "from")) (further (module_specifier (x ∷ rest))) (if is_word a (codes "as") then further (module_export_name (x ∷ rest)) else wrong) (one_word a (codes "as") (codes "from") p refl)
    ∙ (cond-true (is_word a (codes "as")) (further (module_export_name (x ∷ rest))) wrong p ∙ ap further (cond-true (is_name x || is_text x) (further (from_clause rest)) wrong q))

named_from : {from : List Placed} → FromClause from → (rest : List Placed) → named_exports (from ++ rest) ≡ from_clause (from ++ rest)
named_from (from_module {f} {s} p q) rest =
    cond-true (is_word f (codes "from")) (further (named_specifier (s ∷ rest))) alone p
    ∙ (ap further (cond-true (is_text s) (asks 0) alone q ∙ sym (cond-true (is_text s) (asks 0) wrong q))
    ∙ sym (cond-true (is_word f (codes "from")) (further (module_specifier (s ∷ rest))) wrong p))

curly_exports : {tokens : List Placed} → Braces tokens → (rest : List Placed) → export_declaration (tokens ++ rest) ≡ behind (length tokens) (named_exports rest)
curly_exports (curly {t} {tokens} p u) rest =
    cond-false (is_mark t (codes "*")) (further (export_all (tokens ++ rest))) (export_curly t (tokens ++ rest)) (one_mark t (codes "{") (codes "*") p refl)
    ∙ (cond-true (is_mark t (codes "{")) (braces named_exports (t ∷ tokens ++ rest)) (by_word t (tokens ++ rest)) p ∙ partner_gives u named_exports rest)

exporting_gives : {tokens from : List Placed} → ExportFromClause tokens → FromClause from → (rest : List Placed) → export_declaration (tokens ++ (from ++ rest)) ≡ behind (length tokens) (from_clause (from ++ rest))
exporting_gives {from} (star {s} p) f rest = export_star s (from ++ rest) p ∙ ap further (all_from f rest)
exporting_gives {from} (star_as_name {s} {a} {x} p q r) f rest = export_star s (a ∷ x ∷ (from ++ rest)) p ∙ ap further (all_as_name a x (from ++ rest) q r)
exporting_gives {from} (names {tokens} b) f rest = curly_exports b (from ++ rest) ∙ ap (behind (length tokens)) (named_from f rest)

export_gives : {tokens : List Placed} → ExportFrom tokens → (count : ℕ) (rest : List Placed) → length tokens ≡ suc count → export_declaration (tokens ++ rest) ≡ asks count
export_gives (exports {clause} {from} c f) count rest e =
    ap export_declaration (append_assoc clause from rest)
    ∙ (exporting_gives c f rest
    ∙ (ap (behind (length clause)) (from_gives f rest)
    ∙ (behind_asks (length clause) 1 ∙ ap asks (one_before clause from count (from_length f) e))))

export_complete : (tokens : List Placed) (count : ℕ) → Asks ExportFrom tokens count → export_declaration tokens ≡ asks count
export_complete tokens count a = ap export_declaration a.split ∙ export_gives a.produced count a.rest a.counted

-- what is alone isn't wrong, whatever comes behind it
no_wrong : (c : Bool) (f : Form) → f ≢ wrong → (if c then further f else alone) ≢ wrong
no_wrong true wrong n e = n refl
no_wrong true none n e = cc
no_wrong true alone n e = cc
no_wrong true (asks count) n e = cc
no_wrong false f n e = cc

specifier_or_alone : (c : Bool) → (if c then asks 0 else alone) ≢ wrong
specifier_or_alone true e = cc
specifier_or_alone false e = cc

specifier_no_wrong : (tokens : List Placed) → named_specifier tokens ≢ wrong
specifier_no_wrong [] e = cc
specifier_no_wrong (t ∷ rest) e = specifier_or_alone (is_text t) e

named_no_wrong : (tokens : List Placed) → named_exports tokens ≢ wrong
named_no_wrong [] e = cc
named_no_wrong (t ∷ rest) e = no_wrong (is_word t (codes "from")) (named_specifier rest) (specifier_no_wrong rest) e

further_no_wrong : (f : Form) → f ≢ wrong → further f ≢ wrong
further_no_wrong wrong n e = n refl
further_no_wrong none n e = cc
further_no_wrong alone n e = cc
further_no_wrong (asks count) n e = cc

behind_no_wrong : (n : ℕ) (f : Form) → f ≢ wrong → behind n f ≢ wrong
behind_no_wrong zero f h e = h e
behind_no_wrong (suc n) f h e = further_no_wrong (behind n f) (behind_no_wrong n f h) e

or_cases : {C : Type 0} (a b : Bool) → (a ≡ true → C) → (b ≡ true → C) → (a || b) ≡ true → C
or_cases true b f g e = f refl
or_cases false b f g e = g e

exported_is_name : (t : Placed) → is_exported t ≡ true → is_name t ≡ true
exported_is_name t e =
    or_cases _ (is_word t (codes "async")) (λ d. or_cases _ (is_word t (codes "class")) (λ d. or_cases _ (is_word t (codes "function")) (λ d. or_cases _ (is_word t (codes "const")) (λ d. or_cases _ (is_word t (codes "let")) (λ d. or_cases _ (is_word t (codes "var")) (λ d. word_is_name t (codes "default") d) (λ d. word_is_name t (codes "var") d) d) (λ d. word_is_name t (codes "let") d) d) (λ d. word_is_name t (codes "const") d) d) (λ d. word_is_name t (codes "function") d) d) (λ d. word_is_name t (codes "class") d) d) (λ d. word_is_name t (codes "async") d) e

alone_gives : {tokens : List Placed} → ExportAlone tokens → (rest : List Placed) → export_declaration (tokens ++ rest) ≢ wrong
alone_gives (names_alone {tokens} b) rest e = behind_no_wrong (length tokens) (named_exports rest) (named_no_wrong rest) (sym (curly_exports b rest) ∙ e)
alone_gives (first_word {x} p) rest e =
    let name = exported_is_name x p in
    let f = cond-false (is_mark x (codes "*")) (further (export_all rest)) (export_curly x rest) (name_no_mark x (codes "*") name)
    ∙ (cond-false (is_mark x (codes "{")) (braces named_exports (x ∷ rest)) (by_word x rest) (name_no_mark x (codes "{") name) ∙ cond-true (is_exported x) alone wrong p) in
    let g : alone ≡ wrong = sym f ∙ e in cc

alone_complete : (tokens : List Placed) → Begins ExportAlone tokens → export_declaration tokens ≢ wrong
alone_complete tokens b e = alone_gives b.produced b.rest (sym (ap export_declaration b.split) ∙ e)

-- ---- both ways

of_asks : {P A : List Placed → Type 0} {tokens : List Placed} {count : ℕ} → Sound P A tokens (asks count) → Asks P tokens count
of_asks (asking a) = a

of_alone : {P A : List Placed → Type 0} {tokens : List Placed} → Sound P A tokens alone → Begins A tokens
of_alone (lonely b) = b

if_no_import : {tokens : List Placed} {f : Form} → Sound ImportDeclaration (λ none_alone. ⊥) tokens f → ((count : ℕ) → Asks ImportDeclaration tokens count → ⊥) → f ≡ wrong
if_no_import refused h = refl
if_no_import (asking {count} a) h = absurd (h count a)
if_no_import (lonely b) h = absurd b.produced

other_form : {count : ℕ} {f : Form} → f ≡ asks count → f ≡ wrong → ⊥
other_form e g = let h : asks _ ≡ wrong = sym e ∙ g in cc

import_forms : (tokens : List Placed) → ImportForms tokens
import_forms tokens = record {
  asking = λ count. (λ e. of_asks (subst (λ f. Sound ImportDeclaration (λ none_alone. ⊥) tokens f) e (import_sound (λ none_alone. ⊥) tokens)), λ a. import_complete tokens count a);
  refused = (λ e count a. other_form (import_complete tokens count a) e, λ h. if_no_import (import_sound (λ none_alone. ⊥) tokens) h);
}

if_no_export : {tokens : List Placed} {f : Form} → Sound ExportFrom ExportAlone tokens f → (Begins ExportAlone tokens → ⊥) → ((count : ℕ) → Asks ExportFrom tokens count → ⊥) → f ≡ wrong
if_no_export refused h k = refl
if_no_export (asking {count} a) h k = absurd (k count a)
if_no_export (lonely b) h k = absurd (h b)

if_alone : {tokens : List Placed} {f : Form} → Sound ExportFrom ExportAlone tokens f → f ≢ wrong → ((count : ℕ) → Asks ExportFrom tokens count → ⊥) → f ≡ alone
if_alone refused h k = absurd (h refl)
if_alone (asking {count} a) h k = absurd (k count a)
if_alone (lonely b) h k = refl

no_asks : {count : ℕ} {f : Form} → f ≡ asks count → f ≡ alone → ⊥
no_asks e g = let h : asks _ ≡ alone = sym e ∙ g in cc

export_forms : (tokens : List Placed) → ExportForms tokens
export_forms tokens = record {
  asking = λ count. (λ e. of_asks (subst (λ f. Sound ExportFrom ExportAlone tokens f) e (export_sound tokens)), λ a. export_complete tokens count a);
  lone = (λ e. (of_alone (subst (λ f. Sound ExportFrom ExportAlone tokens f) e (export_sound tokens)), λ count a. no_asks (export_complete tokens count a) e), λ p. if_alone (export_sound tokens) (alone_complete tokens p.0) p.1);
  refused = (λ e. (λ b. alone_complete tokens b e, λ count a. other_form (export_complete tokens count a) e), λ p. if_no_export (export_sound tokens) p.0 p.1);
}

pub forms_are_productions : FormsAreProductions
forms_are_productions tokens = (import_forms tokens, export_forms tokens)
