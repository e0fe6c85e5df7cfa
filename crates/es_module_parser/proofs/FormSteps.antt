-- One token of the parser is one token of the forms.
use Rattle.std.proofs.Common.{◌⊎◌, inl, inr, ◌≢◌, ◌≡◌, ℕ, zero, suc, Bool, true, false, ◌&&◌, ◌||◌, ◌==◌, bytes_eq, codes, List, [], ◌∷◌, if◌then◌else◌, Option, Some, None, Result, Err, refl, sym, ap, subst, arith}
use Rattle.std.proofs.lemmas.Slice.Eq.{bytes_eq-Decides}
use Rattle.std.proofs.lemmas.Bool.{ne_eqb}
use Rattle.std.proofs.Math.Bool.{and-false}
use Rattle.module_spec.specs.declared.request.Request.{Request}
use Rattle.module_spec.specs.declared.request.ModuleFault.{ModuleFault}
use Rattle.module_spec.specs.declared.request.ModuleFault.TheVariants.{Unreadable}
use Rattle.module_spec.specs.Places.{Placed, is_name, is_text, is_word, is_mark, is_top}
use Rattle.module_spec.specs.Forms.{Form, further, module_specifier, from_clause, imported_binding, name_space_import, braces, second_binding, behind_default, behind_import, module_export_name, export_all, named_specifier, named_exports, is_exported, export_declaration, declaration}
use Rattle.module_spec.specs.Forms.Form.{wrong, none, alone, asks}
use Rattle.module_spec.specs.Outlines.{Finding, found, findings, requests}
use Rattle.module_spec.specs.Outlines.Finding.{wrong_form, specifier}
use Rattle.module_spec.proofs.Terminals.{OneKind, one_kind, mark_no_word}
use Rattle.module_spec.proofs.Terminals.OneKind.{a_name, a_text, a_mark, another}
use Rattle.es_module_parser.specs.declared.expect.Expect.{Expect}
use Rattle.es_module_parser.specs.declared.expect.Expect.TheVariants.{ImportDeclaration, BehindDefault, SecondBinding, NameSpaceImport, ImportedBinding, ImportBraces, FromClause, ModuleSpecifier, ExportDeclaration, ExportAll, ModuleExportName, ExportBraces, NamedExports, NamedSpecifier}
use Rattle.es_module_parser.specs.declared.expect.Turn.{Turn}
use Rattle.es_module_parser.specs.declared.expect.Turn.TheVariants as turns
use Rattle.es_module_parser.specs.declared.expect.Seen.{Seen}
use Rattle.es_module_parser.specs.declared.progress.Progress.{Progress}
use Rattle.es_module_parser.specs.declared.progress.Progress.TheVariants.{Outside, Inside, Broken}
use Rattle.es_module_parser.specs.declared.progress.Next.{Next}
use Rattle.es_module_parser.specs.declared.progress.Next.TheVariants.{Goes, Specifier}
use Rattle.es_module_parser.specs.Progress.{turned, begun, moved, moved_wrong, stepped}

-- a token as the parser sees it
abbrev pub seen_of : Placed → Seen
seen_of t = record { kind = t.token.kind; from = t.token.from; plain = t.plain; top = is_top t; behind = t.behind }

-- what a declaration is by the tokens that are to come
abbrev pub form : Expect → List Placed → Form
form ImportDeclaration = behind_import
form BehindDefault = behind_default
form SecondBinding = second_binding
form NameSpaceImport = name_space_import
form ImportedBinding = imported_binding
form ImportBraces = braces from_clause
form FromClause = from_clause
form ModuleSpecifier = module_specifier
form ExportDeclaration = export_declaration
form ExportAll = export_all
form ModuleExportName = module_export_name
form ExportBraces = braces named_exports
form NamedExports = named_exports
form NamedSpecifier = named_specifier

-- ---- where a form goes on behind a word, none begins with that word

abbrev NoneBegins : List Placed → Form → Type 0
NoneBegins later f = (f ≡ wrong) ⊎ ((behind_import later ≡ wrong) × (export_declaration later ≡ wrong))

-- the tests of a token by what its kind says and by its text
abbrev import_by : Bool → Bool → Bool → List ℕ → Bool → List Placed → Form
import_by name text mark spelled closed rest =
    if (mark && bytes_eq spelled (codes "(")) || (mark && bytes_eq spelled (codes ".")) then none
    else if text then asks 0
    else if name then further (behind_default rest)
    else if mark && bytes_eq spelled (codes "*") then further (name_space_import rest)
    else if mark && bytes_eq spelled (codes "{") then further (if closed then from_clause rest else braces from_clause rest)
    else wrong

abbrev exported_by : Bool → List ℕ → Bool
exported_by name spelled =
    name && bytes_eq spelled (codes "default")
    || name && bytes_eq spelled (codes "var")
    || name && bytes_eq spelled (codes "let")
    || name && bytes_eq spelled (codes "const")
    || name && bytes_eq spelled (codes "function")
    || name && bytes_eq spelled (codes "class")
    || name && bytes_eq spelled (codes "async")

abbrev export_by : Bool → Bool → List ℕ → Bool → List Placed → Form
export_by name mark spelled closed rest =
    if mark && bytes_eq spelled (codes "*") then further (export_all rest)
    else if mark && bytes_eq spelled (codes "{") then further (if closed then named_exports rest else braces named_exports rest)
    else if exported_by name spelled then alone
    else wrong

abbrev default_by : Bool → Bool → List ℕ → List Placed → Form
default_by name mark spelled rest =
    if name && bytes_eq spelled (codes "from") then further (module_specifier rest)
    else if mark && bytes_eq spelled (codes ",") then further (second_binding rest)
    else wrong

abbrev from_by : Bool → List ℕ → List Placed → Form
from_by name spelled rest = if name && bytes_eq spelled (codes "from") then further (module_specifier rest) else wrong

abbrev specifier_by : Bool → Form
specifier_by text = if text then asks 0 else wrong

specifier_or_default_by : (v : Placed) (rest : List Placed) {name text mark : Bool} → OneKind name text mark → (specifier_by text ≡ wrong) ⊎ (default_by name mark v.text rest ≡ wrong)
specifier_or_default_by v rest a_name = inl refl
specifier_or_default_by v rest a_text = inr refl
specifier_or_default_by v rest a_mark = inl refl
specifier_or_default_by v rest another = inl refl

specifier_or_default : (rest : List Placed) → (module_specifier rest ≡ wrong) ⊎ (behind_default rest ≡ wrong)
specifier_or_default [] = inl refl
specifier_or_default (v ∷ rest) = specifier_or_default_by v rest (one_kind v.token.kind)

abbrev NoneBy : Form → Form → Form → Type 0
NoneBy f imported exported = (f ≡ wrong) ⊎ ((imported ≡ wrong) × (exported ≡ wrong))

from_next : (spelled : List ℕ) (rest : List Placed) (closed c : Bool) → bytes_eq spelled (codes "from") ≡ c → (module_specifier rest ≡ wrong) ⊎ (behind_default rest ≡ wrong) → NoneBy (if c then further (module_specifier rest) else wrong) (further (behind_default rest)) (export_by true false spelled closed rest)
from_next spelled rest closed false e s = inl refl
from_next spelled rest closed true e (inl s) = inl (ap further s)
from_next spelled rest closed true e (inr s) = inr (ap further s, subst (λ x. export_by true false x closed rest ≡ wrong) (sym ((bytes_eq-Decides spelled (codes "from")).0 e)) refl)

comma_next : (spelled : List ℕ) (rest : List Placed) (closed c : Bool) → bytes_eq spelled (codes ",") ≡ c → NoneBy (if c then further (second_binding rest) else wrong) (import_by false false true spelled closed rest) (export_by false true spelled closed rest)
comma_next spelled rest closed false e = inl refl
comma_next spelled rest closed true e =
    let same = sym ((bytes_eq-Decides spelled (codes ",")).0 e) in
    inr (subst (λ x. import_by false false true x closed rest ≡ wrong) same refl, subst (λ x. export_by false true x closed rest ≡ wrong) same refl)

default_by_kind : (spelled : List ℕ) (rest : List Placed) (closed : Bool) {name text mark : Bool} → OneKind name text mark → NoneBy (default_by name mark spelled rest) (import_by name text mark spelled closed rest) (export_by name mark spelled closed rest)
default_by_kind spelled rest closed a_name = from_next spelled rest closed (bytes_eq spelled (codes "from")) refl (specifier_or_default rest)
default_by_kind spelled rest closed a_text = inl refl
default_by_kind spelled rest closed a_mark = comma_next spelled rest closed (bytes_eq spelled (codes ",")) refl
default_by_kind spelled rest closed another = inl refl

from_by_kind : (spelled : List ℕ) (rest : List Placed) (closed : Bool) {name text mark : Bool} → OneKind name text mark → NoneBy (from_by name spelled rest) (import_by name text mark spelled closed rest) (export_by name mark spelled closed rest)
from_by_kind spelled rest closed a_name = from_next spelled rest closed (bytes_eq spelled (codes "from")) refl (specifier_or_default rest)
from_by_kind spelled rest closed a_text = inl refl
from_by_kind spelled rest closed a_mark = inl refl
from_by_kind spelled rest closed another = inl refl

default_begins : (later : List Placed) → NoneBegins later (behind_default later)
default_begins [] = inl refl
default_begins (u ∷ rest) = default_by_kind u.text rest (u.behind == 0) (one_kind u.token.kind)

from_begins : (later : List Placed) → NoneBegins later (from_clause later)
from_begins [] = inl refl
from_begins (u ∷ rest) = from_by_kind u.text rest (u.behind == 0) (one_kind u.token.kind)

-- ---- where a token begins none

abbrev begins : Placed → Bool
begins t = is_top t && (is_word t (codes "import") || is_word t (codes "export"))

no_word : (top : Bool) (spelled w : List ℕ) (c : Bool) → (name : Bool) → bytes_eq w (codes "import") ≡ false → bytes_eq w (codes "export") ≡ false → bytes_eq spelled w ≡ c → (name && c) ≡ true → (top && (name && bytes_eq spelled (codes "import") || name && bytes_eq spelled (codes "export"))) ≡ false
no_word top spelled w c false p q e f = and-false top
no_word top spelled w false true p q e f = absurd (cc)
no_word top spelled w true true p q e f = subst (λ x. (top && (bytes_eq x (codes "import") || bytes_eq x (codes "export"))) ≡ false) (sym ((bytes_eq-Decides spelled w).0 e)) (rw (p, q) (and-false top))

word_begins : (t : Placed) (w : List ℕ) → bytes_eq w (codes "import") ≡ false → bytes_eq w (codes "export") ≡ false → is_word t w ≡ true → begins t ≡ false
word_begins t w p q e = no_word (is_top t) t.text w (bytes_eq t.text w) (is_name t) p q refl e

neither : (top a b : Bool) → a ≡ false → b ≡ false → (top && (a || b)) ≡ false
neither top a b e f = rw (e, f) (and-false top)

mark_begins : (t : Placed) (m : List ℕ) → is_mark t m ≡ true → begins t ≡ false
mark_begins t m e = neither (is_top t) (is_word t (codes "import")) (is_word t (codes "export")) (mark_no_word t m (codes "import") e) (mark_no_word t m (codes "export") e)

no_name_by : (top a b : Bool) {name text mark : Bool} → OneKind name text mark → text ≡ true → (top && (name && a || name && b)) ≡ false
no_name_by top a b a_name e = absurd (cc)
no_name_by top a b a_text e = and-false top
no_name_by top a b a_mark e = absurd (cc)
no_name_by top a b another e = absurd (cc)

text_begins : (t : Placed) → is_text t ≡ true → begins t ≡ false
text_begins t e = no_name_by (is_top t) (bytes_eq t.text (codes "import")) (bytes_eq t.text (codes "export")) (one_kind t.token.kind) e

deep_by : (plain at_zero c : Bool) → at_zero ≡ false → ((plain && at_zero) && c) ≡ false
deep_by true false c e = refl
deep_by false false c e = refl
deep_by plain true c e = absurd (cc)

deep_begins : (t : Placed) → t.depth ≢ 0 → begins t ≡ false
deep_begins t d = deep_by t.plain (t.depth == 0) (is_word t (codes "import") || is_word t (codes "export")) (ne_eqb t.depth 0 d)

-- ---- what a form is by its next token: where it goes on, none begins at the token, or none that has a form

pub data Turns (t : Placed) (later : List Placed) : Turn → Form → Type 0 where
  goes : (e : Expect) → (begins t ≡ false) ⊎ NoneBegins later (form e later) → Turns t later (turns.Go e) (further (form e later))
  fails : Turns t later turns.Wrong wrong
  asked : begins t ≡ false → Turns t later turns.Asked (asks 0)
  leaves : Turns t later turns.Leave alone
  calls : Turns t later turns.Leave none

if_turns : {t : Placed} {later : List Placed} {s u : Turn} {f g : Form} (c : Bool) → (c ≡ true → Turns t later s f) → Turns t later u g → Turns t later (if c then s else u) (if c then f else g)
if_turns true x y = x refl
if_turns false x y = y

if_goes : {t : Placed} {later : List Placed} (c : Bool) (d e : Expect) → begins t ≡ false → Turns t later (if c then turns.Go d else turns.Go e) (further (if c then form d later else form e later))
if_goes true d e p = goes d (inl p)
if_goes false d e p = goes e (inl p)

-- inside of braces a bracket is open
abbrev pub InBraces : Expect → ℕ → Type 0
InBraces ImportDeclaration d = Unit {0}
InBraces BehindDefault d = Unit {0}
InBraces SecondBinding d = Unit {0}
InBraces NameSpaceImport d = Unit {0}
InBraces ImportedBinding d = Unit {0}
InBraces ImportBraces d = d ≢ 0
InBraces FromClause d = Unit {0}
InBraces ModuleSpecifier d = Unit {0}
InBraces ExportDeclaration d = Unit {0}
InBraces ExportAll d = Unit {0}
InBraces ModuleExportName d = Unit {0}
InBraces ExportBraces d = d ≢ 0
InBraces NamedExports d = Unit {0}
InBraces NamedSpecifier d = Unit {0}

pub turns_of : (e : Expect) (t : Placed) (later : List Placed) → InBraces e t.depth → Turns t later (turned e (seen_of t) t.text) (form e (t ∷ later))
turns_of ImportDeclaration t later d =
    if_turns (is_mark t (codes "(") || is_mark t (codes ".")) (λ c. calls) (if_turns (is_text t) (λ c. asked (text_begins t c)) (if_turns (is_name t) (λ c. goes BehindDefault (inr (default_begins later)))
    (if_turns (is_mark t (codes "*")) (λ c. goes NameSpaceImport (inl (mark_begins t (codes "*") c))) (if_turns (is_mark t (codes "{")) (λ c. if_goes (t.behind == 0) FromClause ImportBraces (mark_begins t (codes "{") c)) fails))))
turns_of BehindDefault t later d = if_turns (is_word t (codes "from")) (λ c. goes ModuleSpecifier (inl (word_begins t (codes "from") refl refl c))) (if_turns (is_mark t (codes ",")) (λ c. goes SecondBinding (inl (mark_begins t (codes ",") c))) fails)
turns_of SecondBinding t later d = if_turns (is_mark t (codes "*")) (λ c. goes NameSpaceImport (inl (mark_begins t (codes "*") c))) (if_turns (is_mark t (codes "{")) (λ c. if_goes (t.behind == 0) FromClause ImportBraces (mark_begins t (codes "{") c)) fails)
turns_of NameSpaceImport t later d = if_turns (is_word t (codes "as")) (λ c. goes ImportedBinding (inl (word_begins t (codes "as") refl refl c))) fails
turns_of ImportedBinding t later d = if_turns (is_name t) (λ c. goes FromClause (inr (from_begins later))) fails
turns_of ImportBraces t later d = if_goes (t.behind == 0) FromClause ImportBraces (deep_begins t d)
turns_of FromClause t later d = if_turns (is_word t (codes "from")) (λ c. goes ModuleSpecifier (inl (word_begins t (codes "from") refl refl c))) fails
turns_of ModuleSpecifier t later d = if_turns (is_text t) (λ c. asked (text_begins t c)) fails
turns_of ExportDeclaration t later d = if_turns (is_mark t (codes "*")) (λ c. goes ExportAll (inl (mark_begins t (codes "*") c))) (if_turns (is_mark t (codes "{")) (λ c. if_goes (t.behind == 0) NamedExports ExportBraces (mark_begins t (codes "{") c)) (if_turns (is_exported t) (λ c. leaves) fails))
turns_of ExportAll t later d = if_turns (is_word t (codes "from")) (λ c. goes ModuleSpecifier (inl (word_begins t (codes "from") refl refl c))) (if_turns (is_word t (codes "as")) (λ c. goes ModuleExportName (inl (word_begins t (codes "as") refl refl c))) fails)
turns_of ModuleExportName t later d = if_turns (is_name t || is_text t) (λ c. goes FromClause (inr (from_begins later))) fails
turns_of ExportBraces t later d = if_goes (t.behind == 0) NamedExports ExportBraces (deep_begins t d)
turns_of NamedExports t later d = if_turns (is_word t (codes "from")) (λ c. goes NamedSpecifier (inl (word_begins t (codes "from") refl refl c))) leaves
turns_of NamedSpecifier t later d = if_turns (is_text t) (λ c. asked (text_begins t c)) leaves

-- ---- one token

-- what is found from where the parser stands on
abbrev pub opened : ℕ → Form → (Option ℕ → List Finding) → List Finding
opened word wrong next = wrong_form word ∷ []
opened word none next = next None
opened word alone next = next None
opened word (asks count) next = next (Some count)

-- and where there is a fault inside of the form
abbrev pub broken : ℕ → ModuleFault → Form → Result (List Request) ModuleFault
broken word inner wrong = Err (Unreadable word)
broken word inner none = Err inner
broken word inner alone = Err inner
broken word inner (asks count) = Err inner

-- what comes of the text, behind these tokens, the last one first
abbrev pub finished : List Placed → Progress → List Request → List Placed → Result (List Request) ModuleFault
finished before Outside so_far later = requests so_far (findings before None later)
finished before (Inside e word None) so_far later = requests so_far (opened word (form e later) (λ n. findings before n later))
finished before (Inside e word (Some inner)) so_far later = broken word inner (form e later)
finished before (Broken fault) so_far later = Err fault

abbrev pub finished_behind : List Placed → Next → Placed → List Request → List Placed → Result (List Request) ModuleFault
finished_behind before (Goes progress) t so_far later = finished before progress so_far later
finished_behind before Specifier t so_far later = requests so_far (specifier t ∷ findings before None later)

-- the same where the next token is known, and the call that it ends is heard; `before` has that token
abbrev pub resumed : List Placed → Progress → List Request → Placed → List Placed → Result (List Request) ModuleFault
resumed before Outside so_far t later = requests so_far (found t None (declaration t later) (λ n. findings before n later))
resumed before (Inside e word None) so_far t later = requests so_far (opened word (form e (t ∷ later)) (λ a. found t a (declaration t later) (λ n. findings before n later)))
resumed before (Inside e word (Some inner)) so_far t later = broken word inner (form e (t ∷ later))
resumed before (Broken fault) so_far t later = Err fault

abbrev begun_form : Bool → Bool → List Placed → Form
begun_form c d later = if c then behind_import later else if d then export_declaration later else none

found_none : (t : Placed) (f : Form) (next : Option ℕ → List Finding) → found t None f next ≡ opened t.token.from f next
found_none t wrong next = refl
found_none t none next = refl
found_none t alone next = refl
found_none t (asks count) next = refl

begun_by : (before : List Placed) (t : Placed) (later : List Placed) (so_far : List Request) (c d : Bool) → requests so_far (found t None (begun_form c d later) (λ n. findings before n later)) ≡ finished before (if c then Inside ImportDeclaration t.token.from None else if d then Inside ExportDeclaration t.token.from None else Outside) so_far later
begun_by before t later so_far true d = ap (requests so_far) (found_none t (behind_import later) (λ n. findings before n later))
begun_by before t later so_far false true = ap (requests so_far) (found_none t (export_declaration later) (λ n. findings before n later))
begun_by before t later so_far false false = refl

pub begun_step : (before : List Placed) (t : Placed) (later : List Placed) (so_far : List Request) → resumed before Outside so_far t later ≡ finished before (begun (seen_of t) t.text) so_far later
begun_step before t later so_far = begun_by before t later so_far (is_top t && is_word t (codes "import")) (is_top t && is_word t (codes "export"))

plain_case : (before : List Placed) (t : Placed) (later : List Placed) (so_far : List Request) (word : ℕ) (g : Form) → requests so_far (opened word (further g) (λ a. found t a none (λ n. findings before n later))) ≡ requests so_far (opened word g (λ a. findings before a later))
plain_case before t later so_far word wrong = refl
plain_case before t later so_far word none = refl
plain_case before t later so_far word alone = refl
plain_case before t later so_far word (asks count) = refl

word_case : (before : List Placed) (t : Placed) (later : List Placed) (so_far : List Request) (word : ℕ) (g b : Form) → (g ≡ wrong) ⊎ (b ≡ wrong) → requests so_far (opened word (further g) (λ a. found t a b (λ n. findings before n later))) ≡ broken word (Unreadable t.token.from) g
word_case before t later so_far word wrong b p = refl
word_case before t later so_far word none b (inl e) = absurd (cc)
word_case before t later so_far word none b (inr e) = rw e refl
word_case before t later so_far word alone b (inl e) = absurd (cc)
word_case before t later so_far word alone b (inr e) = rw e refl
word_case before t later so_far word (asks count) b (inl e) = absurd (cc)
word_case before t later so_far word (asks count) b (inr e) = rw e refl

go_case : (before : List Placed) (t : Placed) (later : List Placed) (so_far : List Request) (word : ℕ) (e : Expect) (top i x : Bool) → ((top && (i || x)) ≡ false) ⊎ NoneBegins later (form e later)
    → requests so_far (opened word (further (form e later)) (λ a. found t a (begun_form (top && i) (top && x) later) (λ n. findings before n later))) ≡ finished before (if top && (i || x) then Inside e word (Some (Unreadable t.token.from)) else Inside e word None) so_far later
go_case before t later so_far word e false i x p = plain_case before t later so_far word (form e later)
go_case before t later so_far word e true false false p = plain_case before t later so_far word (form e later)
go_case before t later so_far word e true true x (inl p) = absurd (cc)
go_case before t later so_far word e true true x (inr (inl g)) = word_case before t later so_far word (form e later) (behind_import later) (inl g)
go_case before t later so_far word e true true x (inr (inr b)) = word_case before t later so_far word (form e later) (behind_import later) (inr b.0)
go_case before t later so_far word e true false true (inl p) = absurd (cc)
go_case before t later so_far word e true false true (inr (inl g)) = word_case before t later so_far word (form e later) (export_declaration later) (inl g)
go_case before t later so_far word e true false true (inr (inr b)) = word_case before t later so_far word (form e later) (export_declaration later) (inr b.1)

asked_case : (before : List Placed) (t : Placed) (later : List Placed) (so_far : List Request) (top i x : Bool) → (top && (i || x)) ≡ false → requests so_far (found t (Some 0) (begun_form (top && i) (top && x) later) (λ n. findings before n later)) ≡ requests so_far (specifier t ∷ findings before None later)
asked_case before t later so_far false i x p = refl
asked_case before t later so_far true false false p = refl
asked_case before t later so_far true true x p = absurd (cc)
asked_case before t later so_far true false true p = absurd (cc)

inside_step : (before : List Placed) (t : Placed) (later : List Placed) (so_far : List Request) (word : ℕ) {turn : Turn} {f : Form} → Turns t later turn f → requests so_far (opened word f (λ a. found t a (declaration t later) (λ n. findings before n later))) ≡ finished_behind before (moved word turn (seen_of t) t.text) t so_far later
inside_step before t later so_far word (goes e p) = go_case before t later so_far word e (is_top t) (is_word t (codes "import")) (is_word t (codes "export")) p
inside_step before t later so_far word fails = refl
inside_step before t later so_far word (asked p) = asked_case before t later so_far (is_top t) (is_word t (codes "import")) (is_word t (codes "export")) p
inside_step before t later so_far word leaves = begun_step before t later so_far
inside_step before t later so_far word calls = begun_step before t later so_far

broken_further : (word : ℕ) (inner : ModuleFault) (g : Form) → broken word inner (further g) ≡ broken word inner g
broken_further word inner wrong = refl
broken_further word inner none = refl
broken_further word inner alone = refl
broken_further word inner (asks count) = refl

wrong_step : (before : List Placed) (t : Placed) (later : List Placed) (so_far : List Request) (word : ℕ) (inner : ModuleFault) {turn : Turn} {f : Form} → Turns t later turn f → broken word inner f ≡ finished before (moved_wrong word inner turn) so_far later
wrong_step before t later so_far word inner (goes e p) = broken_further word inner (form e later)
wrong_step before t later so_far word inner fails = refl
wrong_step before t later so_far word inner (asked p) = refl
wrong_step before t later so_far word inner leaves = refl
wrong_step before t later so_far word inner calls = refl

abbrev pub Deep : Progress → ℕ → Type 0
Deep Outside d = Unit {0}
Deep (Broken fault) d = Unit {0}
Deep (Inside e word inner) d = InBraces e d

pub step_resumed : (before : List Placed) (p : Progress) (t : Placed) (later : List Placed) (so_far : List Request) → Deep p t.depth → resumed before p so_far t later ≡ finished_behind before (stepped p (seen_of t) t.text) t so_far later
step_resumed before Outside t later so_far d = begun_step before t later so_far
step_resumed before (Broken fault) t later so_far d = refl
step_resumed before (Inside e word None) t later so_far d = inside_step before t later so_far word (turns_of e t later d)
step_resumed before (Inside e word (Some inner)) t later so_far d = wrong_step before t later so_far word inner (turns_of e t later d)

-- ---- and it keeps that a bracket is open inside of braces

data DeepTurn (d : ℕ) : Turn → Type 0 where
  deep_go : {e : Expect} → InBraces e d → DeepTurn d (turns.Go e)
  deep_fail : DeepTurn d turns.Wrong
  deep_asked : DeepTurn d turns.Asked
  deep_leave : DeepTurn d turns.Leave

on : {d : ℕ} (e : Expect) → InBraces e d → DeepTurn d (turns.Go e)
on e i = deep_go i

if_deep : {s u : Turn} {d : ℕ} (c : Bool) → DeepTurn d s → DeepTurn d u → DeepTurn d (if c then s else u)
if_deep true x y = x
if_deep false x y = y

not_zero : (n : ℕ) → (n == 0) ≡ false → n ≢ 0
not_zero zero e = absurd (cc)
not_zero (suc n) e = λ f. omega arith

in_import : (d : ℕ) (c : Bool) → (d == 0) ≡ c → DeepTurn d (if c then turns.Go FromClause else turns.Go ImportBraces)
in_import d true e = on FromClause tt
in_import d false e = on ImportBraces (not_zero d e)

in_export : (d : ℕ) (c : Bool) → (d == 0) ≡ c → DeepTurn d (if c then turns.Go NamedExports else turns.Go ExportBraces)
in_export d true e = on NamedExports tt
in_export d false e = on ExportBraces (not_zero d e)

deep_turn : (e : Expect) (t : Placed) → DeepTurn t.behind (turned e (seen_of t) t.text)
deep_turn ImportDeclaration t = if_deep (is_mark t (codes "(") || is_mark t (codes ".")) deep_leave (if_deep (is_text t) deep_asked (if_deep (is_name t) (on BehindDefault tt) (if_deep (is_mark t (codes "*")) (on NameSpaceImport tt) (if_deep (is_mark t (codes "{")) (in_import t.behind (t.behind == 0) refl) deep_fail))))
deep_turn BehindDefault t = if_deep (is_word t (codes "from")) (on ModuleSpecifier tt) (if_deep (is_mark t (codes ",")) (on SecondBinding tt) deep_fail)
deep_turn SecondBinding t = if_deep (is_mark t (codes "*")) (on NameSpaceImport tt) (if_deep (is_mark t (codes "{")) (in_import t.behind (t.behind == 0) refl) deep_fail)
deep_turn NameSpaceImport t = if_deep (is_word t (codes "as")) (on ImportedBinding tt) deep_fail
deep_turn ImportedBinding t = if_deep (is_name t) (on FromClause tt) deep_fail
deep_turn ImportBraces t = in_import t.behind (t.behind == 0) refl
deep_turn FromClause t = if_deep (is_word t (codes "from")) (on ModuleSpecifier tt) deep_fail
deep_turn ModuleSpecifier t = if_deep (is_text t) deep_asked deep_fail
deep_turn ExportDeclaration t = if_deep (is_mark t (codes "*")) (on ExportAll tt) (if_deep (is_mark t (codes "{")) (in_export t.behind (t.behind == 0) refl) (if_deep (is_exported t) deep_leave deep_fail))
deep_turn ExportAll t = if_deep (is_word t (codes "from")) (on ModuleSpecifier tt) (if_deep (is_word t (codes "as")) (on ModuleExportName tt) deep_fail)
deep_turn ModuleExportName t = if_deep (is_name t || is_text t) (on FromClause tt) deep_fail
deep_turn ExportBraces t = in_export t.behind (t.behind == 0) refl
deep_turn NamedExports t = if_deep (is_word t (codes "from")) (on NamedSpecifier tt) deep_leave
deep_turn NamedSpecifier t = if_deep (is_text t) deep_asked deep_leave

abbrev pub DeepNext : Next → ℕ → Type 0
DeepNext (Goes p) d = Deep p d
DeepNext Specifier d = Unit {0}

deep_begun : (d from : ℕ) (c x : Bool) → Deep (if c then Inside ImportDeclaration from None else if x then Inside ExportDeclaration from None else Outside) d
deep_begun d from true x = tt
deep_begun d from false true = tt
deep_begun d from false false = tt

deep_inside : (e : Expect) (d word from : ℕ) (c : Bool) → InBraces e d → Deep (if c then Inside e word (Some (Unreadable from)) else Inside e word None) d
deep_inside e d word from true i = i
deep_inside e d word from false i = i

deep_moved : {turn : Turn} (t : Placed) (word : ℕ) → DeepTurn t.behind turn → DeepNext (moved word turn (seen_of t) t.text) t.behind
deep_moved t word (deep_go {e} i) = deep_inside e t.behind word t.token.from (begins t) i
deep_moved t word deep_fail = tt
deep_moved t word deep_asked = tt
deep_moved t word deep_leave = deep_begun t.behind t.token.from (is_top t && is_word t (codes "import")) (is_top t && is_word t (codes "export"))

deep_wrong : {turn : Turn} {d : ℕ} (word : ℕ) (inner : ModuleFault) → DeepTurn d turn → Deep (moved_wrong word inner turn) d
deep_wrong word inner (deep_go i) = i
deep_wrong word inner deep_fail = tt
deep_wrong word inner deep_asked = tt
deep_wrong word inner deep_leave = tt

pub step_deep : (p : Progress) (t : Placed) → DeepNext (stepped p (seen_of t) t.text) t.behind
step_deep Outside t = deep_begun t.behind t.token.from (is_top t && is_word t (codes "import")) (is_top t && is_word t (codes "export"))
step_deep (Broken fault) t = tt
step_deep (Inside e word None) t = deep_moved t word (deep_turn e t)
step_deep (Inside e word (Some inner)) t = deep_wrong word inner (deep_turn e t)
