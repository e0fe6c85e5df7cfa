-- How the parser goes on from token to token. Each word says what a function of the code gives; the lemmas on them
-- tie it to the forms.
use Rattle.std.specs.Prelude.{◌≡◌, ℕ, Bool, false, ◌&&◌, ◌||◌, ◌==◌, ◌++◌, [], ◌∷◌, length, bytes_eq, codes, List}
use Rattle.std.specs.Prelude.{if◌then◌else◌, Option, Some, None, slice_range}
use Rattle.module_spec.specs.declared.token.Kind.{Kind}
use Rattle.module_spec.specs.declared.token.Token.{Token}
use Rattle.module_spec.specs.declared.request.Request.{Request}
use Rattle.module_spec.specs.declared.request.ModuleFault.{ModuleFault}
use Rattle.module_spec.specs.declared.request.ModuleFault.TheVariants.{Unreadable, TooManyRequests}
use Rattle.module_spec.specs.Places.{is_name_kind, is_text_kind, is_punctuator_kind}
use Rattle.module_spec.specs.StringValues.{string_value}
use Rattle.module_spec.specs.Outlines.{most_requests}
use Rattle.es_module_parser.specs.declared.expect.Expect.{Expect}
use Rattle.es_module_parser.specs.declared.expect.Expect.TheVariants.{ImportDeclaration, BehindDefault, SecondBinding}
use Rattle.es_module_parser.specs.declared.expect.Expect.TheVariants.{NameSpaceImport, ImportedBinding, ImportBraces}
use Rattle.es_module_parser.specs.declared.expect.Expect.TheVariants.{FromClause, ModuleSpecifier, ExportDeclaration}
use Rattle.es_module_parser.specs.declared.expect.Expect.TheVariants.{ExportAll, ModuleExportName, ExportBraces}
use Rattle.es_module_parser.specs.declared.expect.Expect.TheVariants.{NamedExports, NamedSpecifier}
use Rattle.es_module_parser.specs.declared.expect.Turn.{Turn}
use Rattle.es_module_parser.specs.declared.expect.Turn.TheVariants as turns
use Rattle.es_module_parser.specs.declared.expect.Seen.{Seen}
use Rattle.es_module_parser.specs.declared.progress.Progress.{Progress}
use Rattle.es_module_parser.specs.declared.progress.Progress.TheVariants.{Outside, Inside, Broken}
use Rattle.es_module_parser.specs.declared.declaring.After.{After}
use Rattle.es_module_parser.specs.declared.declaring.After.TheVariants.{Other}
use Rattle.es_module_parser.specs.declared.progress.Next.{Next}
use Rattle.es_module_parser.specs.declared.progress.Next.TheVariants.{Goes, Specifier}

-- ---- what a token is

abbrev pub word_is : Kind → List ℕ → List ℕ → Bool
word_is kind text word = is_name_kind kind && bytes_eq text word

abbrev pub mark_is : Kind → List ℕ → List ℕ → Bool
mark_is kind text mark = is_punctuator_kind kind && bytes_eq text mark

abbrev pub exported_is : Kind → List ℕ → Bool
exported_is kind text =
    word_is kind text (codes "default")
    || word_is kind text (codes "var")
    || word_is kind text (codes "let")
    || word_is kind text (codes "const")
    || word_is kind text (codes "function")
    || word_is kind text (codes "class")
    || word_is kind text (codes "async")

-- a token in its place: no property's name where it is plain, so many brackets before it, and so many behind it
abbrev pub seen_at : Token → Bool → ℕ → ℕ → Seen
seen_at token plain depth behind =
    record { kind = token.kind; from = token.from; plain = plain; top = plain && depth == 0; behind = behind }

-- ---- what a token is to a declaration

abbrev pub in_braces : ℕ → Expect → Expect → Turn
in_braces behind next inside = if behind == 0 then turns.Go next else turns.Go inside

abbrev pub specifier_turn : Seen → Turn → Turn
specifier_turn seen otherwise = if is_text_kind seen.kind then turns.Asked else otherwise

abbrev pub binding_turn : Seen → Turn
binding_turn seen = if is_name_kind seen.kind then turns.Go FromClause else turns.Wrong

abbrev pub export_name_turn : Seen → Turn
export_name_turn seen = if is_name_kind seen.kind || is_text_kind seen.kind then turns.Go FromClause else turns.Wrong

abbrev pub turned : Expect → Seen → List ℕ → Turn
turned ImportDeclaration seen text =
    if mark_is seen.kind text (codes "(") || mark_is seen.kind text (codes ".") then turns.Leave
    else if is_text_kind seen.kind then turns.Asked
    else if is_name_kind seen.kind then turns.Go BehindDefault
    else if mark_is seen.kind text (codes "*") then turns.Go NameSpaceImport
    else if mark_is seen.kind text (codes "{") then in_braces seen.behind FromClause ImportBraces
    else turns.Wrong
turned BehindDefault seen text =
    if word_is seen.kind text (codes "from") then turns.Go ModuleSpecifier
    else if mark_is seen.kind text (codes ",") then turns.Go SecondBinding
    else turns.Wrong
turned SecondBinding seen text =
    if mark_is seen.kind text (codes "*") then turns.Go NameSpaceImport
    else if mark_is seen.kind text (codes "{") then in_braces seen.behind FromClause ImportBraces
    else turns.Wrong
turned NameSpaceImport seen text = if word_is seen.kind text (codes "as") then turns.Go ImportedBinding else turns.Wrong
turned ImportedBinding seen text = binding_turn seen
turned ImportBraces seen text = in_braces seen.behind FromClause ImportBraces
turned FromClause seen text = if word_is seen.kind text (codes "from") then turns.Go ModuleSpecifier else turns.Wrong
turned ModuleSpecifier seen text = specifier_turn seen turns.Wrong
turned ExportDeclaration seen text =
    if mark_is seen.kind text (codes "*") then turns.Go ExportAll
    else if mark_is seen.kind text (codes "{") then in_braces seen.behind NamedExports ExportBraces
    else if exported_is seen.kind text then turns.Leave
    else turns.Wrong
turned ExportAll seen text =
    if word_is seen.kind text (codes "from") then turns.Go ModuleSpecifier
    else if word_is seen.kind text (codes "as") then turns.Go ModuleExportName
    else turns.Wrong
turned ModuleExportName seen text = export_name_turn seen
turned ExportBraces seen text = in_braces seen.behind NamedExports ExportBraces
turned NamedExports seen text = if word_is seen.kind text (codes "from") then turns.Go NamedSpecifier else turns.Leave
turned NamedSpecifier seen text = specifier_turn seen turns.Leave

-- ---- where the parser stands behind a token

abbrev pub begun : Seen → List ℕ → Progress
begun seen text =
    if seen.top && word_is seen.kind text (codes "import") then Inside ImportDeclaration seen.from None
    else if seen.top && word_is seen.kind text (codes "export") then Inside ExportDeclaration seen.from None
    else Outside

abbrev pub may_begin : Seen → List ℕ → Bool
may_begin seen text = seen.top && (word_is seen.kind text (codes "import") || word_is seen.kind text (codes "export"))

abbrev pub moved : ℕ → Turn → Seen → List ℕ → Next
moved word turns.Wrong seen text = Goes (Broken (Unreadable word))
moved word turns.Asked seen text = Specifier
moved word turns.Leave seen text = Goes (begun seen text)
moved word (turns.Go next) seen text =
    Goes (if may_begin seen text then Inside next word (Some (Unreadable seen.from)) else Inside next word None)

abbrev pub moved_wrong : ℕ → ModuleFault → Turn → Progress
moved_wrong word inner turns.Wrong = Broken (Unreadable word)
moved_wrong word inner turns.Asked = Broken inner
moved_wrong word inner turns.Leave = Broken inner
moved_wrong word inner (turns.Go next) = Inside next word (Some inner)

abbrev pub stepped : Progress → Seen → List ℕ → Next
stepped Outside seen text = Goes (begun seen text)
stepped (Broken fault) seen text = Goes (Broken fault)
stepped (Inside expect word None) seen text = moved word (turned expect seen text) seen text
stepped (Inside expect word (Some inner)) seen text = Goes (moved_wrong word inner (turned expect seen text))

-- the value of a token that is a string
abbrev pub value_at : List ℕ → Token → Option (List ℕ)
value_at text token = string_value (slice_range text token.from token.to)

-- behind a string that asks for a module, by its value and the requests before it
abbrev pub fault_asked : Token → Option (List ℕ) → List Request → Option ModuleFault
fault_asked token None asked = Some (Unreadable token.from)
fault_asked token (Some text) asked = if length asked == most_requests then Some TooManyRequests else None

abbrev pub or_outside : Option ModuleFault → Progress
or_outside None = Outside
or_outside (Some fault) = Broken fault

abbrev pub progress_asked : Token → Option (List ℕ) → List Request → Progress
progress_asked token value asked = or_outside (fault_asked token value asked)

abbrev pub requests_asked : Token → Option (List ℕ) → List Request → List Request
requests_asked token None asked = asked
requests_asked token (Some text) asked =
    if length asked == most_requests then asked
    else asked ++ record { from = token.from; to = token.to; text = text } ∷ []

abbrev pub progress_behind : Next → Token → Option (List ℕ) → List Request → Progress
progress_behind (Goes progress) token value asked = progress
progress_behind Specifier token value asked = progress_asked token value asked

abbrev pub requests_behind : Next → Token → Option (List ℕ) → List Request → List Request
requests_behind (Goes progress) token value asked = asked
requests_behind Specifier token value asked = requests_asked token value asked

-- where an import call of a string ends its first argument, by the string's value and the requests before it
abbrev pub progress_called : Progress → Token → Option (List ℕ) → List Request → Progress
progress_called Outside token value asked = progress_asked token value asked
progress_called (Inside e word None) token value asked = Inside e word (fault_asked token value asked)
progress_called (Inside e word (Some inner)) token value asked = Inside e word (Some inner)
progress_called (Broken fault) token value asked = Broken fault

abbrev pub requests_called : Progress → Token → Option (List ℕ) → List Request → List Request
requests_called Outside token value asked = requests_asked token value asked
requests_called (Inside e word None) token value asked = requests_asked token value asked
requests_called (Inside e word (Some inner)) token value asked = asked
requests_called (Broken fault) token value asked = asked

-- and where there may be none
abbrev pub progress_heard : Progress → List ℕ → Option Token → List Request → Progress
progress_heard progress text None asked = progress
progress_heard progress text (Some token) asked = progress_called progress token (value_at text token) asked

abbrev pub requests_heard : Progress → List ℕ → Option Token → List Request → List Request
requests_heard progress text None asked = asked
requests_heard progress text (Some token) asked = requests_called progress token (value_at text token) asked

-- ---- at the text's end

abbrev pub cut : Expect → ℕ → Option ModuleFault
cut ImportDeclaration word = Some (Unreadable word)
cut BehindDefault word = Some (Unreadable word)
cut SecondBinding word = Some (Unreadable word)
cut NameSpaceImport word = Some (Unreadable word)
cut ImportedBinding word = Some (Unreadable word)
cut ImportBraces word = Some (Unreadable word)
cut FromClause word = Some (Unreadable word)
cut ModuleSpecifier word = Some (Unreadable word)
cut ExportDeclaration word = Some (Unreadable word)
cut ExportAll word = Some (Unreadable word)
cut ModuleExportName word = Some (Unreadable word)
cut ExportBraces word = Some (Unreadable word)
cut NamedExports word = None
cut NamedSpecifier word = None

abbrev pub or_inner : Option ModuleFault → Option ModuleFault → Option ModuleFault
or_inner (Some fault) inner = Some fault
or_inner None None = None
or_inner None (Some inner) = Some inner

abbrev pub ended : Progress → Option ModuleFault
ended Outside = None
ended (Inside e word inner) = or_inner (cut e word) inner
ended (Broken fault) = Some fault

-- between declarations, at a token that begins none
pub record IsIdle (progress : Progress) (after : After) (kind : Kind) (text : List ℕ) : Type 0 where
  pub outside : progress ≡ Outside
  pub other : after ≡ Other
  pub no_import : word_is kind text (codes "import") ≡ false
  pub no_export : word_is kind text (codes "export") ≡ false
