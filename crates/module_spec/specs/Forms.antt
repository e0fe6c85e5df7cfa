-- The forms of import and export declarations, told by the tokens that come. ECMA-262, 16.2.2 and 16.2.3.
--     declaration t rest      the form that begins with the word `t`, by the tokens behind it
--     import_declaration tokens, export_declaration tokens      the same behind `import` and behind `export`
--     called before t      the string of an import call, where its first argument ends before the token `t`
use Rattle.std.specs.Prelude.{ℕ, suc, Bool, false, not, ◌&&◌, ◌||◌, ◌==◌, codes, List, [], ◌∷◌, if◌then◌else◌}
use Rattle.std.specs.Prelude.{Option, Some, None}
use Rattle.module_spec.specs.Places.{Placed, is_name, is_text, is_word, is_mark, is_top}

-- what the tokens come to: no form of a declaration; what is no declaration at all; a declaration that asks for
-- nothing; or one with that many tokens before its module specifier
pub data Form : Type 0 where
  wrong : Form
  none : Form
  alone : Form
  asks : ℕ → Form

-- the form from one token earlier on: where it has a module specifier, one more token stands before that
abbrev pub further : Form → Form
further wrong = wrong
further none = none
further alone = alone
further (asks count) = asks (suc count)

-- ---- what both share

-- ModuleSpecifier: a string
abbrev pub module_specifier : List Placed → Form
module_specifier [] = wrong
module_specifier (t ∷ rest) = if is_text t then asks 0 else wrong

-- `from` ModuleSpecifier
abbrev pub from_clause : List Placed → Form
from_clause [] = wrong
from_clause (t ∷ rest) = if is_word t (codes "from") then further (module_specifier rest) else wrong

-- own: what braces hold isn't checked. From the `{` on, up to the first token behind which no bracket is open
abbrev pub braces : (List Placed → Form) → List Placed → Form
braces next [] = wrong
braces next (t ∷ rest) = further (if t.behind == 0 then next rest else braces next rest)

-- ---- imports

-- behind the `as` of a name space
abbrev pub imported_binding : List Placed → Form
imported_binding [] = wrong
imported_binding (t ∷ rest) = if is_name t then further (from_clause rest) else wrong

-- behind the `*`
abbrev pub name_space_import : List Placed → Form
name_space_import [] = wrong
name_space_import (t ∷ rest) = if is_word t (codes "as") then further (imported_binding rest) else wrong

-- behind a default binding and its comma
abbrev pub second_binding : List Placed → Form
second_binding [] = wrong
second_binding (t ∷ rest) =
    if is_mark t (codes "*") then further (name_space_import rest)
    else if is_mark t (codes "{") then braces from_clause (t ∷ rest)
    else wrong

-- behind a default binding
abbrev pub behind_default : List Placed → Form
behind_default [] = wrong
behind_default (t ∷ rest) =
    if is_word t (codes "from") then further (module_specifier rest)
    else if is_mark t (codes ",") then further (second_binding rest)
    else wrong

abbrev pub import_declaration : List Placed → Form
import_declaration [] = wrong
import_declaration (t ∷ rest) =
    if is_text t then asks 0
    else if is_name t then further (behind_default rest)
    else if is_mark t (codes "*") then further (name_space_import rest)
    else if is_mark t (codes "{") then braces from_clause (t ∷ rest)
    else wrong

-- ECMA-262, 13.3: `import(` is a call and `import.` a property, and no declaration
abbrev pub begins_expression : List Placed → Bool
begins_expression [] = false
begins_expression (t ∷ rest) = is_mark t (codes "(") || is_mark t (codes ".")

-- behind `import`: none where it begins an expression, and else the form of the declaration
abbrev pub behind_import : List Placed → Form
behind_import tokens = if begins_expression tokens then none else import_declaration tokens

-- ---- exports

-- behind the `as` of `* as`
abbrev pub module_export_name : List Placed → Form
module_export_name [] = wrong
module_export_name (t ∷ rest) = if is_name t || is_text t then further (from_clause rest) else wrong

-- behind the `*`
abbrev pub export_all : List Placed → Form
export_all [] = wrong
export_all (t ∷ rest) =
    if is_word t (codes "from") then further (module_specifier rest)
    else if is_word t (codes "as") then further (module_export_name rest)
    else wrong

-- own: behind the braces and `from`: a string is the module specifier, and without one the export asks for nothing
abbrev pub named_specifier : List Placed → Form
named_specifier [] = alone
named_specifier (t ∷ rest) = if is_text t then asks 0 else alone

-- own: behind the braces: a `from` and a module specifier are a part of the form, and nothing else is
abbrev pub named_exports : List Placed → Form
named_exports [] = alone
named_exports (t ∷ rest) = if is_word t (codes "from") then further (named_specifier rest) else alone

-- the words that an `export` without a module specifier goes on with
abbrev pub is_exported : Placed → Bool
is_exported t =
    is_word t (codes "default")
    || is_word t (codes "var")
    || is_word t (codes "let")
    || is_word t (codes "const")
    || is_word t (codes "function")
    || is_word t (codes "class")
    || is_word t (codes "async")

abbrev pub export_declaration : List Placed → Form
export_declaration [] = wrong
export_declaration (t ∷ rest) =
    if is_mark t (codes "*") then further (export_all rest)
    else if is_mark t (codes "{") then braces named_exports (t ∷ rest)
    else if is_exported t then alone
    else wrong

-- ---- both

abbrev pub declaration : Placed → List Placed → Form
declaration t rest =
    if is_top t && is_word t (codes "import") then behind_import rest
    else if is_top t && is_word t (codes "export") then export_declaration rest
    else none

-- own: the text is a module's: a declaration begins here. ECMA-262, 16.2.2 and 16.2.3
abbrev pub begins_declaration : Placed → List Placed → Bool
begins_declaration t rest =
    is_top t && is_word t (codes "import") && not (begins_expression rest) || is_top t && is_word t (codes "export")

-- the word stands at the front
abbrev pub begins_word : List ℕ → List Placed → Bool
begins_word word [] = false
begins_word word (t ∷ rest) = is_word t word

-- `.` and the word `meta` stand at the front
abbrev pub begins_meta : List Placed → Bool
begins_meta [] = false
begins_meta (t ∷ rest) = is_mark t (codes ".") && begins_word (codes "meta") rest

-- ECMA-262, 13.3.12: `import.meta`, at any depth
abbrev pub is_import_meta : Placed → List Placed → Bool
is_import_meta t rest = t.plain && is_word t (codes "import") && begins_meta rest

-- ---- import calls

-- ECMA-262, 13.3.10: the word of an import call, at any depth
abbrev pub begins_call : Placed → Placed → Bool
begins_call word bracket = word.plain && (is_word word (codes "import") && is_mark bracket (codes "("))

-- the first argument is a string and nothing else: own: behind the comma may stand options, which aren't checked
abbrev pub is_argument : Placed → Placed → Bool
is_argument s t = is_text s && (is_mark t (codes ")") || is_mark t (codes ","))

-- own: of the import calls only those of a string ask for a module. The tokens before `t` are the last one first
abbrev pub called : List Placed → Placed → Option Placed
called [] t = None
called (s ∷ []) t = None
called (s ∷ (bracket ∷ [])) t = None
called (s ∷ (bracket ∷ (word ∷ before))) t = if is_argument s t && begins_call word bracket then Some s else None
