-- Worked examples, as statements: what texts have for tokens, and what they ask for.
--     TokenExamples                texts with their tokens, or with their first fault
--     ValueExamples                string literals with their values, or with none
--     OutlineExamples              tokens in their places, with what they ask for, or with their first fault
--     ManyExamples                 as many requests as may be, and one more
--     ReadingExamples              whole texts with what they ask for, or with their first fault
--     rounds count                 `(`, so many times
--     span kind from to            a token as a caller is told it
--     at kind from text depth behind     a token in its place, with the brackets that are open before it and behind it
--     named_at from name, text_at from literal, mark_at from mark     a name, a string, a punctuator in no brackets
--     asks_for asked               the outline of a module with these requests
--     unreadable_at place          the fault at this place
--     request from to text         a request, with where it stands and its text
--     Reads text requests declares     the text has these requests, and is a module's or not
--     FaultsAt text at             the text can't be read as a module text, and its first fault is there
use Rattle.std.specs.Prelude.{◌≡◌, ℕ, ◌+◌, Bool, true, false, List, [], ◌∷◌, Some, None, Result, Ok, Err, codes}
use Rattle.std.specs.Prelude.{replicate, length}
use Rattle.module_spec.specs.declared.token.Kind.{Kind}
use Rattle.module_spec.specs.declared.token.Kind.TheVariants as kinds
use Rattle.module_spec.specs.declared.token.LexKind.TheVariants.{Unreadable, TooDeep}
use Rattle.module_spec.specs.declared.token.Token.{Token}
use Rattle.module_spec.specs.declared.request.Request.{Request}
use Rattle.module_spec.specs.declared.request.ModuleFault as module_faults
use Rattle.module_spec.specs.declared.request.ModuleFault.TheVariants as module_fault
use Rattle.module_spec.specs.Tokens.{ReadsTokens}
use Rattle.module_spec.specs.Places.{Placed}
use Rattle.module_spec.specs.StringValues.{string_value}
use Rattle.module_spec.specs.Outlines.{Outline, requests, outlined}
use Rattle.module_spec.specs.Outlines.Finding.{specifier}
use Rattle.module_spec.specs.OutlineReading.{read_outline}

-- ---- tokens

-- `(`, so many times
abbrev pub rounds : ℕ → List ℕ
rounds count = replicate count 40

abbrev pub span : Kind → ℕ → ℕ → Token
span kind from to = record { kind = kind; from = from; to = to }

pub record TokenExamples : Type 0 where
  pub empty : ReadsTokens [] (Ok [])
  pub regex : ReadsTokens (codes "x=/b/c") (Ok
      (span kinds.Name 0 1 ∷ span kinds.Punctuator 1 2 ∷ span kinds.Regex 2 6 ∷ []))
  pub division : ReadsTokens (codes "a /b/ c")
      (Ok (span kinds.Name 0 1 ∷ span kinds.Punctuator 2 3 ∷ span kinds.Name 3 4 ∷ span kinds.Punctuator 4 5
      ∷ span kinds.Name 6 7 ∷ []))
  pub brackets : ReadsTokens (codes "if(a)/b/")
      (Ok (span kinds.Name 0 2 ∷ span kinds.Punctuator 2 3 ∷ span kinds.Name 3 4 ∷ span kinds.Punctuator 4 5
      ∷ span kinds.Regex 5 8 ∷ []))
  pub wrong_closer : ReadsTokens (codes "(]") (Err (record { at = 1; kind = Unreadable }))
  pub open_at_end : ReadsTokens (codes "(") (Err (record { at = 1; kind = Unreadable }))
  pub unclosed_text : ReadsTokens (codes "a'b") (Err (record { at = 1; kind = Unreadable }))
  pub template : ReadsTokens (codes "(`${a}${b}`)")
      (Ok (span kinds.Punctuator 0 1 ∷ span kinds.TemplateHead 1 4 ∷ span kinds.Name 4 5
      ∷ span kinds.TemplateMiddle 5 8 ∷ span kinds.Name 8 9 ∷ span kinds.TemplateTail 9 11
      ∷ span kinds.Punctuator 11 12 ∷ []))
  pub most_open : ReadsTokens (rounds 4096) (Err (record { at = 4096; kind = Unreadable }))
  pub too_deep : ReadsTokens (rounds 4097) (Err (record { at = 4096; kind = TooDeep }))

-- ---- values of string literals

pub record ValueExamples : Type 0 where
  pub plain : string_value (codes "'./a.mjs'") ≡ Some (codes "./a.mjs")
  pub nothing_inside : string_value (codes "\"\"") ≡ Some []
  pub past_ascii : string_value (39 ∷ 195 ∷ 169 ∷ 39 ∷ []) ≡ Some (195 ∷ 169 ∷ [])
  pub single_escapes : string_value (codes "'\\b\\t\\n\\v\\f\\r'") ≡ Some (8 ∷ 9 ∷ 10 ∷ 11 ∷ 12 ∷ 13 ∷ [])
  pub other_escapes : string_value (codes "'\\q\\'\\\"\\\\'") ≡ Some (113 ∷ 39 ∷ 34 ∷ 92 ∷ [])
  pub hex : string_value (codes "'\\x41\\xe9'") ≡ Some (65 ∷ 195 ∷ 169 ∷ [])
  pub short_hex : string_value (codes "'\\x4'") ≡ None
  pub four_digits : string_value (codes "'\\u0041\\uD7FF'") ≡ Some (65 ∷ 237 ∷ 159 ∷ 191 ∷ [])
  pub three_digits : string_value (codes "'\\u041'") ≡ None
  pub braced : string_value (codes "'\\u{1F600}'") ≡ Some (240 ∷ 159 ∷ 152 ∷ 128 ∷ [])
  pub highest : string_value (codes "'\\u{10FFFF}'") ≡ Some (244 ∷ 143 ∷ 191 ∷ 191 ∷ [])
  pub too_high : string_value (codes "'\\u{110000}'") ≡ None
  pub no_digits : string_value (codes "'\\u{}'") ≡ None
  pub seven_digits : string_value (codes "'\\u{0000041}'") ≡ None
  pub open_brace : string_value (codes "'\\u{41'") ≡ None
  pub pair : string_value (codes "'\\ud83d\\u{DE00}'") ≡ Some (240 ∷ 159 ∷ 152 ∷ 128 ∷ [])
  pub pair_over_a_line : string_value (codes "'\\ud83d\\\n\\udE00'") ≡ Some (240 ∷ 159 ∷ 152 ∷ 128 ∷ [])
  pub alone_before_another : string_value (codes "'\\ud83d.'") ≡ None
  pub alone_at_the_end : string_value (codes "'\\ud83d'") ≡ None
  pub low_alone : string_value (codes "'\\udE00'") ≡ None
  pub continued : string_value (codes "'a\\\r\nb\\\rc\\\nd'") ≡ Some (codes "abcd")
  pub wide_continued : string_value (39 ∷ 92 ∷ 226 ∷ 128 ∷ 168 ∷ 39 ∷ []) ≡ Some []
  pub zero_alone : string_value (codes "'\\0a'") ≡ Some (0 ∷ 97 ∷ [])
  pub zero_before_a_digit : string_value (codes "'\\08'") ≡ None
  pub octal : string_value (codes "'\\7'") ≡ None
  pub nine : string_value (codes "'\\9'") ≡ None

-- ---- outlines, over tokens in their places

-- a token that isn't the name of a property
abbrev pub at : Kind → ℕ → List ℕ → ℕ → ℕ → Placed
at kind from text depth behind =
    record { token = span kind from (from + length text); text = text; plain = true; depth = depth; behind = behind }

abbrev pub named_at : ℕ → List ℕ → Placed
named_at from name = at kinds.Name from name 0 0

abbrev pub text_at : ℕ → List ℕ → Placed
text_at from literal = at kinds.Text from literal 0 0

abbrev pub mark_at : ℕ → List ℕ → Placed
mark_at from mark = at kinds.Punctuator from mark 0 0

abbrev pub asks_for : List Request → Result Outline module_faults.ModuleFault
asks_for asked = Ok (record { requests = asked; declares = true })

abbrev pub unreadable_at : ℕ → Result Outline module_faults.ModuleFault
unreadable_at place = Err (module_fault.Unreadable place)

abbrev pub request : ℕ → ℕ → List ℕ → Request
request from to text = record { from = from; to = to; text = text }

pub record OutlineExamples : Type 0 where
  -- no token
  pub nothing : outlined [] ≡ Ok (record { requests = []; declares = false })
  -- import 'a'
  pub effects : outlined (named_at 0 (codes "import") ∷ text_at 7 (codes "'a'") ∷ [])
      ≡ asks_for (request 7 10 (codes "a") ∷ [])
  -- import a from 'b'
  pub default_binding : outlined (named_at 0 (codes "import") ∷ named_at 7 (codes "a") ∷ named_at 9 (codes "from")
      ∷ text_at 14 (codes "'b'") ∷ []) ≡ asks_for (request 14 17 (codes "b") ∷ [])
  -- import a,* as b from 'c'
  pub default_and_name_space : outlined (named_at 0 (codes "import") ∷ named_at 7 (codes "a") ∷ mark_at 8 (codes ",")
      ∷ mark_at 9 (codes "*") ∷ named_at 11 (codes "as") ∷ named_at 14 (codes "b") ∷ named_at 16 (codes "from")
      ∷ text_at 21 (codes "'c'") ∷ []) ≡ asks_for (request 21 24 (codes "c") ∷ [])
  -- import a,{b} from 'c'
  pub default_and_named : outlined (named_at 0 (codes "import") ∷ named_at 7 (codes "a") ∷ mark_at 8 (codes ",")
      ∷ at kinds.Punctuator 9 (codes "{") 0 1 ∷ at kinds.Name 10 (codes "b") 1 1 ∷ at kinds.Punctuator 11
      (codes "}") 1 0 ∷ named_at 13 (codes "from") ∷ text_at 18 (codes "'c'") ∷ [])
      ≡ asks_for (request 18 21 (codes "c") ∷ [])
  -- import*as a from 'b'
  pub name_space : outlined (named_at 0 (codes "import") ∷ mark_at 6 (codes "*") ∷ named_at 7 (codes "as")
      ∷ named_at 10 (codes "a") ∷ named_at 12 (codes "from") ∷ text_at 17 (codes "'b'") ∷ [])
      ≡ asks_for (request 17 20 (codes "b") ∷ [])
  -- export*from'a' export*as'b'from'c'
  pub export_all : outlined (named_at 0 (codes "export") ∷ mark_at 6 (codes "*") ∷ named_at 7 (codes "from")
      ∷ text_at 11 (codes "'a'") ∷ named_at 15 (codes "export") ∷ mark_at 21 (codes "*") ∷ named_at 22 (codes "as")
      ∷ text_at 24 (codes "'b'") ∷ named_at 27 (codes "from") ∷ text_at 31 (codes "'c'") ∷ [])
      ≡ asks_for (request 11 14 (codes "a") ∷ request 31 34 (codes "c") ∷ [])
  -- export{}from'a'
  pub export_named : outlined (named_at 0 (codes "export") ∷ at kinds.Punctuator 6 (codes "{") 0 1
      ∷ at kinds.Punctuator 7 (codes "}") 1 0 ∷ named_at 8 (codes "from") ∷ text_at 12 (codes "'a'") ∷ [])
      ≡ asks_for (request 12 15 (codes "a") ∷ [])
  -- export {import} from
  pub no_specifier : outlined (named_at 0 (codes "export") ∷ at kinds.Punctuator 7 (codes "{") 0 1 ∷ at kinds.Name 8
      (codes "import") 1 1 ∷ at kinds.Punctuator 14 (codes "}") 1 0 ∷ named_at 16 (codes "from") ∷ []) ≡ asks_for []
  -- export default
  pub export_default : outlined (named_at 0 (codes "export") ∷ named_at 7 (codes "default") ∷ []) ≡ asks_for []
  -- export a
  pub no_export : outlined (named_at 0 (codes "export") ∷ named_at 7 (codes "a") ∷ []) ≡ unreadable_at 0
  -- import a 'b'
  pub no_from : outlined (named_at 0 (codes "import") ∷ named_at 7 (codes "a") ∷ text_at 9 (codes "'b'") ∷ [])
      ≡ unreadable_at 0
  -- import import from 'a'
  pub inner_word : outlined (named_at 0 (codes "import") ∷ named_at 7 (codes "import") ∷ named_at 14 (codes "from")
      ∷ text_at 18 (codes "'a'") ∷ []) ≡ unreadable_at 7
  -- import import 'a'
  pub outer_word : outlined (named_at 0 (codes "import") ∷ named_at 7 (codes "import") ∷ text_at 14 (codes "'a'")
      ∷ []) ≡ unreadable_at 0
  -- import '\7'
  pub no_value : outlined (named_at 0 (codes "import") ∷ text_at 7 (codes "'\\7'") ∷ []) ≡ unreadable_at 7
  -- import.meta
  pub meta : outlined (named_at 0 (codes "import") ∷ mark_at 6 (codes ".") ∷ named_at 7 (codes "meta") ∷ [])
      ≡ asks_for []
  -- import(a)
  pub call : outlined (named_at 0 (codes "import") ∷ at kinds.Punctuator 6 (codes "(") 0 1 ∷ at kinds.Name 7
      (codes "a") 1 1 ∷ at kinds.Punctuator 8 (codes ")") 1 0 ∷ []) ≡ Ok (record { requests = []; declares = false })
  -- {import 'a'}, where the `import` stands in brackets
  pub in_brackets : outlined (at kinds.Punctuator 0 (codes "{") 0 1 ∷ at kinds.Name 1 (codes "import") 1 1
      ∷ at kinds.Text 8 (codes "'a'") 1 1 ∷ at kinds.Punctuator 11 (codes "}") 1 0 ∷ [])
      ≡ Ok (record { requests = []; declares = false })

-- own: as many requests as may be, and one more
pub record ManyExamples : Type 0 where
  pub most : requests [] (replicate 4096 (specifier (text_at 7 (codes "'a'"))))
      ≡ Ok (replicate 4096 (request 7 10 (codes "a")))
  pub too_many : requests [] (replicate 4097 (specifier (text_at 7 (codes "'a'")))) ≡ Err module_fault.TooManyRequests

-- ---- whole texts

abbrev pub Reads : List ℕ → List Request → Bool → Type 0
Reads text requests declares = read_outline text ≡ Ok (record { requests = requests; declares = declares })

abbrev pub FaultsAt : List ℕ → ℕ → Type 0
FaultsAt text at = read_outline text ≡ Err (module_fault.Unreadable at)

pub record ReadingExamples : Type 0 where
  pub empty : Reads [] [] false
  pub effects : Reads (codes "import \"./b.mjs\";") (request 7 16 (codes "./b.mjs") ∷ []) true
  pub two : Reads (codes " import\"a\";\n\timport 'b'") (request 7 10 (codes "a") ∷ request 20 23 (codes "b") ∷ []) true
  pub bindings :
      Reads (codes "import a, {b} from \"x\";export*from'y'")
      (request 19 22 (codes "x") ∷ request 34 37 (codes "y") ∷ []) true
  pub no_request : Reads (codes "export {};") [] true
  pub no_declaration : Reads (codes "module.exports = 1;") [] false
  -- import calls: of a string that is the whole first argument, at any depth
  pub calls :
      Reads (codes "const f = () => import('./b.mjs'); import('./' + x); a.import('./c.mjs'); import('./d.mjs', {});")
      (request 23 32 (codes "./b.mjs") ∷ request 81 90 (codes "./d.mjs") ∷ []) false
  pub common_js : Reads (codes "module.exports = import('./b.mjs');") (request 24 33 (codes "./b.mjs") ∷ []) false
  pub spaced_call : Reads (codes "import/**/(\n'a'\n,)") (request 12 15 (codes "a") ∷ []) false
  pub call_in_a_template : Reads (codes "`${import('a')}`") (request 10 13 (codes "a") ∷ []) false
  pub call_in_options :
      Reads (codes "import('a',import('b'))") (request 7 10 (codes "a") ∷ request 18 21 (codes "b") ∷ []) false
  pub call_of_a_call : Reads (codes "import(import('a'))") (request 14 17 (codes "a") ∷ []) false
  pub no_string_alone : Reads (codes "import(a);import(`a`);import(('a'));import('a'.b);import()") [] false
  pub spelled_call : Reads (codes "im\\u0070ort('a');a?.import('b');x=/import('c')/") [] false
  pub call_and_meta : Reads (codes "import.meta;import('a')") (request 19 22 (codes "a") ∷ []) true
  pub call_behind_an_export : Reads (codes "export {a} from import('b')") (request 23 26 (codes "b") ∷ []) true
  pub call_in_braces :
      Reads (codes "import {import('x')} from 'y'") (request 15 18 (codes "x") ∷ request 26 29 (codes "y") ∷ []) true
  pub no_value_of_a_call : FaultsAt (codes "import('\\7',a);import b c") 7
  pub wrong_form_first : FaultsAt (codes "import b c;import('\\7')") 0
  pub no_value_in_braces : FaultsAt (codes "import {import('\\7')} from '\\8'") 15
  pub wrong_around : FaultsAt (codes "import {import('\\7')} 5") 0
  pub call_of_no_value_alone : Reads (codes "import('\\7'+a)") [] false
  pub cut_call : FaultsAt (codes "import('\\7'") 11
  pub a_comment : Reads (codes "// import \"a\"") [] false
  pub a_hashbang : Reads (codes "#! import \"a\"") [] false
  pub wrong_form : FaultsAt (codes "import x y") 0
  pub cut : FaultsAt (codes "import \"./b.mjs") 7
  pub open_at_end : FaultsAt (codes "a(") 2
