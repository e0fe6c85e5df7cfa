-- The laws of these definitions. Each is the contract of a public function of the crate.
use Rattle.std.specs.Prelude.{◌≡◌, ◌≤◌, ◌↔◌, ℕ, ◌+◌, true, false, ◌||◌, List, [], ◌∷◌, ◌++◌, Option, Some, None}
use Rattle.std.specs.Prelude.{Result, All, length, codes, slice_get}
use Rattle.std.specs.Str.{IsUtf8}
use Rattle.module_spec.specs.declared.token.Token.{Token}
use Rattle.module_spec.specs.declared.token.LexFault.{LexFault}
use Rattle.module_spec.specs.declared.token.Bracket.TheVariants.{Curly}
use Rattle.module_spec.specs.declared.request.ModuleFault.{ModuleFault}
use Rattle.module_spec.specs.Sorts.{opens}
use Rattle.module_spec.specs.Tokens.{Lexeme, Reaches, ReadsTokens, depth}
use Rattle.module_spec.specs.Spans.{Stands}
use Rattle.module_spec.specs.Brackets.{openers, closers, ArePartners, StaysOpen}
use Rattle.module_spec.specs.Places.{Placed, is_text, is_word, is_mark}
use Rattle.module_spec.specs.Forms.{import_declaration, export_declaration, declaration, called}
use Rattle.module_spec.specs.Forms.Form.{wrong, alone, asks}
use Rattle.module_spec.specs.Declarations.{ImportDeclaration, ExportFrom, ExportAlone, Begins, Asks}
use Rattle.module_spec.specs.Outlines.{Outline, ReadsOutline, findings, declared, calls, without_calls, only_calls}
use Rattle.module_spec.specs.Outlines.{all_right, requests, declares, outline_of, outlined}
use Rattle.module_spec.specs.OutlineReading.{read_outline}

-- a text has one list of tokens or one first fault, and not both
abbrev pub OneTokens : Type 0
OneTokens =
    (text : List ℕ) (some other : Result (List Token) LexFault) → ReadsTokens text some → ReadsTokens text other
    → some ≡ other

-- the tokens that stand before a rest of the text are the only ones
abbrev pub OneReach : Type 0
OneReach =
    (text : List ℕ) (some other : List Lexeme) (rest : List ℕ) → Reaches text some rest → Reaches text other rest
    → some ≡ other

-- each token of a text is a slice of it between characters
abbrev pub TokensStand : Type 0
TokensStand =
    (text : List ℕ) → IsUtf8 text → (before : List Lexeme) (rest : List ℕ) → Reaches text before rest
    → All (Stands text) before

-- ---- brackets

-- behind the tokens of a text, the open brackets are those that were opened and not closed
abbrev pub DepthCounts : Type 0
DepthCounts =
    (text : List ℕ) (before : List Lexeme) (rest : List ℕ) → Reaches text before rest → depth before + closers before
    ≡ openers before

-- a closing token has one partner
abbrev pub OnePartner : Type 0
OnePartner =
    (tokens : List Lexeme) (some other to : ℕ) → ArePartners tokens some to → ArePartners tokens other to → some ≡ other

-- the partner of a `{` is the first token behind which no more brackets are open than before it
abbrev pub CurlyPartners : Type 0
CurlyPartners =
    (text : List ℕ) (t o : Lexeme) (between inner : List Lexeme) (rest : List ℕ)
    → Reaches text (t ∷ between ++ o ∷ inner) rest → opens o.sort ≡ Some Curly → StaysOpen between o inner
    → depth (t ∷ between ++ o ∷ inner) ≤ depth inner → ArePartners (t ∷ between ++ o ∷ inner) (length inner)
    (length (between ++ o ∷ inner))

-- ---- forms

-- the forms behind `import` are exactly the productions
pub record ImportForms (tokens : List Placed) : Type 0 where
  pub asking : (count : ℕ) → (import_declaration tokens ≡ asks count) ↔ Asks ImportDeclaration tokens count
  pub refused : (import_declaration tokens ≡ wrong) ↔ ((count : ℕ) → Asks ImportDeclaration tokens count → ⊥)

-- and so are those behind `export`; where the tokens go on with a module specifier, it is a part of the form
pub record ExportForms (tokens : List Placed) : Type 0 where
  pub asking : (count : ℕ) → (export_declaration tokens ≡ asks count) ↔ Asks ExportFrom tokens count
  pub lone : (export_declaration tokens ≡ alone)
      ↔ (Begins ExportAlone tokens × ((count : ℕ) → Asks ExportFrom tokens count → ⊥))
  pub refused : (export_declaration tokens ≡ wrong)
      ↔ ((Begins ExportAlone tokens → ⊥) × ((count : ℕ) → Asks ExportFrom tokens count → ⊥))

-- whatever the tokens are, the forms behind `import` and those behind `export` are exactly the productions
abbrev pub FormsAreProductions : Type 0
FormsAreProductions = (tokens : List Placed) → ImportForms tokens × ExportForms tokens

-- ---- import calls

-- ECMA-262, 13.3.10: before `t` stand a plain `import`, a `(` and the string `s`, and `t` ends the argument
pub record IsImportCall (before : List Placed) (s t : Placed) : Type 0 where
  pub word : Placed
  pub bracket : Placed
  pub outer : List Placed
  pub split : before ≡ s ∷ bracket ∷ word ∷ outer
  pub plain : word.plain ≡ true
  pub named : is_word word (codes "import") ≡ true
  pub opened : is_mark bracket (codes "(") ≡ true
  pub string : is_text s ≡ true
  pub ended : (is_mark t (codes ")") || is_mark t (codes ",")) ≡ true

-- the import calls are exactly these
abbrev pub CallsAreImportCalls : Type 0
CallsAreImportCalls = (before : List Placed) (s t : Placed) → (called before t ≡ Some s) ↔ IsImportCall before s t

-- import calls change nothing of what is found of declarations: not what, and not its order
abbrev pub DeclarationsStay : Type 0
DeclarationsStay =
    (before : List Placed) (asked : Option ℕ) (tokens : List Placed)
    → without_calls (findings before asked tokens) ≡ declared asked tokens

-- where each word has a form, the import calls that are found are all that there are, in their order
abbrev pub CallsAreFound : Type 0
CallsAreFound =
    (before : List Placed) (asked : Option ℕ) (tokens : List Placed)
    → all_right (findings before asked tokens) ≡ true → only_calls (findings before asked tokens) ≡ calls before tokens

-- tokens without an import call of a string have the outline that their declarations give
abbrev pub SameWithoutCalls : Type 0
SameWithoutCalls =
    (tokens : List Placed) → calls [] tokens ≡ []
    → outlined tokens ≡ outline_of (requests [] (declared None tokens)) (declares tokens)

-- no string is asked for by a declaration and by an import call: before the module specifier of a declaration, counted
-- from its word on, stands no `(`
abbrev pub OneKindOfRequest : Type 0
OneKindOfRequest =
    (t : Placed) (rest : List Placed) (count : ℕ) → declaration t rest ≡ asks count → (b : Placed)
    → slice_get (t ∷ rest) count ≡ Some b → is_mark b (codes "(") ≡ false

-- ---- outlines

-- a text has one outline or one first fault, and not both
abbrev pub OneOutline : Type 0
OneOutline =
    (text : List ℕ) (some other : Result Outline ModuleFault) → ReadsOutline text some → ReadsOutline text other
    → some ≡ other

-- the outline of a text, or its first fault, is what the function reads
abbrev pub OutlineIsRead : Type 0
OutlineIsRead = (text : List ℕ) (out : Result Outline ModuleFault) → ReadsOutline text out ↔ (read_outline text ≡ out)
