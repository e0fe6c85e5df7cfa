-- The laws of these definitions. Each is the contract of a public function of the crate.
use Rattle.std.specs.Prelude.{◌≡◌, ℕ, List, Some}
use Rattle.module_spec.specs.Tokens.{Lexeme, Reaches, IsNext}
use Rattle.module_spec.specs.Tokens.Next.{Ends}
use Rattle.grammar_spec.specs.declared.names.Context.{Context}
use Rattle.grammar_spec.specs.Sights.{Sight}
use Rattle.grammar_spec.specs.Forms.{Form}
use Rattle.grammar_spec.specs.Readings.{Place, Outcome, Reads}
use Rattle.grammar_spec.specs.Verdicts.{Verdict, ReadsGrammar}
use Rattle.grammar_spec.specs.PlainReading.{read, verdict_of}

-- in a context and at a place, a form has one outcome
abbrev pub OneReading : Type 0
OneReading =
    (tokens : List Sight) (context : Context) (form : Form) (place : Place) (some other : Outcome)
    → Reads tokens context form place some → Reads tokens context form place other → some ≡ other

-- and it has one
abbrev pub SomeReading : Type 0
SomeReading =
    (tokens : List Sight) (context : Context) (form : Form) (place : Place) → (out : Outcome)
    × Reads tokens context form place out

-- a text has one verdict at most
abbrev pub OneVerdict : Type 0
OneVerdict =
    (text : List ℕ) (some other : Verdict) → ReadsGrammar text some → ReadsGrammar text other → some ≡ other

-- and it has one where it has tokens
abbrev pub SomeVerdict : Type 0
SomeVerdict =
    (text : List ℕ) (before : List Lexeme) (rest : List ℕ) → Reaches text before rest → IsNext before rest Ends
    → (said : Verdict) × ReadsGrammar text said

-- the functions, where there is room enough, give what the relations have
pub record PlainIsRead : Type 0 where
  pub forms : (room : ℕ) (tokens : List Sight) (context : Context) (form : Form) (place : Place) (out : Outcome)
      → read room tokens context form place ≡ Some out → Reads tokens context form place out
  pub texts : (room : ℕ) (text : List ℕ) (said : Verdict) → verdict_of room text ≡ Some said → ReadsGrammar text said
