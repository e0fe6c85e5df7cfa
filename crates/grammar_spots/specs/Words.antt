-- The words and operators that the grammar tells apart, in parts.
--     is_one_of text words      the text is one of these
use Rattle.std.specs.Prelude.{ℕ, Bool, bytes_eq, codes, List, [], ◌∷◌}
use Rattle.std.specs.List.{list_any}

abbrev pub is_one_of : List ℕ → List (List ℕ) → Bool
is_one_of text words = list_any (λ word. bytes_eq text word) words

abbrev pub reserved_first : List (List ℕ)
reserved_first =
    codes "await" ∷ codes "break" ∷ codes "case" ∷ codes "catch" ∷ codes "class" ∷ codes "const"
    ∷ codes "continue" ∷ codes "debugger" ∷ codes "default" ∷ codes "delete" ∷ codes "do" ∷ codes "else"
    ∷ []

abbrev pub reserved_second : List (List ℕ)
reserved_second =
    codes "enum" ∷ codes "export" ∷ codes "extends" ∷ codes "false" ∷ codes "finally" ∷ codes "for"
    ∷ codes "function" ∷ codes "if" ∷ codes "implements" ∷ codes "import" ∷ codes "in" ∷ codes "instanceof"
    ∷ []

abbrev pub reserved_third : List (List ℕ)
reserved_third =
    codes "interface" ∷ codes "let" ∷ codes "new" ∷ codes "null" ∷ codes "package" ∷ codes "private"
    ∷ codes "protected" ∷ codes "public" ∷ codes "return" ∷ codes "static" ∷ codes "super" ∷ codes "switch"
    ∷ []

abbrev pub reserved_last : List (List ℕ)
reserved_last =
    codes "this" ∷ codes "throw" ∷ codes "true" ∷ codes "try" ∷ codes "typeof" ∷ codes "var" ∷ codes "void"
    ∷ codes "while" ∷ codes "with" ∷ codes "yield" ∷ []

abbrev pub assignments_first : List (List ℕ)
assignments_first =
    codes "=" ∷ codes "*=" ∷ codes "**=" ∷ codes "/=" ∷ codes "%=" ∷ codes "+=" ∷ codes "-=" ∷ codes "<<="
    ∷ []

abbrev pub assignments_last : List (List ℕ)
assignments_last =
    codes ">>=" ∷ codes ">>>=" ∷ codes "&=" ∷ codes "^=" ∷ codes "|=" ∷ codes "&&=" ∷ codes "||="
    ∷ codes "??=" ∷ []

abbrev pub operators_first : List (List ℕ)
operators_first =
    codes "**" ∷ codes "*" ∷ codes "/" ∷ codes "%" ∷ codes "+" ∷ codes "-" ∷ codes "<<" ∷ codes ">>"
    ∷ codes ">>>" ∷ codes "<" ∷ codes ">" ∷ codes "<=" ∷ []

abbrev pub operators_last : List (List ℕ)
operators_last =
    codes ">=" ∷ codes "==" ∷ codes "!=" ∷ codes "===" ∷ codes "!==" ∷ codes "&" ∷ codes "^" ∷ codes "|"
    ∷ codes "&&" ∷ codes "||" ∷ codes "??" ∷ codes "instanceof" ∷ []

abbrev pub closing : List (List ℕ)
closing = codes ")" ∷ codes "]" ∷ codes "}" ∷ []
