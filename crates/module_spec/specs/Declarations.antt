-- Import and export declarations by their productions: lists of tokens, from behind the word to the last one that is
-- asked for. ECMA-262, 16.2.2 and 16.2.3.
--     ImportDeclaration tokens      what stands behind `import`, up to its module specifier
--     ExportFrom tokens      what stands behind `export`, up to its module specifier
--     ExportAlone tokens      what stands behind an `export` that asks for nothing
--     Begins Production tokens      the tokens begin with one of these
--     Asks Production tokens count      the same, and so many of its tokens stand before the last one, which is the
--                                       module specifier
use Rattle.std.specs.Prelude.{◌≡◌, ◌≢◌, ℕ, suc, true, ◌||◌, List, [], ◌∷◌, ◌++◌, codes, length}
use Rattle.module_spec.specs.Places.{Placed, is_name, is_text, is_word, is_mark}
use Rattle.module_spec.specs.Forms.{is_exported}

-- own: all up to the first token behind which no bracket is open
pub data UpToPartner : List Placed → Type 0 where
  partner : {t : Placed} → t.behind ≡ 0 → UpToPartner (t ∷ [])
  inside : {t : Placed} {tokens : List Placed} → t.behind ≢ 0 → UpToPartner tokens → UpToPartner (t ∷ tokens)

-- own: NamedImports and NamedExports, and whatever else is a `{` and all up to its partner
pub data Braces : List Placed → Type 0 where
  curly : {t : Placed} {tokens : List Placed} → is_mark t (codes "{") ≡ true → UpToPartner (t ∷ tokens)
      → Braces (t ∷ tokens)

-- `from` ModuleSpecifier
pub data FromClause : List Placed → Type 0 where
  from_module : {f s : Placed} → is_word f (codes "from") ≡ true → is_text s ≡ true → FromClause (f ∷ s ∷ [])

-- `*` `as` ImportedBinding
pub data NameSpaceImport : List Placed → Type 0 where
  star_as : {s a x : Placed} → is_mark s (codes "*") ≡ true → is_word a (codes "as") ≡ true → is_name x ≡ true
      → NameSpaceImport (s ∷ a ∷ x ∷ [])

-- a default binding, a NameSpaceImport or braces; or a default binding, a comma, and one of the latter two
pub data ImportClause : List Placed → Type 0 where
  default_binding : {x : Placed} → is_name x ≡ true → ImportClause (x ∷ [])
  name_space : {tokens : List Placed} → NameSpaceImport tokens → ImportClause tokens
  named : {tokens : List Placed} → Braces tokens → ImportClause tokens
  default_and_name_space : {x c : Placed} {tokens : List Placed} → is_name x ≡ true → is_mark c (codes ",") ≡ true
      → NameSpaceImport tokens → ImportClause (x ∷ c ∷ tokens)
  default_and_named : {x c : Placed} {tokens : List Placed} → is_name x ≡ true → is_mark c (codes ",") ≡ true
      → Braces tokens → ImportClause (x ∷ c ∷ tokens)

pub data ImportDeclaration : List Placed → Type 0 where
  effects : {s : Placed} → is_text s ≡ true → ImportDeclaration (s ∷ [])
  bindings : {clause from : List Placed} → ImportClause clause → FromClause from → ImportDeclaration (clause ++ from)

-- `*`; `*` `as` and a name or a string; or braces
pub data ExportFromClause : List Placed → Type 0 where
  star : {s : Placed} → is_mark s (codes "*") ≡ true → ExportFromClause (s ∷ [])
  star_as_name : {s a x : Placed} → is_mark s (codes "*") ≡ true → is_word a (codes "as") ≡ true
      → (is_name x || is_text x) ≡ true → ExportFromClause (s ∷ a ∷ x ∷ [])
  names : {tokens : List Placed} → Braces tokens → ExportFromClause tokens

-- an ExportDeclaration with a module specifier
pub data ExportFrom : List Placed → Type 0 where
  exports : {clause from : List Placed} → ExportFromClause clause → FromClause from → ExportFrom (clause ++ from)

-- own: the other ExportDeclarations, by NamedExports or by their first word
pub data ExportAlone : List Placed → Type 0 where
  names_alone : {tokens : List Placed} → Braces tokens → ExportAlone tokens
  first_word : {x : Placed} → is_exported x ≡ true → ExportAlone (x ∷ [])

pub record Begins (Production : List Placed → Type 0) (tokens : List Placed) : Type 0 where
  pub front : List Placed
  pub rest : List Placed
  pub split : tokens ≡ front ++ rest
  pub produced : Production front

pub record Asks (Production : List Placed → Type 0) (tokens : List Placed) (count : ℕ) : Type 0 where
  pub front : List Placed
  pub rest : List Placed
  pub split : tokens ≡ front ++ rest
  pub produced : Production front
  pub counted : length front ≡ suc count
