-- Resolving a specifier through an import map (HTML, import maps: resolve a module specifier).
--     Resolves map referrer specifier resolution      what the specifier comes to in the module or page at the referrer
--     ResolvesAs map referrer url text resolution      the same, by the URL of the specifier and its normalized form
--     MatchesImports addresses url text answer      what a module specifier map answers for a normalized specifier,
--         or that it has no answer
--     MatchesScopes scopes referrer url text answer      the same of the scopes of a map
--     KeyApplies url text key      the key is tried for the normalized specifier
--     ScopeApplies referrer key      the scope with this key is tried for the referrer
--     Resolution      a URL, or one of the ways to fail
-- The Standard tries keys in descending order. Keys that apply to one text are fronts of it, so that the first of them
-- is the longest (law `key_order`).
use Rattle.std.specs.Prelude.{◌≡◌, ◌≢◌, ◌≤◌, ℕ, Bool, true, false, List, [], ◌++◌, length, Option, Some, None}
use Rattle.std.specs.FinMap.{get}
use Rattle.url_spec.specs.Parsing.{parse_against}
use Rattle.url_spec.specs.Schemes.{has_special_scheme}
use Rattle.url_spec.specs.Specifiers.{begins, ends_in_slash, as_url, normalized}
use Rattle.import_map_spec.specs.ParsedMap.{Texts, Addresses, ParsedMap}

-- a URL, or one of the ways to fail: a null address, no URL at all, a URL out of the address of its folder, a rest that
-- doesn't parse
pub data Resolution : Type 0 where
  Resolved : List ℕ → Resolution
  Blocked : Resolution
  Bare : Resolution
  Backtrack : Resolution
  BadRest : Resolution

-- prefixes count for what is no URL, and for URLs of a special scheme (HTML, import maps: resolve an imports match)
abbrev pub takes_prefixes : Option (List ℕ) → Bool
takes_prefixes None = true
takes_prefixes (Some url) = has_special_scheme url

-- HTML, import maps, resolve an imports match: the key is the normalized specifier, or a prefix of it
pub data KeyApplies (url : Option (List ℕ)) (text key : List ℕ) : Type 0 where
  itself : key ≡ text → KeyApplies url text key
  prefix :
      (rest : List ℕ) → takes_prefixes url ≡ true → ends_in_slash key ≡ true → text ≡ key ++ rest
      → KeyApplies url text key

-- the key that answers, with its address: of those that apply the longest
pub record Answers (addresses : Addresses) (url : Option (List ℕ)) (text key : List ℕ) (address : Option (List ℕ))
    : Type 0 where
  pub stands : get addresses key ≡ Some address
  pub applies : KeyApplies url text key
  pub longest :
      (other : List ℕ) (found : Option (List ℕ)) → get addresses other ≡ Some found → KeyApplies url text other
      → length other ≤ length key

-- HTML, import maps, resolve an imports match: what is at a key that is the specifier, and what a key that is a prefix
-- of it comes to with what follows it
pub data MatchesImports (addresses : Addresses) (url : Option (List ℕ)) (text : List ℕ)
    : Option Resolution → Type 0 where
  no_key :
      ((key : List ℕ) (address : Option (List ℕ)) → get addresses key ≡ Some address → KeyApplies url text key → ⊥)
      → MatchesImports addresses url text None
  null_address : (key : List ℕ) → Answers addresses url text key None → MatchesImports addresses url text (Some Blocked)
  at_key :
      (address : List ℕ) → Answers addresses url text text (Some address)
      → MatchesImports addresses url text (Some (Resolved address))
  bad_rest :
      (key rest address : List ℕ) → Answers addresses url text key (Some address) → text ≡ key ++ rest → rest ≢ []
      → parse_against address rest ≡ None → MatchesImports addresses url text (Some BadRest)
  backtrack :
      (key rest address below : List ℕ) → Answers addresses url text key (Some address) → text ≡ key ++ rest → rest ≢ []
      → parse_against address rest ≡ Some below → begins below address ≡ false
      → MatchesImports addresses url text (Some Backtrack)
  below_key :
      (key rest address below : List ℕ) → Answers addresses url text key (Some address) → text ≡ key ++ rest → rest ≢ []
      → parse_against address rest ≡ Some below → begins below address ≡ true
      → MatchesImports addresses url text (Some (Resolved below))

-- HTML, import maps, resolve a module specifier: the scope of the referrer itself, or of a folder above it
pub data ScopeApplies (referrer key : List ℕ) : Type 0 where
  own : key ≡ referrer → ScopeApplies referrer key
  above : (rest : List ℕ) → ends_in_slash key ≡ true → referrer ≡ key ++ rest → ScopeApplies referrer key

-- a scope that applies and has an answer
pub record AnswersInScope (scopes : Texts Addresses) (referrer : List ℕ) (url : Option (List ℕ)) (text key : List ℕ)
    (answer : Resolution) : Type 0 where
  pub addresses : Addresses
  pub stands : get scopes key ≡ Some addresses
  pub applies : ScopeApplies referrer key
  pub matches : MatchesImports addresses url text (Some answer)

-- HTML, import maps, resolve a module specifier: of the scopes that apply and have an answer, the longest key's
pub data MatchesScopes (scopes : Texts Addresses) (referrer : List ℕ) (url : Option (List ℕ)) (text : List ℕ)
    : Option Resolution → Type 0 where
  no_scope :
      ((key : List ℕ) (answer : Resolution) → AnswersInScope scopes referrer url text key answer → ⊥)
      → MatchesScopes scopes referrer url text None
  in_scope :
      (key : List ℕ) (answer : Resolution) → AnswersInScope scopes referrer url text key answer
      → ((other : List ℕ) (found : Resolution) → AnswersInScope scopes referrer url text other found
      → length other ≤ length key)
      → MatchesScopes scopes referrer url text (Some answer)

-- HTML, import maps, resolve a module specifier: the scopes, then the imports, then the URL that the specifier is
pub data ResolvesAs (map : ParsedMap) (referrer : List ℕ) (url : Option (List ℕ)) (text : List ℕ)
    : Resolution → Type 0 where
  by_scopes :
      (answer : Resolution) → MatchesScopes map.scopes referrer url text (Some answer)
      → ResolvesAs map referrer url text answer
  by_imports :
      (answer : Resolution) → MatchesScopes map.scopes referrer url text None
      → MatchesImports map.imports url text (Some answer) → ResolvesAs map referrer url text answer
  by_url :
      (own : List ℕ) → MatchesScopes map.scopes referrer url text None → MatchesImports map.imports url text None
      → url ≡ Some own → ResolvesAs map referrer url text (Resolved own)
  bare :
      MatchesScopes map.scopes referrer url text None → MatchesImports map.imports url text None → url ≡ None
      → ResolvesAs map referrer url text Bare

abbrev pub Resolves : ParsedMap → List ℕ → List ℕ → Resolution → Type 0
Resolves map referrer specifier resolution =
    ResolvesAs map referrer (as_url referrer specifier) (normalized referrer specifier) resolution
