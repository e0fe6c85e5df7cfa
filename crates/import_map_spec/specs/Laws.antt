-- The laws of import maps. Each is the contract of a function of this crate.
--     IsFolderFront text k      the first k bytes are a prefix that a key may be
--     NoneAbove look text k      the look-up answers for no such prefix of more than k bytes
use Rattle.std.specs.Prelude.{◌≡◌, ◌≢◌, ◌↔◌, ◌<◌, ◌≤◌, ℕ, true, false, List, [], take, drop, length, Option, Some, None}
use Rattle.std.specs.Prelude.{Result, Ok}
use Rattle.std.specs.declared.cmp.Ordering.TheVariants.{Less}
use Rattle.std.specs.Ordering.{nat_cmp}
use Rattle.std.specs.Cmp.Lexicographic.{slice_cmp}
use Rattle.std.specs.FinMap.{get}
use Rattle.json_spec.specs.Value.{Json}
use Rattle.url_spec.specs.Parsing.{parse_alone, IsUrl}
use Rattle.url_spec.specs.Specifiers.{normalized, ends_in_slash}
use Rattle.import_map_spec.specs.ParsedMap.{Addresses, ParsedMap, MapFault}
use Rattle.import_map_spec.specs.Parsing.{parsed_map, ParsesMap}
use Rattle.import_map_spec.specs.LookUps.{resolve_in, exact_match, prefix_match, Lookup, resolve_imports_match}
use Rattle.import_map_spec.specs.LookUps.{scope_match, resolve_scopes_match}
use Rattle.import_map_spec.specs.Resolving.{Resolution, takes_prefixes, KeyApplies, ScopeApplies, Resolves}

-- own law: one text has one map, or one first fault
abbrev pub OneMap : Type 0
OneMap =
    (base bytes : List ℕ) (a c : Result ParsedMap MapFault) → ParsesMap base bytes a → ParsesMap base bytes c → a ≡ c

-- own law: each text has a map or a first fault
abbrev pub SomeMap : Type 0
SomeMap = (base bytes : List ℕ) → (out : Result ParsedMap MapFault) × ParsesMap base bytes out

-- HTML, import maps, sorting and normalizing a module specifier map: its keys aren't empty and are normalized, and its
-- addresses are URLs
pub record AreNormal (base : List ℕ) (addresses : Addresses) : Type 0 where
  pub some_key : (key : List ℕ) (address : Option (List ℕ)) → get addresses key ≡ Some address → key ≢ []
  pub normal_key :
      (key : List ℕ) (address : Option (List ℕ)) → get addresses key ≡ Some address → normalized base key ≡ key
  pub urls : (key url : List ℕ) → get addresses key ≡ Some (Some url) → IsUrl url

-- HTML, import maps, parse an import map string: the keys of scopes and of the integrity are URLs, and each module
-- specifier map is normal
pub record IsNormal (base : List ℕ) (map : ParsedMap) : Type 0 where
  pub imports : AreNormal base map.imports
  pub scope_keys : (key : List ℕ) (addresses : Addresses) → get map.scopes key ≡ Some addresses → IsUrl key
  pub scopes : (key : List ℕ) (addresses : Addresses) → get map.scopes key ≡ Some addresses → AreNormal base addresses
  pub integrity_keys : (key text : List ℕ) → get map.integrity key ≡ Some text → IsUrl key

-- own law: what is parsed is normal
abbrev pub ParsedMapsAreNormal : Type 0
ParsedMapsAreNormal =
    (base : List ℕ) (value : Json) (map : ParsedMap) → parsed_map base value ≡ Ok map → IsNormal base map

-- own law: what look-ups come to is what the cases of `Resolving` say, and nothing else is
abbrev pub ResolvesByCases : Type 0
ResolvesByCases =
    (map : ParsedMap) (referrer specifier : List ℕ) (resolution : Resolution)
    → (resolve_in map referrer specifier ≡ resolution) ↔ Resolves map referrer specifier resolution

-- own law: no import map tells two such specifiers apart
abbrev pub SameQuestion : Type 0
SameQuestion =
    (m : ParsedMap) (referrer one other : List ℕ) → parse_alone one ≡ None → parse_alone other ≡ None
    → normalized referrer one ≡ normalized referrer other
    → resolve_in m referrer one ≡ resolve_in m referrer other

-- the front of k bytes is a prefix that a key may be
pub record IsFolderFront (text : List ℕ) (k : ℕ) : Type 0 where
  pub some : 0 < k
  pub within : k ≤ length text
  pub slash : ends_in_slash (take k text) ≡ true

-- a look-up that answers for no such front of more than k bytes
abbrev pub NoneAbove : {A : Type 0} → (List ℕ → Option A) → List ℕ → ℕ → Type 0
NoneAbove look text k = (j : ℕ) → k < j → IsFolderFront text j → look (take j text) ≡ None

-- own law: a key that is the specifier answers, else the longest prefix; the referrer's own scope, where it has an
-- answer, else the longest one that has. Keys and scopes that apply stand in descending order exactly where they get
-- shorter
pub record KeyOrder : Type 0 where
  pub exact :
      (addresses : Lookup (Option (List ℕ))) (url : Option (List ℕ)) (text : List ℕ) (address : Option (List ℕ))
      → addresses text ≡ Some address → resolve_imports_match url text addresses ≡ exact_match (Some address)
  pub prefix :
      (addresses : Lookup (Option (List ℕ))) (url : Option (List ℕ)) (text : List ℕ) (k : ℕ) (address : Option (List ℕ))
      → addresses text ≡ None → takes_prefixes url ≡ true → IsFolderFront text k
      → addresses (take k text) ≡ Some address
      → NoneAbove addresses text k
      → resolve_imports_match url text addresses ≡ prefix_match (Some address) (drop k text)
  pub no_key :
      (addresses : Lookup (Option (List ℕ))) (url : Option (List ℕ)) (text : List ℕ) → addresses text ≡ None
      → NoneAbove addresses text 0 → resolve_imports_match url text addresses ≡ None
  pub no_prefix :
      (addresses : Lookup (Option (List ℕ))) (url : Option (List ℕ)) (text : List ℕ) → addresses text ≡ None
      → takes_prefixes url ≡ false → resolve_imports_match url text addresses ≡ None
  pub own_scope :
      (scopes : Lookup (Lookup (Option (List ℕ)))) (url : Option (List ℕ)) (text referrer : List ℕ)
      (answer : Resolution)
      → scope_match url text (scopes referrer) ≡ Some answer
      → resolve_scopes_match url text referrer scopes ≡ Some answer
  pub scope :
      (scopes : Lookup (Lookup (Option (List ℕ)))) (url : Option (List ℕ)) (text referrer : List ℕ) (k : ℕ)
      (answer : Resolution)
      → scope_match url text (scopes referrer) ≡ None → IsFolderFront referrer k
      → scope_match url text (scopes (take k referrer)) ≡ Some answer
      → NoneAbove (λ key. scope_match url text (scopes key)) referrer k
      → resolve_scopes_match url text referrer scopes ≡ Some answer
  pub no_scope :
      (scopes : Lookup (Lookup (Option (List ℕ)))) (url : Option (List ℕ)) (text referrer : List ℕ)
      → scope_match url text (scopes referrer) ≡ None → NoneAbove (λ key. scope_match url text (scopes key)) referrer 0
      → resolve_scopes_match url text referrer scopes ≡ None
  pub keys_descend :
      (url : Option (List ℕ)) (text one other : List ℕ) → KeyApplies url text one → KeyApplies url text other
      → (slice_cmp nat_cmp one other ≡ Less) ↔ (length one < length other)
  pub scopes_descend :
      (referrer one other : List ℕ) → ScopeApplies referrer one → ScopeApplies referrer other
      → (slice_cmp nat_cmp one other ≡ Less) ↔ (length one < length other)
