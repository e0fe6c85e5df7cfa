-- Resolving a specifier by look-ups: what the map has at a text, and at its fronts from the longest to the shortest. It
-- is what `Resolving` says (law `resolves_by_cases`).
--     resolve_in map referrer specifier      what the specifier comes to in the module or page at the referrer
--     resolve_imports_match url text addresses      what a module specifier map answers for a normalized specifier
--     resolve_scopes_match url text referrer scopes      what the scopes answer
--     resolve_normalized imports scopes referrer url text      what a normalized specifier comes to
--     longest_front answer text n      what the longest front of at most n bytes answers that answers anything
--     exact_match, prefix_match      what a key answers that is the specifier, and one that is a prefix of it
--     prefix_key addresses front rest      what a front of the specifier answers as a key
--     scope_match, prefix_scope      what a scope answers, and one whose key is a prefix of the referrer
--     scope_addresses scopes      the scopes by look-up, each a look-up of its own
--     Lookup X      what a map has at a key
use Rattle.std.specs.FinMap.{get}
use Rattle.std.specs.Prelude.{Option, Some, None, ℕ, List, zero, suc, take, drop, if◌then◌else◌, length, option_map}
use Rattle.std.specs.Option.{option_or}
use Rattle.url_spec.specs.Parsing.{parse_against}
use Rattle.url_spec.specs.Specifiers.{begins, ends_in_slash, as_url, normalized}
use Rattle.import_map_spec.specs.ParsedMap.{Texts, Addresses, ParsedMap}
use Rattle.import_map_spec.specs.Resolving.{Resolution, Resolved, Blocked, Backtrack, BadRest, takes_prefixes, Bare}

-- what the longest front of the text answers, of those of at most n bytes that answer. A front is asked with what
-- follows it
abbrev pub longest_front : {A : Type 0} → (List ℕ → List ℕ → Option A) → List ℕ → ℕ → Option A
longest_front answer text zero = None
longest_front answer text (suc n) =
    option_or (answer (take (suc n) text) (drop (suc n) text)) (longest_front answer text n)

-- a key that is the normalized specifier (HTML, import maps: resolve an imports match)
abbrev pub exact_match : Option (Option (List ℕ)) → Option Resolution
exact_match None = None
exact_match (Some None) = Some Blocked
exact_match (Some (Some url)) = Some (Resolved url)

-- what a prefix comes to, by its address and by the URL of what follows it against that address: a URL that begins with
-- the address, or a way to fail (HTML, import maps: resolve an imports match)
abbrev pub below_address : List ℕ → Option (List ℕ) → Resolution
below_address address None = BadRest
below_address address (Some url) = if begins url address then Resolved url else Backtrack

-- a key that is a prefix of the normalized specifier, with what follows it (HTML, import maps: resolve an imports
-- match)
abbrev pub prefix_match : Option (Option (List ℕ)) → List ℕ → Option Resolution
prefix_match None rest = None
prefix_match (Some None) rest = Some Blocked
prefix_match (Some (Some address)) rest = Some (below_address address (parse_against address rest))

-- what a map has at a key
abbrev pub Lookup : Type 0 → Type 0
Lookup X = List ℕ → Option X

-- a prefix is a key that ends in `/` (HTML, import maps: resolve an imports match)
abbrev pub prefix_key : Lookup (Option (List ℕ)) → List ℕ → List ℕ → Option Resolution
prefix_key addresses front rest = if ends_in_slash front then prefix_match (addresses front) rest else None

-- the keys are tried in descending order, so that of those that match the longest one answers (HTML, import maps:
-- resolve an imports match)
abbrev pub resolve_imports_match : Option (List ℕ) → List ℕ → Lookup (Option (List ℕ)) → Option Resolution
resolve_imports_match url text addresses =
    option_or (exact_match (addresses text))
    (if takes_prefixes url then longest_front (prefix_key addresses) text (length text) else None)

abbrev pub scope_match : Option (List ℕ) → List ℕ → Option (Lookup (Option (List ℕ))) → Option Resolution
scope_match url text None = None
scope_match url text (Some addresses) = resolve_imports_match url text addresses

-- a scope whose key is a prefix of the referrer and ends in `/` (HTML, import maps: resolve a module specifier)
abbrev pub prefix_scope :
    Option (List ℕ) → List ℕ → Lookup (Lookup (Option (List ℕ))) → List ℕ → List ℕ → Option Resolution
prefix_scope url text scopes front rest = if ends_in_slash front then scope_match url text (scopes front) else None

-- the scope of the referrer itself, and then the others from the longest key to the shortest (HTML, import maps:
-- resolve a module specifier)
abbrev pub resolve_scopes_match :
    Option (List ℕ) → List ℕ → List ℕ → Lookup (Lookup (Option (List ℕ))) → Option Resolution
resolve_scopes_match url text referrer scopes =
    option_or (scope_match url text (scopes referrer))
    (longest_front (prefix_scope url text scopes) referrer (length referrer))

-- a URL that no key matches stands for itself
abbrev pub unmatched : Option (List ℕ) → Resolution
unmatched None = Bare
unmatched (Some url) = Resolved url

-- the answer, or the other one where there is none
abbrev pub answer_or : Option Resolution → Resolution → Resolution
answer_or None other = other
answer_or (Some answer) other = answer

-- the scopes, then the imports, then the URL (HTML, import maps: resolve a module specifier)
abbrev pub resolve_normalized :
    Lookup (Option (List ℕ)) → Lookup (Lookup (Option (List ℕ))) → List ℕ → Option (List ℕ) → List ℕ → Resolution
resolve_normalized imports scopes referrer url text =
    answer_or (option_or (resolve_scopes_match url text referrer scopes) (resolve_imports_match url text imports))
    (unmatched url)

abbrev pub scope_addresses : Texts Addresses → Lookup (Lookup (Option (List ℕ)))
scope_addresses scopes key = option_map get (get scopes key)

-- HTML, import maps, resolve a module specifier
unfoldable pub resolve_in : ParsedMap → List ℕ → List ℕ → Resolution
resolve_in m referrer specifier =
    resolve_normalized (get m.imports) (scope_addresses m.scopes) referrer (as_url referrer specifier)
    (normalized referrer specifier)
