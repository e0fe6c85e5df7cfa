-- Worked examples. The page is `https://app.test/index.html`, and its URL is the map base.
--     ImportExamples, ScopeExamples, ReplacedExamples, IntegrityExamples      values, their maps, and what these answer
--     FaultExamples, OrderExamples, ByteExamples      first faults, the order of names, and texts
use Rattle.std.specs.Prelude.{ℕ, List, codes, [], ◌∷◌, Option, Some, None, ◌≡◌, Ok, Err, true}
use Rattle.json_spec.specs.Grammar.{NotJson}
use Rattle.json_spec.specs.PropertyOrder.{in_property_order}
use Rattle.json_spec.specs.Value.{Json, Members, a_member, a_text, no_members, an_object, a_null, a_number, a_list}
use Rattle.json_spec.specs.Value.{no_items, a_bool}
use Rattle.import_map_spec.specs.ParsedMap.{NoJson, NotObject}
use Rattle.import_map_spec.specs.Parsing.{parsed_map, ParsesMap}
use Rattle.import_map_spec.specs.Resolving.{Resolution, Resolved, Blocked, Bare, Backtrack, BadRest}
use Rattle.import_map_spec.specs.WrittenMaps.{Lists, map_of_lists, Questions, Answer}
use Rattle.import_map_spec.specs.declared.MapPart.TheVariants.{Top, Imports, Scopes, Scope, Integrity}
use Prim.Native.String.{String}

abbrev pub page : List ℕ
page = codes "https://app.test/index.html"

-- a member, the members of strings, and the objects of imports and of scopes
abbrev pub with : String → Json → Members → Members
with name value more = a_member (codes name) value more

abbrev pub strings : List (String × String) → Members
strings [] = no_members
strings (e ∷ es) = with e.0 (a_text (codes e.1)) (strings es)

abbrev pub importing : Members → Json
importing ms = an_object (with "imports" (an_object ms) no_members)

abbrev pub scoping : Members → Json
scoping ms = an_object (with "scopes" (an_object ms) no_members)

-- an entry of a map of addresses
abbrev pub to_url : String → String → List ℕ × Option (List ℕ)
to_url key url = (codes key, Some (codes url))

abbrev pub to_null : String → List ℕ × Option (List ℕ)
to_null key = (codes key, None)

abbrev pub to : String → Resolution
to url = Resolved (codes url)

-- the value is read as the map of these lists, and this map answers these questions
pub record IsExample (value : Json) (lists : Lists) (questions : Questions) : Type 0 where
  pub reads : parsed_map page value ≡ Ok (map_of_lists lists)
  pub answers : Answer (map_of_lists lists) questions

abbrev pub from_page : String → Resolution → String × String × Resolution
from_page specifier answer = ("https://app.test/index.html", specifier, answer)

abbrev pub only_imports : List (List ℕ × Option (List ℕ)) → Lists
only_imports entries = record { imports = entries; scopes = []; integrity = [] }

abbrev pub only_scopes : List (List ℕ × List (List ℕ × Option (List ℕ))) → Lists
only_scopes entries = record { imports = []; scopes = entries; integrity = [] }

pub record ImportExamples : Type 0 where
  pub null_address :
      IsExample (importing (with "a" (a_number (codes "3")) no_members)) (only_imports (to_null "a" ∷ []))
      (from_page "a" Blocked ∷ from_page "b" Bare ∷ [])
  -- within the address of a prefix, out of it, and a rest that doesn't parse
  pub folder :
      IsExample (importing (strings (("u/", "/v/") ∷ []))) (only_imports (to_url "u/" "https://app.test/v/" ∷ []))
      (from_page "u/w" (to "https://app.test/v/w") ∷ from_page "u/" (to "https://app.test/v/")
      ∷ from_page "u/../w" Backtrack ∷ from_page "u///[" BadRest ∷ from_page "u" Bare ∷ [])
  pub empty_key :
      IsExample (importing (strings (("", "/x") ∷ ("a", "/y") ∷ [])))
      (only_imports (to_url "a" "https://app.test/y" ∷ [])) (from_page "a" (to "https://app.test/y") ∷ [])
  -- a key that ends in `/` has no address that doesn't
  pub no_slash :
      IsExample (importing (strings (("u/", "/v") ∷ []))) (only_imports (to_null "u/" ∷ []))
      (from_page "u/w" Blocked ∷ [])
  pub no_urls :
      IsExample
      (importing (with "a" (a_text (codes "b"))
      (with "c" a_null (with "d" (a_list no_items) (with "e" (an_object no_members) no_members)))))
      (only_imports (to_null "a" ∷ to_null "c" ∷ to_null "d" ∷ to_null "e" ∷ []))
      (from_page "a" Blocked ∷ from_page "c" Blocked ∷ from_page "d" Blocked ∷ from_page "e" Blocked ∷ [])
  -- a later key that normalizes alike replaces an earlier one
  pub replaced :
      IsExample (importing (strings (("./m", "/x") ∷ ("/m", "/y") ∷ [])))
      (only_imports
      (to_url "https://app.test/m" "https://app.test/x" ∷ to_url "https://app.test/m" "https://app.test/y" ∷ []))
      (from_page "./m" (to "https://app.test/y") ∷ from_page "https://app.test/m" (to "https://app.test/y") ∷ [])
  pub longest :
      IsExample (importing (strings (("u/w/", "/z/") ∷ ("u/", "/v/") ∷ [])))
      (only_imports (to_url "u/w/" "https://app.test/z/" ∷ to_url "u/" "https://app.test/v/" ∷ []))
      (from_page "u/w/x" (to "https://app.test/z/x") ∷ from_page "u/w" (to "https://app.test/v/w") ∷ [])
  -- the longest prefix decides, also where it has no URL
  pub longest_null :
      IsExample (importing (with "u/" (a_text (codes "/v/")) (with "u/w/" a_null no_members)))
      (only_imports (to_url "u/" "https://app.test/v/" ∷ to_null "u/w/" ∷ []))
      (from_page "u/w/x" Blocked ∷ from_page "u/x" (to "https://app.test/v/x") ∷ [])
  -- prefixes don't count for URLs whose scheme isn't special
  pub schemes :
      IsExample (importing (strings (("x:a/", "/v/") ∷ ("https://h/a/", "/w/") ∷ [])))
      (only_imports (to_url "x:a/" "https://app.test/v/" ∷ to_url "https://h/a/" "https://app.test/w/" ∷ []))
      (from_page "x:a/b" (to "x:a/b") ∷ from_page "x:a/" (to "https://app.test/v/")
      ∷ from_page "https://h/a/b" (to "https://app.test/w/b") ∷ [])
  pub no_map :
      IsExample (an_object no_members) (only_imports [])
      (from_page "./x" (to "https://app.test/x") ∷ from_page "https://h/y" (to "https://h/y") ∷ from_page "ui" Bare
      ∷ from_page "//[" Bare ∷ from_page "" Bare ∷ [])
  -- a package's folder, a null address, an address beside the page, and two keys of one URL
  pub checked :
      IsExample
      (importing (with "ui/" (a_text (codes "/node_modules/ui/")) (with "ui/b.mjs" a_null
      (strings (("z", "./wrong.mjs") ∷ ("./app.mjs", "/x.mjs") ∷ ("/app.mjs", "/app.mjs") ∷ [])))))
      (only_imports (to_url "ui/" "https://app.test/node_modules/ui/" ∷ to_null "ui/b.mjs"
      ∷ to_url "z" "https://app.test/wrong.mjs" ∷ to_url "https://app.test/app.mjs" "https://app.test/x.mjs"
      ∷ to_url "https://app.test/app.mjs" "https://app.test/app.mjs" ∷ []))
      (from_page "./app.mjs" (to "https://app.test/app.mjs")
      ∷ ("https://app.test/app.mjs", "ui/a.mjs", to "https://app.test/node_modules/ui/a.mjs")
      ∷ ("https://app.test/app.mjs", "ui/b.mjs", Blocked)
      ∷ ("https://app.test/app.mjs", "z", to "https://app.test/wrong.mjs") ∷ [])

abbrev pub from : String → String → Resolution → String × String × Resolution
from referrer specifier answer = (referrer, specifier, answer)

abbrev pub at : String → List (String × String) → Members → Members
at key addresses more = with key (an_object (strings addresses)) more

abbrev pub scope : String → List (List ℕ × Option (List ℕ)) → List ℕ × List (List ℕ × Option (List ℕ))
scope key entries = (codes key, entries)

pub record ScopeExamples : Type 0 where
  -- array indices come first, so that the other key of the URL replaces this one
  pub replaced :
      IsExample (scoping (at "./1" (("a", "/b") ∷ []) (at "1" (("a", "/c") ∷ []) no_members)))
      (only_scopes (scope "https://app.test/1" (to_url "a" "https://app.test/c" ∷ [])
      ∷ scope "https://app.test/1" (to_url "a" "https://app.test/b" ∷ []) ∷ []))
      (from "https://app.test/1" "a" (to "https://app.test/b") ∷ [])
  -- a text with a leading zero is no array index
  pub no_index :
      IsExample
      (scoping (at "https://app.test/1" (("a", "/b") ∷ [])
      (at "01" (("a", "/c") ∷ []) (at "1" (("a", "/d") ∷ []) no_members))))
      (only_scopes (scope "https://app.test/1" (to_url "a" "https://app.test/d" ∷ [])
      ∷ scope "https://app.test/1" (to_url "a" "https://app.test/b" ∷ [])
      ∷ scope "https://app.test/01" (to_url "a" "https://app.test/c" ∷ []) ∷ []))
      (from "https://app.test/1" "a" (to "https://app.test/b")
      ∷ from "https://app.test/01" "a" (to "https://app.test/c") ∷ [])
  pub no_url :
      IsExample (scoping (at "https://[" (("a", "/b") ∷ []) (at "/x/" (("a", "/c") ∷ []) no_members)))
      (only_scopes (scope "https://app.test/x/" (to_url "a" "https://app.test/c" ∷ []) ∷ []))
      (from "https://app.test/x/m" "a" (to "https://app.test/c") ∷ from_page "a" Bare ∷ [])
  -- the longest scope answers first, in whatever order they are written
  pub inner_last :
      IsExample (scoping (at "/" (("a", "/1") ∷ ("b", "/3") ∷ []) (at "/x/" (("a", "/2") ∷ []) no_members)))
      (only_scopes (scope "https://app.test/" (to_url "a" "https://app.test/1" ∷ to_url "b" "https://app.test/3" ∷ [])
      ∷ scope "https://app.test/x/" (to_url "a" "https://app.test/2" ∷ []) ∷ []))
      (from "https://app.test/x/m" "a" (to "https://app.test/2")
      ∷ from "https://app.test/x/m" "b" (to "https://app.test/3") ∷ from_page "a" (to "https://app.test/1") ∷ [])
  pub inner_first :
      IsExample (scoping (at "/x/" (("a", "/2") ∷ []) (at "/" (("a", "/1") ∷ ("b", "/3") ∷ []) no_members)))
      (only_scopes (scope "https://app.test/x/" (to_url "a" "https://app.test/2" ∷ [])
      ∷ scope "https://app.test/" (to_url "a" "https://app.test/1" ∷ to_url "b" "https://app.test/3" ∷ []) ∷ []))
      (from "https://app.test/x/m" "a" (to "https://app.test/2")
      ∷ from "https://app.test/x/m" "b" (to "https://app.test/3") ∷ from_page "a" (to "https://app.test/1") ∷ [])
  -- a scope of one referrer, and a key that ends in no `/` and so is no folder
  pub exact :
      IsExample (scoping (at "./index.html" (("a", "/s") ∷ []) (at "/x" (("a", "/t") ∷ []) no_members)))
      (only_scopes (scope "https://app.test/index.html" (to_url "a" "https://app.test/s" ∷ [])
      ∷ scope "https://app.test/x" (to_url "a" "https://app.test/t" ∷ []) ∷ []))
      (from_page "a" (to "https://app.test/s") ∷ from "https://app.test/x" "a" (to "https://app.test/t")
      ∷ from "https://app.test/x/m" "a" Bare ∷ [])
  -- a null address in a scope blocks what the imports have, and a prefix in a scope goes before a key in the imports
  pub over_imports :
      IsExample
      (an_object (with "imports" (an_object (strings (("a", "/i") ∷ ("u/w", "/j") ∷ [])))
      (with "scopes" (an_object
      (with "/x/" (an_object (with "a" a_null (with "u/" (a_text (codes "/v/")) no_members))) no_members)) no_members)))
      (record {
        imports = to_url "a" "https://app.test/i" ∷ to_url "u/w" "https://app.test/j" ∷ [];
        scopes = scope "https://app.test/x/" (to_null "a" ∷ to_url "u/" "https://app.test/v/" ∷ []) ∷ [];
        integrity = [];
      })
      (from "https://app.test/x/m" "a" Blocked ∷ from "https://app.test/x/m" "u/w" (to "https://app.test/v/w")
      ∷ from_page "a" (to "https://app.test/i") ∷ from_page "u/w" (to "https://app.test/j") ∷ [])

-- what is replaced is gone
pub record ReplacedExamples : Type 0 where
  pub one_scope :
      parsed_map page (scoping (at "./1" (("a", "/b") ∷ []) (at "1" (("a", "/c") ∷ []) no_members)))
      ≡ Ok (map_of_lists (only_scopes (scope "https://app.test/1" (to_url "a" "https://app.test/b" ∷ []) ∷ [])))
  pub one_key :
      parsed_map page (importing (strings (("./m", "/x") ∷ ("/m", "/y") ∷ [])))
      ≡ Ok (map_of_lists (only_imports (to_url "https://app.test/m" "https://app.test/y" ∷ [])))

-- the checks come in one order
pub record FaultExamples : Type 0 where
  pub top : parsed_map page (a_list no_items) ≡ Err Top
  pub imports : parsed_map page (an_object (with "imports" (a_list no_items) no_members)) ≡ Err Imports
  pub scopes : parsed_map page (an_object (with "scopes" a_null no_members)) ≡ Err Scopes
  pub scope : parsed_map page (scoping (with "/" (a_list no_items) no_members)) ≡ Err Scope
  pub integrity : parsed_map page (an_object (with "integrity" (a_text []) no_members)) ≡ Err Integrity
  pub imports_first :
      parsed_map page (an_object (with "integrity" a_null (with "scopes" a_null (with "imports" a_null no_members))))
      ≡ Err Imports
  pub scope_first :
      parsed_map page (an_object
      (with "integrity" a_null (with "scopes" (an_object (with "/" a_null no_members)) no_members))) ≡ Err Scope
  pub others : parsed_map page (an_object (with "more" a_null no_members)) ≡ Ok (map_of_lists (only_imports []))

abbrev pub pair : String → String → List ℕ × List ℕ
pair key text = (codes key, codes text)

-- a key that is no URL is dropped, and a value that is no string, and of others a later one replaces an earlier one
pub record IntegrityExamples : Type 0 where
  pub dropped :
      parsed_map page
      (an_object (with "integrity" (an_object (with "./a.mjs" (a_text (codes "sha384-x"))
      (with "b" (a_text (codes "y")) (with "/c" (a_bool true) no_members)))) no_members))
      ≡ Ok
      (map_of_lists (record { imports = []; scopes = []; integrity = pair "https://app.test/a.mjs" "sha384-x" ∷ [] }))
  pub replaced :
      parsed_map page
      (an_object (with "integrity" (an_object (with "./a.mjs" (a_text (codes "x"))
      (with "/a.mjs" (a_text (codes "y")) (with "https://app.test/a.mjs" a_null no_members)))) no_members))
      ≡ Ok
      (map_of_lists (record {
        imports = [];
        scopes = [];
        integrity = pair "https://app.test/a.mjs" "x" ∷ pair "https://app.test/a.mjs" "y" ∷ [];
      }))

abbrev pub named : List String → Members
named [] = no_members
named (name ∷ names) = with name a_null (named names)

pub record OrderExamples : Type 0 where
  pub by_number : in_property_order (named ("b" ∷ "10" ∷ "9" ∷ "a" ∷ [])) ≡ named ("9" ∷ "10" ∷ "b" ∷ "a" ∷ [])
  pub greatest :
      in_property_order (named ("4294967295" ∷ "4294967294" ∷ "0" ∷ []))
      ≡ named ("0" ∷ "4294967294" ∷ "4294967295" ∷ [])
  pub no_digits :
      in_property_order (named ("" ∷ "01" ∷ "-1" ∷ "1.0" ∷ "1" ∷ [])) ≡ named ("1" ∷ "" ∷ "01" ∷ "-1" ∷ "1.0" ∷ [])

pub record ByteExamples : Type 0 where
  pub map : ParsesMap page (codes "{\"imports\":{\"a\":3}}") (Ok (map_of_lists (only_imports (to_null "a" ∷ []))))
  pub no_object : ParsesMap page (codes "[]") (Err (NotObject Top))
  pub no_json : ParsesMap page (codes "{\"imports\":") (Err (NoJson (NotJson 11)))

abbrev pub WorkedExamples : Type 0
WorkedExamples =
    ImportExamples × ScopeExamples × ReplacedExamples × FaultExamples × IntegrityExamples × OrderExamples × ByteExamples
