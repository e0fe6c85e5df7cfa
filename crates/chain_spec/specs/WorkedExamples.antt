-- Worked examples: sites, written as the page's path and entries and, for each module, its path, its suffix and the
-- modules that its requests lead to. Modules are numbered from 0 in the order in which they are written.
--     Chained site path numbers     these requests are the shortest chain to that path, with any suffix
--     Unreached site path           no chain leads there
use Rattle.std.specs.Prelude.{ℕ, Bool, false, List, [], ◌∷◌, codes, bytes_eq, slice_get, Option, Some, None}
use Prim.Native.String.{String}
use Rattle.chain_spec.specs.Chains.{Asker, by_page, by_module, Targets, IsChain, IsShortest}

pub record Written : Type 0 where
  pub path : String
  pub suffix : String
  pub requests : List ℕ

pub record Site : Type 0 where
  pub page : String
  pub entries : List ℕ
  pub modules : List Written

abbrev pub plain : String → List ℕ → Written
plain path requests = record { path = path; suffix = ""; requests = requests }

abbrev pub with_suffix : String → String → List ℕ → Written
with_suffix path suffix requests = record { path = path; suffix = suffix; requests = requests }

abbrev pub requests_of : Option Written → List ℕ
requests_of None = []
requests_of (Some m) = m.requests

abbrev pub stands_at : String → Option Written → Bool
stands_at path None = false
stands_at path (Some m) = bytes_eq (codes m.path) (codes path)

abbrev pub targets_of : Site → Targets ℕ
targets_of site by_page = site.entries
targets_of site (by_module m) = requests_of (slice_get site.modules m)

abbrev pub is_at : Site → String → Asker ℕ → Bool
is_at site path by_page = bytes_eq (codes site.page) (codes path)
is_at site path (by_module m) = stands_at path (slice_get site.modules m)

pub record Chained (site : Site) (path : String) (numbers : List ℕ) : Type 0 where
  pub is : IsShortest (targets_of site) (is_at site path) numbers

pub record Unreached (site : Site) (path : String) : Type 0 where
  pub is : (numbers : List ℕ) → IsChain (targets_of site) (is_at site path) numbers → ⊥

abbrev pub on_page : List ℕ → List Written → Site
on_page entries modules = record { page = "/index.html"; entries = entries; modules = modules }

-- a package with two files behind one name, and another inside it
abbrev pub ordinary : Site
ordinary =
    on_page (0 ∷ [])
    (plain "/src/main.js" (1 ∷ 2 ∷ 3 ∷ [])
    ∷ plain "/node_modules/ui/b.js" (4 ∷ [])
    ∷ plain "/node_modules/ui/x/menu.js" (4 ∷ [])
    ∷ plain "/src/style.js" []
    ∷ plain "/node_modules/ui/node_modules/@ui/core/lib/index.mjs" []
    ∷ [])

-- two ways of one length to d; the module that is asked for first has the greater number
abbrev pub diamond : Site
diamond =
    on_page (0 ∷ [])
    (plain "/a.mjs" (2 ∷ 1 ∷ [])
    ∷ plain "/b.mjs" (3 ∷ [])
    ∷ plain "/c.mjs" (3 ∷ [])
    ∷ plain "/d.mjs" []
    ∷ [])

-- c by the first request of all, through b; and by the last one, at once
abbrev pub longer_with_less : Site
longer_with_less =
    on_page (0 ∷ []) (plain "/a.mjs" (1 ∷ 1 ∷ 2 ∷ []) ∷ plain "/b.mjs" (2 ∷ []) ∷ plain "/c.mjs" [] ∷ [])

-- the first entry leads on by its second request, the second by its first
abbrev pub first_number_first : Site
first_number_first =
    on_page (0 ∷ 1 ∷ [])
    (plain "/a.mjs" (3 ∷ 2 ∷ [])
    ∷ plain "/b.mjs" (2 ∷ [])
    ∷ plain "/c.mjs" []
    ∷ plain "/d.mjs" []
    ∷ [])

-- one file with two suffixes, and a file behind each
abbrev pub two_suffixes : Site
two_suffixes =
    on_page (0 ∷ [])
    (plain "/a.mjs" (3 ∷ 2 ∷ [])
    ∷ with_suffix "/b.mjs" "?one" []
    ∷ with_suffix "/b.mjs" "?two" []
    ∷ plain "/c.mjs" (1 ∷ [])
    ∷ [])

-- a module that asks for itself, and two that ask for each other
abbrev pub cycle : Site
cycle =
    on_page (0 ∷ [])
    (plain "/a.mjs" (0 ∷ 1 ∷ [])
    ∷ plain "/b.mjs" (0 ∷ 2 ∷ [])
    ∷ plain "/c.mjs" (1 ∷ [])
    ∷ plain "/d.mjs" (0 ∷ [])
    ∷ [])

-- a module that asks twice for the same, and a page that does
abbrev pub twice : Site
twice = on_page (0 ∷ 0 ∷ []) (plain "/a.mjs" (1 ∷ 1 ∷ []) ∷ plain "/b.mjs" [] ∷ [])

-- three entries, of which the second is asked for by the first
abbrev pub entries : Site
entries =
    on_page (0 ∷ 1 ∷ 2 ∷ [])
    (plain "/a.mjs" (1 ∷ [])
    ∷ plain "/b.mjs" (3 ∷ [])
    ∷ plain "/c.mjs" (3 ∷ [])
    ∷ plain "/d.mjs" []
    ∷ [])

-- a page whose own path is that of a module
abbrev pub own_path : Site
own_path = record { page = "/a.mjs"; entries = 0 ∷ []; modules = plain "/a.mjs" (0 ∷ []) ∷ [] }

pub record WorkedExamples : Type 0 where
  -- the file of the inner package
  pub inner : Chained ordinary "/node_modules/ui/node_modules/@ui/core/lib/index.mjs" (0 ∷ 0 ∷ 0 ∷ [])
  -- a file that nothing asks for
  pub other_file : Unreached ordinary "/node_modules/ui/n.js"
  -- the page
  pub page : Chained ordinary "/index.html" []
  pub entry : Chained ordinary "/src/main.js" (0 ∷ [])
  pub last_request : Chained ordinary "/src/style.js" (0 ∷ 2 ∷ [])
  pub least_of_two : Chained diamond "/d.mjs" (0 ∷ 0 ∷ 0 ∷ [])
  pub second_side : Chained diamond "/b.mjs" (0 ∷ 1 ∷ [])
  pub shorter_first : Chained longer_with_less "/c.mjs" (0 ∷ 2 ∷ [])
  pub by_first_entry : Chained first_number_first "/c.mjs" (0 ∷ 1 ∷ [])
  pub either_suffix : Chained two_suffixes "/b.mjs" (0 ∷ 1 ∷ [])
  pub without_suffix : Unreached two_suffixes "/b.mjs?one"
  pub round : Chained cycle "/c.mjs" (0 ∷ 1 ∷ 1 ∷ [])
  pub not_round : Chained cycle "/a.mjs" (0 ∷ [])
  pub nobody_asks : Unreached cycle "/d.mjs"
  pub asked_twice : Chained twice "/b.mjs" (0 ∷ 0 ∷ [])
  pub entry_twice : Chained twice "/a.mjs" (0 ∷ [])
  pub second_entry : Chained entries "/b.mjs" (1 ∷ [])
  pub third_entry : Chained entries "/c.mjs" (2 ∷ [])
  pub of_two_entries : Chained entries "/d.mjs" (1 ∷ 0 ∷ [])
  pub page_before_module : Chained own_path "/a.mjs" []
  pub no_entry : Unreached (on_page [] []) "/a.mjs"
