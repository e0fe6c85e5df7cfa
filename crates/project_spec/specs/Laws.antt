-- The laws of project files. Each is the contract of a function of this crate.
use Rattle.std.specs.List.Sorted.{IsPermutation}
use Rattle.std.specs.Prelude.{◌≡◌, ◌≤◌, ◌↔◌, ℕ, List, [], ◌∷◌, codes, length, All, IsUtf8, Result, Ok}
use Rattle.tree_spec.specs.Limits.{limit_number}
use Rattle.tree_spec.specs.declared.LimitName.TheVariants.{Entries}
use Rattle.json_spec.specs.PropertyOrder.{Pair, pairs_of}
use Rattle.json_spec.specs.Value.{a_text, a_list, Items, Members}
use Rattle.trace_spec.specs.Modules.{Config}
use Rattle.project_spec.specs.ProjectFiles.{Fault, HasParts, IsProject, ReadsProject, project_text}

-- own law: the bytes of a file have one outcome
abbrev pub OneProject : Type 0
OneProject =
    (bytes : List ℕ) (some other : Result Config Fault) → ReadsProject bytes some → ReadsProject bytes other
    → some ≡ other

-- own law: the bytes of each file have an outcome
abbrev pub SomeProject : Type 0
SomeProject = (bytes : List ℕ) → (out : Result Config Fault) × ReadsProject bytes out

-- own law: a config that is read can stand in a file, and has no more entries than a project may
abbrev pub ReadProjects : Type 0
ReadProjects =
    (bytes : List ℕ) (config : Config) → ReadsProject bytes (Ok config)
    → IsProject config × (length config.entries ≤ limit_number Entries)

-- own law: the text of a config that can stand in a file is read as that config
abbrev pub ProjectsReadBack : Type 0
ProjectsReadBack =
    (config : Config) → IsProject config → length config.entries ≤ limit_number Entries → IsUtf8 config.page
    → All IsUtf8 config.entries → ReadsProject (project_text config) (Ok config)

-- the members of a project's file, in the order in which they are written
abbrev pub four_pairs : List ℕ → List ℕ → Items → Items → List Pair
four_pairs base page conditions entries =
    (codes "base", a_text base) ∷ (codes "page", a_text page) ∷ (codes "conditions", a_list conditions)
    ∷ (codes "entries", a_list entries) ∷ []

-- own law: an object has the parts of a project exactly where its members are these four in some order
abbrev pub FourMembers : Type 0
FourMembers =
    (members : Members) (base page : List ℕ) (conditions entries : Items)
    → HasParts members base page conditions entries
    ↔ IsPermutation (pairs_of members) (four_pairs base page conditions entries)
