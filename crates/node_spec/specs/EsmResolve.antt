-- Node's resolution of a specifier in a file (Node.js, ECMAScript modules: ESM_RESOLVE).
--     judged url                       the module at a URL
--     specifier_url conditions parent specifier      the URL of a specifier in the file at the path `parent`
--     node conditions parent specifier      the module that the specifier gives, or why it gives none
--     Resolves tree conditions parent specifier answer      the same in a tree
use Rattle.std.specs.FinMap.{get}
use Rattle.std.specs.Prelude.{◌≡◌, ℕ, List, codes, bytes_eq, if◌then◌else◌, Option, Some, None, Result}
use Rattle.asking_spec.specs.Askings.{answered, and_then, and_ok, outcome}
use Rattle.tree_spec.specs.FoldersAbove.{folder_of}
use Rattle.tree_spec.specs.Trees.{Tree}
use Rattle.url_spec.specs.Schemes.{scheme_of}
use Rattle.url_spec.specs.Specifiers.{begins, is_relative}
use Rattle.node_spec.specs.FileLooks.{without_host, check_url}
use Rattle.node_spec.specs.NodeAnswers.{Url, Module, Refusal, Resolving, refuses, as_node}
use Rattle.node_spec.specs.PackageImportsResolve.{imports_resolve}
use Rattle.node_spec.specs.PackageResolve.{package_resolve}
use Rattle.node_spec.specs.RelativeResolution.{url_judged}
use Rattle.node_spec.specs.Resolution.{joined_url}
use Rattle.node_spec.specs.declared.Cause.TheVariants.{Builtin, ExternalUrl}

-- "If resolved is a "file:" URL"
abbrev pub judged : Url → Resolving Module
judged url = and_then (url_judged url) (λ answer. answered (as_node answer))

-- what is no URL: "Otherwise, if specifier starts with "/", "./", or "../""; "Otherwise, if specifier starts with "#""
abbrev pub no_url : List (List ℕ) → List ℕ → List ℕ → Resolving Url
no_url conditions parent specifier =
    if is_relative specifier then check_url (without_host (joined_url parent specifier))
    else if begins specifier (codes "#") then imports_resolve conditions (folder_of parent) specifier
    else package_resolve conditions (folder_of parent) specifier

-- "If specifier is a valid URL". own: no URL is followed
abbrev pub by_scheme : List (List ℕ) → List ℕ → List ℕ → Option (List ℕ) → Resolving Url
by_scheme conditions parent specifier None = no_url conditions parent specifier
by_scheme conditions parent specifier (Some scheme) =
    if bytes_eq scheme (codes "node") then refuses Builtin else refuses ExternalUrl

abbrev pub specifier_url : List (List ℕ) → List ℕ → List ℕ → Resolving Url
specifier_url conditions parent specifier = by_scheme conditions parent specifier (scheme_of specifier)

abbrev pub node : List (List ℕ) → List ℕ → List ℕ → Resolving Module
node conditions parent specifier = and_ok (specifier_url conditions parent specifier) judged

abbrev pub Resolves : Tree → List (List ℕ) → List ℕ → List ℕ → Result Module Refusal → Type 0
Resolves tree conditions parent specifier answer = answer ≡ outcome (get tree) (node conditions parent specifier)
