-- The laws of what is seen of a folder over which looks are laid. Each is the contract of a function of this crate.
use Rattle.std.specs.Prelude.{◌≡◌, ℕ, List, None, Some}
use Rattle.std.specs.FinMap.{get, insert, remove}
use Rattle.tree_spec.specs.Trees.{Tree}
use Rattle.tree_spec.specs.declared.Entry.{Entry}
use Rattle.tree_spec.specs.declared.Look.TheVariants.{Absent}
use Rattle.package_lookup.specs.declared.known.Known.{Known}
use Rattle.package_lookup.specs.declared.over.Over.{Over}
use Rattle.package_lookup.specs.LaidTrees.{StandsBehind, look_for, IsLaid}
use Rattle.package_lookup.specs.Looked.{Sees, Puts, Grows, kept_at, look_in, over_at}

-- where the kept looks are the tree's, what looks see is the tree with the laid looks in their places
abbrev pub LaidIsSeen : Type 0
LaidIsSeen =
    (tree after : Tree) (known : Known) → StandsBehind tree known → IsLaid tree known.laid after
    → Sees tree known (get after)

-- there is one such tree at most
abbrev pub OneLaid : Type 0
OneLaid = (tree some other : Tree) (over : Over) → IsLaid tree over some → IsLaid tree over other → some ≡ other

-- where nothing is laid, it is the tree itself
abbrev pub NothingLaid : Type 0
NothingLaid = (tree : Tree) (over : Over) → ((path : List ℕ) → over_at over path ≡ None) → IsLaid tree over tree

-- looks that are laid at the same paths leave the same tree
abbrev pub LaidAlike : Type 0
LaidAlike =
    (tree after : Tree) (over other : Over) → ((path : List ℕ) → over_at other path ≡ over_at over path)
    → IsLaid tree over after → IsLaid tree other after

-- to lay one look more is to insert what it sees
abbrev pub SettingLays : Type 0
SettingLays =
    (tree after : Tree) (old new : Over) (path : List ℕ) (entry : Entry) → IsLaid tree old after
    → Puts old path (look_for (Some entry)) new → IsLaid tree new (insert after path entry)

-- to lay the look that sees nothing is to remove what stands there
abbrev pub DroppingLays : Type 0
DroppingLays =
    (tree after : Tree) (old new : Over) (path : List ℕ) → IsLaid tree old after → Puts old path Absent new
    → IsLaid tree new (remove after path)

-- a tree stands behind what nothing is kept of
abbrev pub NothingKept : Type 0
NothingKept = (tree : Tree) (known : Known) → ((path : List ℕ) → kept_at known path ≡ None) → StandsBehind tree known

-- what looks learn of a tree keeps it behind
abbrev pub LooksKeepBehind : Type 0
LooksKeepBehind =
    (tree : Tree) (before after : Known) → Grows before after
    → ((path : List ℕ) → look_in tree after path ≡ look_in tree before path) → StandsBehind tree before
    → StandsBehind tree after
