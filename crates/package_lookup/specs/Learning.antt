-- What calls that ask learn of a folder.
--     IsSameIn tree before after          what a look at each path answers is as before
--     Learns before after unfinished Among
--                                         what is known grows by what the folder was asked for, once each, and for
--                                         those paths alone of which this holds
use Rattle.std.specs.Prelude.{◌≡◌, ℕ, List, IfSome}
use Rattle.tree_spec.specs.Trees.{Tree}
use Rattle.package_lookup.specs.Looked.{look_in, Grows}
use Rattle.package_lookup.specs.Answered.{State, AsksOnce}

abbrev pub IsSameIn : Tree → State → State → Type 0
IsSameIn tree before after = (path : List ℕ) → look_in tree after.known path ≡ look_in tree before.known path

-- each path that the folder was asked for is known afterwards, the last one unless memory was wanting
pub record Learns (before after : State) (unfinished : Type 0) (Among : List ℕ → Type 0) : Type 0 where
  pub tree : after.folder.holds ≡ before.folder.holds
  pub same : IfSome before.folder.holds (λ tree. IsSameIn tree before after)
  pub known : Grows before.known after.known
  pub asked : IfSome before.folder.asked (λ old. AsksOnce old before after unfinished Among)
