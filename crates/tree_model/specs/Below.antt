-- Texts of segments without the root.
use Rattle.std.specs.Prelude.{◌≢◌, ◌≤◌, ℕ, List, codes}
use Rattle.tree_spec.specs.Paths.{HasDepth}

-- own: a text of one to `most` segments, each behind a `/`
pub record IsBelow (most : ℕ) (text : List ℕ) : Type 0 where
  pub depth : ℕ
  pub segments : HasDepth depth text
  pub other : text ≢ codes "/"
  pub few : depth ≤ most
