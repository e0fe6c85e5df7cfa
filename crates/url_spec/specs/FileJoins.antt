-- Relative texts that lead from a folder to a path, so that no URL has to be parsed.
--     IsFolderOf path folder above      in this folder the relative texts of a file or a folder begin
--     LeadsTo above text path      the text leads from the folder to the path
use Rattle.std.specs.List.{list_all}
use Rattle.std.specs.Prelude.{◌≡◌, ◌≢◌, ◌++◌, ℕ, Bool, true, false, List, codes}
use Rattle.tree_spec.specs.Paths.{IsParent, IsPath, joined}
use Rattle.url_spec.specs.WebNames.{is_plain}

-- own: those of a folder begin in itself, and those of a file in its parent
abbrev pub IsFolderOf : List ℕ → Bool → List ℕ → Type 0
IsFolderOf path true above = above ≡ path
IsFolderOf path false above = IsParent above path

-- own: bytes that a URL has as they are lead to what has them below the folder, which isn't the root, and `../` leads
-- to the parent
pub data LeadsTo : List ℕ → List ℕ → List ℕ → Type 0 where
  below :
      (above text path : List ℕ) → above ≢ codes "/" → list_all is_plain text ≡ true → path ≡ joined above text
      → IsPath path → LeadsTo above text path
  up :
      (parent above text more path : List ℕ) → text ≡ codes "../" ++ more → IsParent parent above
      → LeadsTo parent more path → LeadsTo above text path
