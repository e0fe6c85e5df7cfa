-- Relative texts that are joined to file URLs without a parse.
--     IsShortJoin path folder text target      the text is joined to the URL of the path to that of the target
--     IsJoinIn above text target      and so for each file and each folder whose relative texts begin in this one
use Rattle.std.specs.Prelude.{◌≡◌, ◌<◌, ℕ, Bool, false, List, All, Some}
use Rattle.tree_spec.specs.Paths.{IsPath}
use Rattle.url_spec.specs.FileJoins.{IsFolderOf}
use Rattle.url_spec.specs.FileUrls.{file_text}
use Rattle.url_spec.specs.Parsing.{parse_against}

abbrev pub IsShortJoin : List ℕ → Bool → List ℕ → List ℕ → Type 0
IsShortJoin path folder text target =
    IsPath path → All (λ b. b < 256) path → parse_against (file_text path folder) text ≡ Some (file_text target false)

abbrev pub IsJoinIn : List ℕ → List ℕ → List ℕ → Type 0
IsJoinIn above text target =
    (path : List ℕ) (folder : Bool) → IsFolderOf path folder above → IsShortJoin path folder text target
