-- The page and the conditions of a new project can be those of a config.
use Rattle.std.proofs.Common.{◌≡◌, ◌≢◌, refl, ap}
use Rattle.std.specs.Prelude.{ℕ, List, codes, length, Option, Some, None, unwrap_or}
use Rattle.node_spec.specs.Conditions.{names_in, AreConditions}
use Rattle.tree_spec.specs.Paths.{IsPath}
use Rattle.command_words.specs.Settings.{IsFilePage}
use Rattle.config_spec.specs.Projects.{page_path, link_conditions}
use Rattle.config_spec.proofs.ConfigsFit.{are_conditions, page_of_project}

-- ---- the page

pub page_is_path : IsPath page_path
page_is_path = page_of_project.is_path

pub page_is_file : page_path ≢ codes "/"
page_is_file e = let n : length page_path ≡ 1 = ap length e in cc

-- a page that is given isn't the root, and no other page was
pub file_or : (page : Option (List ℕ)) (other : List ℕ) → IsFilePage page → other ≢ codes "/" → unwrap_or page other ≢ codes "/"
file_or None other given file = file
file_or (Some page) other given file = given

-- ---- the conditions

pub named : names_in (codes "browser,import") ≡ link_conditions
named = refl

pub can_be : AreConditions (names_in (codes "browser,import"))
can_be = are_conditions
