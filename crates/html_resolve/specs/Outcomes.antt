-- What the code answers, in the words of the definition.
--     IsAnswer fault answer      the fault is this answer, or no memory was found
--     Finds found answer      what is found is this answer, or none
--     ComesTo out resolution      the outcome is this resolution
use Rattle.std.specs.Prelude.{◌≡◌, ℕ, List, Option, Some, None, Result, Ok, Err, ⊤}
use Rattle.import_map_spec.specs.Resolving as html
use Rattle.import_map_spec.specs.Resolving.{Resolution, Resolved}
use Rattle.html_resolve.specs.declared.html_fault.HtmlFault.{HtmlFault}
use Rattle.html_resolve.specs.declared.html_fault.HtmlFault.TheVariants.{Blocked, Bare, Backtrack, BadRest, Memory}

abbrev pub IsSame : HtmlFault → Option Resolution → Type 0
IsSame Blocked answer = answer ≡ Some html.Blocked
IsSame Bare answer = answer ≡ Some html.Bare
IsSame Backtrack answer = answer ≡ Some html.Backtrack
IsSame BadRest answer = answer ≡ Some html.BadRest
IsSame Memory answer = ⊤

pub record IsAnswer (fault : HtmlFault) (answer : Option Resolution) : Type 0 where
  pub same : IsSame fault answer

abbrev pub Finds : Result (Option (List ℕ)) HtmlFault → Option Resolution → Type 0
Finds (Ok None) answer = answer ≡ None
Finds (Ok (Some url)) answer = answer ≡ Some (Resolved url)
Finds (Err fault) answer = IsAnswer fault answer

abbrev pub ComesTo : Result (List ℕ) HtmlFault → Resolution → Type 0
ComesTo (Ok url) resolution = resolution ≡ Resolved url
ComesTo (Err fault) resolution = IsAnswer fault (Some resolution)
