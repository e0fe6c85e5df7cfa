-- The traces of the sites, by computation.
use Rattle.std.proofs.Common.{◌≡◌, refl, ap, ◌∙◌}
use Rattle.std.specs.Prelude.{[], ◌∷◌, codes, Err}
use Rattle.std.specs.FinMap.{get}
use Rattle.tree_spec.specs.LookAskings.{Sights}
use Rattle.url_spec.specs.Specifiers.{as_url, normalized}
use Rattle.url_spec.specs.WebNames.{web}
use Rattle.module_spec.proofs.examples.ReadingExamples.{outline_on_literals}
use Rattle.node_spec.proofs.examples.NodeExamples.{node_on_literals}
use Rattle.import_map_spec.proofs.examples.WrittenMaps.{looked, get_map_of}
use Rattle.trace_spec.specs.declared.AskCause.TheVariants.{NotFound}
use Rattle.trace_spec.specs.declared.TraceFault.{TraceFault}
use Rattle.trace_spec.specs.declared.TraceFault.TheVariants.{Refused, Clash}
use Rattle.trace_spec.specs.Modules.{Config}
use Rattle.trace_spec.specs.Traces.{traced}
use Rattle.node_spec.specs.NodeExamples.{Files}
use Rattle.generator_examples.specs.Sites.{based, tree_of, spelling, spelling_all, levels, levels_all, site, site_all}
use Rattle.generator_examples.specs.Sites.{kept, paged, missing, clashing}
use Rattle.generator_examples.specs.Packages.{packages, packages_all}
use Rattle.generator_examples.specs.Examples.{IsTraced}

-- what a trace unfolds to compute on literals
unfoldable pub trace_on_literals : Unit {0}
unfolding node_on_literals outline_on_literals as_url normalized web
trace_on_literals = tt

abbrev pub IsStopped : Files → Config → TraceFault → Type 0
IsStopped files config fault = traced (get (tree_of files)) config ≡ Err fault

-- what stands at the paths of a tree is looked up in its list
pub by_list : (files : Files) (config : Config) → traced (get (tree_of files)) config ≡ traced (looked files) config
by_list files config = ap (λ (sights : Sights). traced sights config) (get_map_of files)

pub levels_traced : IsTraced levels (based "https://app.test/" ("./app.mjs" ∷ [])) levels_all
unfolding trace_on_literals
levels_traced = by_list levels (based "https://app.test/" ("./app.mjs" ∷ [])) ∙ refl

pub spelling_traced : IsTraced spelling (based "https://app.test/" ("./app.mjs" ∷ [])) spelling_all
unfolding trace_on_literals
spelling_traced = by_list spelling (based "https://app.test/" ("./app.mjs" ∷ [])) ∙ refl

pub kept_traced : IsTraced kept (based "https://app.test/" ("./app.mjs" ∷ [])) spelling_all
unfolding trace_on_literals
kept_traced = by_list kept (based "https://app.test/" ("./app.mjs" ∷ [])) ∙ refl

pub paged_traced : IsTraced paged (based "https://app.test/" ("./app.mjs" ∷ [])) spelling_all
unfolding trace_on_literals
paged_traced = by_list paged (based "https://app.test/" ("./app.mjs" ∷ [])) ∙ refl

pub site_traced : IsTraced site (based "https://app.test/" ("./app.mjs" ∷ [])) site_all
unfolding trace_on_literals
site_traced = by_list site (based "https://app.test/" ("./app.mjs" ∷ [])) ∙ refl

pub packages_traced : IsTraced packages (based "https://app.test/" ("./app.js" ∷ [])) packages_all
unfolding trace_on_literals
packages_traced = by_list packages (based "https://app.test/" ("./app.js" ∷ [])) ∙ refl

pub missing_traced : IsStopped missing (based "https://app.test/" ("./a.mjs" ∷ "./b.mjs" ∷ []))
    (Refused (codes "/b.mjs") (codes "./q.mjs") NotFound)
unfolding trace_on_literals
missing_traced = by_list missing (based "https://app.test/" ("./a.mjs" ∷ "./b.mjs" ∷ [])) ∙ refl

pub clashing_traced : IsStopped clashing (based "https://app.test/app/" ("./m.mjs" ∷ []))
    (Clash (codes "/m.mjs") (codes "../app/x.mjs") (codes "/app/x.mjs") (codes "./x.mjs") (codes "/x.mjs"))
unfolding trace_on_literals
clashing_traced = by_list clashing (based "https://app.test/app/" ("./m.mjs" ∷ [])) ∙ refl
