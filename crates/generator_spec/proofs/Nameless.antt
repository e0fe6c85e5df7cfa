-- A page without a web name has no trace.
use Rattle.std.proofs.Common.{◌≡◌, suc, List, ℕ, Option, None, Result, Ok, Err, sym, ap, ◌∙◌}
use Rattle.asking_spec.specs.Askings.{answered, and_ok}
use Rattle.asking_spec.specs.Evaluation.{evaluated}
use Rattle.tree_spec.specs.LookAskings.{Sights}
use Rattle.tree_spec.specs.LookLimits.{no_trail}
use Rattle.tree_spec.specs.Limits.{limit_number}
use Rattle.tree_spec.specs.declared.LimitName.TheVariants.{Modules}
use Rattle.trace_spec.specs.declared.TraceFault.{TraceFault}
use Rattle.trace_spec.specs.declared.TraceFault.TheVariants.{Unservable}
use Rattle.trace_spec.specs.Checks.{Gathered, page_opened, nothing_gathered, rules}
use Rattle.trace_spec.specs.Modules.{Config, shown, web_name, served_at, served_name, path_of}
use Rattle.trace_spec.specs.Questions.{answers}
use Rattle.trace_spec.specs.Traces.{result_of, traced}
use Rattle.trace_spec.specs.Walking.{the_page, Opened, followed, walked}

-- the trace by the name at which the page is served
abbrev traced_by : Sights → Config → Option (List ℕ) → Result Gathered TraceFault
traced_by sights config name =
    result_of (evaluated (answers sights) no_trail (and_ok
    (and_ok (answered (page_opened config nothing_gathered name)) (λ (opened : Opened Gathered). followed (rules config) opened.after the_page opened.specifiers))
    (λ after. walked (rules config) (suc (limit_number Modules)) after 0)))

-- a page that isn't served at its web name has no trace
pub unserved_is_refused : (sights : Sights) (config : Config) → served_at config the_page ≡ None → traced sights config ≡ Err (Unservable (shown config the_page) (web_name config the_page))
unserved_is_refused sights config lost = ap (traced_by sights config) lost

pub nameless_is_refused : (sights : Sights) (config : Config) → web_name config the_page ≡ None → traced sights config ≡ Err (Unservable (shown config the_page) None)
nameless_is_refused sights config nameless =
    ap (λ name. traced_by sights config (served_name config.base (path_of config the_page) name)) nameless
    ∙ ap (λ (name : Option (List ℕ)). Err (Unservable (shown config the_page) name)) nameless

pub traced_is_named : (sights : Sights) (config : Config) (all : Gathered) → web_name config the_page ≡ None → traced sights config ≡ Ok all → ⊥
traced_is_named sights config all nameless traces =
    let both : Ok all ≡ Err (Unservable (shown config the_page) None) = sym traces ∙ nameless_is_refused sights config nameless in
    absurd (cc)
