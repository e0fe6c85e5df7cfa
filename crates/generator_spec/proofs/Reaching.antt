-- Whatever is reached by Node's answers the trace reaches too, and the other way round.
use Rattle.std.proofs.Common.{sym, ap, ◌∙◌, subst}
use Rattle.std.proofs.lemmas.Option.{same_Some}
use Rattle.std.specs.FinMap.{get}
use Rattle.std.specs.Prelude.{◌≡◌, ℕ, List, [], Some, Ok, unwrap_or, Contains}
use Rattle.tree_spec.specs.Trees.{Tree}
use Rattle.node_spec.specs.EsmResolve.{Resolves}
use Rattle.layout_spec.proofs.Contained.{contains_given, given_from}
use Rattle.trace_spec.proofs.Traces.{requests_pass}
use Rattle.trace_spec.specs.Checks.{Gathered}
use Rattle.trace_spec.specs.Levels.{page as page_is_reached, requested as is_requested}
use Rattle.trace_spec.specs.Modules.{Config, Module, path_of}
use Rattle.trace_spec.specs.Traces.{traced, specifiers, if_ok, leads, ReachedByPage as IsReached}
use Rattle.trace_spec.specs.Walking.{Referrer, the_page, a_module}
use Rattle.generator_spec.specs.Serves.{Reachable, page, requested}

module _ (tree : Tree) (config : Config) (all : Gathered) (is_traced : traced (get tree) config ≡ Ok all) where
  -- Node's answer is the one that the trace asks for
  pub node_leads : (referrer : Referrer Module) (specifier : List ℕ) (target : Module) → Resolves tree config.conditions (path_of config referrer) specifier (Ok target) → leads (get tree) config referrer specifier ≡ Some target
  node_leads referrer specifier target answers = ap if_ok (sym answers)

  pub reached : (referrer : Referrer Module) → Reachable tree config referrer → IsReached (get tree) config referrer
  reached the_page page = page_is_reached
  reached (a_module _) (requested referrer asks specifier target before is_asking asked answers) =
      let earlier = reached referrer before in
      let at : Contains (specifiers (get tree) config referrer) specifier = subst (λ o. Contains (unwrap_or o []) specifier) (sym is_asking) asked in
      is_requested earlier (contains_given (leads (get tree) config referrer) specifier target (specifiers (get tree) config referrer) at (node_leads referrer specifier target answers))

  -- and whatever the trace reaches is reached by Node's answers
  pub reachable : (referrer : Referrer Module) → IsReached (get tree) config referrer → Reachable tree config referrer
  reachable the_page _ = page
  reachable (a_module target) (is_requested {referrer} before c) =
      let given = given_from (leads (get tree) config referrer) target (specifiers (get tree) config referrer) c in
      let pass = requests_pass (get tree) config all is_traced referrer before in
      let at : Contains pass.specifiers given.item = subst (λ o. Contains (unwrap_or o []) given.item) pass.asks given.is_item in
      let passes = pass.pass given.item at in
      let same = same_Some passes.target target (sym (ap if_ok passes.answers) ∙ given.gives) in
      requested referrer pass.specifiers given.item target (reachable referrer before) pass.asks at
      (subst (λ m. Resolves tree config.conditions (path_of config referrer) given.item (Ok m)) same (sym passes.answers))
