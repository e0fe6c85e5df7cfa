-- Whatever the headline reaches by Node's answers the trace reaches too; and what is known there of names.
use Rattle.std.proofs.Common.{refl, sym, ap, ◌∙◌, subst}
use Rattle.std.proofs.lemmas.Option.{same_Some}
use Rattle.std.specs.FinMap.{get}
use Rattle.std.specs.Prelude.{◌≡◌, ℕ, suc, List, [], Option, Some, None, Ok, unwrap_or, Contains}
use Rattle.asking_spec.proofs.AskingLemmas.{ok_parts}
use Rattle.tree_spec.specs.Limits.{limit_number}
use Rattle.tree_spec.specs.Trees.{Tree}
use Rattle.tree_spec.specs.declared.LimitName.TheVariants.{Modules}
use Rattle.url_spec.proofs.KeptUrls.{kept_urls}
use Rattle.node_spec.specs.EsmResolve.{Resolves}
use Rattle.layout_spec.proofs.Contained.{contains_given, given_from}
use Rattle.layout_spec.specs.declared.Need.{Need}
use Rattle.trace_spec.proofs.Steps.{traced_outcome, served_parts, file_name_parts}
use Rattle.trace_spec.proofs.Traces.{requests_pass, needs_are_requests}
use Rattle.trace_spec.specs.Checks.{Gathered, page_opened, opens, nothing_gathered, rules}
use Rattle.trace_spec.specs.Laws.{Passes}
use Rattle.trace_spec.specs.Levels.{page as page_is_reached, requested as is_requested}
use Rattle.trace_spec.specs.Modules.{Config, Module, IsServable, path_of, web_name, served_at}
use Rattle.trace_spec.specs.Questions.{always}
use Rattle.trace_spec.specs.Traces.{traced, requests, specifiers, if_ok, leads, ReachedByPage as IsReached}
use Rattle.trace_spec.specs.Walking.{Referrer, the_page, a_module, Opened, followed, visited, walked}
use Rattle.generator_spec.specs.Serves.{Reachable, page, requested}
use Rattle.soundness.proofs.Asking.{is_asked}
use Rattle.soundness.specs.Soundness.{NamesUrls}

-- a web name
pub record IsNamed (config : Config) (referrer : Referrer Module) : Type 0 where
  pub name : List ℕ
  pub named : web_name config referrer ≡ Some name

module _ (tree : Tree) (config : Config) (all : Gathered) (is_traced : traced (get tree) config ≡ Ok all) where
  -- what a referrer asks for is a request that passes
  passes_at : (referrer : Referrer Module) (specifiers : List (List ℕ)) (specifier : List ℕ) → IsReached (get tree) config referrer → requests (get tree) config referrer ≡ Some specifiers → Contains specifiers specifier → Passes (get tree) config all referrer specifier
  passes_at referrer specifiers specifier reached asks asked =
      let pass = requests_pass (get tree) config all is_traced referrer reached in
      pass.pass specifier (subst (λ some. Contains some specifier) (same_Some specifiers pass.specifiers (sym asks ∙ pass.asks)) asked)

  -- Node's answer is the one that the trace asks for
  pub node_leads : (referrer : Referrer Module) (specifier : List ℕ) (target : Module) → Resolves tree config.conditions (path_of config referrer) specifier (Ok target) → leads (get tree) config referrer specifier ≡ Some target
  node_leads referrer specifier target answers = ap if_ok (sym answers)

  pub reached : (referrer : Referrer Module) → Reachable tree config referrer → IsReached (get tree) config referrer
  reached the_page page = page_is_reached
  reached (a_module _) (requested referrer asks specifier target before is_asking asked answers) =
      let earlier = reached referrer before in
      let at : Contains (specifiers (get tree) config referrer) specifier = subst (λ o. Contains (unwrap_or o []) specifier) (sym is_asking) asked in
      is_requested earlier (contains_given (leads (get tree) config referrer) specifier target (specifiers (get tree) config referrer) at (node_leads referrer specifier target answers))

  -- and whatever the trace reaches is reached by Node's answers
  pub reachable : (referrer : Referrer Module) → IsReached (get tree) config referrer → Reachable tree config referrer
  reachable the_page _ = page
  reachable (a_module target) (is_requested {referrer} before c) =
      let given = given_from (leads (get tree) config referrer) target (specifiers (get tree) config referrer) c in
      let pass = requests_pass (get tree) config all is_traced referrer before in
      let at : Contains pass.specifiers given.item = subst (λ o. Contains (unwrap_or o []) given.item) pass.asks given.is_item in
      let passes = pass.pass given.item at in
      let same = same_Some passes.target target (sym (ap if_ok passes.answers) ∙ given.gives) in
      requested referrer pass.specifiers given.item target (reachable referrer before) pass.asks at
      (subst (λ m. Resolves tree config.conditions (path_of config referrer) given.item (Ok m)) same (sym passes.answers))

  -- ---- names

  page_named : IsNamed config the_page
  page_named =
      let walk = ok_parts (always (get tree)) (visited (rules config) nothing_gathered the_page) (λ after. walked (rules config) (suc (limit_number Modules)) after 0) all (traced_outcome (get tree) config all is_traced) in
      let visit = ok_parts (always (get tree)) (opens config nothing_gathered the_page) (λ (opened : Opened Gathered). followed (rules config) opened.after the_page opened.specifiers) walk.value walk.first_is in
      by (served_at config the_page) visit.value refl visit.first_is
    where
      by : (found : Option (List ℕ)) (opened : Opened Gathered) → served_at config the_page ≡ found → page_opened config nothing_gathered found ≡ Ok opened → IsNamed config the_page
      by None opened is e = absurd (cc)
      by (Some name) opened is e = let named = (served_parts config.base config.page (web_name config the_page) name is).0 in record { name = name; named = named }

  target_named : (referrer : Referrer Module) (specifier : List ℕ) (target : Module) → Passes (get tree) config all referrer specifier → leads (get tree) config referrer specifier ≡ Some target → IsNamed config (a_module target)
  target_named referrer specifier target passes led =
      let same = same_Some passes.target target (sym (ap if_ok passes.answers) ∙ led) in
      record { name = passes.need.target; named = subst (λ m. web_name config (a_module m) ≡ Some passes.need.target) same passes.servable.name }

  pub is_named : (referrer : Referrer Module) → IsReached (get tree) config referrer → IsNamed config referrer
  is_named the_page _ = page_named
  is_named (a_module target) (is_requested {referrer} before c) =
      let given = given_from (leads (get tree) config referrer) target (specifiers (get tree) config referrer) c in
      let pass = requests_pass (get tree) config all is_traced referrer before in
      let at : Contains pass.specifiers given.item = subst (λ o. Contains (unwrap_or o []) given.item) pass.asks given.is_item in
      target_named referrer given.item target (pass.pass given.item at) given.gives

  -- a module that is reached is served at its web name
  pub is_servable : (m : Module) → IsReached (get tree) config (a_module m) → (url : List ℕ) × IsServable config m.path m.suffix url
  is_servable m (is_requested {referrer} before c) =
      let given = given_from (leads (get tree) config referrer) m (specifiers (get tree) config referrer) c in
      let pass = requests_pass (get tree) config all is_traced referrer before in
      let at : Contains pass.specifiers given.item = subst (λ o. Contains (unwrap_or o []) given.item) pass.asks given.is_item in
      let passes = pass.pass given.item at in
      let same = same_Some passes.target m (sym (ap if_ok passes.answers) ∙ given.gives) in
      (passes.need.target, subst (λ (n : Module). IsServable config n.path n.suffix passes.need.target) same passes.servable)

  pub needs_name : (need : Need) → Contains all.needs need → NamesUrls need
  needs_name need c =
      let is = (needs_are_requests (get tree) config all is_traced).each need c in
      let file = file_name_parts config is.target need.target is.is_name in
      record {
        referrer = kept_urls.2 _ _ _ _ is.named;
        asked = is_asked need.referrer is.specifier need.asked is.utf8 is.asks;
        target = kept_urls.2 _ _ _ _ file.servable.name;
      }
