-- A generation over looks that are laid for it.
use Rattle.std.proofs.Common.{◌≡◌, ℕ, List, Some, Result, Ok, Err, IfSome, sym, ap, ◌∙◌, subst}
use Rattle.std.specs.FinMap.{get}
use Rattle.std.specs.Prelude.{OnOk}
use Rattle.tree_spec.specs.LookAskings.{Sights}
use Rattle.tree_spec.specs.LookLimits.{no_trail}
use Rattle.tree_spec.specs.States.{FolderState}
use Rattle.tree_spec.specs.Trees.{Tree}
use Rattle.trace_spec.specs.Laws.{IsLookedAt}
use Rattle.trace_spec.specs.Modules.{Config}
use Rattle.config_spec.specs.declared.Command.{Command}
use Rattle.config_spec.specs.declared.Command.TheVariants.{Refresh}
use Rattle.generator_spec.specs.Commands.{IsGenerating, Opens, Refuses, nothing, refresh}
use Rattle.package_lookup.specs.declared.known.Known.{Known}
use Rattle.package_lookup.specs.declared.over.Over.{Over}
use Rattle.package_lookup.specs.LaidTrees.{StandsBehind, IsLaid}
use Rattle.package_lookup.specs.Looked.{over_at, Sees}
use Rattle.package_lookup.proofs.Laying.{laid_is_seen}
use Rattle.request_trace.specs.Answering.{Freshness}
use Rattle.request_trace.specs.Tracing.{IsOfFootprint, StepsByFresh, TakesFreshSteps}
use Rattle.kept_trace.specs.declared.kept.Kept.{Kept}
use Rattle.generation.specs.Generating.{IfSeen, IsMapOfTree}
use Rattle.generation.specs.declared.generated.Generated.{Generated}
use Rattle.generation.specs.declared.stop.Stop.{Stop}
use Rattle.generation.specs.declared.stop.Stop.TheVariants.{Refused, ReadFault, Memory}
use Rattle.session_spec.specs.SessionStates.{config_with, IsGenerated}
use Rattle.edit_session.specs.LooksOn.{LooksOn}
use Rattle.edit_session.specs.SessionTrees.{counts_in}
use Rattle.edit_session.specs.Mapping.{GeneratesIf, IfKnown, IsKeptFor}
use Rattle.edit_session.specs.Shown.{Shows, TracedSo, PlansFor}
use Rattle.edit_session.specs.Trying.{IfLaid, TriesMap}
use Rattle.edit_session.proofs.LookedOn.{some_told, laid_back, stands_same}
use Rattle.edit_session.proofs.MapsAgain.{learns_if, looks_if}
use Rattle.edit_session.proofs.ShownTraces.{plans_as}

-- what is generated is the map of the tree, with its counts
pub generated_of : (tree : Tree) (config : Config) (found : Generated) → IsMapOfTree tree config found
    → IsGenerated tree config found.map.items (counts_in found)
generated_of tree config found is = record {
  generates = record {
    all = is.all;
    is_traced = is.is_traced;
    few = is.is_map.few;
    layout = is.is_map.layout;
    is_fewest = is.is_map.is_fewest;
    text = is.is_map.map;
    within = is.is_map.within;
  };
  counted = λ i. record {
    modules = is.is_map.modules i;
    requests = is.is_map.requests i;
    mappings = is.is_map.mappings i;
  };
}

module _ (right : Type 0) (before after : FolderState) (known under learnt later : Known) (config : Config) (over left : Over)
    (entries : List (List ℕ)) (laid_one : under.laid ≡ over) (kept_one : under.kept ≡ known.kept)
    (kept_two : later.kept ≡ learnt.kept) (laid_two : later.laid ≡ known.laid) (over_two : left ≡ learnt.laid) where
  sees_so : (tree seen : Tree) → StandsBehind tree known → IsLaid tree over seen → Sees tree under (get seen)
  sees_so tree seen behind laid =
      laid_is_seen tree seen under (stands_same tree known under kept_one behind)
      (subst (λ o. IsLaid tree o seen) (sym laid_one) laid)

  laid_so : (P : Tree → Type 0) → (right → IfSome before.holds (λ tree. IfSeen tree under P))
      → IfLaid right before known over P
  laid_so P is holds tree seen e behind laid =
      some_told (λ tree. IfSeen tree under P) before.holds tree e (is holds) seen (sees_so tree seen behind laid)

  footprint_so : (path : List ℕ) (tree : Tree) → before.holds ≡ Some tree
      → (right → IsOfFootprint (config_with config entries) before under path) → right → (seen : Tree)
      → StandsBehind tree known → IsLaid tree over seen → IsLookedAt (get seen) (config_with config entries) path
  footprint_so path tree e is holds seen behind laid =
      some_told
      (λ tree. (sights : Sights) → Sees tree under sights
      → IsLookedAt sights (config_with config entries) path)
      before.holds tree e (is holds) (get seen) (sees_so tree seen behind laid)

  pub keeps_so : (kept next : Kept)
      → (right → IfSome before.holds (λ tree. IfSeen tree under (IsKeptFor kept (config_with config entries) next)))
      → IfLaid right before known over (IsKeptFor kept (config_with config entries) next)
  keeps_so kept next is = laid_so (IsKeptFor kept (config_with config entries) next) is

  pub plans_laid : {A : Type 0} (now : Shows) (result : Result A Stop)
      → OnOk result (PlansFor (IfKnown right before under) (config_with config entries) now)
      → OnOk result (PlansFor (IfLaid right before known over) (config_with config entries) now)
  plans_laid now (Err stop) is = tt
  plans_laid now (Ok found) is =
      plans_as (IfKnown right before under) (IfLaid right before known over) (config_with config entries) now
      (λ l so. laid_so (λ seen. TracedSo seen (config_with config entries) l) so) is

  pub fresh_so : (is_fresh : Freshness) (from to : ℕ)
      → (right → TakesFreshSteps is_fresh (config_with config entries) before under from to)
      → IfLaid right before known over (λ seen. StepsByFresh is_fresh (get seen) (config_with config entries) from to)
  fresh_so is_fresh from to is holds tree seen e behind laid =
      some_told
      (λ tree. (sights : Sights) → Sees tree under sights
      → StepsByFresh is_fresh sights (config_with config entries) from to)
      before.holds tree e (is holds) (get seen) (sees_so tree seen behind laid)

  abbrev MadeSo : Result Generated Stop → Type 0
  MadeSo result = GeneratesIf right (config_with config entries) before under result after learnt

  abbrev Looked : Tree → List ℕ → Type 0
  Looked tree path =
      right → (seen : Tree) → StandsBehind tree known → IsLaid tree over seen
      → IsLookedAt (get seen) (config_with config entries) path

  abbrev LooksSo : Result Generated Stop → Type 0
  LooksSo result = LooksOn before known after later (result ≡ Err ReadFault) (result ≡ Err Memory) Looked

  looks_so : (result : Result Generated Stop) → MadeSo result → LooksSo result
  looks_so result is =
      laid_back before after known under learnt later no_trail no_trail (result ≡ Err Memory) (result ≡ Err ReadFault)
      (result ≡ Err Memory) (λ path. right → IsOfFootprint (config_with config entries) before under path) Looked kept_one kept_two laid_two
      (λ e. e) footprint_so (learns_if right (config_with config entries) before after under learnt result is)
      (looks_if right (config_with config entries) before after under learnt result is)

  over_so : (result : Result Generated Stop) → MadeSo result → (path : List ℕ) → over_at left path ≡ over_at over path
  over_so result is path =
      ap (λ o. over_at o path) over_two ∙ (is.always.learns.known.laid path ∙ ap (λ o. over_at o path) laid_one)

  pub tries : (result : Result Generated Stop) → MadeSo result
      → TriesMap right before known config over entries result after later left
  tries (Ok found) is = record {
    looks = looks_so (Ok found) is;
    same_over = over_so (Ok found) is;
    generated = λ holds tree seen e behind laid.
        generated_of seen (config_with config entries) found
        (laid_so (λ seen. IsMapOfTree seen (config_with config entries) found) (λ holds. (is.is holds).generated) holds tree
        seen e behind laid);
    refused = tt;
    kind = tt;
  }
  tries (Err (Refused why)) is = record {
    looks = looks_so (Err (Refused why)) is;
    same_over = over_so (Err (Refused why)) is;
    generated = tt;
    refused = λ holds tree seen e behind laid.
        laid_so
        (λ seen. (command : Command) → IsGenerating command → Opens seen (config_with config entries) command
        → Refuses seen (config_with config entries) command why)
        (λ holds. (is.is holds).refused) holds tree seen e behind laid Refresh tt (nothing Refresh refresh);
    kind = is.always.kind Refresh tt;
  }
  tries (Err ReadFault) is = record {
    looks = looks_so (Err ReadFault) is;
    same_over = over_so (Err ReadFault) is;
    generated = tt;
    refused = tt;
    kind = tt;
  }
  tries (Err Memory) is = record {
    looks = looks_so (Err Memory) is;
    same_over = over_so (Err Memory) is;
    generated = tt;
    refused = tt;
    kind = tt;
  }
