-- Whatever the graph is, what is said by it has the shape of what can be said of a chain.
use Rattle.std.proofs.Common.{◌≡◌, ◌++◌, ℕ, zero, suc, true, List, [], ◌∷◌, length, Option, Some, None, Contains, refl, sym, ap, ◌∙◌, subst, arith, true≢false}
use Rattle.std.specs.Prelude.{slice_get, unwrap_or}
use Rattle.std.proofs.lemmas.Slice.Eq.{bytes_eq-Decides}
use Rattle.layout_spec.proofs.Contained.{contains_at}
use Rattle.slot_arena.specs.Slots.{Place, value_at}
use Rattle.slot_arena.specs.declared.slot.Slot.{Slot}
use Rattle.module_graph.specs.declared.module.Module as vertex
use Rattle.chain_spec.specs.Chains.{Asker, by_page, by_module, end_of, then_on}
use Rattle.chain_why.specs.Answers.{GoesBy, IsAnswer, numbers_of}
use Rattle.chain_why.specs.Shown.{stands_at, targets_in, is_at}
use Rattle.trace_graph.specs.Links.{Links, module_in, source_in}
use Rattle.trace_spec.specs.Modules.{Config}
use Rattle.generator_spec.specs.Ending.{asks_lines, BeginsAt, StopsAt, TellsChain, TellsChain as tells}
use Rattle.generator_spec.specs.Explaining.{request_line}
use Rattle.generator_spec.specs.Lines.{from_page_line}
use Rattle.generator_core.specs.Explaining.{step_lines, GraphSays, GraphSays as graph_says}

-- where a number has an item, it has one in a list that is as long
also_there : {A B : Type 0} (ones : List A) (others : List B) (number : ℕ) (one : A) → length ones ≡ length others → slice_get ones number ≡ Some one → (other : B) × (slice_get others number ≡ Some other)
also_there [] others number one count e = absurd (cc)
also_there (x ∷ ones) [] number one count e = absurd (omega (arith, count))
also_there (x ∷ ones) (y ∷ others) zero one count e = (y, refl)
also_there (x ∷ ones) (y ∷ others) (suc number) one count e = also_there ones others number one (omega (arith, count)) e

-- a module at the path is named by it
named_by : (path : List ℕ) (found : Option vertex.Module) → stands_at path found ≡ true → (suffix : List ℕ) × ((module_in found).path ++ (module_in found).suffix ≡ path ++ suffix)
named_by path None e = absurd (true≢false (sym e))
named_by path (Some v) e = (v.suffix, ap (λ p. p ++ v.suffix) ((bytes_eq-Decides v.path path).0 e))

module _ (links : Links) (config : Config) (path : List ℕ) where
  abbrev graph : List (Place vertex.Module)
  graph = links.graph

  -- the steps as they are told
  abbrev told : List (List ℕ) → List (ℕ × Slot) → List (List ℕ × List ℕ)
  told specifiers [] = []
  told specifiers (step ∷ more) =
      (unwrap_or (slice_get specifiers step.0) [], (module_in (value_at graph step.1)).path ++ (module_in (value_at graph step.1)).suffix)
      ∷ told (source_in (value_at graph step.1)).specifiers more

  told_lines : (specifiers : List (List ℕ)) (steps : List (ℕ × Slot)) → step_lines graph specifiers steps ≡ asks_lines (told specifiers steps)
  told_lines specifiers [] = refl
  told_lines specifiers (step ∷ more) =
      ap (λ rest. request_line specifiers step.0 (module_in (value_at graph step.1)) ∷ rest)
      (told_lines (source_in (value_at graph step.1)).specifiers more)

  -- the page isn't what is looked for, so there is a request, and it is one of the page
  begins : length links.roots ≡ length config.entries → (steps : List (ℕ × Slot)) → IsAnswer graph links.roots path steps → BeginsAt config.entries (told config.entries steps)
  begins roots [] answer = absurd (page_is answer.shortest.is_chain.last answer.shortest.is_chain.leads answer.shortest.is_chain.wanted)
    where
      page_is : (last : Asker Slot) → Some by_page ≡ Some last → is_at graph path last ≡ true → ⊥
      page_is by_page e wanted = true≢false (sym wanted)
      page_is (by_module s) e wanted = absurd (cc)
  begins roots (step ∷ more) answer =
      let there = also_there links.roots config.entries step.0 step.1 roots answer.slots.0 in
      subst (Contains config.entries) (sym (ap (λ found. unwrap_or found []) there.1))
      (contains_at config.entries step.0 there.0 there.1)

  ends_there :
      (from : Asker Slot) (specifiers : List (List ℕ)) (step : ℕ × Slot) (more : List (ℕ × Slot))
      → GoesBy (targets_in graph links.roots) from (step ∷ more) → (last : Asker Slot)
      → end_of (targets_in graph links.roots) from (numbers_of (step ∷ more)) ≡ Some last
      → is_at graph path last ≡ true → StopsAt path (told specifiers (step ∷ more))
  ends_there from specifiers step [] goes last leads wanted =
      let one : Some (by_module step.1) ≡ Some last =
      sym (ap (λ found. then_on found (λ m. end_of (targets_in graph links.roots) (by_module m) [])) goes.0) ∙ leads in
      let same : by_module step.1 ≡ last = cc in
      named_by path (value_at graph step.1) (ap (is_at graph path) same ∙ wanted)
  ends_there from specifiers step (next ∷ more) goes last leads wanted =
      ends_there (by_module step.1) (source_in (value_at graph step.1)).specifiers next more goes.1 last
      (sym (ap (λ found. then_on found (λ m. end_of (targets_in graph links.roots) (by_module m) (numbers_of (next ∷ more)))) goes.0) ∙ leads)
      wanted

  stops : (steps : List (ℕ × Slot)) → IsAnswer graph links.roots path steps → BeginsAt config.entries (told config.entries steps) → StopsAt path (told config.entries steps)
  stops [] answer some = absurd some
  stops (step ∷ more) answer some =
      ends_there by_page config.entries step more answer.slots answer.shortest.is_chain.last answer.shortest.is_chain.leads answer.shortest.is_chain.wanted

  pub tells_chain : length links.roots ≡ length config.entries → (status : ℕ) (lines : List (List ℕ)) → GraphSays links config path status lines → TellsChain config path status lines
  tells_chain roots status lines (graph_says.own_page same s l) = tells.own_page same s l
  tells_chain roots status lines (graph_says.reached steps other answer s l) =
      let first = begins roots steps answer in
      tells.reached (told config.entries steps) other first (stops steps answer first) s
      (l ∙ ap (λ more. from_page_line config.page ∷ more) (told_lines config.entries steps))
  tells_chain roots status lines (graph_says.not_reached other none s l) = tells.not_reached other s l
