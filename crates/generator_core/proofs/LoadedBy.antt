-- What the graph of a trace says of a path is what its tree says.
use Rattle.std.proofs.Common.{◌≡◌, ◌≢◌, ◌++◌, ℕ, zero, suc, List, [], ◌∷◌, length, map, Option, Some, None, Ok, Contains, refl, sym, ap, ◌∙◌, subst, inl, inr, arith}
use Rattle.std.specs.List.{filter_map, cons_option}
use Rattle.std.specs.Prelude.{⊤, bytes_eq, flat_map, option_map, slice_get, unwrap_or}
use Rattle.std.proofs.lemmas.List.{map-append, length-map}
use Rattle.std.proofs.lemmas.List.Elements.{All-nil, All-cons, All-contains}
use Rattle.std.proofs.lemmas.List.Folds.{flat_map-map}
use Rattle.std.proofs.lemmas.Slice.Eq.{bytes_eq-Decides}
use Rattle.tree_spec.proofs.ByteLists.{other_text}
use Rattle.tree_spec.proofs.Contained.{contains_here, contains_there, contains_cases, contains_none}
use Rattle.layout_spec.proofs.Contained.{contains_at, contains_flat}
use Rattle.tree_spec.specs.LookAskings.{Sights}
use Rattle.chain_spec.proofs.ChainLaws.{page_itself}
use Rattle.chain_spec.specs.Chains.{Asker, by_page, by_module}
use Rattle.chain_why.specs.Answers.{GoesBy, IsAnswer, numbers_of}
use Rattle.chain_why.specs.Shown.{slot_of, stands_at, targets_of as slots_asked, targets_in as slots_in, is_at as slot_at}
use Rattle.slot_arena.specs.Slots.{Place, value_at}
use Rattle.slot_arena.specs.declared.slot.Slot.{Slot}
use Rattle.module_graph.specs.declared.module.Module as vertex
use Rattle.module_graph.specs.Graphs.{AreModules}
use Rattle.trace_graph.proofs.Alone.{live_listed, stands}
use Rattle.trace_graph.proofs.Showing.{as_many_specifiers}
use Rattle.trace_graph.specs.Links.{Links, IsLinked, IsLive, IsSet, module_in, source_in, targets_in, all_targets, led_to}
use Rattle.trace_spec.proofs.Traces.{goes_in_order}
use Rattle.trace_spec.specs.Laws.{InOrder}
use Rattle.trace_spec.specs.Modules.{Config, Module}
use Rattle.trace_spec.specs.Questions.{Source}
use Rattle.trace_spec.specs.Traces.{leads, source, specifiers, targets, traced}
use Rattle.trace_spec.specs.Walking.{Referrer, the_page, a_module}
use Rattle.request_trace.specs.Showing.{Traced, Shows}
use Rattle.generator_spec.specs.Explaining.{asked_by, chain_lines, is_at, lines_by, referrer_of, request_line, SaysWhy, SaysWhy as says_why}
use Rattle.generator_spec.specs.Lines.{from_page_line}
use Rattle.generator_core.specs.Explaining.{AreLive, step_lines, GraphSays, GraphSays as graph_says}
use Rattle.generator_core.proofs.MappedChains.{AllOf, AreMapped, lift, same_chains, same_shortest, target_at}

-- ---- lists

-- two lists of as long fronts are the same in their fronts and behind them
record SameParts {A : Type 0} (front other back rest : List A) : Type 0 where
  fronts : front ≡ other
  backs : back ≡ rest

same_parts : {A : Type 0} (front other back rest : List A) → length front ≡ length other → front ++ back ≡ other ++ rest → SameParts front other back rest
same_parts [] [] back rest count e = record { fronts = refl; backs = e }
same_parts [] (y ∷ other) back rest count e = absurd (omega (arith, count))
same_parts (x ∷ front) [] back rest count e = absurd (omega (arith, count))
same_parts (x ∷ front) (y ∷ other) back rest count e =
    let first : x ≡ y = cc in
    let more : front ++ back ≡ other ++ rest = cc in
    let same = same_parts front other back rest (omega (arith, count)) more in
    record { fronts = λ i. first i ∷ same.fronts i; backs = same.backs }

-- lists of parts that are as long are the same in each part
each_part : {X A : Type 0} (f h : X → List A) (xs : List X) → ((x : X) → Contains xs x → length (f x) ≡ length (h x)) → flat_map f xs ≡ flat_map h xs → (x : X) → Contains xs x → f x ≡ h x
each_part f h [] counts e x held = absurd (contains_none x held)
each_part f h (first ∷ xs) counts e x held =
    let same = same_parts (f first) (h first) (flat_map f xs) (flat_map h xs) (counts first (contains_here first xs)) e in
    elim (contains_cases x first xs held) [
      | inl is ↦ subst (λ y. f y ≡ h y) is same.fronts
      | inr later ↦ each_part f h xs (λ y there. counts y (contains_there y first xs there)) same.backs x later
    ]

-- where each item leads somewhere, nothing is left out
nothing_left_out : {X A : Type 0} (k : X → Option A) (xs : List X) (ys : List A) → map Some ys ≡ map k xs → filter_map k xs ≡ ys
nothing_left_out k [] [] e = refl
nothing_left_out k [] (y ∷ ys) e = absurd (cc)
nothing_left_out k (x ∷ xs) [] e = absurd (cc)
nothing_left_out k (x ∷ xs) (y ∷ ys) e =
    let first : k x ≡ Some y = cc in
    let more : map Some ys ≡ map k xs = cc in
    λ i. cons_option (first i) (nothing_left_out k xs ys more i)

map_flat : {X A B : Type 0} (f : A → B) (h : X → List A) (xs : List X) → map f (flat_map h xs) ≡ flat_map (λ x. map f (h x)) xs
map_flat f h [] = refl
map_flat f h (x ∷ xs) = map-append f (h x) (flat_map h xs) ∙ ap (λ ys. map f (h x) ++ ys) (map_flat f h xs)

map_map : {X Y Z : Type 0} (f : Y → Z) (h : X → Y) (xs : List X) → map f (map h xs) ≡ map (λ x. f (h x)) xs
map_map f h [] = refl
map_map f h (x ∷ xs) = ap (λ ys. f (h x) ∷ ys) (map_map f h xs)

-- two maps of a list that are the same are the same at each item
map_at : {X A : Type 0} (f h : X → A) (xs : List X) → map f xs ≡ map h xs → (x : X) → Contains xs x → f x ≡ h x
map_at f h [] e x held = absurd (contains_none x held)
map_at f h (first ∷ xs) e x held =
    let here : f first ≡ h first = cc in
    let more : map f xs ≡ map h xs = cc in
    elim (contains_cases x first xs held) [
      | inl is ↦ subst (λ y. f y ≡ h y) is here
      | inr later ↦ map_at f h xs more x later
    ]

-- ---- what a graph keeps

module _ (links : Links) (linked : IsLinked links) where
  set_here : (s : Slot) → IsLive links.graph s → (target : Option Slot) → Contains (targets_in (value_at links.graph s)) target → IsSet links.graph target
  set_here s alive target there =
      All-contains (IsSet links.graph) (all_targets links) target linked.targets
      (contains_flat (λ t. targets_in (value_at links.graph t)) s target links.slots (live_listed links linked s alive) there)

  -- each request of a module has its target
  pub all_set : (s : Slot) (v : vertex.Module) → value_at links.graph s ≡ Some v → (number : ℕ) → slice_get v.targets number ≡ Some None → ⊥
  all_set s v e number none =
      set_here s (v, e) None (contains_at (targets_in (value_at links.graph s)) number None (ap (λ found. slice_get (targets_in found) number) e ∙ none))

  asked_live : (targets : List (Option Slot)) → ((target : Option Slot) → Contains targets target → IsSet links.graph target) → (number : ℕ) (s : Slot) → slice_get (map slot_of targets) number ≡ Some s → IsLive links.graph s
  asked_live [] each number s e = absurd (cc)
  asked_live (None ∷ targets) each number s e = absurd (each None (contains_here None targets))
  asked_live (Some t ∷ targets) each zero s e = let same : t ≡ s = cc in subst (IsLive links.graph) same (each (Some t) (contains_here (Some t) targets))
  asked_live (Some t ∷ targets) each (suc number) s e = asked_live targets (λ u there. each u (contains_there u (Some t) targets there)) number s e

  pub asked_slots : (s : Slot) → slots_asked (value_at links.graph s) ≡ map slot_of (targets_in (value_at links.graph s))
  asked_slots s = by (value_at links.graph s)
    where
      by : (found : Option vertex.Module) → slots_asked found ≡ map slot_of (targets_in found)
      by None = refl
      by (Some v) = refl

  abbrev IsAlive : Asker Slot → Type 0
  IsAlive by_page = ⊤
  IsAlive (by_module s) = IsLive links.graph s

  -- what is asked for is live
  next_live : (from : Asker Slot) → IsAlive from → (number : ℕ) (s : Slot) → slice_get (slots_in links.graph links.roots from) number ≡ Some s → IsLive links.graph s
  next_live by_page alive number s e = All-contains (IsLive links.graph) links.roots s linked.roots (contains_at links.roots number s e)
  next_live (by_module t) alive number s e =
      asked_live (targets_in (value_at links.graph t)) (set_here t alive) number s (ap (λ found. slice_get found number) (sym (asked_slots t)) ∙ e)

  steps_from : (from : Asker Slot) → IsAlive from → (steps : List (ℕ × Slot)) → GoesBy (slots_in links.graph links.roots) from steps → AreLive links.graph steps
  steps_from from alive [] goes = All-nil (λ (step : ℕ × Slot). IsLive links.graph step.1)
  steps_from from alive (step ∷ more) goes =
      let here = next_live from alive step.0 step.1 goes.0 in
      All-cons (λ (step : ℕ × Slot). IsLive links.graph step.1) step more here (steps_from (by_module step.1) here more goes.1)

  pub steps_live : (path : List ℕ) (steps : List (ℕ × Slot)) → IsAnswer links.graph links.roots path steps → AreLive links.graph steps
  steps_live path steps is = steps_from by_page tt steps is.slots

-- ---- the graph

module _ (sights : Sights) (config : Config) (trace : Traced) (traces : traced sights config ≡ Ok trace.gathered) (shows : Shows trace) (linked : IsLinked trace.links) (modules : AreModules trace.links.graph) (roots : length trace.links.roots ≡ length config.entries) where
  abbrev graph : List (Place vertex.Module)
  graph = trace.links.graph

  abbrev slots : List Slot
  slots = trace.links.slots

  -- the module, its source, and where its requests lead
  abbrev named : Slot → Module
  named s = module_in (value_at graph s)

  abbrev sourced : Slot → Source
  sourced s = source_in (value_at graph s)

  abbrev set : Slot → List (Option Slot)
  set s = targets_in (value_at graph s)

  abbrev led_from : Referrer Module → List (Option Module)
  led_from referrer = map (leads sights config referrer) (specifiers sights config referrer)

  order : InOrder sights config trace.gathered
  order = goes_in_order sights config trace.gathered traces

  -- ---- sources

  source_at : (s : Slot) → Contains slots s → source sights (named s) ≡ Some (sourced s)
  source_at s held =
      map_at (λ t. source sights (named t)) (λ t. Some (sourced t)) slots
      (sym (map_map (source sights) named slots)
      ∙ (ap (map (source sights)) shows.modules_are
      ∙ (sym order.sources ∙ (ap (map Some) (sym shows.sources_are) ∙ map_map Some sourced slots)))) s held

  specifiers_at : (s : Slot) → Contains slots s → specifiers sights config (a_module (named s)) ≡ (sourced s).specifiers
  specifiers_at s held = ap (λ found. unwrap_or (option_map (λ (own : Source). own.specifiers) found) []) (source_at s held)

  -- ---- where requests lead

  led : map Some (map (led_to graph) (map Some trace.links.roots)) ++ map Some (map (led_to graph) (flat_map set slots))
      ≡ led_from the_page ++ flat_map (λ s. led_from (a_module (named s))) slots
  led =
      sym (map-append Some (map (led_to graph) (map Some trace.links.roots)) (map (led_to graph) (flat_map set slots)))
      ∙ (ap (map Some) (sym (map-append (led_to graph) (map Some trace.links.roots) (flat_map set slots)))
      ∙ (ap (map Some) shows.targets_are
      ∙ (order.targets
      ∙ ap (λ back. led_from the_page ++ back)
      (ap (λ ms. flat_map led_from (map a_module ms)) (sym shows.modules_are)
      ∙ (ap (flat_map led_from) (map_map a_module named slots) ∙ flat_map-map led_from (λ s. a_module (named s)) slots)))))

  parts : SameParts (map Some (map (led_to graph) (map Some trace.links.roots))) (led_from the_page) (map Some (map (led_to graph) (flat_map set slots))) (flat_map (λ s. led_from (a_module (named s))) slots)
  parts =
      let count : length (map Some (map (led_to graph) (map Some trace.links.roots))) ≡ length trace.links.roots =
      length-map (map (led_to graph) (map Some trace.links.roots)) Some ∙ (length-map (map Some trace.links.roots) (led_to graph) ∙ length-map trace.links.roots Some) in
      let too : length (led_from the_page) ≡ length config.entries = length-map config.entries (leads sights config the_page) in
      same_parts _ _ _ _ (count ∙ (roots ∙ sym too)) led

  page_leads : map named trace.links.roots ≡ targets sights config the_page
  page_leads =
      sym (nothing_left_out (leads sights config the_page) (specifiers sights config the_page) (map named trace.links.roots)
      (ap (map Some) (sym (map_map (led_to graph) Some trace.links.roots)) ∙ parts.fronts))

  -- a module has as many targets as requests
  as_many : (s : Slot) → Contains slots s → length (map Some (map (led_to graph) (set s))) ≡ length (led_from (a_module (named s)))
  as_many s held =
      length-map (map (led_to graph) (set s)) Some
      ∙ (length-map (set s) (led_to graph)
      ∙ (counted (value_at graph s) refl
      ∙ (ap length (sym (specifiers_at s held)) ∙ sym (length-map (specifiers sights config (a_module (named s))) (leads sights config (a_module (named s)))))))
    where
      counted : (found : Option vertex.Module) → value_at graph s ≡ found → length (targets_in found) ≡ length (source_in found).specifiers
      counted None e = refl
      counted (Some v) e = (modules s.index v (stands graph s v e).value).one_each ∙ as_many_specifiers v

  module_leads : (s : Slot) → Contains slots s → map (led_to graph) (set s) ≡ targets sights config (a_module (named s))
  module_leads s held =
      sym (nothing_left_out (leads sights config (a_module (named s))) (specifiers sights config (a_module (named s))) (map (led_to graph) (set s))
      (each_part (λ t. map Some (map (led_to graph) (set t))) (λ t. led_from (a_module (named t))) slots as_many
      (sym (map_flat Some (λ t. map (led_to graph) (set t)) slots) ∙ (ap (map Some) (sym (map_flat (led_to graph) set slots)) ∙ parts.backs)) s held))

  asked_named : (targets : List (Option Slot)) → ((target : Option Slot) → Contains targets target → IsSet graph target) → map named (map slot_of targets) ≡ map (led_to graph) targets
  asked_named [] each = refl
  asked_named (None ∷ targets) each = absurd (each None (contains_here None targets))
  asked_named (Some t ∷ targets) each = ap (λ ms. named t ∷ ms) (asked_named targets (λ u there. each u (contains_there u (Some t) targets there)))

  -- ---- the two graphs

  abbrev OfTrace : Slot → Type 0
  OfTrace s = Contains slots s

  alive_at : (s : Slot) → Contains slots s → IsLive graph s
  alive_at s held = All-contains (IsLive graph) slots s linked.slots held

  commute : (a : Asker Slot) → AllOf named OfTrace a → map named (slots_in graph trace.links.roots a) ≡ asked_by sights config (lift named a)
  commute by_page good = page_leads
  commute (by_module s) good =
      ap (map named) (asked_slots trace.links linked s)
      ∙ (asked_named (set s) (set_here trace.links linked s (alive_at s good)) ∙ module_leads s good)

  alive_of : (a : Asker Slot) → AllOf named OfTrace a → IsAlive trace.links linked a
  alive_of by_page good = tt
  alive_of (by_module s) good = alive_at s good

  stay : (a : Asker Slot) (number : ℕ) (s : Slot) → AllOf named OfTrace a → slice_get (slots_in graph trace.links.roots a) number ≡ Some s → OfTrace s
  stay a number s good e = live_listed trace.links linked s (next_live trace.links linked a (alive_of a good) number s e)

  module _ (path : List ℕ) where
    wanted : path ≢ config.page → (a : Asker Slot) → AllOf named OfTrace a → slot_at graph path a ≡ is_at config path (lift named a)
    wanted other by_page good = sym (other_text config.page path (λ same. other (sym same)))
    wanted other (by_module s) good = by (value_at graph s) (alive_at s good)
      where
        by : (found : Option vertex.Module) → (v : vertex.Module) × (found ≡ Some v) → stands_at path found ≡ bytes_eq (module_in found).path path
        by None alive = let e : None ≡ Some alive.0 = alive.1 in absurd (cc)
        by (Some w) alive = refl

    are_mapped : path ≢ config.page → AreMapped named OfTrace (slots_in graph trace.links.roots) (asked_by sights config) (slot_at graph path) (is_at config path)
    are_mapped other = record { commute = commute; stay = stay; wanted = wanted other }

    -- the lines of the slots are those of the modules
    same_lines :
        (other : path ≢ config.page) (from : Asker Slot) (asked : List (List ℕ)) → AllOf named OfTrace from
        → asked ≡ specifiers sights config (referrer_of (lift named from)) → (steps : List (ℕ × Slot))
        → GoesBy (slots_in graph trace.links.roots) from steps
        → step_lines graph asked steps ≡ chain_lines sights config (lift named from) (numbers_of steps)
    same_lines other from asked good is [] goes = refl
    same_lines other from asked good is (step ∷ more) goes =
        let here = stay from step.0 step.1 good goes.0 in
        let rest = same_lines other (by_module step.1) (sourced step.1).specifiers here (sym (specifiers_at step.1 here)) more goes.1 in
        let there : slice_get (asked_by sights config (lift named from)) step.0 ≡ Some (named step.1) =
        sym (target_at named OfTrace (slots_in graph trace.links.roots) (asked_by sights config) (slot_at graph path) (is_at config path) (are_mapped other) from step.0 good)
        ∙ ap (option_map named) goes.0 in
        (λ i. request_line (is i) step.0 (named step.1) ∷ rest i)
        ∙ ap (λ found. lines_by found (λ m. request_line (specifiers sights config (referrer_of (lift named from))) step.0 m ∷ chain_lines sights config (by_module m) (numbers_of more))) (sym there)

    pub says_by_graph : (status : ℕ) (lines : List (List ℕ)) → GraphSays trace.links config path status lines → SaysWhy sights config path status lines
    says_by_graph status lines (graph_says.own_page same s l) =
        says_why.reached [] (page_itself (asked_by sights config) (is_at config path) ((bytes_eq-Decides config.page path).1 (sym same))) s l
    says_by_graph status lines (graph_says.reached steps other answer s l) =
        says_why.reached (numbers_of steps)
        (same_shortest named OfTrace (slots_in graph trace.links.roots) (asked_by sights config) (slot_at graph path) (is_at config path) (are_mapped other) (numbers_of steps) answer.shortest)
        s (l ∙ ap (λ more. from_page_line config.page ∷ more) (same_lines other by_page config.entries tt refl steps answer.slots))
    says_by_graph status lines (graph_says.not_reached other none s l) =
        says_why.not_reached
        (λ numbers is. none numbers ((same_chains named OfTrace (slots_in graph trace.links.roots) (asked_by sights config) (slot_at graph path) (is_at config path) (are_mapped other) numbers).1 is)) s l
