-- What comes of a trace over what is known of a folder, and of one for which nothing was; and what its map is.
use Rattle.std.proofs.Common.{◌∙◌, ◌≡◌, ◌≢◌, ℕ, List, [], Bool, true, false, append-nil, Option, Some, None, IfSome, Result, Ok, Err, refl, sym, ap, subst}
use Rattle.std.specs.FinMap.{get}
use Rattle.std.specs.List.{ends_with}
use Rattle.std.specs.Prelude.{◌≤◌, ◌+◌, ◌++◌, ⊤, All, length, MatchOption, nat_eq, codes}
use Rattle.std.proofs.lemmas.Bool.{cond-false}
use Rattle.std.proofs.lemmas.Option.{same_Some}
use Rattle.std.proofs.lemmas.List.{append_cancel_left}
use Rattle.std.proofs.lemmas.List.Elements.{All-weaker}
use Rattle.std.specs.Option.{option_or}
use Rattle.tree_spec.specs.LookAskings.{Sights}
use Rattle.tree_spec.specs.States.{FolderState}
use Rattle.tree_spec.specs.Trees.{Tree}
use Rattle.tree_spec.specs.declared.LimitName.TheVariants.{Map, Choices}
use Rattle.tree_spec.proofs.ToldStates.{if_some, looks_as}
use Rattle.package_lookup.specs.declared.known.Known.{Known}
use Rattle.package_lookup.specs.Looked.{kept_at, laid_at, look_or, Sees}
use Rattle.package_lookup.specs.Learning.{Learns}
use Rattle.package_lookup.proofs.Learnings.{learns_as}
use Rattle.trace_spec.specs.declared.TraceFault.{TraceFault}
use Rattle.trace_spec.specs.declared.TraceFault.TheVariants as fault
use Rattle.trace_spec.specs.Checks.{Gathered}
use Rattle.trace_spec.specs.Kinds.{IsOfTrace}
use Rattle.trace_spec.specs.Laws.{IsLookedAt}
use Rattle.trace_spec.specs.Modules.{Config, served_at, served_name, shown, web_name}
use Rattle.trace_spec.specs.Walking.{the_page}
use Rattle.url_spec.proofs.PathTestLemmas.{served_by_test}
use Rattle.url_spec.specs.PathTests.{is_served}
use Rattle.url_spec.specs.ServedPaths.{IsServed}
use Rattle.url_spec.specs.Specifiers.{ends_in_slash}
use Rattle.url_spec.specs.WebNames.{web}
use Rattle.web_url.specs.Serving.{IsUnservable}
use Rattle.web_url.specs.declared.names.WebFault.TheVariants as web_fault
use Rattle.fewest_spec.specs.Wishes.{HasTooManyChoices}
use Rattle.generator_spec.proofs.Nameless.{unserved_is_refused}
use Rattle.generator_spec.specs.Generation.{PageIsFile}
use Rattle.trace_spec.specs.Traces.{traced}
use Rattle.trace_walk.specs.Kinds.{IsOfWalk}
use Rattle.trace_walk.specs.Meeting.{IsTold}
use Rattle.request_trace.specs.Tracing.{known_of, IsOfFootprint, TakesStepsToEnd, Traces}
use Rattle.generator_spec.specs.Commands.{IsGenerating, Opens, Refuses as refuses, IsRefusalOf as kind}
use Rattle.generator_spec.specs.declared.Command.{Command}
use Rattle.generation.specs.declared.generated.Generated.{Generated}
use Rattle.generation.specs.declared.stop.Stop.{Stop}
use Rattle.generation.specs.declared.stop.Stop.TheVariants.{Refused, ReadFault, Memory}
use Rattle.generation.specs.Generating.{StopsAs, IsMapOf, IsMapOfTree, HasLargeMap, AsksNoPathTwice, AsksFootprint, StepsToEnd, Tracing, Generating}
use Rattle.generation.specs.Generating.{IfSeen, TracingOver, GeneratingOver}
use Rattle.generation.specs.Generating.StopsAs.{failed_look, memory, refused}
use Rattle.generation.specs.Mapping.{MapsTrace}
use Rattle.generation.specs.Paging.{IsUnserved, IsUnserved as unserved_page, IsUnservedAt, IsUnservedAt as unserved_there}
use Rattle.generator_spec.specs.declared.Refusal.TheVariants.{Limit, Trace}

-- ---- where nothing is known

pub record IsFresh (known : Known) : Type 0 where
  pub kept : (path : List ℕ) → kept_at known path ≡ None
  pub laid : (path : List ℕ) → laid_at known path ≡ None

pub sees_all : (tree : Tree) (known : Known) → IsFresh known → Sees tree known (get tree)
sees_all tree known fresh = record { each = λ path. sym (λ i. look_or (option_or (fresh.laid path i) (fresh.kept path i)) (get tree path)) }

-- ---- what is asked for, where nothing is known

same_more : (old some more : List (List ℕ)) → Some (old ++ some) ≡ Some (old ++ more) → some ≡ more
same_more old some more e = append_cancel_left old some more (cc)

within_tree : (told : Option Tree) (known : Known) → IsFresh known → (config : Config) (more : List (List ℕ))
    → All (λ path. IfSome told (λ tree. (sights : Sights) → Sees tree known sights → IsLookedAt sights config path)) more
    → IfSome told (λ tree. All (IsLookedAt (get tree) config) more)
within_tree None known fresh config more each = tt
within_tree (Some tree) known fresh config more each =
    All-weaker (λ path. (sights : Sights) → Sees tree known sights → IsLookedAt sights config path)
    (IsLookedAt (get tree) config) (λ path is. is (get tree) (sees_all tree known fresh)) more each

-- ---- the trace

of_trace : (config : Config) (why : TraceFault) → why ≢ fault.ReadFault → why ≢ fault.Memory → IsOfWalk config why → IsOfTrace config why
of_trace config (fault.Unservable path url) no_look no_memory is = is
of_trace config (fault.Refused referrer specifier cause) no_look no_memory is = is
of_trace config (fault.Clash referrer first first_to second second_to) no_look no_memory is = is
of_trace config (fault.NotModule path reason) no_look no_memory is = is
of_trace config (fault.Limit which) no_look no_memory is = is
of_trace config fault.ReadFault no_look no_memory is = absurd (no_look refl)
of_trace config fault.Memory no_look no_memory is = absurd (no_memory refl)

abbrev as_err : TraceFault → Result Gathered TraceFault
as_err why = Err why

module _ (config : Config) (before after : FolderState) (known later : Known) where
  abbrev IsTraced : Result Gathered TraceFault → Type 0
  IsTraced result = IfSome before.holds (λ tree. IfSeen tree known (λ seen. traced (get seen) config ≡ result))

  traced_so : (result : Result Gathered TraceFault) → Traces config before known result after later → IsTold result → IsTraced result
  traced_so result is told = if_some before.holds (λ tree each seen sees. each (get seen) sees told) is.is

  learns_so : (X : Type 0) (result : Result Gathered TraceFault) (stops : Result X Stop) → (result ≡ Err fault.Memory → stops ≡ Err Memory) → Traces config before known result after later
      → Learns (known_of before known) (known_of after later) (stops ≡ Err Memory) (IsOfFootprint config before known)
  learns_so X result stops weaker is =
      learns_as (known_of before known) (known_of after later) (result ≡ Err fault.Memory) (stops ≡ Err Memory) (IsOfFootprint config before known) (IsOfFootprint config before known) weaker (λ path here. here) is.learns

  pub stopped : (why : TraceFault) (stop : Stop) → Traces config before known (Err why) after later → StopsAs why stop → TracingOver config before known (Err stop) after later
  stopped why stop is (failed_look same) = record { traces = tt; refused = tt; kind = tt; learns = learns_so Gathered (Err why) (Err ReadFault) (λ e. absurd (cc)) is; looks = looks_as before after (λ e. ap as_err same) (λ e. refl) is.looks }
  stopped why stop is (memory same) = record { traces = tt; refused = tt; kind = tt; learns = learns_so Gathered (Err why) (Err Memory) (λ e. refl) is; looks = looks_as before after (λ e. absurd (cc)) (λ e. absurd (cc)) is.looks }
  stopped why stop is (refused no_look no_memory) = record {
    traces = tt;
    refused = if_some before.holds (λ tree each seen sees command opened. refuses.trace command why opened (each seen sees)) (traced_so (Err why) is (λ e. no_look (cc), λ e. no_memory (cc)));
    kind = λ command. kind.trace command why (of_trace config why no_look no_memory is.kind);
    learns = learns_so Gathered (Err why) (Err (Refused (Trace why))) (λ e. absurd (no_memory (cc))) is;
    looks = looks_as before after (λ e. absurd (cc)) (λ e. absurd (no_look (cc))) is.looks;
  }

  pub traced_there : (all : Gathered) → Traces config before known (Ok all) after later → TracingOver config before known (Ok all) after later
  traced_there all is = record {
    traces = traced_so (Ok all) is (λ e. absurd (cc), λ e. absurd (cc));
    refused = tt;
    kind = tt;
    learns = learns_so Gathered (Ok all) (Ok all) (λ e. absurd (cc)) is;
    looks = looks_as before after (λ e. absurd (cc)) (λ e. absurd (cc)) is.looks;
  }

-- ---- what a trace comes to

module _ (config : Config) (before after : FolderState) (known later : Known) where
  learns_same : (some other : Type 0) → (some → other) → Learns (known_of before known) (known_of after later) some (IsOfFootprint config before known)
      → Learns (known_of before known) (known_of after later) other (IsOfFootprint config before known)
  learns_same some other weaker learns =
      learns_as (known_of before known) (known_of after later) some other (IsOfFootprint config before known) (IsOfFootprint config before known) weaker (λ path here. here) learns

  pub refused_so : (stop : Stop) → TracingOver config before known (Err stop) after later → GeneratingOver config before known (Err stop) after later
  refused_so (Refused why) is = record {
    generated = tt;
    refused = if_some before.holds (λ tree each seen sees command generating opened. each seen sees command opened) is.refused;
    kind = λ command generating. is.kind command;
    learns = learns_same _ _ (λ e. absurd (cc)) is.learns;
    looks = looks_as before after (λ e. absurd (cc)) (λ e. absurd (cc)) is.looks;
  }
  refused_so ReadFault is = record { generated = tt; refused = tt; kind = tt; learns = learns_same _ _ (λ e. absurd (cc)) is.learns; looks = looks_as before after (λ e. refl) (λ e. refl) is.looks }
  refused_so Memory is = record { generated = tt; refused = tt; kind = tt; learns = learns_same _ _ (λ e. refl) is.learns; looks = looks_as before after (λ e. absurd (cc)) (λ e. absurd (cc)) is.looks }

  pub mapped : (all : Gathered) (result : Result Generated Stop) → TracingOver config before known (Ok all) after later → MapsTrace config all result → GeneratingOver config before known result after later
  mapped all (Ok found) is map = record {
    generated = if_some before.holds (λ tree each seen sees. record { all = all; is_traced = each seen sees; is_map = map.map }) is.traces;
    refused = tt;
    kind = tt;
    learns = learns_same _ _ (λ e. absurd (cc)) is.learns;
    looks = looks_as before after (λ e. absurd (cc)) (λ e. absurd (cc)) is.looks;
  }
  mapped all (Err (Refused why)) is map = record {
    generated = tt;
    refused = if_some before.holds (λ tree each seen sees. map.refused seen (each seen sees)) is.traces;
    kind = map.kind;
    learns = learns_same _ _ (λ e. absurd (cc)) is.learns;
    looks = looks_as before after (λ e. absurd (cc)) (λ e. absurd (cc)) is.looks;
  }
  mapped all (Err ReadFault) is map = absurd (map.no_look refl)
  mapped all (Err Memory) is map = record { generated = tt; refused = tt; kind = tt; learns = learns_same _ _ (λ e. absurd (cc)) is.learns; looks = looks_as before after (λ e. absurd (cc)) (λ e. absurd (cc)) is.looks }

-- ---- where nothing was known

module _ (config : Config) (before after : FolderState) (known later : Known) (fresh : IsFresh known) where
  abbrev LearnsSo : Type 0 → Type 0
  LearnsSo unfinished = Learns (known_of before known) (known_of after later) unfinished (IsOfFootprint config before known)

  asks : (unfinished : Type 0) → LearnsSo unfinished → IfSome before.asked (λ old. AsksNoPathTwice old after)
  asks unfinished learns = if_some before.asked (λ old once. record { more = once.more; asked = once.asked; once = once.once }) learns.asked

  -- by what stands at each path in the tree
  in_tree : (more : List (List ℕ)) → All (IsOfFootprint config before known) more
      → IfSome before.holds (λ tree. All (IsLookedAt (get tree) config) more)
  in_tree more all = within_tree before.holds known fresh config more all

  looks_at : (unfinished : Type 0) → LearnsSo unfinished → IfSome before.asked (λ old. AsksFootprint config before.holds old after)
  looks_at unfinished learns = if_some before.asked (λ old once more same. in_tree more (subst (λ paths. All (IsOfFootprint config before known) paths) (same_more old once.more more (sym once.asked ∙ same)) once.among)) learns.asked

  in_the_tree : (P : Tree → Type 0) → IfSome before.holds (λ tree. IfSeen tree known P) → IfSome before.holds P
  in_the_tree P is = if_some before.holds (λ tree each. each tree (sees_all tree known fresh)) is

  -- what a trace takes by all that looks tell it takes by what stands in the tree
  pub steps_fresh : (from to : ℕ) → TakesStepsToEnd config before known from to → StepsToEnd config before.holds from to
  steps_fresh from to takes =
      if_some before.holds (λ tree each. λ asked is.
      let here = each (get tree) (sees_all tree known fresh) in
      subst (λ questions. to ≤ from + length questions) (same_Some here.asked asked (sym here.are ∙ is)) here.steps) takes

  pub traced_fresh : (result : Result Gathered Stop) → TracingOver config before known result after later → Tracing config before result after
  traced_fresh (Ok all) is = record { traces = in_the_tree (λ tree. traced (get tree) config ≡ Ok all) is.traces; refused = tt; kind = tt; asked = asks _ is.learns; footprint = looks_at _ is.learns; looks = is.looks }
  traced_fresh (Err (Refused why)) is = record { traces = tt; refused = in_the_tree (λ tree. (command : Command) → Opens tree config command → refuses tree config command why) is.refused; kind = is.kind; asked = asks _ is.learns; footprint = looks_at _ is.learns; looks = is.looks }
  traced_fresh (Err ReadFault) is = record { traces = tt; refused = tt; kind = tt; asked = asks _ is.learns; footprint = looks_at _ is.learns; looks = is.looks }
  traced_fresh (Err Memory) is = record { traces = tt; refused = tt; kind = tt; asked = asks _ is.learns; footprint = looks_at _ is.learns; looks = is.looks }

  pub generated_fresh : (result : Result Generated Stop) → GeneratingOver config before known result after later → Generating config before result after
  generated_fresh (Ok found) is = record { generated = in_the_tree (λ tree. IsMapOfTree tree config found) is.generated; refused = tt; kind = tt; asked = asks _ is.learns; footprint = looks_at _ is.learns; looks = is.looks }
  generated_fresh (Err (Refused why)) is = record { generated = tt; refused = in_the_tree (λ tree. (command : Command) → IsGenerating command → Opens tree config command → refuses tree config command why) is.refused; kind = is.kind; asked = asks _ is.learns; footprint = looks_at _ is.learns; looks = is.looks }
  generated_fresh (Err ReadFault) is = record { generated = tt; refused = tt; kind = tt; asked = asks _ is.learns; footprint = looks_at _ is.learns; looks = is.looks }
  generated_fresh (Err Memory) is = record { generated = tt; refused = tt; kind = tt; asked = asks _ is.learns; footprint = looks_at _ is.learns; looks = is.looks }

-- ---- a page that isn't served

page_shown : (config : Config) → shown config the_page ≡ config.page
page_shown config = append-nil config.page

unserved_kind : (config : Config) → served_at config the_page ≡ None → IsOfTrace config (fault.Unservable config.page (web_name config the_page))
unserved_kind config lost = record { which = the_page; path_is = sym (page_shown config); url_is = refl; lost = lost }

unserved_traced : (tree : Tree) (config : Config) → served_at config the_page ≡ None → traced (get tree) config ≡ Err (fault.Unservable config.page (web_name config the_page))
unserved_traced tree config lost = unserved_is_refused (get tree) config lost ∙ ap (λ path. Err (fault.Unservable path (web_name config the_page))) (page_shown config)

-- ---- the map of a trace

module _ (config : Config) (all : Gathered) where
  pub is_map : (found : Generated) → IsMapOf config all found → MapsTrace config all (Ok found)
  is_map found is = record { map = is; refused = tt; kind = tt; no_look = λ e. absurd (cc) }

  pub too_wide : (stop : Stop) → stop ≡ Refused (Limit Choices) → HasTooManyChoices all.needs → MapsTrace config all (Err stop)
  too_wide stop same many =
      subst (λ s. MapsTrace config all (Err s)) (sym same)
      (record {
        map = tt;
        refused = λ tree traced command generating opened. refuses.many_choices command generating opened (record { all = all; is_traced = traced; many = many });
        kind = λ command generating. kind.many_choices command generating;
        no_look = λ e. absurd (cc);
      })

  pub too_large : (stop : Stop) → stop ≡ Refused (Limit Map) → HasLargeMap config all → MapsTrace config all (Err stop)
  too_large stop same large =
      subst (λ s. MapsTrace config all (Err s)) (sym same)
      (record {
        map = tt;
        refused = λ tree traced command generating opened. refuses.large_map command generating opened (record { all = all; is_traced = traced; few = large.few; layout = large.layout; is_fewest = large.is_fewest; large = large.large });
        kind = λ command generating. kind.large_map command generating;
        no_look = λ e. absurd (cc);
      })

  lacks : MapsTrace config all (Err Memory)
  lacks = record { map = tt; refused = tt; kind = tt; no_look = λ e. absurd (cc) }

  pub unserved : (stop : Stop) → IsUnserved config stop → MapsTrace config all (Err stop)
  unserved stop (unserved_page.refused lost same) =
      subst (λ s. MapsTrace config all (Err s)) (sym same)
      (record {
        map = tt;
        refused = λ tree traced command generating opened. refuses.trace command (fault.Unservable config.page (web_name config the_page)) opened (unserved_traced tree config lost);
        kind = λ command generating. kind.trace command (fault.Unservable config.page (web_name config the_page)) (unserved_kind config lost);
        no_look = λ e. absurd (cc);
      })
  unserved stop (unserved_page.memory same) = subst (λ s. MapsTrace config all (Err s)) (sym same) lacks

-- the page's web name, where it is served at it
pub page_is_file : (config : Config) (url : List ℕ) → web config.base config.page [] ≡ Some url → ends_with nat_eq url (codes "/") ≡ false → PageIsFile config
page_is_file config url named no_slash = λ name is. subst (λ n. ends_in_slash n ≡ false) (same_Some url name (sym named ∙ is)) no_slash

-- how the page isn't served
pub unserved_at : (config : Config) (url : Option (List ℕ)) (stop : Stop) → url ≡ web config.base config.page [] → MatchOption url ⊤ (λ name. IsServed config.base name config.page → ⊥) → IsUnservedAt config url stop → IsUnserved config stop
unserved_at config url stop named lost (unserved_there.memory same) = unserved_page.memory same
unserved_at config url stop named lost (unserved_there.refused same) =
    unserved_page.refused
    (ap (served_name config.base config.page) (sym named) ∙ not_served url lost)
    (same ∙ ap (λ found. Refused (Trace (fault.Unservable config.page found))) named)
  where
    not_served : (found : Option (List ℕ)) → MatchOption found ⊤ (λ name. IsServed config.base name config.page → ⊥) → served_name config.base config.page found ≡ None
    not_served None none = refl
    not_served (Some name) none = cond-false _ _ _ (by (is_served config.base name config.page) refl)
      where
        by : (test : Bool) → is_served config.base name config.page ≡ test → is_served config.base name config.page ≡ false
        by false e = e
        by true e = absurd (none (served_by_test config.base name config.page e))

-- the same, by what was said of a base, a path and a suffix that are these
pub unserved_by :
    (config : Config) (base path suffix : List ℕ) (url : Option (List ℕ)) (stop : Stop) → base ≡ config.base → path ≡ config.page → suffix ≡ [] → IsUnservable base path suffix (web_fault.Unservable url) → IsUnservedAt config url stop
    → IsUnserved config stop
unserved_by config base path suffix url stop b p s is at =
    unserved_at config url stop
    (is.0 ∙ (ap (λ x. web x path suffix) b ∙ (ap (λ x. web config.base x suffix) p ∙ ap (web config.base config.page) s)))
    (subst (λ x. MatchOption url ⊤ (λ name. IsServed x name config.page → ⊥)) b (subst (λ x. MatchOption url ⊤ (λ name. IsServed base name x → ⊥)) p is.1)) at
