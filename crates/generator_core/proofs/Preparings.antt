-- How a command comes to its file, step by step.
use Rattle.std.proofs.Common.{◌≡◌, ◌≤◌, ℕ, Bool, true, false, List, [], ◌∷◌, ◌++◌, length, Option, Some, None, Ok, Err, IfSome, Result, refl, sym, ap, ◌∙◌, subst, inl, inr, append_assoc}
use Rattle.std.proofs.lemmas.List.{append-nil}
use Rattle.std.specs.FinMap.{get}
use Rattle.std.specs.Prelude.{All}
use Rattle.std.proofs.lemmas.List.Elements.{All-nil}
use Rattle.tree_spec.specs.declared.Look.{Look}
use Rattle.tree_spec.specs.declared.Look.TheVariants as look
use Rattle.tree_spec.specs.declared.LookFault.TheVariants as look_fault
use Rattle.tree_spec.specs.declared.LimitName.TheVariants.{File, Map}
use Rattle.tree_spec.specs.Limits.{limit_number}
use Rattle.tree_spec.specs.Looks.{asked_after}
use Rattle.tree_spec.specs.States.{FolderState, OnlyLooks, IsLooked}
use Rattle.tree_spec.specs.Trees.{Tree}
use Rattle.tree_spec.proofs.ToldStates.{if_some, if_two, if_all, looks_then, looks_as}
use Rattle.tree_spec.proofs.FootprintSets.{distinct_none}
use Rattle.page_spec.specs.declared.kinds.InjectFault.{InjectFault}
use Rattle.page_spec.specs.declared.kinds.InjectFault.TheVariants as inject
use Rattle.page_spec.specs.Injection as injection
use Rattle.page_spec.specs.Injection.{TakesMaps}
use Rattle.page_spec.proofs.KeptOut.{takes_or_keeps_out}
use Rattle.trace_spec.specs.Laws.{IsLookedAt}
use Rattle.trace_spec.specs.Modules.{Config}
use Rattle.config_spec.specs.declared.Command.{Command}
use Rattle.config_spec.specs.declared.Command.TheVariants.{Inject}
use Rattle.generator_spec.specs.declared.PageFault.{PageFault}
use Rattle.generator_spec.specs.declared.PageFault.TheVariants.{Absent, TooLarge, KeepsMapsOut}
use Rattle.generator_spec.specs.declared.Refusal.TheVariants.{Page}
use Rattle.generator_spec.specs.Generation.{PageIsFile}
use Rattle.generator_spec.specs.Commands.{IsGenerating, SaysCounts, IsMapping, IsMapping as mapping, IsPage, RefusesPage, RefusesPage as refuses_page, Opens, Opens as opens, Refuses, Refuses as refuses}
use Rattle.generator_spec.specs.Commands.{IsOfPage, IsRefusalOf as kind, Writes, Writes as writes}
use Rattle.generation.specs.declared.generated.Generated.{Generated}
use Rattle.generation.specs.declared.stop.Stop.{Stop}
use Rattle.generation.specs.declared.stop.Stop.TheVariants.{Refused, ReadFault, Memory}
use Rattle.generation.specs.Generating.{Generating, IsMapOfTree, AsksNoPathTwice, AsksFootprint}
use Rattle.generator_core.specs.declared.prepared.Prepared.{Prepared}
use Rattle.generator_core.specs.Preparing.{KeepsProject as keeps_project}
use Rattle.generator_spec.specs.Asked.{own_file, AsksOwn, AsksFew}
use Rattle.generator_core.specs.Preparing.{EndsBefore, IsPageFound, FindsPage, HasCounts, KeepsProject, AreMapFiles, IsPageFile, IsPrepared, IsReady, Prepares, map_files, shown_files}

-- ---- what is asked of the folder

pub asks_few : (command : Command) (config : Config) (holds : Option Tree) (told : Option (List (List ℕ))) (after : FolderState) → IfSome holds (λ tree. Opens tree config command) → IfSome told (λ old. AsksNoPathTwice old after) → IfSome told (λ old. AsksFootprint config holds old after) → IfSome told (λ old. AsksFew command config holds old after)
asks_few command config holds told after opened asks at = if_two told (λ old is looks. record { first = []; is_own = inl refl; more = is.more; asked = is.asked; once = is.once; of_footprint = looks is.more is.asked; opened = inr opened }) asks at

pub own_asked : (own path : List ℕ) (b : Bool) (told : Option (List (List ℕ))) (after : FolderState) → path ≡ own → after.asked ≡ asked_after b path told → IfSome told (λ old. AsksOwn (own ∷ []) old after)
own_asked own path b None after same is = tt
own_asked own path true (Some old) after same is = record { first = own ∷ []; is_own = inr refl; asked = is ∙ ap (λ p. Some (old ++ p ∷ [])) same }
own_asked own path false (Some old) after same is = record { first = []; is_own = inl refl; asked = is ∙ ap Some (sym (append-nil old)) }

-- at no paths each trace looks
no_more : (config : Config) (holds : Option Tree) → IfSome holds (λ tree. All (IsLookedAt (get tree) config) [])
no_more config holds = if_all holds (λ tree. All-nil (IsLookedAt (get tree) config))

pub own_alone : (command : Command) (config : Config) (holds : Option Tree) (told : Option (List (List ℕ))) (after : FolderState) → IfSome told (λ old. AsksOwn (own_file command config) old after) → IfSome told (λ old. AsksFew command config holds old after)
own_alone command config holds told after asks = if_some told (λ old is. record { first = is.first; is_own = is.is_own; more = []; asked = is.asked ∙ ap (λ first. Some (old ++ first)) (sym (append-nil is.first)); once = distinct_none; of_footprint = no_more config holds; opened = inl refl }) asks

pub own_then : (command : Command) (config : Config) (holds later_holds : Option Tree) (told : Option (List (List ℕ))) (middle after : FolderState) → later_holds ≡ holds → IfSome holds (λ tree. Opens tree config command) → IfSome told (λ old. AsksOwn (own_file command config) old middle) → IfSome middle.asked (λ old. AsksNoPathTwice old after) → IfSome middle.asked (λ old. AsksFootprint config later_holds old after)
    → IfSome told (λ old. AsksFew command config holds old after)
own_then command config holds later_holds None middle after same opened first later at = tt
own_then command config holds later_holds (Some old) middle after same opened first later at =
    let more : AsksNoPathTwice (old ++ first.first) after = subst (λ told. IfSome told (λ before. AsksNoPathTwice before after)) first.asked later in
    let looks : AsksFootprint config later_holds (old ++ first.first) after = subst (λ told. IfSome told (λ before. AsksFootprint config later_holds before after)) first.asked at in
    record {
      first = first.first;
      is_own = first.is_own;
      more = more.more;
      asked = more.asked ∙ ap Some (append_assoc old first.first more.more);
      once = more.once;
      of_footprint = subst (λ held. IfSome held (λ tree. All (IsLookedAt (get tree) config) more.more)) same (looks more.more more.asked);
      opened = inr opened;
    }

-- a write asks for nothing
pub still_few : (command : Command) (config : Config) (holds : Option Tree) (told : Option (List (List ℕ))) (middle after : FolderState) → after.asked ≡ middle.asked → IfSome told (λ old. AsksFew command config holds old middle) → IfSome told (λ old. AsksFew command config holds old after)
still_few command config holds told middle after still asks =
    if_some told (λ old is. record { first = is.first; is_own = is.is_own; more = is.more; asked = still ∙ is.asked; once = is.once; of_footprint = is.of_footprint; opened = is.opened }) asks

-- a command that writes the map's file generates a map
pub generates : {command : Command} (keeps : Bool) → KeepsProject command keeps → IsGenerating command
generates _ keeps_project.link = tt
generates _ keeps_project.unlink = tt
generates _ keeps_project.refresh = tt

pub counts : {command : Command} (keeps : Bool) → KeepsProject command keeps → SaysCounts command
counts _ keeps_project.link = tt
counts _ keeps_project.unlink = tt
counts _ keeps_project.refresh = tt

-- ---- generation

module _ (config : Config) (before after : FolderState) where
  generated_looks : (generated : Generated) → Generating config before (Ok generated) after → OnlyLooks before after ⊥
  generated_looks generated is = looks_as before after (λ e. absurd e) (λ e. absurd (cc)) is.looks

  lacks_memory : (command : Command) → OnlyLooks before after ⊥ → EndsBefore command config before after Memory
  lacks_memory command looks = record { refused = tt; kind = tt; looks = looks_as before after (λ e. absurd (cc)) (λ e. absurd e) looks }

  module _ (command : Command) (generating : IsGenerating command) (opened : IfSome before.holds (λ tree. Opens tree config command)) where
    stopped_as : (stop : Stop) → Generating config before (Err stop) after → EndsBefore command config before after stop
    stopped_as (Refused why) is = record {
      refused = if_two before.holds (λ tree opened_so refuses_so. refuses_so command generating opened_so) opened is.refused;
      kind = is.kind command generating;
      looks = looks_as before after (λ e. absurd (cc)) (λ e. absurd (cc)) is.looks;
    }
    stopped_as ReadFault is = record { refused = tt; kind = tt; looks = looks_as before after (λ e. refl) (λ e. refl) is.looks }
    stopped_as Memory is = record { refused = tt; kind = tt; looks = looks_as before after (λ e. absurd (cc)) (λ e. absurd (cc)) is.looks }

    pub stopped : (stop : Stop) → Generating config before (Err stop) after → Prepares command config before (Err stop) after
    stopped stop is = record { ready = tt; asked = asks_few command config before.holds before.asked after opened is.asked is.footprint; stopped = stopped_as stop is }

  pub lacks : (command : Command) → IfSome before.holds (λ tree. Opens tree config command) → (generated : Generated) → Generating config before (Ok generated) after → Prepares command config before (Err Memory) after
  lacks command opened generated is = record { ready = tt; asked = asks_few command config before.holds before.asked after opened is.asked is.footprint; stopped = lacks_memory command (generated_looks generated is) }

  prepared_of : (command : Command) (tree : Tree) (generated : Generated) (prepared : Prepared) → HasCounts generated prepared → Writes tree config generated.map.items command (shown_files prepared) → IsMapOfTree tree config generated → IsPrepared command config tree prepared
  prepared_of command tree generated prepared counts wrote is = record {
    all = is.all;
    is_traced = is.is_traced;
    layout = is.is_map.layout;
    few = is.is_map.few;
    is_fewest = is.is_map.is_fewest;
    within = subst (λ text. length text ≤ limit_number Map) is.is_map.map is.is_map.within;
    modules = counts.modules ∙ is.is_map.modules;
    requests = counts.requests ∙ is.is_map.requests;
    mappings = counts.mappings ∙ is.is_map.mappings;
    writes = subst (λ map. Writes tree config map command (shown_files prepared)) is.is_map.map wrote;
  }

  pub ready : (command : Command) → IfSome before.holds (λ tree. Opens tree config command) → (generated : Generated) (prepared : Prepared) → PageIsFile config → Generating config before (Ok generated) after → HasCounts generated prepared → IfSome before.holds (λ tree. Writes tree config generated.map.items command (shown_files prepared)) → Prepares command config before (Ok prepared) after
  ready command opened generated prepared is_file is counts wrote = record {
    ready = record {
      is_prepared = if_two before.holds (λ tree writes_so is_generated. prepared_of command tree generated prepared counts writes_so is_generated) wrote is.generated;
      page_is_file = is_file;
      looks = generated_looks generated is;
    };
    asked = asks_few command config before.holds before.asked after opened is.asked is.footprint;
    stopped = tt;
  }

  -- ---- the map, and the project beside it

  is_mapping : {command : Command} (keeps : Bool) → KeepsProject command keeps → IsMapping command
  is_mapping _ keeps_project.link = mapping.link
  is_mapping _ keeps_project.unlink = mapping.unlink
  is_mapping _ keeps_project.refresh = mapping.refresh

  map_writes : {command : Command} (keeps : Bool) → KeepsProject command keeps → (tree : Tree) (map : List ℕ) → Writes tree config map command (map_files config map keeps)
  map_writes _ keeps_project.link tree map = writes.linked
  map_writes _ keeps_project.unlink tree map = writes.unlinked
  map_writes _ keeps_project.refresh tree map = writes.refreshed

  module _ (command : Command) (keeps : Bool) (is_kept : KeepsProject command keeps) where
    pub map_opens : IfSome before.holds (λ tree. Opens tree config command)
    map_opens = if_all before.holds (λ tree. opens.nothing command (is_mapping keeps is_kept))

    pub map_stopped : (stop : Stop) → Generating config before (Err stop) after → Prepares command config before (Err stop) after
    map_stopped stop is = stopped command (generates keeps is_kept) map_opens stop is

    pub map_ready : (generated : Generated) (prepared : Prepared) → PageIsFile config → Generating config before (Ok generated) after → AreMapFiles config keeps generated prepared → Prepares command config before (Ok prepared) after
    map_ready generated prepared is_file is files =
        ready command map_opens generated prepared is_file is files.counts
        (if_all before.holds (λ tree. subst (λ some. Writes tree config generated.map.items command some) (sym files.files) (map_writes keeps is_kept tree generated.map.items)))

  -- ---- the page with the map

  module _ (page : List ℕ) (takes : TakesMaps page) (stands : IfSome before.holds (λ tree. IsPage tree config page)) where
    pub page_opens : IfSome before.holds (λ tree. Opens tree config Inject)
    page_opens = if_some before.holds (λ tree is. opens.page page is takes) stands

    page_writes : (generated : Generated) (prepared : Prepared) → IsPageFile config page generated prepared → IfSome before.holds (λ tree. Writes tree config generated.map.items Inject (shown_files prepared))
    page_writes generated prepared file =
        if_some before.holds (λ tree is. subst (λ files. Writes tree config generated.map.items Inject files) (sym file.files) (writes.in_page page file.new is file.injected)) stands

    pub page_stopped : (stop : Stop) → Generating config before (Err stop) after → Prepares Inject config before (Err stop) after
    page_stopped stop is = stopped Inject tt page_opens stop is

    pub page_ready : (generated : Generated) (prepared : Prepared) → PageIsFile config → Generating config before (Ok generated) after → IsPageFile config page generated prepared → Prepares Inject config before (Ok prepared) after
    page_ready generated prepared is_file is file = ready Inject page_opens generated prepared is_file is file.counts (page_writes generated prepared file)

-- ---- behind the look at the page

module _ (config : Config) (before middle after : FolderState) where
  pub earlier_end : (command : Command) (stop : Stop) → OnlyLooks before middle ⊥ → EndsBefore command config middle after stop → EndsBefore command config before after stop
  earlier_end command (Refused why) looks is = record { refused = subst (λ held. IfSome held (λ tree. Refuses tree config command why)) looks.tree is.refused; kind = is.kind; looks = looks_then before middle after (λ e. e) looks is.looks }
  earlier_end command ReadFault looks is = record { refused = tt; kind = tt; looks = looks_then before middle after (λ e. e) looks is.looks }
  earlier_end command Memory looks is = record { refused = tt; kind = tt; looks = looks_then before middle after (λ e. e) looks is.looks }

  earlier_ready : (command : Command) (prepared : Prepared) → OnlyLooks before middle ⊥ → IsReady command config middle after prepared → IsReady command config before after prepared
  earlier_ready command prepared looks is = record { is_prepared = subst (λ held. IfSome held (λ tree. IsPrepared command config tree prepared)) looks.tree is.is_prepared; page_is_file = is.page_is_file; looks = looks_then before middle after (λ e. e) looks is.looks }

  module _ (command : Command) (looks : OnlyLooks before middle ⊥) (asked : IfSome before.asked (λ old. AsksOwn (own_file command config) old middle)) (later : IfSome middle.asked (λ old. AsksNoPathTwice old after)) (at : IfSome middle.asked (λ old. AsksFootprint config middle.holds old after)) (opened : IfSome before.holds (λ tree. Opens tree config command)) where
    earlier : (result : Result Prepared Stop) → Prepares command config middle result after → Prepares command config before result after
    earlier (Ok prepared) is = record { ready = earlier_ready command prepared looks is.ready; asked = own_then command config before.holds middle.holds before.asked middle after looks.tree opened asked later at; stopped = tt }
    earlier (Err stop) is = record { ready = tt; asked = own_then command config before.holds middle.holds before.asked middle after looks.tree opened asked later at; stopped = earlier_end command stop looks is.stopped }

  -- the page is where it was
  page_still : (page : List ℕ) → IsPageFound config before middle page → IfSome middle.holds (λ tree. IsPage tree config page)
  page_still page is = subst (λ held. IfSome held (λ tree. IsPage tree config page)) (sym is.looks.tree) is.is_page

  pub page_prepared : (page : List ℕ) (result : Result Prepared Stop) → TakesMaps page → FindsPage config before (Ok page) middle → IfSome middle.asked (λ old. AsksNoPathTwice old after) → IfSome middle.asked (λ old. AsksFootprint config middle.holds old after) → (IfSome middle.holds (λ tree. IsPage tree config page) → Prepares Inject config middle result after) → Prepares Inject config before result after
  page_prepared page result takes is asks at prepares = earlier Inject is.found.looks is.asked asks at (page_opens config before middle page takes is.found.is_page) result (prepares (page_still page is.found))

-- ---- the look at the page

no_memory : (bytes : List ℕ) (why : InjectFault) → injection.KeepsMapsOut bytes why → IsOfPage (KeepsMapsOut why)
no_memory bytes (inject.PageUnclear at) keeps = tt
no_memory bytes (inject.TwoMaps at) keeps = tt
no_memory bytes inject.NoPlace keeps = tt
no_memory bytes inject.Memory keeps = takes_or_keeps_out.no_memory [] bytes (keeps [])

module _ (config : Config) (before after : FolderState) where
  pub page_refused : (stop : Stop) → FindsPage config before (Err stop) after → Prepares Inject config before (Err stop) after
  page_refused stop is = record { ready = tt; asked = own_alone Inject config before.holds before.asked after is.asked; stopped = is.stopped }

  page_ends : (why : PageFault) → OnlyLooks before after ⊥ → IfSome before.holds (λ tree. RefusesPage tree config why) → IsOfPage why → EndsBefore Inject config before after (Refused (Page why))
  page_ends why looks why_not of = record {
    refused = if_some before.holds (λ tree so. refuses.page why so) why_not;
    kind = kind.page why of;
    looks = looks_as before after (λ e. absurd (cc)) (λ e. absurd e) looks;
  }

  pub page_keeps_out : (page : List ℕ) (why : InjectFault) (stop : Stop) → FindsPage config before (Ok page) after → injection.KeepsMapsOut page why → stop ≡ Refused (Page (KeepsMapsOut why)) → Prepares Inject config before (Err stop) after
  page_keeps_out page why stop is keeps same =
      subst (λ s. Prepares Inject config before (Err s) after) (sym same)
      (record {
        ready = tt;
        asked = own_alone Inject config before.holds before.asked after is.asked;
        stopped = page_ends (KeepsMapsOut why) is.found.looks (if_some before.holds (λ tree stands. refuses_page.keeps_out page why stands keeps) is.found.is_page) (no_memory page why keeps);
      })

module _ (config : Config) (path : List ℕ) (is_page : path ≡ config.page) (before after : FolderState) where
  looked : (found : Look) → IsLooked before path (limit_number File) (Ok found) after → OnlyLooks before after ⊥
  looked found is = record { tree = is.tree; writes = is.writes; later = is.later; cause = λ e. absurd e; quiet = λ e. is.quiet (λ same. cc) }

  no_page : (found : Look) (why : PageFault) → IsLooked before path (limit_number File) (Ok found) after → IfSome before.holds (λ tree. RefusesPage tree config why) → IsOfPage why → FindsPage config before (Err (Refused (Page why))) after
  no_page found why is why_not of = record { found = tt; asked = own_asked config.page path true before.asked after is_page is.asked; stopped = page_ends config before after why (looked found is) why_not of }

  pub page_absent : IsLooked before path (limit_number File) (Ok look.Absent) after → FindsPage config before (Err (Refused (Page Absent))) after
  page_absent is = no_page look.Absent Absent is (if_some before.holds (λ tree e. refuses_page.absent (ap (get tree) (sym is_page) ∙ e)) is.entry) tt

  pub page_folder : IsLooked before path (limit_number File) (Ok look.Folder) after → FindsPage config before (Err (Refused (Page Absent))) after
  page_folder is = no_page look.Folder Absent is (if_some before.holds (λ tree e. refuses_page.folder (ap (get tree) (sym is_page) ∙ e)) is.entry) tt

  pub page_too_large : IsLooked before path (limit_number File) (Ok look.TooLarge) after → FindsPage config before (Err (Refused (Page TooLarge))) after
  page_too_large is = no_page look.TooLarge TooLarge is (if_some before.holds (λ tree e. refuses_page.too_large e.0 (ap (get tree) (sym is_page) ∙ e.1) e.2) is.entry) tt

  page_stands : (bytes : List ℕ) → IsLooked before path (limit_number File) (Ok (look.File bytes)) after → IfSome before.holds (λ tree. IsPage tree config bytes)
  page_stands bytes is = if_some before.holds (λ tree e. record { stands = ap (get tree) (sym is_page) ∙ e.0; small = e.1 }) is.entry

  pub page_found : (bytes : List ℕ) → IsLooked before path (limit_number File) (Ok (look.File bytes)) after → FindsPage config before (Ok bytes) after
  page_found bytes is = record { found = record { is_page = page_stands bytes is; looks = looked (look.File bytes) is }; asked = own_asked config.page path true before.asked after is_page is.asked; stopped = tt }

  pub page_fault : IsLooked before path (limit_number File) (Err look_fault.Failed) after → FindsPage config before (Err ReadFault) after
  page_fault is = record {
    found = tt;
    asked = own_asked config.page path false before.asked after is_page is.asked;
    stopped = record {
      refused = tt;
      kind = tt;
      looks = record { tree = is.tree; writes = is.writes; later = is.later; cause = λ e. is.failed refl; quiet = λ none. absurd (none refl) };
    };
  }

  pub page_memory : IsLooked before path (limit_number File) (Err look_fault.Memory) after → FindsPage config before (Err Memory) after
  page_memory is = record {
    found = tt;
    asked = own_asked config.page path false before.asked after is_page is.asked;
    stopped = record {
      refused = tt;
      kind = tt;
      looks = record { tree = is.tree; writes = is.writes; later = is.later; cause = λ e. absurd (cc); quiet = λ none. is.quiet (λ same. cc) };
    };
  }

  -- ---- the same, as the look tells it

  page_told_by : (found : Look) (stop other : Stop) (exact : Look) → found ≡ exact → stop ≡ other → (IsLooked before path (limit_number File) (Ok exact) after → FindsPage config before (Err other) after) → IsLooked before path (limit_number File) (Ok found) after → FindsPage config before (Err stop) after
  page_told_by found stop other exact f s ends is = subst (λ t. FindsPage config before (Err t) after) (sym s) (ends (subst (λ l. IsLooked before path (limit_number File) (Ok l) after) f is))

  pub absent_end : (found : Look) (stop : Stop) → found ≡ look.Absent → stop ≡ Refused (Page Absent) → IsLooked before path (limit_number File) (Ok found) after → FindsPage config before (Err stop) after
  absent_end found stop f s is = page_told_by found stop (Refused (Page Absent)) look.Absent f s page_absent is

  pub folder_end : (found : Look) (stop : Stop) → found ≡ look.Folder → stop ≡ Refused (Page Absent) → IsLooked before path (limit_number File) (Ok found) after → FindsPage config before (Err stop) after
  folder_end found stop f s is = page_told_by found stop (Refused (Page Absent)) look.Folder f s page_folder is

  pub too_large_end : (found : Look) (stop : Stop) → found ≡ look.TooLarge → stop ≡ Refused (Page TooLarge) → IsLooked before path (limit_number File) (Ok found) after → FindsPage config before (Err stop) after
  too_large_end found stop f s is = page_told_by found stop (Refused (Page TooLarge)) look.TooLarge f s page_too_large is
