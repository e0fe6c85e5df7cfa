-- A command over a tree is refused in one way, or can be done.
use Rattle.std.proofs.Common.{◌≡◌, ◌<◌, ◌⊎◌, ℕ, List, [], ◌∷◌, length, Option, Some, None, Result, Ok, Err, refl, sym, ap, ◌∙◌, subst, inl, inr, arith}
use Rattle.std.specs.FinMap.{get}
use Rattle.std.proofs.lemmas.Bool.{cases_lt}
use Rattle.tree_spec.specs.declared.Entry.{Entry}
use Rattle.tree_spec.specs.declared.Entry.TheVariants.{Stored, Directory}
use Rattle.tree_spec.specs.declared.LimitName.TheVariants.{File}
use Rattle.import_map_spec.specs.ParsedMap.{ParsedMap, MapFault}
use Rattle.import_map_spec.proofs.OneMap.{one_map, some_map}
use Rattle.import_map_spec.specs.Parsing.{ParsesMap}
use Rattle.tree_spec.specs.Limits.{limit_number}
use Rattle.tree_spec.specs.Trees.{Tree}
use Rattle.tree_spec.proofs.OneLook.{same_stored}
use Rattle.page_spec.specs.declared.kinds.InjectFault.{InjectFault}
use Rattle.page_spec.specs.Injection as injection
use Rattle.page_spec.specs.Injection.{Injection, TakesMaps}
use Rattle.page_spec.specs.Laws.{AreKeptOut}
use Rattle.page_spec.proofs.Injections.{one_injection, ok_same}
use Rattle.page_spec.proofs.KeptOut.{takes_or_keeps_out}
use Rattle.fewest_spec.specs.Wishes.{HasTooManyChoices}
use Rattle.trace_spec.specs.declared.TraceFault.{TraceFault}
use Rattle.trace_spec.specs.Modules.{Config, web_name}
use Rattle.trace_spec.specs.Walking.{the_page}
use Rattle.trace_spec.specs.Checks.{Gathered}
use Rattle.trace_spec.specs.Traces.{traced}
use Rattle.config_spec.specs.declared.Command.{Command}
use Rattle.config_spec.specs.declared.Command.TheVariants.{Link, Unlink, Refresh, Inject, Check, CheckStrictly, Why, Vendor}
use Rattle.config_spec.specs.declared.Command.TheVariants.{List as Lists}
use Rattle.generator_spec.specs.declared.MapFileFault.{MapFileFault}
use Rattle.generator_spec.specs.declared.MapFileFault.TheVariants as map_file
use Rattle.generator_spec.specs.declared.PageFault.{PageFault}
use Rattle.generator_spec.specs.declared.PageFault.TheVariants.{Absent, TooLarge, KeepsMapsOut}
use Rattle.generator_spec.specs.declared.Refusal.{Refusal}
use Rattle.generator_spec.specs.declared.Refusal.TheVariants.{Page, MapFile}
use Rattle.generator_spec.specs.Commands.{IsPage, RefusesPage, map_path, map_file_limit, IsMapText, ReadsMap, HoldsMap, map_file_fault}
use Rattle.generator_spec.specs.Commands.{RefusesMapFile, RefusesMapFile as refuses_map, Opens, Refuses, NewFile, new_file, Writes}
use Rattle.generator_spec.specs.Commands.{IsChecking, IsChecking as checking, IsGenerating, IsMapping as mapping}
use Rattle.generator_spec.specs.Commands.{RefusesPage as refuses_page, Opens as opens, Refuses as refuses, Writes as writes}
use Rattle.generator_spec.specs.Checking.{SaysOfModules, SaysOfModules as says}
use Rattle.generator_spec.specs.Generation.{Generates, IsTooWide, IsTooLarge}
use Rattle.generator_spec.specs.Strictness.{AreSaid, IsNested}
use Rattle.generator_spec.proofs.Generations.{same_trace, nothing_refused}
use Rattle.generator_spec.proofs.Strictnesses.{checking_or_generating, none_nested, one_answers}

-- ---- pages

no_file : (found : Option Entry) (page : List ℕ) → (found ≡ None) ⊎ (found ≡ Some Directory) → found ≡ Some (Stored page) → ⊥
no_file found page (inl none) e = let f : None ≡ Some (Stored page) = sym none ∙ e in absurd (cc)
no_file found page (inr folder) e = let f : Some Directory ≡ Some (Stored page) = sym folder ∙ e in absurd (cc)

abbrev as_fault : InjectFault → Result (List ℕ) InjectFault
as_fault fault = Err fault

one_fault : (page other : List ℕ) (some more : InjectFault) → page ≡ other → injection.KeepsMapsOut page some → injection.KeepsMapsOut other more → some ≡ more
one_fault page other some more same keeps too =
    let e : as_fault some ≡ as_fault more = one_injection [] page (Err some) (Err more) (keeps []) (subst (λ p. injection.KeepsMapsOut p more) (sym same) too []) in
    cc

-- a page with a new page doesn't keep each map out
no_way_in : (text page other new : List ℕ) (fault : InjectFault) → page ≡ other → injection.KeepsMapsOut page fault → Injection text other (Ok new) → ⊥
no_way_in text page other new fault same keeps i =
    let e : Err fault ≡ Ok new = one_injection text page (Err fault) (Ok new) (keeps text) (subst (λ p. Injection text p (Ok new)) (sym same) i) in
    absurd (cc)

abbrev as_reading : MapFault → Result ParsedMap MapFault
as_reading fault = Err fault

abbrev as_map : ParsedMap → Result ParsedMap MapFault
as_map map = Ok map

module _ (tree : Tree) (config : Config) where
  abbrev found : Option Entry
  found = get tree config.page

  small_or_large : (page other : List ℕ) → IsPage tree config page → found ≡ Some (Stored other) → limit_number File < length other → ⊥
  small_or_large page other is e large =
      let same = same_stored is.stands e in
      let n : length page ≡ length other = ap length same in
      let small = is.small in
      absurd (omega (arith, small, large, n))

  one_page_fault : (some other : PageFault) → RefusesPage tree config some → RefusesPage tree config other → some ≡ other
  one_page_fault some other (refuses_page.absent e) (refuses_page.absent f) = refl
  one_page_fault some other (refuses_page.absent e) (refuses_page.folder f) = refl
  one_page_fault some other (refuses_page.folder e) (refuses_page.absent f) = refl
  one_page_fault some other (refuses_page.folder e) (refuses_page.folder f) = refl
  one_page_fault some other (refuses_page.absent e) (refuses_page.too_large page f large) = absurd (no_file found page (inl e) f)
  one_page_fault some other (refuses_page.folder e) (refuses_page.too_large page f large) = absurd (no_file found page (inr e) f)
  one_page_fault some other (refuses_page.absent e) (refuses_page.keeps_out page fault is keeps) = absurd (no_file found page (inl e) is.stands)
  one_page_fault some other (refuses_page.folder e) (refuses_page.keeps_out page fault is keeps) = absurd (no_file found page (inr e) is.stands)
  one_page_fault some other (refuses_page.too_large page f large) (refuses_page.absent e) = absurd (no_file found page (inl e) f)
  one_page_fault some other (refuses_page.too_large page f large) (refuses_page.folder e) = absurd (no_file found page (inr e) f)
  one_page_fault some other (refuses_page.too_large page f large) (refuses_page.too_large page_too g large_too) = refl
  one_page_fault some other (refuses_page.too_large page f large) (refuses_page.keeps_out page_too fault is keeps) = absurd (small_or_large page_too page is f large)
  one_page_fault some other (refuses_page.keeps_out page fault is keeps) (refuses_page.absent e) = absurd (no_file found page (inl e) is.stands)
  one_page_fault some other (refuses_page.keeps_out page fault is keeps) (refuses_page.folder e) = absurd (no_file found page (inr e) is.stands)
  one_page_fault some other (refuses_page.keeps_out page fault is keeps) (refuses_page.too_large page_too f large) = absurd (small_or_large page page_too is f large)
  one_page_fault some other (refuses_page.keeps_out page fault is keeps) (refuses_page.keeps_out page_too fault_too is_too keeps_too) =
      ap KeepsMapsOut (one_fault page page_too fault fault_too (same_stored is.stands is_too.stands) keeps keeps_too)

  -- a page that is refused takes no map
  refused_takes_none : (fault : PageFault) (text page new : List ℕ) → RefusesPage tree config fault → IsPage tree config page → Injection text page (Ok new) → ⊥
  refused_takes_none fault text page new (refuses_page.absent e) is i = no_file found page (inl e) is.stands
  refused_takes_none fault text page new (refuses_page.folder e) is i = no_file found page (inr e) is.stands
  refused_takes_none fault text page new (refuses_page.too_large other e large) is i = small_or_large page other is e large
  refused_takes_none fault text page new (refuses_page.keeps_out other reason is_too keeps) is i =
      no_way_in text other page new reason (same_stored is_too.stands is.stands) keeps i

  pub refused_or_opened : (fault : PageFault) → RefusesPage tree config fault → Opens tree config Inject → ⊥
  refused_or_opened fault refused (opens.nothing _ is) = elim is [ ]
  refused_or_opened fault refused (opens.has_map _ checks map holds) = elim checks [ ]
  refused_or_opened fault refused (opens.no_base _ checks text is nameless) = elim checks [ ]
  refused_or_opened fault refused (opens.page page is takes) = let put = takes [] in refused_takes_none fault [] page put.new refused is put.injection

  -- ---- the map's file

  abbrev map_found : Option Entry
  map_found = get tree map_path

  few_or_many : (text other : List ℕ) → IsMapText tree text → map_found ≡ Some (Stored other) → map_file_limit < length other → ⊥
  few_or_many text other is e large =
      let same = same_stored is.stands e in
      let n : length text ≡ length other = ap length same in
      let small = is.small in
      absurd (omega (arith, small, large, n))

  -- a text is read in one way
  one_reading : (text other : List ℕ) (some more : Result ParsedMap MapFault) → IsMapText tree text → IsMapText tree other → ReadsMap config text some → ReadsMap config other more → some ≡ more
  one_reading text other some more is too reads reads_too =
      let texts = same_stored is.stands too.stands in
      let bases : Some reads.base ≡ Some reads_too.base = sym reads.named ∙ reads_too.named in
      let base : reads_too.base ≡ reads.base = cc in
      one_map reads.base text some more reads.parses
      (subst (λ b. ParsesMap b text more) base (subst (λ t. ParsesMap reads_too.base t more) (sym texts) reads_too.parses))

  one_map_file_fault : (some other : MapFileFault) → RefusesMapFile tree config some → RefusesMapFile tree config other → some ≡ other
  one_map_file_fault some other (refuses_map.absent e s) (refuses_map.absent f t) = s ∙ sym t
  one_map_file_fault some other (refuses_map.absent e s) (refuses_map.folder f t) = s ∙ sym t
  one_map_file_fault some other (refuses_map.folder e s) (refuses_map.absent f t) = s ∙ sym t
  one_map_file_fault some other (refuses_map.folder e s) (refuses_map.folder f t) = s ∙ sym t
  one_map_file_fault some other (refuses_map.absent e s) (refuses_map.too_large text f large t) = absurd (no_file map_found text (inl e) f)
  one_map_file_fault some other (refuses_map.folder e s) (refuses_map.too_large text f large t) = absurd (no_file map_found text (inr e) f)
  one_map_file_fault some other (refuses_map.absent e s) (refuses_map.no_map text fault is reads t) = absurd (no_file map_found text (inl e) is.stands)
  one_map_file_fault some other (refuses_map.folder e s) (refuses_map.no_map text fault is reads t) = absurd (no_file map_found text (inr e) is.stands)
  one_map_file_fault some other (refuses_map.too_large text f large s) (refuses_map.absent e t) = absurd (no_file map_found text (inl e) f)
  one_map_file_fault some other (refuses_map.too_large text f large s) (refuses_map.folder e t) = absurd (no_file map_found text (inr e) f)
  one_map_file_fault some other (refuses_map.too_large text f large s) (refuses_map.too_large text_too g large_too t) = s ∙ sym t
  one_map_file_fault some other (refuses_map.too_large text f large s) (refuses_map.no_map text_too fault is reads t) = absurd (few_or_many text_too text is f large)
  one_map_file_fault some other (refuses_map.no_map text fault is reads s) (refuses_map.absent e t) = absurd (no_file map_found text (inl e) is.stands)
  one_map_file_fault some other (refuses_map.no_map text fault is reads s) (refuses_map.folder e t) = absurd (no_file map_found text (inr e) is.stands)
  one_map_file_fault some other (refuses_map.no_map text fault is reads s) (refuses_map.too_large text_too f large t) = absurd (few_or_many text text_too is f large)
  one_map_file_fault some other (refuses_map.no_map text fault is reads s) (refuses_map.no_map text_too fault_too is_too reads_too t) =
      let same : as_reading fault ≡ as_reading fault_too = one_reading text text_too (Err fault) (Err fault_too) is is_too reads reads_too in
      let faults : fault ≡ fault_too = cc in
      s ∙ (ap map_file_fault faults ∙ sym t)

  -- what is refused is no map
  no_map_text : (fault : MapFileFault) (text : List ℕ) (map : ParsedMap) → RefusesMapFile tree config fault → IsMapText tree text → ReadsMap config text (Ok map) → ⊥
  no_map_text fault text map (refuses_map.absent e s) is reads = no_file map_found text (inl e) is.stands
  no_map_text fault text map (refuses_map.folder e s) is reads = no_file map_found text (inr e) is.stands
  no_map_text fault text map (refuses_map.too_large other e large s) is reads = few_or_many text other is e large
  no_map_text fault text map (refuses_map.no_map other why is_too reads_too s) is reads =
      let same : Err why ≡ Ok map = one_reading other text (Err why) (Ok map) is_too is reads_too reads in
      absurd (cc)

  -- without a base nothing is read
  no_base_text : (fault : MapFileFault) (text : List ℕ) → RefusesMapFile tree config fault → IsMapText tree text → web_name config the_page ≡ None → ⊥
  no_base_text fault text (refuses_map.absent e s) is nameless = no_file map_found text (inl e) is.stands
  no_base_text fault text (refuses_map.folder e s) is nameless = no_file map_found text (inr e) is.stands
  no_base_text fault text (refuses_map.too_large other e large s) is nameless = few_or_many text other is e large
  no_base_text fault text (refuses_map.no_map other why is_too reads s) is nameless =
      let same : None ≡ Some reads.base = sym nameless ∙ reads.named in
      absurd (cc)

  pub map_refused_or_opened : (command : Command) (fault : MapFileFault) → IsChecking command → RefusesMapFile tree config fault → Opens tree config command → ⊥
  map_refused_or_opened command fault checking.plainly refused (opens.nothing _ is) = elim is [ ]
  map_refused_or_opened command fault checking.plainly refused (opens.has_map _ checks map holds) = no_map_text fault holds.text map refused holds.stands holds.reads
  map_refused_or_opened command fault checking.plainly refused (opens.no_base _ checks text is nameless) = no_base_text fault text refused is nameless
  map_refused_or_opened command fault checking.strictly refused (opens.nothing _ is) = elim is [ ]
  map_refused_or_opened command fault checking.strictly refused (opens.has_map _ checks map holds) = no_map_text fault holds.text map refused holds.stands holds.reads
  map_refused_or_opened command fault checking.strictly refused (opens.no_base _ checks text is nameless) = no_base_text fault text refused is nameless

  -- a map's file is read as one map
  pub one_held : (map other : ParsedMap) → HoldsMap tree config map → HoldsMap tree config other → map ≡ other
  one_held map other holds too =
      let same : as_map map ≡ as_map other = one_reading holds.text too.text (Ok map) (Ok other) holds.stands too.stands holds.reads too.reads in
      cc

  refused_or_traced : (fault : TraceFault) → IsTooLarge tree config → traced (get tree) config ≡ Err fault → ⊥
  refused_or_traced fault large e =
      let traces : traced (get tree) config ≡ Ok large.all = large.is_traced in
      let both : Ok large.all ≡ Err fault = sym traces ∙ e in
      absurd (cc)

  wide_or_traced : (fault : TraceFault) → IsTooWide tree config → traced (get tree) config ≡ Err fault → ⊥
  wide_or_traced fault wide e =
      let traces : traced (get tree) config ≡ Ok wide.all = wide.is_traced in
      let both : Ok wide.all ≡ Err fault = sym traces ∙ e in
      absurd (cc)

  traced_or_refused : (fault : TraceFault) (all : Gathered) → traced (get tree) config ≡ Ok all → traced (get tree) config ≡ Err fault → ⊥
  traced_or_refused fault all traces e =
      let both : Ok all ≡ Err fault = sym traces ∙ e in
      absurd (cc)

  wide_or_large : IsTooWide tree config → IsTooLarge tree config → ⊥
  wide_or_large wide large =
      large.few (subst (λ (g : Gathered). HasTooManyChoices g.needs) (same_trace (traced (get tree) config) wide.all large.all wide.is_traced large.is_traced) wide.many)

  pub one_refusal : (command : Command) (why because : Refusal) → Refuses tree config command why → Refuses tree config command because → why ≡ because
  one_refusal command why because (refuses.page fault is) (refuses.page other too) = ap Page (one_page_fault fault other is too)
  one_refusal command why because (refuses.page fault is) (refuses.trace same other opened e) = absurd (refused_or_opened fault is opened)
  one_refusal command why because (refuses.trace same fault opened e) (refuses.page other too) = absurd (refused_or_opened other too opened)
  one_refusal command why because (refuses.page fault is) (refuses.map_file _ other checks too) = elim checks [ ]
  one_refusal command why because (refuses.map_file _ other checks too) (refuses.page fault is) = elim checks [ ]
  one_refusal command why because (refuses.map_file same fault checks is) (refuses.map_file same_too other checks_too too) = ap MapFile (one_map_file_fault fault other is too)
  one_refusal command why because (refuses.map_file same fault checks is) (refuses.trace same_too other opened e) = absurd (map_refused_or_opened command fault checks is opened)
  one_refusal command why because (refuses.map_file same fault checks is) (refuses.large_map same_too generating opened large) = absurd (checking_or_generating command checks generating)
  one_refusal command why because (refuses.trace same fault opened e) (refuses.map_file same_too other checks too) = absurd (map_refused_or_opened command other checks too opened)
  one_refusal command why because (refuses.large_map same generating opened large) (refuses.map_file same_too other checks too) = absurd (checking_or_generating command checks generating)
  one_refusal command why because (refuses.map_file same fault checks is) (refuses.nested map all answers holds traces are deep) = absurd (no_map_text fault holds.text map is holds.stands holds.reads)
  one_refusal command why because (refuses.nested map all answers holds traces are deep) (refuses.map_file same fault checks is) = absurd (no_map_text fault holds.text map is holds.stands holds.reads)
  one_refusal command why because (refuses.trace same fault opened e) (refuses.nested map all answers holds traces are deep) = absurd (traced_or_refused fault all traces e)
  one_refusal command why because (refuses.nested map all answers holds traces are deep) (refuses.trace same fault opened e) = absurd (traced_or_refused fault all traces e)
  one_refusal command why because (refuses.many_choices same generating opened wide) (refuses.nested map all answers holds traces are deep) = absurd generating
  one_refusal command why because (refuses.nested map all answers holds traces are deep) (refuses.many_choices same generating opened wide) = absurd generating
  one_refusal command why because (refuses.large_map same generating opened large) (refuses.nested map all answers holds traces are deep) = absurd generating
  one_refusal command why because (refuses.nested map all answers holds traces are deep) (refuses.large_map same generating opened large) = absurd generating
  one_refusal command why because (refuses.nested map all answers holds traces are deep) (refuses.nested map_too all_too answers_too holds_too traces_too are_too deep_too) = refl
  one_refusal command why because (refuses.trace same fault opened e) (refuses.trace same_too other opened_too f) =
      let faults : ◌≡◌ {A = Result Gathered TraceFault} (Err fault) (Err other) = sym e ∙ f in
      cc
  one_refusal command why because (refuses.page fault is) (refuses.large_map same generating opened large) = absurd (refused_or_opened fault is opened)
  one_refusal command why because (refuses.large_map same generating opened large) (refuses.page other too) = absurd (refused_or_opened other too opened)
  one_refusal command why because (refuses.trace same fault opened e) (refuses.large_map same_too generating opened_too large) = absurd (refused_or_traced fault large e)
  one_refusal command why because (refuses.large_map same generating opened large) (refuses.trace same_too other opened_too f) = absurd (refused_or_traced other large f)
  one_refusal command why because (refuses.large_map same generating opened large) (refuses.large_map same_too generating_too opened_too large_too) = refl
  one_refusal command why because (refuses.page fault is) (refuses.many_choices same generating opened wide) = absurd (refused_or_opened fault is opened)
  one_refusal command why because (refuses.many_choices same generating opened wide) (refuses.page other too) = absurd (refused_or_opened other too opened)
  one_refusal command why because (refuses.map_file same fault checks is) (refuses.many_choices same_too generating opened wide) = absurd (checking_or_generating command checks generating)
  one_refusal command why because (refuses.many_choices same generating opened wide) (refuses.map_file same_too other checks too) = absurd (checking_or_generating command checks generating)
  one_refusal command why because (refuses.trace same fault opened e) (refuses.many_choices same_too generating_too opened_too wide) = absurd (wide_or_traced fault wide e)
  one_refusal command why because (refuses.many_choices same generating opened wide) (refuses.trace same_too other opened_too f) = absurd (wide_or_traced other wide f)
  one_refusal command why because (refuses.many_choices same generating opened wide) (refuses.large_map same_too generating_too opened_too large) = absurd (wide_or_large wide large)
  one_refusal command why because (refuses.large_map same generating opened large) (refuses.many_choices same_too generating_too opened_too wide) = absurd (wide_or_large wide large)
  one_refusal command why because (refuses.many_choices same generating opened wide) (refuses.many_choices same_too generating_too opened_too wide_too) = refl

  -- what is refused isn't done
  pub refused_or_opened_and_generated : (command : Command) (why : Refusal) (map : List ℕ) → IsGenerating command → Refuses tree config command why → Opens tree config command → Generates tree config map → ⊥
  refused_or_opened_and_generated command why map generated_so (refuses.page fault is) opened generates = refused_or_opened fault is opened
  refused_or_opened_and_generated command why map generated_so (refuses.map_file same fault checks is) opened generates = map_refused_or_opened command fault checks is opened
  refused_or_opened_and_generated command why map generated_so (refuses.trace same fault before e) opened generates = (nothing_refused tree config map generates).0 fault e
  refused_or_opened_and_generated command why map generated_so (refuses.many_choices same generating before wide) opened generates = (nothing_refused tree config map generates).1 wide
  refused_or_opened_and_generated command why map generated_so (refuses.large_map same generating before large) opened generates = (nothing_refused tree config map generates).2 large
  refused_or_opened_and_generated command why map generated_so (refuses.nested held all answers holds traces are deep) opened generates = generated_so

  pub refused_or_checked : (command : Command) (why : Refusal) (map : ParsedMap) (all : Gathered) (strict : List (List ℕ)) → SaysOfModules all command strict → Refuses tree config command why → HoldsMap tree config map → traced (get tree) config ≡ Ok all → ⊥
  refused_or_checked command why map all strict says.unasked (refuses.map_file same fault checks is) holds traces = no_map_text fault holds.text map is holds.stands holds.reads
  refused_or_checked command why map all strict says.unasked (refuses.trace same fault before e) holds traces = traced_or_refused fault all traces e
  refused_or_checked command why map all strict says.unasked (refuses.many_choices same generating before wide) holds traces = generating
  refused_or_checked command why map all strict says.unasked (refuses.large_map same generating before large) holds traces = generating
  refused_or_checked command why map all strict (says.strictly answers lines are lines_are) (refuses.map_file same fault checks is) holds traces = no_map_text fault holds.text map is holds.stands holds.reads
  refused_or_checked command why map all strict (says.strictly answers lines are lines_are) (refuses.trace same fault before e) holds traces = traced_or_refused fault all traces e
  refused_or_checked command why map all strict (says.strictly answers lines are lines_are) (refuses.many_choices same generating before wide) holds traces = generating
  refused_or_checked command why map all strict (says.strictly answers lines are lines_are) (refuses.large_map same generating before large) holds traces = generating
  refused_or_checked command why map all strict (says.strictly answers lines are lines_are) (refuses.nested map_too all_too answers_too holds_too traces_too are_too deep) holds traces =
      let same = same_trace (traced (get tree) config) all_too all traces_too traces in
      let answers_same = one_answers all.sources answers_too answers (subst (λ (g : Gathered). AreSaid g.sources answers_too) same are_too) are in
      none_nested all.modules answers lines lines_are (subst IsNested answers_same deep)

  pub refused_or_listed : (why : Refusal) (all : Gathered) → Refuses tree config Lists why → traced (get tree) config ≡ Ok all → ⊥
  refused_or_listed why all (refuses.map_file _ fault checks is) traces = elim checks [ ]
  refused_or_listed why all (refuses.trace same fault before e) traces =
      let both : Ok all ≡ Err fault = sym traces ∙ e in
      absurd (cc)
  refused_or_listed why all (refuses.many_choices same generating before wide) traces = generating
  refused_or_listed why all (refuses.large_map same generating before large) traces = generating

  pub refused_or_explained : (why : Refusal) (all : Gathered) → Refuses tree config Why why → traced (get tree) config ≡ Ok all → ⊥
  refused_or_explained why all (refuses.map_file _ fault checks is) traces = elim checks [ ]
  refused_or_explained why all (refuses.trace same fault before e) traces =
      let both : Ok all ≡ Err fault = sym traces ∙ e in
      absurd (cc)
  refused_or_explained why all (refuses.many_choices same generating before wide) traces = generating
  refused_or_explained why all (refuses.large_map same generating before large) traces = generating

  -- a command that writes was opened
  pub written_is_opened : (map : List ℕ) (files : List NewFile) (command : Command) → Writes tree config map command files → Opens tree config command
  written_is_opened map files command writes.linked = opens.nothing Link mapping.link
  written_is_opened map files command writes.unlinked = opens.nothing Unlink mapping.unlink
  written_is_opened map files command writes.refreshed = opens.nothing Refresh mapping.refresh
  written_is_opened map files command (writes.in_page page new is i) = opens.page page is (by (takes_or_keeps_out.either page))
    where
      by : TakesMaps page ⊎ AreKeptOut page → TakesMaps page
      by (inl takes) = takes
      by (inr out) = absurd (no_way_in map page page new out.fault refl out.keeps i)

  -- ---- what a command needs, or a refusal of that

  pub record Refused (command : Command) : Type 0 where
    pub why : Refusal
    pub refuses : Refuses tree config command why

  by_page : (page : List ℕ) → IsPage tree config page → Opens tree config Inject ⊎ Refused Inject
  by_page page is =
      elim (takes_or_keeps_out.either page) [
        | inl takes ↦ inl (opens.page page is takes)
        | inr out ↦ inr (record { why = Page (KeepsMapsOut out.fault); refuses = refuses.page (KeepsMapsOut out.fault) (refuses_page.keeps_out page out.fault is out.keeps) })
      ]

  by_entry : (entry : Option Entry) → found ≡ entry → Opens tree config Inject ⊎ Refused Inject
  by_entry None e = inr (record { why = Page Absent; refuses = refuses.page Absent (refuses_page.absent e) })
  by_entry (Some Directory) e = inr (record { why = Page Absent; refuses = refuses.page Absent (refuses_page.folder e) })
  by_entry (Some (Stored page)) e =
      elim (cases_lt (limit_number File) (length page)) [
        | inl large ↦ inr (record { why = Page TooLarge; refuses = refuses.page TooLarge (refuses_page.too_large page e large) })
        | inr small ↦ by_page page (record { stands = e; small = small })
      ]

  module _ (command : Command) (checks : IsChecking command) where
    map_refused : (fault : MapFileFault) → RefusesMapFile tree config fault → Refused command
    map_refused fault is = record { why = MapFile fault; refuses = refuses.map_file command fault checks is }

    by_outcome : (text base : List ℕ) → IsMapText tree text → web_name config the_page ≡ Some base → (out : Result ParsedMap MapFault) → ParsesMap base text out → Opens tree config command ⊎ Refused command
    by_outcome text base is named (Ok map) parses =
        inl (opens.has_map command checks map (record { text = text; stands = is; reads = record { base = base; named = named; parses = parses } }))
    by_outcome text base is named (Err fault) parses =
        inr (map_refused (map_file_fault fault) (refuses_map.no_map text fault is (record { base = base; named = named; parses = parses }) refl))

    by_name : (text : List ℕ) → IsMapText tree text → (name : Option (List ℕ)) → web_name config the_page ≡ name → Opens tree config command ⊎ Refused command
    by_name text is None nameless = inl (opens.no_base command checks text is nameless)
    by_name text is (Some base) named = let read = some_map base text in by_outcome text base is named read.0 read.1

    by_map_entry : (entry : Option Entry) → map_found ≡ entry → Opens tree config command ⊎ Refused command
    by_map_entry None e = inr (map_refused map_file.Absent (refuses_map.absent e refl))
    by_map_entry (Some Directory) e = inr (map_refused map_file.Absent (refuses_map.folder e refl))
    by_map_entry (Some (Stored text)) e =
        elim (cases_lt map_file_limit (length text)) [
          | inl large ↦ inr (map_refused map_file.TooLarge (refuses_map.too_large text e large refl))
          | inr small ↦ by_name text (record { stands = e; small = small }) (web_name config the_page) refl
        ]

  pub opened_or_refused : (command : Command) → Opens tree config command ⊎ Refused command
  opened_or_refused Link = inl (opens.nothing Link mapping.link)
  opened_or_refused Unlink = inl (opens.nothing Unlink mapping.unlink)
  opened_or_refused Refresh = inl (opens.nothing Refresh mapping.refresh)
  opened_or_refused Inject = by_entry found refl
  opened_or_refused Check = by_map_entry Check checking.plainly map_found refl
  opened_or_refused CheckStrictly = by_map_entry CheckStrictly checking.strictly map_found refl
  opened_or_refused Lists = inl opens.no_file
  opened_or_refused Why = inl opens.no_other_file
  opened_or_refused Vendor = inl opens.nothing_first

-- ---- what is written

one_page : (map page other new another : List ℕ) → page ≡ other → Injection map page (Ok new) → Injection map other (Ok another) → new ≡ another
one_page map page other new another same i j =
    ok_same (one_injection map page (Ok new) (Ok another) i (subst (λ p. Injection map p (Ok another)) (sym same) j))

pub one_write : (tree : Tree) (config : Config) (map : List ℕ) (command : Command) (files others : List NewFile) → Writes tree config map command files → Writes tree config map command others → files ≡ others
one_write tree config map command files others writes.linked writes.linked = refl
one_write tree config map command files others writes.unlinked writes.unlinked = refl
one_write tree config map command files others writes.refreshed writes.refreshed = refl
one_write tree config map command files others (writes.in_page page new is i) (writes.in_page page_too new_too is_too j) =
    ap (λ bytes. new_file config.page bytes ∷ [])
    (one_page map page page_too new new_too (same_stored is.stands is_too.stands) i j)
