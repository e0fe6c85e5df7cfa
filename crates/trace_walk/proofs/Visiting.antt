-- Visits, and the walk over the table of modules.
use Rattle.std.proofs.Common.{◌≡◌, ◌≢◌, ◌≤◌, ◌<◌, ◌+◌, ◌-◌, ℕ, zero, suc, List, [], ◌∷◌, ◌++◌, length, length-append, Option, Some, None, Result, Ok, Err, refl, sym, ap, ◌∙◌, subst, arith}
use Rattle.std.specs.Prelude.{slice_get, map, All}
use Rattle.std.specs.Map.{keys_of}
use Rattle.std.specs.Result.{IsErrAnd}
use Rattle.std.proofs.lemmas.List.{map-append, length-map}
use Rattle.std.proofs.lemmas.List.Elements.{All-nil, All-head, All-tail, All-push}
use Rattle.std.proofs.lemmas.Option.{slice_get_past}
use Rattle.asking_spec.specs.Askings.{Asking, answered, ask, on_ok, and_ok}
use Rattle.layout_spec.specs.Needs.{NoClash}
use Rattle.layout_spec.proofs.Contained.{contains_none}
use Rattle.trace_spec.specs.declared.TraceFault.{TraceFault}
use Rattle.trace_spec.specs.declared.TraceFault.TheVariants as refused
use Rattle.trace_spec.specs.declared.TraceFault.TheVariants.{ReadFault, Memory}
use Rattle.trace_spec.specs.Walking.{the_page, a_module, Opened, followed, visited, walked, where_some}
use Rattle.trace_spec.specs.Modules.{Config, Module, served_at}
use Rattle.trace_spec.specs.Questions as spec
use Rattle.trace_spec.specs.Questions.{Question, Answer, of_module}
use Rattle.trace_spec.specs.Checks.{Gathered, nothing_gathered, page_opened, with_source, module_opened, rules}
use Rattle.trace_spec.specs.Traces.{trace}
use Rattle.trace_spec.proofs.Steps.{file_name_parts}
use Rattle.module_sources.specs.declared.source.Source.{Source}
use Rattle.trace_walk.specs.declared.referrer.Referrer.{Referrer}
use Rattle.trace_walk.specs.declared.tables.Name.{Name}
use Rattle.trace_walk.specs.declared.tables.Tables.{Tables}
use Rattle.trace_walk.specs.Meeting.{AnswererState, fine, Met}
use Rattle.module_sources.specs.declared.source.NoSource.{NoSource}
use Rattle.module_sources.specs.declared.source.NoSource.TheVariants.{NotModule, Above}
use Rattle.module_sources.specs.Shown.{AreInside, IsRead, source_of, no_source_of}
use Rattle.trace_walk.specs.Shown.{module_at, before_of, done}
use Rattle.trace_walk.specs.Refusing.{no_source_fault}
use Rattle.trace_walk.specs.Walking.{IsReferrer, IsNamed, AllNamed, AllInside, AllRead, AreBeside, AreEmpty, AreOfUrls, module_requests, IsGiven, Grows, IsWhole, IsUnserved}
use Rattle.trace_walk.proofs.TableLemmas.{keys_of-length}
use Rattle.trace_walk.proofs.FaultKinds.{handed}
use Rattle.trace_walk.proofs.Meetings.{met_then, met_failed, met_lost, met_now, Left}

-- ---- how the tables grow

-- as many targets as places of targets
pub targets_counted : (tables : Tables) (count : ℕ) → count ≡ length tables.targets.items → length (before_of tables).targets ≡ count
targets_counted tables count is = length-map tables.targets.items (module_at (keys_of tables.modules.entries)) ∙ sym is

pub grows_begin : (config : Config) (tables : Tables) → AreBeside tables → Grows config 0 tables tables
grows_begin config tables beside = record { named = λ all. all; few = λ few. few; longer = omega arith; sources = omega arith; requests = λ few. few; beside = beside; clear = λ clear. clear }

pub grows_on : (config : Config) (some others : ℕ) (old middle new : Tables) → Grows config some old middle → Grows config others middle new → Grows config (some + others) old new
grows_on config some others old middle new one two = record {
  named = λ all. two.named (one.named all);
  few = λ few. two.few (one.few few);
  longer = (let a = one.longer in let b = two.longer in omega arith);
  sources = (let a = one.sources in let b = two.sources in omega arith);
  requests = λ few. two.requests (one.requests few);
  beside = two.beside;
  clear = λ clear. two.clear (one.clear clear);
}

-- a visit puts its source into the tables first
pub grows_by_visit : (config : Config) (tables pushed new : Tables) (source : Source) → pushed.modules ≡ tables.modules → pushed.sources.items ≡ tables.sources.items ++ source ∷ [] → pushed.needs ≡ tables.needs → pushed.targets ≡ tables.targets
    → Grows config 0 pushed new → Grows config 1 tables new
grows_by_visit config tables pushed new source modules sources needs targets grows =
    let count : length pushed.sources.items ≡ length tables.sources.items + 1 = ap length sources ∙ length-append tables.sources.items (source ∷ []) in
    let same : length pushed.modules.entries ≡ length tables.modules.entries = ap (λ ms. length ms.entries) modules in
    record {
      named = λ all. grows.named (subst (λ ms. AllNamed config ms.entries) (sym modules) all);
      few = λ few. grows.few (omega (arith, same, few));
      longer = (let a = grows.longer in omega (arith, same, a));
      sources = (let a = grows.sources in omega (arith, count, a));
      requests = λ few. grows.requests (let same = ap (λ ts. length ts.items) targets in omega (arith, same, few));
      beside = grows.beside;
      clear = λ clear. grows.clear (subst NoClash (sym needs) clear);
    }

pub beside_pushed : (tables pushed : Tables) (source : Source) → pushed.modules ≡ tables.modules → pushed.sources.items ≡ tables.sources.items ++ source ∷ [] → pushed.needs ≡ tables.needs → pushed.spellings ≡ tables.spellings
    → pushed.targets ≡ tables.targets → AreInside source.bytes.value source.requests.value × IsRead source.bytes.value → AreBeside tables → AreBeside pushed
beside_pushed tables pushed source modules sources needs spellings targets inside beside = record {
  spelled = ap (λ ss. length ss.items) spellings ∙ (beside.spelled ∙ sym (ap length needs));
  placed = subst (λ ms. All (λ place. place < length ms.entries) pushed.targets.items) (sym modules)
      (subst (λ ts. All (λ place. place < length tables.modules.entries) ts.items) (sym targets) beside.placed);
  inside = subst AllInside (sym sources)
      (All-push (λ (s : Source). AreInside s.bytes.value s.requests.value) tables.sources.items source beside.inside inside.0);
  read = subst (λ ss. AllRead (map source_of ss)) (sym sources)
      (subst AllRead (sym (map-append source_of tables.sources.items (source ∷ [])))
      (All-push (λ (s : spec.Source). IsRead s.bytes) (map source_of tables.sources.items) (source_of source) beside.read inside.1));
}

pub nothing_beside : (tables : Tables) → AreEmpty tables → AreBeside tables
nothing_beside tables empty = record {
  spelled = ap length empty.spellings ∙ sym (ap length empty.needs);
  placed = subst (All (λ place. place < length tables.modules.entries)) (sym empty.targets) (All-nil (λ place. place < length tables.modules.entries));
  inside = subst AllInside (sym empty.sources) (All-nil (λ (s : Source). AreInside s.bytes.value s.requests.value));
  read = subst (λ ss. AllRead (map source_of ss)) (sym empty.sources) (All-nil (λ (s : spec.Source). IsRead s.bytes));
}

-- the tables behind the page's visit and those of all modules
pub whole_by : (config : Config) (empty paged tables : Tables) → empty.modules.entries ≡ [] → empty.sources.items ≡ [] → empty.needs ≡ [] → empty.targets.items ≡ []
    → Grows config 0 empty paged → Grows config (length tables.modules.entries) paged tables → AreOfUrls tables.needs → module_requests (before_of tables).sources ≤ length tables.targets.items → IsWhole (before_of tables)
whole_by config empty paged tables modules sources needs targets page all urls counted =
    let none : length empty.modules.entries ≡ 0 = ap length modules in
    let unread : length empty.sources.items ≡ 0 = ap length sources in
    let keys = keys_of-length tables.modules.entries in
    let reads = length-map tables.sources.items source_of in
    record {
      visited = (let a = page.sources in let b = all.sources in omega (arith, unread, keys, reads, a, b));
      few = (let few = all.few (page.few (omega (arith, none))) in omega (arith, few, keys));
      few_requests = (let few = all.requests (page.requests (let none = ap length targets in omega (arith, none))) in let same = length-map tables.targets.items (module_at (keys_of tables.modules.entries)) in omega (arith, few, same));
      counted = (let same = length-map tables.targets.items (module_at (keys_of tables.modules.entries)) in omega (arith, counted, same));
      read = all.beside.read;
      spelled = all.beside.spelled;
      clear = all.clear (page.clear (subst NoClash (sym needs) (λ one other c d. absurd (contains_none one c))));
      urls = urls;
    }

-- ---- the page's visit

pub page_done : (before after : AnswererState) (config : Config) (tables : Gathered) (url : List ℕ) (result : Result Gathered TraceFault) → served_at config the_page ≡ Some url
    → Met before (followed (rules config) tables the_page config.entries) result after → Met before (visited (rules config) tables the_page) result after
page_done before after config tables url result served met =
    subst (λ o. Met before (on_ok (λ opened. followed (rules config) opened.after the_page opened.specifiers) (page_opened config tables o)) result after) (sym served) met

page_lost : (config : Config) (tables : Gathered) (fault : TraceFault) → (fault ≢ Memory → IsUnserved config config.page [] fault) → IsGiven {X = Opened Gathered} (page_opened config tables (served_at config the_page)) (Err fault)
page_lost config tables fault unserved = record {
  given = λ ne. (let is = unserved (λ e. ne (ap Err e)) in ap (page_opened config tables) is.lost ∙ ap Err (sym is.is));
  no_look = λ e. (let f : fault ≡ ReadFault = cc in let g = (unserved (λ h. (let k : ReadFault ≡ Memory = sym f ∙ h in cc))).is in let k = sym f ∙ g in cc);
}

-- the page isn't served
pub page_refused : (before : AnswererState) (config : Config) (tables : Gathered) (fault : TraceFault) (result : Result (Unit {0}) TraceFault) (code : Tables) → IsErrAnd result (λ f. f ≡ fault) → (fault ≢ Memory → IsUnserved config config.page [] fault)
    → Met before (visited (rules config) tables the_page) (done result code) before
page_refused before config tables fault result code is unserved =
    subst (λ v. Met before (visited (rules config) tables the_page) (done v code) before) (sym (handed result fault is))
    (met_failed before before (answered (page_opened config tables (served_at config the_page))) (λ opened. followed (rules config) opened.after the_page opened.specifiers) fault
    (met_now before (page_opened config tables (served_at config the_page)) (Err fault) (page_lost config tables fault unserved)))

-- ---- a module's visit

abbrev behind : Config → Gathered → Module → Result spec.Source spec.NoSource → Asking Question Answer (Result Gathered TraceFault)
behind config before m found = on_ok (λ opened. followed (rules config) opened.after (a_module m) opened.specifiers) (module_opened config before m found)

pub pushed_source : (tables pushed : Tables) (source : Source) → pushed.modules ≡ tables.modules → pushed.sources.items ≡ tables.sources.items ++ source ∷ [] → pushed.needs ≡ tables.needs → pushed.spellings ≡ tables.spellings → pushed.targets ≡ tables.targets
    → before_of pushed ≡ with_source (before_of tables) (source_of source)
pushed_source tables pushed source modules sources needs spellings targets =
    λ i. record {
      modules = keys_of (modules i).entries;
      sources = (ap (map source_of) sources ∙ map-append source_of tables.sources.items (source ∷ [])) i;
      needs = needs i;
      spellings = (spellings i).items;
      targets = map (module_at (keys_of (modules i).entries)) (targets i).items;
    }

-- there is no answer
pub visit_failed : (before after : AnswererState) (config : Config) (tables : Gathered) (m : Module) (path : List ℕ) (fault : TraceFault) (result : Result (Unit {0}) TraceFault) (code : Tables) → m.path ≡ path → IsErrAnd result (λ f. f ≡ fault)
    → Met {X = Result spec.Source spec.NoSource} before (fine (ask (of_module path) answered)) (Err fault) after → Met before (visited (rules config) tables (a_module m)) (done result code) after
visit_failed before after config tables m path fault result code at is first =
    subst (λ v. Met before (visited (rules config) tables (a_module m)) (done v code) after) (sym (handed result fault is))
    (met_failed before after (fine (ask (of_module m.path) answered)) (behind config tables m) fault (subst (λ p. Met {X = Result spec.Source spec.NoSource} before (fine (ask (of_module p) answered)) (Err fault) after) (sym at) first))

-- memory was wanting behind the answer
pub visit_lost : (before after : AnswererState) (config : Config) (tables : Gathered) (m : Module) (path : List ℕ) (found : Result spec.Source spec.NoSource) (result : Result (Unit {0}) TraceFault) (code : Tables) → m.path ≡ path → IsErrAnd result (λ f. f ≡ Memory)
    → Met {X = Result spec.Source spec.NoSource} before (fine (ask (of_module path) answered)) (Ok found) after → Met before (visited (rules config) tables (a_module m)) (done result code) after
visit_lost before after config tables m path found result code at is first =
    subst (λ v. Met before (visited (rules config) tables (a_module m)) (done v code) after) (sym (handed result Memory is))
    (met_lost before after (fine (ask (of_module m.path) answered)) (behind config tables m) found (subst (λ p. Met {X = Result spec.Source spec.NoSource} before (fine (ask (of_module p) answered)) (Ok found) after) (sym at) first))

sourceless : (config : Config) (tables : Gathered) (m : Module) (why : NoSource) (text : List ℕ) → text ≡ m.path ++ m.suffix → module_opened config tables m (Err (no_source_of why)) ≡ Err (no_source_fault text why)
sourceless config tables m (NotModule reason) text is = ap (λ shown. Err (refused.NotModule shown reason)) (sym is)
sourceless config tables m (Above which) text is = refl

not_read : (text : List ℕ) (why : NoSource) → no_source_fault text why ≢ ReadFault
not_read text (NotModule reason) e = cc
not_read text (Above which) e = cc

-- it has no source
pub visit_sourceless : (before after : AnswererState) (config : Config) (tables : Gathered) (m : Module) (path shown : List ℕ) (why : NoSource) (fault : TraceFault) → m.path ≡ path → m.path ++ m.suffix ≡ shown → fault ≡ no_source_fault shown why
    → Met {X = Result spec.Source spec.NoSource} before (fine (ask (of_module path) answered)) (Ok (Err (no_source_of why))) after → Met {X = Gathered} before (visited (rules config) tables (a_module m)) (Err fault) after
visit_sourceless before after config tables m path shown why fault at shows is first =
    met_then before after after (fine (ask (of_module m.path) answered)) (behind config tables m) (Err (no_source_of why)) (Err fault)
    (subst (λ p. Met {X = Result spec.Source spec.NoSource} before (fine (ask (of_module p) answered)) (Ok (Err (no_source_of why))) after) (sym at) first)
    (subst (λ opened. Met {X = Gathered} after (on_ok (λ opened. followed (rules config) opened.after (a_module m) opened.specifiers) opened) (Err fault) after) (sym (sourceless config tables m why shown (sym shows)))
    (met_now after (Err (no_source_fault shown why)) (Err fault) (record { given = λ ne. ap Err (sym is); no_look = λ e. (let f : fault ≡ ReadFault = cc in not_read shown why (sym is ∙ f)) })))

pub visit_done : (before middle after : AnswererState) (config : Config) (tables : Gathered) (opened : Gathered) (m : Module) (path : List ℕ) (source : spec.Source) (specifiers : List (List ℕ)) (result : Result Gathered TraceFault) → m.path ≡ path
    → opened ≡ with_source tables source → specifiers ≡ source.specifiers → Met {X = Result spec.Source spec.NoSource} before (fine (ask (of_module path) answered)) (Ok (Ok source)) middle → Met middle (followed (rules config) opened (a_module m) specifiers) result after
    → Met before (visited (rules config) tables (a_module m)) result after
visit_done before middle after config tables opened m path source specifiers result is opens reads first rest =
    met_then before middle after (fine (ask (of_module m.path) answered)) (behind config tables m) (Ok source) result
    (subst (λ p. Met {X = Result spec.Source spec.NoSource} before (fine (ask (of_module p) answered)) (Ok (Ok source)) middle) (sym is) first)
    (subst (λ o. Met middle (followed (rules config) o (a_module m) source.specifiers) result after) opens (subst (λ s. Met middle (followed (rules config) opened (a_module m) s) result after) reads rest))

-- ---- the module at a place of the table

pub at_place : (config : Config) (entries : List (Module × Name)) (place : ℕ) (m : Module) (entry : Module × Name) → slice_get (keys_of entries) place ≡ Some m → slice_get entries place ≡ Some entry → AllNamed config entries → (m ≡ entry.0) × IsNamed config entry.0 entry.1
at_place config [] place m entry e f all = absurd (cc)
at_place config (other ∷ entries) zero m entry e f all =
    let same : other ≡ entry = cc in
    ((let g : Some other.0 ≡ Some m = e in let h : other.0 ≡ m = cc in sym h ∙ ap (λ (x : Module × Name). x.0) same), subst (λ (x : Module × Name). IsNamed config x.0 x.1) same (All-head (λ (x : Module × Name). IsNamed config x.0 x.1) other entries all))
at_place config (other ∷ entries) (suc place) m entry e f all = at_place config entries place m entry e f (All-tail (λ (x : Module × Name). IsNamed config x.0 x.1) other entries all)

pub is_referrer : (config : Config) (entries : List (Module × Name)) (place : ℕ) (m : Module) (entry : Module × Name) (referrer : Referrer) → slice_get (keys_of entries) place ≡ Some m → slice_get entries place ≡ Some entry → AllNamed config entries
    → referrer.name ≡ entry.1.url → referrer.text ≡ entry.1.text → referrer.path ≡ entry.0.path → referrer.shown ≡ entry.0.path ++ entry.0.suffix → IsReferrer config (a_module m) referrer
is_referrer config entries place m entry referrer e f all name text path shown =
    let at = at_place config entries place m entry e f all in
    let parts = file_name_parts config entry.0 entry.1.url at.1.is in
    subst (λ (x : Module). IsReferrer config (a_module x) referrer) (sym at.0)
    (record {
      named = parts.servable.name ∙ ap Some (sym name);
      text = text ∙ (at.1.text ∙ sym name);
      path = sym path;
      shown_so = sym shown;
    })

-- ---- the table's next place

pub at_index : {X : Type 0} (xs : List X) (i : ℕ) → i < length xs → (x : X) × (slice_get xs i ≡ Some x)
at_index [] i below = absurd (omega arith)
at_index (x ∷ xs) zero below = (x, refl)
at_index (x ∷ xs) (suc i) below = at_index xs i (omega arith)

abbrev from_place : Config → ℕ → Gathered → ℕ → Option Module → Asking Question Answer (Result Gathered TraceFault)
from_place config room before next found = where_some (answered (Ok before)) (λ m. and_ok (visited (rules config) before (a_module m)) (λ after. walked (rules config) room after (suc next))) found

place : (begin middle : AnswererState) (whole : Asking Question Answer (Result Gathered TraceFault)) (config : Config) (tables : Gathered) (next : ℕ) (found : Option Module) → next ≤ 20000 → slice_get tables.modules next ≡ found
    → Left begin whole middle (walked (rules config) (20001 - next) tables next) → Left begin whole middle (from_place config (20000 - next) tables next found)
place begin middle whole config tables next found few at left =
    let room : 20001 - next ≡ suc (20000 - next) = omega arith in
    subst (λ o. Left begin whole middle (from_place config (20000 - next) tables next o)) at (subst (λ n. Left begin whole middle (walked (rules config) n tables next)) room left)

pub next_visit : (begin middle : AnswererState) (whole : Asking Question Answer (Result Gathered TraceFault)) (config : Config) (tables : Gathered) (next : ℕ) (m : Module) → next ≤ 20000 → slice_get tables.modules next ≡ Some m
    → Left begin whole middle (walked (rules config) (20001 - next) tables next) → Left begin whole middle (and_ok (visited (rules config) tables (a_module m)) (λ after. walked (rules config) (20001 - (next + 1)) after (next + 1)))
next_visit begin middle whole config tables next m few at left =
    let rooms : 20000 - next ≡ 20001 - (next + 1) = omega arith in
    let places : suc next ≡ next + 1 = omega arith in
    subst (λ n. Left begin whole middle (and_ok (visited (rules config) tables (a_module m)) (λ after. walked (rules config) n after (next + 1)))) rooms
    (subst (λ n. Left begin whole middle (and_ok (visited (rules config) tables (a_module m)) (λ after. walked (rules config) (20000 - next) after n))) places (place begin middle whole config tables next (Some m) few at left))

pub no_visit : (begin middle : AnswererState) (whole : Asking Question Answer (Result Gathered TraceFault)) (config : Config) (tables : Gathered) (next : ℕ) → next ≤ 20000 → length tables.modules ≤ next
    → Left begin whole middle (walked (rules config) (20001 - next) tables next) → Left begin whole middle (answered (Ok tables))
no_visit begin middle whole config tables next few past left = place begin middle whole config tables next None few (slice_get_past tables.modules next past) left

-- ---- the whole walk

pub begun_is : (tables : Tables) → tables.modules.entries ≡ [] → tables.sources.items ≡ [] → tables.needs ≡ [] → tables.spellings.items ≡ [] → tables.targets.items ≡ [] → before_of tables ≡ nothing_gathered
begun_is tables modules sources needs spellings targets = λ i. record { modules = keys_of (modules i); sources = map source_of (sources i); needs = needs i; spellings = spellings i; targets = map (module_at (keys_of (modules i))) (targets i) }

pub walk_unpaged : (before after : AnswererState) (config : Config) (tables : Gathered) (fault : TraceFault) → tables ≡ nothing_gathered
    → Met {X = Gathered} before (visited (rules config) tables the_page) (Err fault) after → Met {X = Gathered} before (trace config) (Err fault) after
walk_unpaged before after config tables fault begins met =
    met_failed before after (visited (rules config) nothing_gathered the_page) (λ paged. walked (rules config) 20001 paged 0) fault (subst (λ t. Met {X = Gathered} before (visited (rules config) t the_page) (Err fault) after) begins met)

pub walk_paged : (before middle after : AnswererState) (config : Config) (tables paged : Gathered) (result : Result Gathered TraceFault) → tables ≡ nothing_gathered
    → Met before (visited (rules config) tables the_page) (Ok paged) middle → Met middle (walked (rules config) 20001 paged 0) result after → Met before (trace config) result after
walk_paged before middle after config tables paged result begins met rest =
    met_then before middle after (visited (rules config) nothing_gathered the_page) (λ all. walked (rules config) 20001 all 0) paged result (subst (λ t. Met before (visited (rules config) t the_page) (Ok paged) middle) begins met) rest
