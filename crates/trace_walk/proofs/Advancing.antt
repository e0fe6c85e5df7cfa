-- Parts of the walk, and the one behind the other.
use Rattle.std.proofs.Common.{◌≡◌, ◌≤◌, ◌<◌, ◌+◌, ◌++◌, ◌∷◌, [], ℕ, List, length, Result, Ok, Err, sym, ap, subst, arith, length-append, append-nil, ◌∙◌}
use Rattle.std.specs.Prelude.{map, flat_map, OnOk}
use Rattle.std.proofs.lemmas.List.{map-append}
use Rattle.std.proofs.lemmas.Grind.{flat_map-append}
use Rattle.std.specs.Result.{IsErrAnd}
use Rattle.tree_spec.specs.declared.LimitName.TheVariants.{Modules, Requests}
use Rattle.tree_spec.specs.Limits.{limit_number}
use Rattle.url_spec.specs.Parsing.{IsUrl}
use Rattle.trace_spec.specs.declared.TraceFault.{TraceFault}
use Rattle.trace_spec.specs.Modules.{Config}
use Rattle.trace_spec.specs.Questions as spec
use Rattle.module_sources.specs.declared.source.Source.{Source}
use Rattle.module_sources.specs.Shown.{source_of}
use Rattle.trace_walk.specs.declared.tables.Tables.{Tables}
use Rattle.trace_walk.specs.Kinds.{IsOfWalk}
use Rattle.trace_walk.specs.Shown.{before_of}
use Rattle.trace_walk.specs.Putting.{Puts}
use Rattle.trace_walk.specs.Walked.{IsWalked}
use Rattle.trace_walk.specs.Walking.{AreBeside, AreOfUrls, module_requests, Counts, IsBounded, Advances, Walks, IsOneRequest}
use Rattle.trace_walk.proofs.Visiting.{grows_begin, grows_on, grows_by_visit}

-- nothing was done yet
pub advances_begin : (config : Config) (asks : Type 0) (tables : Tables) (steps : ℕ) (ready : Type 0) → AreBeside tables → ready → Advances config 0 asks tables tables steps steps ready
advances_begin config asks tables steps ready beside is = record { grows = grows_begin config tables beside; urls = λ asked urls. urls; steps = omega arith; ready = is }

pub advances_on : (config : Config) (some others : ℕ) (asks others_ask : Type 0) (old middle new : Tables) (before between after : ℕ) (first ready : Type 0) → (asks → others_ask)
    → Advances config some asks old middle before between first → Advances config others others_ask middle new between after ready → Advances config (some + others) asks old new before after ready
advances_on config some others asks others_ask old middle new before between after first ready so one two = record {
  grows = grows_on config some others old middle new one.grows two.grows;
  urls = λ asked urls. two.urls (so asked) (one.urls asked urls);
  steps = (let a = one.steps in let b = two.steps in omega (arith, a, b));
  ready = two.ready;
}

-- ---- how many steps a part takes

pub bounded_none : (most : ℕ) (old : Tables) (steps : ℕ) → IsBounded most old steps steps
bounded_none most old steps = λ within. omega (arith, within)

-- a request that is asked for
pub bounded_request : (old : Tables) (before after : ℕ) → after ≤ before + 1 → length old.targets.items < limit_number Requests → IsBounded 0 old before after
bounded_request old before after step room = λ within. omega (arith, step, room)

-- a module that is asked for
pub bounded_module : (old : Tables) (before after : ℕ) → after ≤ before + 1 → IsBounded 1 old before after
bounded_module old before after step = λ within. omega (arith, step, within)

-- ---- parts that end

-- a part that isn't refused
pub walks_done : (config : Config) (visits most : ℕ) (asks : Type 0) (old new : Tables) (before after : ℕ) (ready : Type 0) (unit : Unit {0}) → visits ≤ most → Advances config visits asks old new before after ready → Walks config visits most asks old new before after ready (Ok unit)
walks_done config visits most asks old new before after ready unit few advances = record {
  advances = advances;
  bounded = λ within. (let a = advances.steps in let b = advances.grows.requests within in omega (arith, a, b, few));
  kind = tt;
}

-- a part that is
pub walks_refused : (config : Config) (visits most : ℕ) (asks : Type 0) (old new : Tables) (before after : ℕ) (ready : Type 0) (fault : TraceFault) (result : Result (Unit {0}) TraceFault) → IsErrAnd result (λ f. f ≡ fault) → IsBounded most old before after → IsOfWalk config fault
    → Walks config visits most asks old new before after ready result
walks_refused config visits most asks old new before after ready fault (Ok unit) is bounded kind = absurd is
walks_refused config visits most asks old new before after ready fault (Err other) is bounded kind = record { advances = tt; bounded = bounded; kind = subst (IsOfWalk config) (sym is) kind }

-- the whole walk that is refused
pub walk_refused : (config : Config) (before after : ℕ) (fault : TraceFault) (result : Result Tables TraceFault) → IsErrAnd result (λ f. f ≡ fault) → after ≤ before + (limit_number Modules + limit_number Requests) → IsOfWalk config fault → IsWalked config result before after
walk_refused config before after fault (Ok tables) is bounded kind = absurd is
walk_refused config before after fault (Err other) is bounded kind = record { tables = tt; steps = tt; bounded = bounded; kind = subst (IsOfWalk config) (sym is) kind }

-- a part that is refused behind others
pub walks_stopped : (config : Config) (visits some others most : ℕ) (asks others_ask : Type 0) (old middle new : Tables) (before between after : ℕ) (first second ready : Type 0) (fault : TraceFault) (result : Result (Unit {0}) TraceFault) → some + others ≤ most → IsErrAnd result (λ f. f ≡ fault)
    → Advances config some asks old middle before between first → Walks config others others others_ask middle new between after second (Err fault) → Walks config visits most asks old new before after ready result
walks_stopped config visits some others most asks others_ask old middle new before between after first second ready fault result few is advances walks =
    walks_refused config visits most asks old new before after ready fault result is
    (λ within. (let a = advances.steps in let b = walks.bounded (advances.grows.requests within) in omega (arith, a, b, few))) walks.kind

-- the last part decides
pub walks_as : (config : Config) (visits most : ℕ) (asks others_ask : Type 0) (old new : Tables) (before after : ℕ) (ready : Type 0) (result : Result (Unit {0}) TraceFault) → (asks → others_ask)
    → Walks config visits most others_ask old new before after ready result → Walks config visits most asks old new before after ready result
walks_as config visits most asks others_ask old new before after ready (Ok unit) so walks = record {
  advances = record { grows = walks.advances.grows; urls = λ asked. walks.advances.urls (so asked); steps = walks.advances.steps; ready = walks.advances.ready };
  bounded = walks.bounded;
  kind = tt;
}
walks_as config visits most asks others_ask old new before after ready (Err fault) so walks = record { advances = tt; bounded = walks.bounded; kind = walks.kind }

-- one request that is refused
pub one_refused : (config : Config) (asks : Type 0) (old new : Tables) (before after : ℕ) (ready : Type 0) (fault : TraceFault) (result : Result (Unit {0}) TraceFault) → IsErrAnd result (λ f. f ≡ fault) → after ≤ before + 1 → IsBounded 0 old before after → IsOfWalk config fault
    → IsOneRequest config asks old new before after ready result
one_refused config asks old new before after ready fault (Ok unit) is step bounded kind = absurd is
one_refused config asks old new before after ready fault (Err other) is step bounded kind = record {
  walks = walks_refused config 0 0 asks old new before after ready fault (Err other) is bounded kind;
  step = step;
  counts = tt;
}

-- ---- how many requests are put into the tables

one_source : (old new : List Source) (source : Source) → new ≡ old ++ source ∷ [] → module_requests (map source_of new) ≡ module_requests (map source_of old) + length (source_of source).specifiers
one_source old new source e =
    ap (λ ss. module_requests (map source_of ss)) e
    ∙ (ap module_requests (map-append source_of old (source ∷ []))
    ∙ (ap length (flat_map-append (λ (s : spec.Source). s.specifiers) (map source_of old) (source_of source ∷ []))
    ∙ (length-append (flat_map (λ (s : spec.Source). s.specifiers) (map source_of old)) ((source_of source).specifiers ++ [])
    ∙ ap (λ xs. length (flat_map (λ (s : spec.Source). s.specifiers) (map source_of old)) + length xs) (append-nil (source_of source).specifiers))))

pub counts_begin : (tables : Tables) → Counts 0 tables tables
counts_begin tables = omega arith

pub counts_on : (some others : ℕ) (old middle new : Tables) → Counts some old middle → Counts others middle new → Counts (some + others) old new
counts_on some others old middle new one two = omega (arith, one, two)

-- a visit puts its source into the tables first
pub counts_visit : (tables pushed new : Tables) (source : Source) → pushed.sources.items ≡ tables.sources.items ++ source ∷ [] → pushed.targets ≡ tables.targets → Counts (length (source_of source).specifiers) pushed new → Counts 0 tables new
counts_visit tables pushed new source sources targets counts =
    let same = ap (λ ts. length ts.items) targets in
    let more = one_source tables.sources.items pushed.sources.items source sources in
    omega (arith, same, more, counts)

-- how the part ends that isn't refused
pub counts_as : (result : Result (Unit {0}) TraceFault) (P Q : Type 0) → (P → Q) → OnOk result P → OnOk result Q
counts_as (Ok unit) P Q so is = so is
counts_as (Err fault) P Q so is = tt

-- those of the page and of all modules
pub counts_all : (entries : ℕ) (empty paged tables : Tables) → empty.sources.items ≡ [] → empty.targets.items ≡ [] → Counts entries empty paged → Counts 0 paged tables → length tables.targets.items ≡ entries + module_requests (before_of tables).sources
counts_all entries empty paged tables sources targets page all =
    let none = ap (λ (ss : List Source). module_requests (map source_of ss)) sources in
    let unled = ap length targets in
    omega (arith, none, unled, page, all)

-- one target more, and the sources stay
counts_one : (old new : Tables) → new.sources ≡ old.sources → length new.targets.items ≡ length old.targets.items + 1 → Counts 1 old new
counts_one old new sources counts = let same = ap (λ ss. module_requests (map source_of ss.items)) sources in omega (arith, same, counts)

-- one that is put into the tables, behind Node's answer
pub one_put : (config : Config) (referrer : List ℕ) (old new : Tables) (before after : ℕ) (ready : Type 0) (result : Result (Unit {0}) TraceFault) → after ≤ before + 1 → length old.targets.items < limit_number Requests → ready
    → Puts config referrer old new result → IsOneRequest config (IsUrl referrer) old new before after ready result
one_put config referrer old new before after ready (Ok unit) step room is puts = record {
  walks = record {
    advances = record { grows = puts.grows; urls = puts.urls; steps = (let counts = puts.counts in omega (arith, counts, step)); ready = is };
    bounded = bounded_request old before after step room;
    kind = tt;
  };
  step = step;
  counts = counts_one old new puts.sources puts.counts;
}
one_put config referrer old new before after ready (Err fault) step room is puts = record {
  walks = record { advances = tt; bounded = bounded_request old before after step room; kind = puts.kind };
  step = step;
  counts = tt;
}

-- the requests of a module, behind the answerer's answer
pub walks_visit : (config : Config) (asks : Type 0) (tables pushed new : Tables) (source : Source) (before between after : ℕ) (ready : Type 0) (result : Result (Unit {0}) TraceFault) → pushed.modules ≡ tables.modules → pushed.sources.items ≡ tables.sources.items ++ source ∷ [] → pushed.needs ≡ tables.needs
    → pushed.targets ≡ tables.targets → between ≤ before + 1 → Walks config 0 0 asks pushed new between after ready result → Walks config 1 1 asks tables new before after ready result
walks_visit config asks tables pushed new source before between after ready (Ok unit) modules sources needs targets step walks =
    walks_done config 1 1 asks tables new before after ready unit (omega arith)
    (record {
      grows = grows_by_visit config tables pushed new source modules sources needs targets walks.advances.grows;
      urls = λ asked urls. walks.advances.urls asked (subst AreOfUrls (sym needs) urls);
      steps = (let a = walks.advances.steps in (let same = ap (λ ts. length ts.items) targets in omega (arith, a, step, same)));
      ready = walks.advances.ready;
    })
walks_visit config asks tables pushed new source before between after ready (Err fault) modules sources needs targets step walks = record {
  advances = tt;
  bounded = λ within. (let a = walks.bounded (let same = ap (λ ts. length ts.items) targets in omega (arith, within, same)) in (let same = ap (λ ts. length ts.items) targets in omega (arith, a, step, same)));
  kind = walks.kind;
}
