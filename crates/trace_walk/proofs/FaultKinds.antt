-- What is refused where.
use Rattle.std.proofs.Common.{◌≡◌, ◌≢◌, ℕ, List, Result, Ok, Err, ap}
use Rattle.std.specs.Result.{IsErrAnd}
use Rattle.trace_spec.specs.declared.TraceFault.{TraceFault}
use Rattle.trace_spec.specs.declared.TraceFault.TheVariants.{Unservable, Refused, Clash, NotModule, Limit, ReadFault, Memory}
use Rattle.trace_spec.specs.Walking.{Referrer}
use Rattle.trace_spec.specs.Modules.{Config, Module, path_of, suffix_of}
use Rattle.module_sources.specs.declared.source.NoSource.{NoSource}
use Rattle.module_sources.specs.declared.source.NoSource.TheVariants as source
use Rattle.module_sources.specs.Shown.{IsOfSource}
use Rattle.trace_walk.specs.Kinds.{IsOfAnswers, IsOfWalk}
use Rattle.trace_walk.specs.Refusing.{no_source_fault}
use Rattle.trace_walk.specs.Walking.{IsUnserved}

-- a fault that `?` hands on
pub handed : {X : Type 0} (result : Result X TraceFault) (fault : TraceFault) → IsErrAnd result (λ f. f ≡ fault) → result ≡ Err fault
handed (Ok value) fault is = absurd is
handed (Err other) fault is = ap Err is

pub unserved_kind : (config : Config) (r : Referrer Module) (fault : TraceFault) → (fault ≢ Memory → IsUnserved config (path_of config r) (suffix_of r) fault) → IsOfWalk config fault
unserved_kind config r (Unservable path url) unserved =
    let is = unserved (λ e. cc) in
    let same = is.is in
    record { which = r; path_is = (cc); url_is = (cc); lost = is.lost }
unserved_kind config r (Refused referrer specifier cause) unserved = absurd (let e = (unserved (λ e. cc)).is in cc)
unserved_kind config r (Clash referrer first first_to second second_to) unserved = absurd (let e = (unserved (λ e. cc)).is in cc)
unserved_kind config r (NotModule path reason) unserved = absurd (let e = (unserved (λ e. cc)).is in cc)
unserved_kind config r (Limit which) unserved = absurd (let e = (unserved (λ e. cc)).is in cc)
unserved_kind config r ReadFault unserved = tt
unserved_kind config r Memory unserved = tt

pub answers_kind : (config : Config) (fault : TraceFault) → IsOfAnswers fault → IsOfWalk config fault
answers_kind config (Unservable path url) kind = absurd kind
answers_kind config (Refused referrer specifier cause) kind = absurd kind
answers_kind config (Clash referrer first first_to second second_to) kind = absurd kind
answers_kind config (NotModule path reason) kind = absurd kind
answers_kind config (Limit which) kind = kind
answers_kind config ReadFault kind = tt
answers_kind config Memory kind = tt

pub source_kind : (config : Config) (shown : List ℕ) (why : NoSource) → IsOfSource why → IsOfWalk config (no_source_fault shown why)
source_kind config shown (source.NotModule reason) kind = tt
source_kind config shown (source.Above which) kind = kind
