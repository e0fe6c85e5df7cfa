-- Each question of a walk that comes to a trace spares what is left out.
use Rattle.std.proofs.Common.{◌≡◌, ◌⊎◌, ◌++◌, [], ◌∷◌, ℕ, zero, suc, List, Option, Some, None, refl, sym, ap, ◌∙◌, inl, inr}
use Rattle.std.specs.Prelude.{Result, Ok, Err, slice_get}
use Rattle.asking_spec.specs.Askings.{Asking, answered, ask, outcome, and_ok, on_ok, through}
use Rattle.asking_spec.proofs.AskingLemmas.{outcome_then}
use Rattle.tree_spec.specs.LookAskings.{Sights, looks}
use Rattle.node_spec.specs.EsmFileFormat.{Format, IsModule, IsDetected, IsCommonJs, IsJson, IsAddon, HasBadConfig, IsOther}
use Rattle.node_spec.specs.EsmFileFormat.{file_format}
use Rattle.node_spec.specs.NodeAnswers.{Module, Refusal, by_cause, too_deep}
use Rattle.trace_spec.specs.declared.TraceFault.{TraceFault}
use Rattle.trace_spec.specs.Walking.{Referrer, the_page, a_module, followed, visited, where_some, walked}
use Rattle.trace_spec.specs.Modules.{Config, path_of}
use Rattle.trace_spec.specs.Questions.{Question, Answer, put, always, by_format, module_source}
use Rattle.trace_spec.specs.Checks.{Gathered, opens, follows, followed_by, checked, led, asking_at}
use Rattle.trace_spec.specs.Checks.{Wanted, rules}
use Rattle.trace_spec.specs.Traces.{trace, generation}
use Rattle.tree_spec.specs.LeftOutFolders.{Spares, IgnoresFolders}
use Rattle.tree_spec.proofs.LeftOutFolders.{ignoring_spares, ignoring_then, spares_then}
use Rattle.node_spec.specs.Laws.{SeesBytes}
use Rattle.node_spec.proofs.SparedResolutions.{format_ignores_folders, node_spares}
use Rattle.trace_spec.specs.Copied.{GenerationSpares}
use Rattle.trace_spec.proofs.Steps.{traced_outcome}

-- ---- the source of a module

ignoring_by_format : (path : List ℕ) (format : Result Format Refusal) → IgnoresFolders (by_format path format)
ignoring_by_format path (Ok IsModule) = (refl, (λ found. tt))
ignoring_by_format path (Ok IsDetected) = (refl, (λ found. tt))
ignoring_by_format path (Ok IsCommonJs) = tt
ignoring_by_format path (Ok IsJson) = tt
ignoring_by_format path (Ok IsAddon) = tt
ignoring_by_format path (Ok HasBadConfig) = tt
ignoring_by_format path (Ok IsOther) = tt
ignoring_by_format path (Err (by_cause cause)) = tt
ignoring_by_format path (Err too_deep) = tt

ignoring_source : (path : List ℕ) → IgnoresFolders (module_source path)
ignoring_source path = ignoring_then (file_format path) (by_format path) (format_ignores_folders path) (ignoring_by_format path)

-- ---- questions

pub record IsRefused {X R : Type 0} (result : Result X R) : Type 0 where
  pub refusal : R
  pub is : result ≡ Err refusal

module _ (sights : Sights) where
  -- each question that is asked spares what is left out, or the asking is refused
  abbrev pub IsStrict : {X R : Type 0} → Asking Question Answer (Result X R) → Type 0
  IsStrict (answered value) = Unit {0}
  IsStrict (ask question next) =
      (((later : List (List ℕ)) → Spares sights later (put question))
      ⊎ IsRefused (outcome (always sights) (next (always sights question))))
      × IsStrict (next (always sights question))

  refused_then : {X Y R : Type 0} (asking : Asking Question Answer (Result X R))
      (next : X → Asking Question Answer (Result Y R)) → IsRefused (outcome (always sights) asking)
      → IsRefused (outcome (always sights) (and_ok asking next))
  refused_then asking next is = record {
    refusal = is.refusal;
    is = outcome_then (always sights) asking (on_ok next) ∙ ap (λ r. outcome (always sights) (on_ok next r)) is.is;
  }

  strict_then : {X Y R : Type 0} (asking : Asking Question Answer (Result X R))
      (next : X → Asking Question Answer (Result Y R)) → IsStrict asking → ((value : X) → IsStrict (next value))
      → IsStrict (and_ok asking next)
  strict_then (answered (Ok value)) next strict each = each value
  strict_then (answered (Err refusal)) next strict each = tt
  strict_then (ask question more) next strict each = (
    elim (strict.0) [
      | inl spares ↦ inl spares
      | inr refused ↦ inr (refused_then (more (always sights question)) next refused)
    ],
    strict_then (more (always sights question)) next strict.1 each,
  )

  never_refused : {X R : Type 0} (result : Result X R) (value : X) → result ≡ Ok value → IsRefused result → ⊥
  never_refused result value e is = let f : Ok value ≡ Err is.refusal = sym e ∙ is.is in absurd (cc)

  strict_spares : {X R : Type 0} (later : List (List ℕ)) (asking : Asking Question Answer (Result X R)) (value : X)
      → IsStrict asking → outcome (always sights) asking ≡ Ok value → Spares sights later (through put asking)
  strict_spares later (answered found) value strict e = tt
  strict_spares later (ask question next) value strict e =
      elim (strict.0) [
        | inl spares ↦ spares_then sights later (put question) (λ answer. through put (next answer))
            (spares (looks sights (through put (next (always sights question))) ++ later))
            (strict_spares later (next (always sights question)) value strict.1 e)
        | inr refused ↦ absurd (never_refused _ value e refused)
      ]

  -- ---- the walk

  module _ (sees : SeesBytes sights) (config : Config) where
    by_answer : (before : Gathered) (referrer : Referrer Module) (specifier : List ℕ) (want : Wanted)
        (found : Result Module Refusal) → always sights (asking_at config referrer specifier) ≡ found
        → ((later : List (List ℕ)) → Spares sights later (put (asking_at config referrer specifier)))
        ⊎ IsRefused (led config before referrer specifier want found)
    by_answer before referrer specifier want (Ok m) e =
        inl (λ later.
        node_spares sights sees later config.conditions (path_of config referrer) specifier m e)
    by_answer before referrer specifier want (Err (by_cause cause)) e = inr (record { refusal = _; is = refl })
    by_answer before referrer specifier want (Err too_deep) e = inr (record { refusal = _; is = refl })

    strict_followed_by : (before : Gathered) (referrer : Referrer Module) (specifier : List ℕ)
        (want : Result Wanted TraceFault) → IsStrict (followed_by config before referrer specifier want)
    strict_followed_by before referrer specifier (Err refusal) = tt
    strict_followed_by before referrer specifier (Ok want) =
        (by_answer before referrer specifier want (always sights (asking_at config referrer specifier)) refl, tt)

    strict_opens : (before : Gathered) (referrer : Referrer Module) → IsStrict (opens config before referrer)
    strict_opens before the_page = tt
    strict_opens before (a_module m) =
        (inl (λ later. ignoring_spares sights later (module_source m.path) (ignoring_source m.path)), tt)

    strict_followed : (before : Gathered) (referrer : Referrer Module) (specifiers : List (List ℕ))
        → IsStrict (followed (rules config) before referrer specifiers)
    strict_followed before referrer [] = tt
    strict_followed before referrer (specifier ∷ more) =
        strict_then (follows config before referrer specifier) (λ after. followed (rules config) after referrer more)
        (strict_followed_by before referrer specifier (checked config before referrer specifier))
        (λ after. strict_followed after referrer more)

    strict_visited : (before : Gathered) (referrer : Referrer Module) → IsStrict (visited (rules config) before referrer)
    strict_visited before referrer =
        strict_then (opens config before referrer)
        (λ opened. followed (rules config) opened.after referrer opened.specifiers) (strict_opens before referrer)
        (λ opened. strict_followed opened.after referrer opened.specifiers)

    strict_next : (room : ℕ) (before : Gathered) (place : ℕ) (found : Option Module)
        → ((after : Gathered) → IsStrict (walked (rules config) room after (suc place)))
        → IsStrict (where_some (answered (Ok before))
        (λ m. and_ok (visited (rules config) before (a_module m)) (λ after. walked (rules config) room after (suc place))) found)
    strict_next room before place None rest = tt
    strict_next room before place (Some m) rest =
        strict_then (visited (rules config) before (a_module m)) (λ after. walked (rules config) room after (suc place))
        (strict_visited before (a_module m)) rest

    strict_walked : (room : ℕ) (before : Gathered) (place : ℕ) → IsStrict (walked (rules config) room before place)
    strict_walked zero before place = tt
    strict_walked (suc room) before place =
        strict_next room before place (slice_get before.modules place)
        (λ after. strict_walked room after (suc place))

    strict_trace : IsStrict (trace config)
    strict_trace =
        strict_then (visited (rules config) (rules config).start the_page)
        (λ after. walked (rules config) (suc (rules config).most) after 0)
        (strict_visited (rules config).start the_page)
        (λ after. strict_walked (suc (rules config).most) after 0)

    spares_at : (later : List (List ℕ)) (all : Gathered) → outcome (always sights) (trace config) ≡ Ok all
        → Spares sights later (generation config)
    spares_at later all e = strict_spares later (trace config) all strict_trace e

pub generation_spares : GenerationSpares
generation_spares sights sees later config all e = spares_at sights sees config later all (traced_outcome sights config all e)
