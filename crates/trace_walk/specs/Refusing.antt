-- Refusals of modules and of requests.
--     no_source_fault shown why          the refusal of a module that has no source
--     IsUnwanted referrer specifier fault            the refusal of a specifier that asks for nothing
--     IsMisnamed config referrer specifier target fault      the refusal of a request by the name of its target
--     IsClash referrer needs need spellings spelling fault      the refusal of a need that clashes with one before it
use Rattle.std.specs.Prelude.{◌≡◌, ◌≢◌, ◌++◌, ℕ, List, true, Some, Err}
use Rattle.std.specs.List.{list_any}
use Rattle.layout_spec.specs.declared.Need.{Need}
use Rattle.layout_spec.specs.Needs.{clashes}
use Rattle.trace_spec.specs.declared.TraceFault.{TraceFault}
use Rattle.trace_spec.specs.declared.TraceFault.TheVariants as fault
use Rattle.trace_spec.specs.declared.AskCause.{AskCause}
use Rattle.trace_spec.specs.Checks.{Gathered, Spelling, Wanted, wanted_by, clashing, named}
use Rattle.trace_spec.specs.Modules.{Config, Module, shown, served_at}
use Rattle.trace_spec.specs.Walking as spec
use Rattle.module_sources.specs.declared.source.NoSource.{NoSource}
use Rattle.module_sources.specs.declared.source.NoSource.TheVariants.{NotModule, Above}
use Rattle.trace_walk.specs.declared.referrer.Referrer.{Referrer}
use Rattle.trace_walk.specs.Walking.{IsReferrer}

abbrev pub no_source_fault : List ℕ → NoSource → TraceFault
no_source_fault shown (NotModule reason) = fault.NotModule shown reason
no_source_fault shown (Above which) = fault.Limit which

abbrev pub shown_of : Module → List ℕ
shown_of m = m.path ++ m.suffix

-- by how the first need that clashes with it is spelled, and how it is itself
abbrev pub clash_by : Referrer → Spelling → Spelling → TraceFault
clash_by referrer first second =
    fault.Clash referrer.shown first.specifier (shown_of first.target) second.specifier (shown_of second.target)

pub record IsUnwanted (referrer : Referrer) (specifier : List ℕ) (refusal : TraceFault) : Type 0 where
  pub cause : AskCause
  pub unwanted : wanted_by specifier (Some referrer.name) ≡ Err cause
  pub is : refusal ≡ fault.Refused referrer.shown specifier cause

-- whatever came before and whatever it asks for
pub record IsMisnamed (config : Config) (referrer : Referrer) (specifier : List ℕ) (target : Module)
    (refusal : TraceFault) : Type 0 where
  pub refuses :
      (r : spec.Referrer Module) (before : Gathered) (want : Wanted) → IsReferrer config r referrer
      → named config before r want
      (record { referrer = shown config r; specifier = specifier; target = target })
      (served_at config (spec.a_module target)) ≡ Err refusal
  pub no_look : refusal ≢ fault.ReadFault

pub record IsClash (referrer : Referrer) (needs : List Need) (need : Need) (spellings : List Spelling)
    (spelling : Spelling) (refusal : TraceFault) : Type 0 where
  pub clash : list_any (clashes need) needs ≡ true
  pub is : refusal ≡ clash_by referrer (clashing need needs spellings) spelling
