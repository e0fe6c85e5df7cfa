-- What can be refused where.
--     IsOfAnswers fault          what an answerer gives in place of an answer
--     IsOfWalk config fault      what a walk of this config ends with
use Rattle.std.specs.Prelude.{⊤}
use Rattle.trace_spec.specs.declared.TraceFault.{TraceFault}
use Rattle.trace_spec.specs.declared.TraceFault.TheVariants.{Unservable, Refused, Clash, NotModule, Limit, ReadFault}
use Rattle.trace_spec.specs.declared.TraceFault.TheVariants.{Memory}
use Rattle.trace_spec.specs.Kinds.{IsTraceLimit, IsOfTrace}
use Rattle.trace_spec.specs.Modules.{Config}

-- own: a limit, a look that failed, or want of memory
abbrev pub IsOfAnswers : TraceFault → Type 0
IsOfAnswers (Unservable path url) = ⊥
IsOfAnswers (Refused referrer specifier cause) = ⊥
IsOfAnswers (Clash referrer first first_to second second_to) = ⊥
IsOfAnswers (NotModule path reason) = ⊥
IsOfAnswers (Limit which) = IsTraceLimit which
IsOfAnswers ReadFault = ⊤
IsOfAnswers Memory = ⊤

-- own: what a trace can be refused for, or a look that failed, or want of memory
abbrev pub IsOfWalk : Config → TraceFault → Type 0
IsOfWalk config (Unservable path url) = IsOfTrace config (Unservable path url)
IsOfWalk config (Refused referrer specifier cause) = IsOfTrace config (Refused referrer specifier cause)
IsOfWalk config (Clash referrer first first_to second second_to) =
    IsOfTrace config (Clash referrer first first_to second second_to)
IsOfWalk config (NotModule path reason) = IsOfTrace config (NotModule path reason)
IsOfWalk config (Limit which) = IsOfTrace config (Limit which)
IsOfWalk config ReadFault = ⊤
IsOfWalk config Memory = ⊤
