-- What an answerer owes besides its answer.
--     IsAnswered result before after is_ready      it takes one step at most; unless the call fails it is ready for the
--                                                  next one; and a fault is one of answers
--     IsSourceAnswered result before after is_ready      the same of a module's source, whose requests stand in its
--                                                        bytes; where there is none, of the limits only those of a
--                                                        trace are passed
use Rattle.std.specs.Prelude.{◌≤◌, ◌+◌, ℕ, Result, IfErr, OnOk}
use Rattle.trace_spec.specs.declared.TraceFault.{TraceFault}
use Rattle.module_sources.specs.declared.source.Source.{Source}
use Rattle.module_sources.specs.declared.source.NoSource.{NoSource}
use Rattle.module_sources.specs.Shown.{FindsSource}
use Rattle.trace_walk.specs.Kinds.{IsOfAnswers}

pub record IsAnswered {A : Type 0} (result : Result A TraceFault) (before after : ℕ) (is_ready : Type 0) : Type 0 where
  pub steps : after ≤ before + 1
  pub ready : OnOk result is_ready
  pub kind : IfErr result IsOfAnswers

pub record IsSourceAnswered (result : Result (Result Source NoSource) TraceFault) (before after : ℕ)
    (is_ready : Type 0) : Type 0 where
  pub answered : IsAnswered result before after is_ready
  pub is : FindsSource result
