use Rattle.std.proofs.Common.{sym, ◌∙◌}
use Rattle.std.proofs.lemmas.Slice.Eq.{slice_eq-Decides, bytes_eq-Decides}
use Rattle.condition_match.proofs.conditions.are_same.Goals as goal

pub returns : goal.returns
returns c = λ is.
    sym c.as_slice.ensures ∙ ((slice_eq-Decides bytes_eq-Decides _ _ _ c.eq.ensures).0 is ∙ c.as_slice-2.ensures)
