use Rattle.std.proofs.lemmas.Slice.Eq.{slice_eq-Decides}
use Rattle.es_grammar.proofs.Sayings.{request_Decides, same_lists}
use Rattle.es_grammar.proofs.requests.are_same.Goals as goal

pub returns : goal.returns
returns c =
    same_lists c.eq.result c.as_slice.ensures c.as_slice-2.ensures (slice_eq-Decides request_Decides _ _ _ c.eq.ensures)
