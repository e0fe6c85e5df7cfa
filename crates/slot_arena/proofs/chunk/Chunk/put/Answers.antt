use Rattle.std.proofs.Common.{Some, is_some, slice_set, length, map, sym, ap, ◌∙◌, true, length-set}
use Rattle.std.proofs.lemmas.List.{map-set}
use Rattle.slot_arena.proofs.chunk.Chunk.put.Goals as goal

pub invariant_of-self : goal.invariant_of-self
invariant_of-self g c =
    let k = c.self.invariant in let left = c.put.ensures in let vs = c.self.inside.row.places in let i = c.args.place in let v = Some c.args.value in
    record {
      row_here = left.0 ∙ k.row_here;
      right_here = k.right_here;
      right_count = k.right_count;
      right_from = k.right_from;
      long = ap length left.1 ∙ length-set vs i v ∙ k.long;
      told = ap (λ l. slice_set l i true) k.told ∙ sym (map-set is_some vs i v) ∙ ap (map is_some) (sym left.1);
    }
