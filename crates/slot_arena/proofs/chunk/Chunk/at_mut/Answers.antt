use Rattle.std.proofs.Common.{Some, None, is_some, sym, ap, ◌∙◌, length-set}
use Rattle.std.proofs.Math.Seq.{map-set_same}
use Rattle.slot_arena.proofs.chunk.Chunk.at_mut.Goals as goal

pub invariant_of-self-lent : goal.invariant_of-self-lent
invariant_of-self-lent g c = λ w.
    let k = c.self.invariant in let vs = c.self.inside.row.places in let i = c.args.place in
    record {
      row_here = k.row_here;
      right_here = k.right_here;
      right_count = k.right_count;
      right_from = k.right_from;
      long = length-set vs i (Some w) ∙ k.long;
      told = k.told ∙ sym (map-set_same is_some vs i (Some w) None (sym (ap is_some c.at_mut.ensures.value)));
    }
