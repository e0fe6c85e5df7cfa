use Rattle.std.proofs.Common.{length, refl, ap, arith}
use Rattle.request_trace.proofs.JoinedTables.{inside_at}
use Rattle.request_trace.proofs.vertices.vertex.Goals as goal

pub returns : goal.returns
returns c = record {
  well_made = record {
    one_each = (let items = ap length c.from_vec.ensures in let len = c.in_ok-resize.ensures.len in let kept = c.resize.new.self.ok.0 in let n = c.len.ensures in let same = ap length c.deref.ensures in omega (arith, items, len, kept, n, same));
    inside = λ i r at. inside_at c.args.source.bytes.value c.args.source.requests.value i r c.requires at;
  };
  module_is = λ i. record { path = c.into_parts-path.ensures.path i; suffix = c.into_parts-path.ensures.suffix i };
  source_is = refl;
}
