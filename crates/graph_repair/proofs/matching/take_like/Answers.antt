use Rattle.std.proofs.Common.{refl, sym, ◌∙◌}
use Rattle.std.specs.Prelude.{slice_get}
use Rattle.graph_repair.proofs.FoundModules.{set_some}
use Rattle.graph_repair.proofs.matching.take_like.Goals as goal

pub returns : goal.returns
returns c = (
  set_some (slice_get c.args.left.now.items c.args.place) c.in_ok-slot.slot (sym c.left_at.ensures ∙ c.in_ok-slot.was),
  refl,
  c.is_like_at.ensures.0 c.if-not-is_like_at.false,
)
