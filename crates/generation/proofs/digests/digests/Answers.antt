use Rattle.std.proofs.Common.{◌≡◌, ◌≤◌, ◌-◌, suc, length, sym, ◌∙◌, arith}
use Rattle.generation.proofs.Digestings.{all_digests, digest_before}
use Rattle.generation.specs.Digesting.{kept_texts}
use Rattle.generation.proofs.digests.digests.Goals as goal

pub loop-place-preserved : goal.loop-place-preserved
loop-place-preserved g c =
    let within : c.loop-place.place ≤ length c.args.trace.now.gathered.modules = c.loop-place.invariant.0 in
    let some = c.loop-place-test.true in
    let is : c.loop-place.place ≡ suc (c.loop-place.place - 1) = omega (arith, some) in (
      omega (arith, within),
      digest_before c.args.config.now c.args.trace.now.gathered.modules c.args.trace.now.gathered.sources (c.loop-place.place - 1) c.loop-place.place (kept_texts c.loop-place.kept) (kept_texts c.put.new.kept) is within
          (sym c.len-place.ensures.modules ∙ c.len-place.ensures.sources) c.loop-place.invariant.1 c.in_ok-put.ensures,
    )

pub returns : goal.returns
returns g c =
    let none = c.loop-place-test.false in
    all_digests c.args.config.now c.args.trace.now.gathered.modules c.args.trace.now.gathered.sources c.loop-place.place c.loop-place.kept c.from_map.result (omega (arith, none)) c.loop-place.invariant.1 c.from_map.ensures.entries c.from_map.ensures.in_order
