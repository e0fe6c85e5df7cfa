use Rattle.std.proofs.Common.{◌<◌, length, sym, subst, arith}
use Rattle.std.proofs.lemmas.Option.{slice_get_within}
use Rattle.trace_walk.proofs.TableLemmas.{is_clash}
use Rattle.trace_walk.proofs.tables.put_need.Goals as goal

pub spelling_at-earlier-requires : goal.spelling_at-earlier-requires
spelling_at-earlier-requires c =
    let at = c.in-Err-Clash.ensures.clash _ c.in-Err-Clash.field-0-is in
    let below = slice_get_within c.args.needs.now c.in-Err-Clash.first at.other at.stands in
    let beside = c.requires.beside in
    subst (λ n. n < length c.args.spellings.now.items) (sym c.in-Err-Clash.first-is) (omega (arith, below, beside))

pub returns-in-Err-Clash : goal.returns-in-Err-Clash
returns-in-Err-Clash c = record {
  added = tt;
  clash = λ ne.
      is_clash c.args.referrer.now c.args.needs.now c.args.need c.args.spellings.now.items c.args.spelling c.spelling_at-earlier.result.now c.in-Err-Clash.first c.in_ok-clash-in-Err-Clash.field-0
      (c.in-Err-Clash.ensures.clash _ c.in-Err-Clash.field-0-is) (rw c.in-Err-Clash.first-is at c.spelling_at-earlier.ensures) c.in_ok-clash-in-Err-Clash.ensures.clash;
  kind = c.in_ok-clash-in-Err-Clash.ensures.kind;
}
