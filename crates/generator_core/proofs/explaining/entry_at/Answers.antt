use Rattle.std.proofs.Common.{[], refl, sym, ap, ◌∙◌, length}
use Rattle.std.specs.Prelude.{slice_get, unwrap_or}
use Rattle.std.proofs.lemmas.Bool.{ltb-true}
use Rattle.std.proofs.lemmas.Option.{slice_get_past, slice_get_read}
use Rattle.generator_core.proofs.explaining.entry_at.Goals as goal

pub returns-in-None : goal.returns-in-None
returns-in-None c =
    let past = slice_get_past c.entries.result.now c.args.number c.in-None.ensures.lookup.3 in
    ap (λ found. unwrap_or found []) (sym past ∙ ap (λ texts. slice_get texts c.args.number) c.entries.ensures.entries)

pub returns-in-Some : goal.returns-in-Some
returns-in-Some c =
    let within = ltb-true c.args.number (length c.entries.result.now) (sym c.in-Some.ensures.lookup.0) in
    let found = slice_get_read c.entries.result.now (length c.entries.result.now) c.args.number c.in-Some.entry.now refl
    within c.in-Some.ensures.lookup.1 in
    c.as_str.ensures
    ∙ ap (λ text. unwrap_or text []) (sym found ∙ ap (λ texts. slice_get texts c.args.number) c.entries.ensures.entries)
