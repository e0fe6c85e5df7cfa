use Rattle.std.proofs.Common.{rules, refl, sym, ap, ◌≡◌, Some, None, Ok, Err}
use Rattle.url_spec.specs.Specifiers.{as_url}
use Rattle.html_resolve.proofs.OutcomeLemmas.{url_by, bare_by}
use Rattle.html_resolve.proofs.resolve.answer_in.Goals as goal

pub returns-in-Err : goal.returns-in-Err
returns-in-Err c =
    let e : as_url c.args.referrer.now c.args.specifier.now ≡ Some c.in-Some.url = search (rules) in
    url_by c.args.map.now c.args.referrer.now c.args.specifier.now c.in-Some.url e _ _ c.as_str.ensures.text c.as_str-in-Some.ensures.text _ (Err c.in-Err.fault) refl (c.in-Err.ensures (Some c.in-Some.url) (sym c.is_special.ensures))

pub returns-in-Ok-Some : goal.returns-in-Ok-Some
returns-in-Ok-Some c =
    let e : as_url c.args.referrer.now c.args.specifier.now ≡ Some c.in-Some.url = search (rules) in
    url_by c.args.map.now c.args.referrer.now c.args.specifier.now c.in-Some.url e _ _ c.as_str.ensures.text c.as_str-in-Some.ensures.text _ (Ok (Some c.in-Ok-Some.found)) (ap Ok c.in-Ok-Some.field-0-is) (c.in-Ok-Some.ensures (Some c.in-Some.url) (sym c.is_special.ensures))

pub returns-in-Ok-None : goal.returns-in-Ok-None
returns-in-Ok-None c =
    let e : as_url c.args.referrer.now c.args.specifier.now ≡ Some c.in-Some.url = search (rules) in
    url_by c.args.map.now c.args.referrer.now c.args.specifier.now c.in-Some.url e _ _ c.as_str.ensures.text c.as_str-in-Some.ensures.text _ (Ok None) (ap Ok c.in-Ok-None.field-0-is) (c.in-Ok-None.ensures (Some c.in-Some.url) (sym c.is_special.ensures))

pub returns-in-Err-match_in : goal.returns-in-Err-match_in
returns-in-Err-match_in c =
    let e : as_url c.args.referrer.now c.args.specifier.now ≡ None = search (rules) in
    bare_by c.args.map.now c.args.referrer.now c.args.specifier.now e _ c.as_str-in-None.ensures.text _ (Err c.in-Err-match_in.fault) refl (c.in-Err-match_in.ensures None refl)

pub returns-in-Ok-Some-match_in : goal.returns-in-Ok-Some-match_in
returns-in-Ok-Some-match_in c =
    let e : as_url c.args.referrer.now c.args.specifier.now ≡ None = search (rules) in
    bare_by c.args.map.now c.args.referrer.now c.args.specifier.now e _ c.as_str-in-None.ensures.text _ (Ok (Some c.in-Ok-Some-match_in.found)) (ap Ok c.in-Ok-Some-match_in.field-0-is) (c.in-Ok-Some-match_in.ensures None refl)

pub returns-in-Ok-None-match_in : goal.returns-in-Ok-None-match_in
returns-in-Ok-None-match_in c =
    let e : as_url c.args.referrer.now c.args.specifier.now ≡ None = search (rules) in
    bare_by c.args.map.now c.args.referrer.now c.args.specifier.now e _ c.as_str-in-None.ensures.text _ (Ok None) (ap Ok c.in-Ok-None-match_in.field-0-is) (c.in-Ok-None-match_in.ensures None refl)
