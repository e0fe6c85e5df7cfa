use Rattle.std.proofs.Common.{rules, refl, sym, ap, ◌≡◌, Some, None, Ok, Err}
use Rattle.url_spec.specs.Parsing.{parse_alone}
use Rattle.html_resolve.proofs.OutcomeLemmas.{url_normal, bare_normal}
use Rattle.html_resolve.proofs.resolve.resolve_normalized.Goals as goal

pub returns-in-Err : goal.returns-in-Err
returns-in-Err c =
    let e : parse_alone c.args.text.now ≡ Some c.in-Some.url = search (rules) in
    url_normal c.args.map.now c.args.referrer.now c.args.text.now _ c.in-Some.url e _ (Err c.in-Err.fault) refl (c.in-Err.ensures (Some c.in-Some.url) (sym c.is_special.ensures))

pub returns-in-Ok-Some : goal.returns-in-Ok-Some
returns-in-Ok-Some c =
    let e : parse_alone c.args.text.now ≡ Some c.in-Some.url = search (rules) in
    url_normal c.args.map.now c.args.referrer.now c.args.text.now _ c.in-Some.url e _ (Ok (Some c.in-Ok-Some.found)) (ap Ok c.in-Ok-Some.field-0-is) (c.in-Ok-Some.ensures (Some c.in-Some.url) (sym c.is_special.ensures))

pub returns-in-Ok-None : goal.returns-in-Ok-None
returns-in-Ok-None c =
    let e : parse_alone c.args.text.now ≡ Some c.in-Some.url = search (rules) in
    url_normal c.args.map.now c.args.referrer.now c.args.text.now _ c.in-Some.url e _ (Ok None) (ap Ok c.in-Ok-None.field-0-is) (c.in-Ok-None.ensures (Some c.in-Some.url) (sym c.is_special.ensures))

pub returns-in-Err-match_in : goal.returns-in-Err-match_in
returns-in-Err-match_in c =
    let e : parse_alone c.args.text.now ≡ None = search (rules) in
    bare_normal c.args.map.now c.args.referrer.now c.args.text.now _ e _ (Err c.in-Err-match_in.fault) refl (c.in-Err-match_in.ensures None refl)

pub returns-in-Ok-Some-match_in : goal.returns-in-Ok-Some-match_in
returns-in-Ok-Some-match_in c =
    let e : parse_alone c.args.text.now ≡ None = search (rules) in
    bare_normal c.args.map.now c.args.referrer.now c.args.text.now _ e _ (Ok (Some c.in-Ok-Some-match_in.found)) (ap Ok c.in-Ok-Some-match_in.field-0-is) (c.in-Ok-Some-match_in.ensures None refl)

pub returns-in-Ok-None-match_in : goal.returns-in-Ok-None-match_in
returns-in-Ok-None-match_in c =
    let e : parse_alone c.args.text.now ≡ None = search (rules) in
    bare_normal c.args.map.now c.args.referrer.now c.args.text.now _ e _ (Ok None) (ap Ok c.in-Ok-None-match_in.field-0-is) (c.in-Ok-None-match_in.ensures None refl)
