use Rattle.trace_walk.proofs.AskedTexts.{asks_url, asks_bare, asks_folder}
use Rattle.trace_walk.proofs.following.asked_text.Goals as goal

pub returns-in_ok-into_text-in-Ok-Url-clause-wanted : goal.returns-in_ok-into_text-in-Ok-Url-clause-wanted
returns-in_ok-into_text-in-Ok-Url-clause-wanted c =
    asks_url c.args.specifier.now c.args.referrer.now.name c.in-Ok-Url.url c.in_ok-into_text-in-Ok-Url.field-0 (rw c.as_str.ensures at c.as_str.utf8) (rw (c.as_str.ensures, c.in-Ok-Url.field-0-is) at c.in-Ok-Url.ensures.asked) c.in_ok-into_text-in-Ok-Url.ensures

pub returns-in_ok-copy-in-Ok-Bare-clause-wanted : goal.returns-in_ok-copy-in-Ok-Bare-clause-wanted
returns-in_ok-copy-in-Ok-Bare-clause-wanted c =
    asks_bare c.args.specifier.now c.args.referrer.now.name c.in_ok-copy-in-Ok-Bare.field-0 (rw c.as_str.ensures at c.as_str.utf8) (rw (c.as_str.ensures, c.in-Ok-Bare.field-0-is) at c.in-Ok-Bare.ensures.asked) c.in_ok-copy-in-Ok-Bare.ensures

pub returns-in_ok-refusal-in-Err-TrailingSlash-clause-unwanted : goal.returns-in_ok-refusal-in-Err-TrailingSlash-clause-unwanted
returns-in_ok-refusal-in-Err-TrailingSlash-clause-unwanted c = λ ne.
    let is = rw (c.as_str.ensures, c.in-Err-TrailingSlash.field-0-is) at c.in-Err-TrailingSlash.ensures.fault in
    record {
      cause = _;
      unwanted = asks_folder c.args.specifier.now c.args.referrer.now.name is.1 (rw c.as_str.ensures at c.as_str.utf8) is.0 is.2 is.3;
      is = c.in_ok-refusal-in-Err-TrailingSlash.ensures;
    }
