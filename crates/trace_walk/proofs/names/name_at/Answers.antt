use Rattle.std.proofs.Common.{◌≡◌}
use Rattle.trace_walk.proofs.names.name_at.Goals as goal

pub returns-clause-served : goal.returns-clause-served
returns-clause-served c =
    let is = rw (c.path.ensures, c.suffix.ensures) at c.in_ok-url.ensures.served in
    let text : c.in_ok-text.text ≡ c.in_ok-url.url = (let copy = c.in_ok-text.ensures in let whole = c.as_str.ensures.text in cc) in
    record { named = is.0; served = is.1; text = text }
