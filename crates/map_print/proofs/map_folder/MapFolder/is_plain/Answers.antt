use Rattle.std.proofs.Common.{subst, ◌≡◌, true}
use Rattle.map_print.specs.PlainRests.{is_plain_rest}
use Rattle.map_print.proofs.PlainTests.{short_of_plain}
use Rattle.map_print.proofs.map_folder.MapFolder.is_plain.Goals as goal

pub returns-then-self : goal.returns-then-self
returns-then-self c = λ yes.
    rw (← c.self.view_is)
    (short_of_plain c.self.inside.base c.args.rest.now (c.self.invariant.plain c.if-self.true)
    (subst (λ text. is_plain_rest text ≡ true) c.as_bytes.ensures.value (c.is_plain_rest.ensures yes)))
