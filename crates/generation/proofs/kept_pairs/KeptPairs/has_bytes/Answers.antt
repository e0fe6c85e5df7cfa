use Rattle.std.proofs.Common.{rules, ◌≡◌, ◌<◌, length, sym, subst}
use Rattle.generation.specs.Pairing.{Paired, with_bytes}
use Rattle.generation.proofs.Pairings.{stayed}
use Rattle.generation.proofs.kept_pairs.KeptPairs.has_bytes.Goals as goal

pub returns : goal.returns
returns c = λ t.
    subst (λ (p : Paired). p.modules ≡ with_bytes p.modules c.args.place c.args.bytes.now) c.self.view_is
    (stayed c.self.inside.modules.items c.args.place c.index.result.now c.as_bytes.result.now c.args.bytes.now c.eq.result
    (subst (λ (p : Paired). c.args.place < length p.modules) (sym c.self.view_is) c.requires) (search rules) (search rules) (search rules) t)
