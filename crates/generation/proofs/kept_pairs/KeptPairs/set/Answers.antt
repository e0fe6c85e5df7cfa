use Rattle.std.proofs.Common.{rules, ◌≡◌, ◌<◌, length, refl, sym, ap, ◌∙◌, subst}
use Rattle.integrity_spec.specs.DigestTexts.{digest_text}
use Rattle.generation.specs.Pairing.{Paired, with_bytes}
use Rattle.generation.proofs.Pairings.{repaired, still_once, written}
use Rattle.generation.proofs.kept_pairs.KeptPairs.set.Goals as goal

pub invariant_of-self : goal.invariant_of-self
invariant_of-self c =
    let ms = c.self.inside.modules.items in
    let bytes = c.in_ok-bytes.bytes.value in
    let within = subst (λ (p : Paired). c.args.place < length p.modules) (sym c.self.view_is) c.requires.place in
    let once = subst (λ (p : Paired). length p.pairs ≡ length p.modules) (sym c.self.view_is) c.requires.once in
    repaired ms _ c.self.inside.pairs c.set.new.self c.args.place c.index.result.now c.in_ok-url.url c.in_ok-text.text bytes c.self.invariant once within (search rules) (search rules)
    (c.in_ok-text.ensures ∙ ap digest_text (sym c.in_ok-bytes.ensures)) c.set.ensures
    (written ms _ c.args.place c.index.result.now c.in_ok-url.url bytes within (search rules) (search rules) refl)

pub returns-clause-once : goal.returns-clause-once
returns-clause-once c =
    let ms = c.self.inside.modules.items in
    let bytes = c.in_ok-bytes.bytes.value in
    let within = subst (λ (p : Paired). c.args.place < length p.modules) (sym c.self.view_is) c.requires.place in
    let once = subst (λ (p : Paired). length p.pairs ≡ length p.modules) (sym c.self.view_is) c.requires.once in
    still_once ms _ c.self.inside.pairs c.set.new.self c.args.place c.in_ok-url.url c.in_ok-text.text bytes once c.set.ensures
    (written ms _ c.args.place c.index.result.now c.in_ok-url.url bytes within (search rules) (search rules) refl)

pub returns-clause-bytes : goal.returns-clause-bytes
returns-clause-bytes c =
    let ms = c.self.inside.modules.items in
    let within = subst (λ (p : Paired). c.args.place < length p.modules) (sym c.self.view_is) c.requires.place in
    written ms _ c.args.place c.index.result.now c.in_ok-url.url c.in_ok-bytes.bytes.value within (search rules) (search rules) refl
    ∙ (λ i. with_bytes (c.self.view_is i).modules c.args.place (c.in_ok-bytes.ensures i))
