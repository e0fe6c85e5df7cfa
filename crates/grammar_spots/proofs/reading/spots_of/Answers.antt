use Rattle.std.proofs.Common.{◌≡◌, ◌∙◌, ap, sym, subst, List, ℕ, Ok, Err, Some, None, slice_range}
use Rattle.module_spec.specs.Tokens.{ReadsTokens}
use Rattle.grammar_spec.specs.Sights.{has_line_end}
use Rattle.grammar_spots.specs.Making.{IsSpotOf}
use Rattle.grammar_spots.proofs.SpotsSoFar.{nothing_kept, said, all_kept, fault_found, shorter, open_before, open_behind, one_more_kept}
use Rattle.grammar_spots.proofs.reading.spots_of.Goals as goal

pub read-init : goal.read-init
read-init c = nothing_kept c.args.text.now c.in_ok-lexer.lexer c.new-spots.result c.in_ok-lexer.ensures c.new-spots.ensures

pub returns-in-Err-clause-fault : goal.returns-in-Err-clause-fault
returns-in-Err-clause-fault c fault e =
    let same : c.in-Err.fault ≡ fault = cc in
    let now = said (Err c.in-Err.fault) c.next.new.self.1 c.read.invariant c.in-Err.ensures.next in
    subst (λ f. ReadsTokens c.args.text.now (Err f)) same (fault_found c.next.new.self.1 c.in-Err.fault c.read.invariant now)

pub returns-in-Ok-None-clause-spots : goal.returns-in-Ok-None-clause-spots
returns-in-Ok-None-clause-spots c =
    all_kept c.next.new.self.1 c.read.invariant
    (said (Ok None) c.next.new.self.1 c.read.invariant (rw c.in-Ok-None.field-0-is at c.in-Ok-None.ensures.next))

pub read-smaller : goal.read-smaller
read-smaller c =
    shorter c.next.new.self.1 c.in-Ok-Some.token c.read.invariant
    (said (Ok (Some c.in-Ok-Some.token)) c.next.new.self.1 c.read.invariant (rw c.in-Ok-Some.field-0-is at c.in-Ok-Some.ensures.next))

pub read-preserved : goal.read-preserved
read-preserved c =
    let now = said (Ok (Some c.in-Ok-Some.token)) c.next.new.self.1 c.read.invariant (rw c.in-Ok-Some.field-0-is at c.in-Ok-Some.ensures.next) in
    one_more_kept c.next.new.self c.push.new.self c.in-Ok-Some.token c.in_ok-spot-in-Ok-Some.spot c.has_line_end-line.result
    c.depth-depth.result c.depth.result c.read.invariant c.in-Ok-Some.ensures.text now
    (rw c.in-Ok-Some.field-0-is at c.in-Ok-Some.ensures.span)
    (c.has_line_end-line.ensures
    ∙ (ap has_line_end c.between.ensures
    ∙ ap (λ (b : List ℕ). has_line_end (slice_range b c.read.end c.in-Ok-Some.token.from)) c.as_bytes-bytes.ensures.value))
    (open_before c.depth-depth.result c.read.invariant c.depth-depth.ensures)
    (open_behind c.next.new.self c.depth.result c.in-Ok-Some.token c.read.invariant c.in-Ok-Some.ensures.text now c.depth.ensures)
    (subst (λ b. IsSpotOf b c.in-Ok-Some.token c.has_line_end-line.result c.depth-depth.result c.depth.result c.in_ok-spot-in-Ok-Some.spot) c.as_bytes-bytes.ensures.value c.in_ok-spot-in-Ok-Some.ensures)
    c.in_ok-push-in-Ok-Some.ensures
