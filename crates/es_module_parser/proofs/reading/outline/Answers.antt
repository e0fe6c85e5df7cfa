use Rattle.std.proofs.Common.{◌∙◌, List, ℕ, Ok, Err, Some, None, refl, sym, ap, slice_range}
use Rattle.module_spec.specs.StringValues.{string_value}
use Rattle.es_module_parser.specs.Progress.{progress_behind, requests_behind, ended}
use Rattle.es_module_parser.proofs.TokensRead.{nothing_read, said, ends_whole, ends_fault, lexical_read, shorter, call_read, read_on, idle_on}
use Rattle.es_module_parser.proofs.reading.outline.Goals as goal

pub read-init : goal.read-init
read-init g c = nothing_read c.args.text.now c.in_ok-lexer.lexer c.new-asked.result c.in_ok-lexer.ensures c.new-asked.ensures

pub returns-in-Err-clause-fault : goal.returns-in-Err-clause-fault
returns-in-Err-clause-fault g c = lexical_read c.next.new.self.1 c.in-Err.fault c.lexical.result c.read.invariant (said (Err c.in-Err.fault) c.next.new.self.1 c.read.invariant c.in-Err.ensures.next) c.lexical.ensures

pub returns-in-Ok-None-clause-fault : goal.returns-in-Ok-None-clause-fault
returns-in-Ok-None-clause-fault g c =
    ends_fault c.next.new.self.1 (ended c.read.progress) c.read.invariant (said (Ok None) c.next.new.self.1 c.read.invariant (rw c.in-Ok-None.field-0-is at c.in-Ok-None.ensures.next)) refl c.outline_at_end.result c.outline_at_end.ensures

pub returns-in-Ok-None-clause-outline : goal.returns-in-Ok-None-clause-outline
returns-in-Ok-None-clause-outline g c =
    ends_whole c.next.new.self.1 (ended c.read.progress) c.read.invariant (said (Ok None) c.next.new.self.1 c.read.invariant (rw c.in-Ok-None.field-0-is at c.in-Ok-None.ensures.next)) refl c.outline_at_end.result c.outline_at_end.ensures

pub read-smaller-then-is_idle : goal.read-smaller-then-is_idle
read-smaller-then-is_idle g c = shorter c.next.new.self.1 c.in-Ok-Some.token c.read.invariant (said (Ok (Some c.in-Ok-Some.token)) c.next.new.self.1 c.read.invariant (rw c.in-Ok-Some.field-0-is at c.in-Ok-Some.ensures.next))

pub read-preserved-then-is_idle : goal.read-preserved-then-is_idle
read-preserved-then-is_idle g c =
    idle_on c.next.new.self c.in-Ok-Some.token (slice_range c.as_bytes-bytes.result.now c.in-Ok-Some.token.from c.in-Ok-Some.token.to) c.read.invariant c.in-Ok-Some.ensures.text (rw c.in-Ok-Some.field-0-is at c.in-Ok-Some.ensures.span)
    (said (Ok (Some c.in-Ok-Some.token)) c.next.new.self.1 c.read.invariant (rw c.in-Ok-Some.field-0-is at c.in-Ok-Some.ensures.next))
    (ap (λ (b : List ℕ). slice_range b c.in-Ok-Some.token.from c.in-Ok-Some.token.to) c.as_bytes-bytes.ensures.value)
    c.if-is_idle.ensures

pub read-smaller : goal.read-smaller
read-smaller g c = shorter c.next.new.self.1 c.in-Ok-Some.token c.read.invariant (said (Ok (Some c.in-Ok-Some.token)) c.next.new.self.1 c.read.invariant (rw c.in-Ok-Some.field-0-is at c.in-Ok-Some.ensures.next))

pub heard-requires : goal.heard-requires
heard-requires g c = call_read c.seen_at-seen.result (slice_range c.as_bytes-bytes.result.now c.in-Ok-Some.token.from c.in-Ok-Some.token.to) c.call-called.result c.read.invariant c.call-called.ensures

pub read-preserved : goal.read-preserved
read-preserved g c =
    read_on c.next.new.self c.call-called.result c.in_ok-heard-in-Ok-Some.heard c.heard.new.asked c.step-next.result c.in_ok-progress-in-Ok-Some.progress c.progress.new.asked c.token-after.result c.declares-declares.result c.in-Ok-Some.token (slice_range c.as_bytes-bytes.result.now c.in-Ok-Some.token.from c.in-Ok-Some.token.to) c.before_property-plain.result c.depth-depth.result c.depth.result c.seen_at-seen.result
    c.read.invariant c.in-Ok-Some.ensures.text (rw c.in-Ok-Some.field-0-is at c.in-Ok-Some.ensures.span)
    (said (Ok (Some c.in-Ok-Some.token)) c.next.new.self.1 c.read.invariant (rw c.in-Ok-Some.field-0-is at c.in-Ok-Some.ensures.next))
    c.before_property-plain.ensures c.depth-depth.ensures c.depth.ensures c.seen_at-seen.ensures
    (ap (λ (b : List ℕ). slice_range b c.in-Ok-Some.token.from c.in-Ok-Some.token.to) c.as_bytes-bytes.ensures.value)
    c.call-called.ensures
    c.in_ok-heard-in-Ok-Some.ensures.progress c.in_ok-heard-in-Ok-Some.ensures.asked
    c.step-next.ensures
    (c.in_ok-progress-in-Ok-Some.ensures.progress ∙ ap (λ (b : List ℕ). progress_behind c.step-next.result c.in-Ok-Some.token (string_value (slice_range b c.in-Ok-Some.token.from c.in-Ok-Some.token.to)) c.heard.new.asked) (sym c.as_bytes-bytes.ensures.value))
    (c.in_ok-progress-in-Ok-Some.ensures.asked ∙ ap (λ (b : List ℕ). requests_behind c.step-next.result c.in-Ok-Some.token (string_value (slice_range b c.in-Ok-Some.token.from c.in-Ok-Some.token.to)) c.heard.new.asked) (sym c.as_bytes-bytes.ensures.value))
    c.declares-declares.ensures c.token-after.ensures
