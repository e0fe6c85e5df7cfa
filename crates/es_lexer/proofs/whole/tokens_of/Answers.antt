use Rattle.std.proofs.Common.{◌≡◌, subst, Ok, Err, Some, None}
use Rattle.module_spec.specs.Tokens.{ReadsTokens}
use Rattle.es_lexer.proofs.Lists.{nothing_listed, said, all_listed, fault_found, one_more_listed, listing_shorter}
use Rattle.es_lexer.proofs.whole.tokens_of.Goals as goal

pub read-init : goal.read-init
read-init c = nothing_listed c.args.text.now c.in_ok-lexer.lexer c.new-tokens.result c.in_ok-lexer.ensures c.new-tokens.ensures

pub returns-in-Err-clause-fault : goal.returns-in-Err-clause-fault
returns-in-Err-clause-fault c fault e =
    let same : c.in-Err.fault ≡ fault = cc in
    let now = said c.args.text.now c.read.lexer c.read.tokens (Err c.in-Err.fault) c.next.new.self.1 c.read.invariant c.in-Err.ensures.next in
    subst (λ f. ReadsTokens c.args.text.now (Err f)) same (fault_found c.args.text.now c.read.lexer c.read.tokens c.next.new.self.1 c.in-Err.fault c.read.invariant now)

pub returns-in-Ok-None-clause-tokens : goal.returns-in-Ok-None-clause-tokens
returns-in-Ok-None-clause-tokens c =
    let now = said c.args.text.now c.read.lexer c.read.tokens (Ok None) c.next.new.self.1 c.read.invariant (rw c.in-Ok-None.field-0-is at c.in-Ok-None.ensures.next) in
    all_listed c.args.text.now c.read.lexer c.read.tokens c.next.new.self.1 c.read.invariant now

pub read-smaller : goal.read-smaller
read-smaller c =
    let now = said c.args.text.now c.read.lexer c.read.tokens (Ok (Some c.in-Ok-Some.token)) c.next.new.self.1 c.read.invariant (rw c.in-Ok-Some.field-0-is at c.in-Ok-Some.ensures.next) in
    listing_shorter c.args.text.now c.read.lexer c.read.tokens c.next.new.self.1 c.in-Ok-Some.token c.read.invariant now

pub read-preserved : goal.read-preserved
read-preserved c =
    let now = said c.args.text.now c.read.lexer c.read.tokens (Ok (Some c.in-Ok-Some.token)) c.next.new.self.1 c.read.invariant (rw c.in-Ok-Some.field-0-is at c.in-Ok-Some.ensures.next) in
    one_more_listed c.args.text.now c.read.lexer c.next.new.self c.read.tokens c.push.new.self c.in-Ok-Some.token c.read.invariant c.in-Ok-Some.ensures.text now c.in_ok-push-in-Ok-Some.ensures
