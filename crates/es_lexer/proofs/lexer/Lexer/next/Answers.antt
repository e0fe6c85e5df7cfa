-- A look at the bytes behind all space says what comes; the lemmas on calls put it into words of tokens.
use Rattle.std.proofs.Common.{◌≡◌, ◌-◌, ◌∙◌, ℕ, List, ap, refl, length, take, arith}
use Rattle.es_lexer.specs.Open.{top_of}
use Rattle.es_lexer.specs.State.{Follows}
use Rattle.es_lexer.proofs.Calls.{looked, faulted, ended, given, spanned, stood, skip_at_most, rest_shorter, behind}
use Rattle.es_lexer.proofs.lexer.Lexer.next.Goals as goal

pub overflow_sub-result : goal.overflow_sub-result
overflow_sub-result c = skip_at_most (looked c.as_slice.result.now c.as_slice-depth.result.now c.self.invariant c.skip-bytes.ensures c.as_slice.ensures.value c.top_of-top.ensures c.bracket_of.ensures c.as_slice-depth.ensures.value)

pub overflow_sub-from : goal.overflow_sub-from
overflow_sub-from c = skip_at_most (looked c.as_slice.result.now c.as_slice-depth.result.now c.self.invariant c.skip-bytes.ensures c.as_slice.ensures.value c.top_of-top.ensures c.bracket_of.ensures c.as_slice-depth.ensures.value)

pub slice_bounds-text-count : goal.slice_bounds-text-count
slice_bounds-text-count c = let shorter = rest_shorter (looked c.as_slice.result.now c.as_slice-depth.result.now c.self.invariant c.skip-bytes.ensures c.as_slice.ensures.value c.top_of-top.ensures c.bracket_of.ensures c.as_slice-depth.ensures.value) (rw c.in-Ok-Some.field-0-is at c.in-Ok-Some.ensures.next) in omega (arith, shorter)

pub invariant_of-self : goal.invariant_of-self
invariant_of-self c =
    let top_is : c.top_of-top.result ≡ top_of c.self.inside.stack.items = c.top_of-top.ensures ∙ ap top_of c.as_slice.ensures.value in
    let follows : Follows c.self.inside.last c.follow-last.result (top_of c.self.inside.stack.items) c.in-Ok-Some.sort (take (length c.skip-bytes.result.now - length c.in-Ok-Some.rest.now) c.skip-bytes.result.now) = rw (← top_is) c.follow-last.ensures in
    let look = looked c.as_slice.result.now c.as_slice-depth.result.now c.self.invariant c.skip-bytes.ensures c.as_slice.ensures.value c.top_of-top.ensures c.bracket_of.ensures c.as_slice-depth.ensures.value in
    rw c.change.ensures.items (behind c.in-Ok-Some.sort look (rw c.in-Ok-Some.field-0-is at c.in-Ok-Some.ensures.next) (rw c.in-Ok-Some.field-0-is at c.in-Ok-Some.ensures.allowed) c.change.ensures.capacity follows)

pub returns-in-Err : goal.returns-in-Err
returns-in-Err c =
    record {
      text = refl;
      span = tt;
      reached = stood c.args.self.now c.self.view_is c.self.invariant;
      next = faulted c.args.self.now c.in-Err.kind c.self.view_is (looked c.as_slice.result.now c.as_slice-depth.result.now c.self.invariant c.skip-bytes.ensures c.as_slice.ensures.value c.top_of-top.ensures c.bracket_of.ensures c.as_slice-depth.ensures.value) c.in-Err.ensures.next;
    }

pub returns-in-Ok-None : goal.returns-in-Ok-None
returns-in-Ok-None c =
    record {
      text = refl;
      span = tt;
      reached = stood c.args.self.now c.self.view_is c.self.invariant;
      next = ended c.args.self.now c.self.view_is (looked c.as_slice.result.now c.as_slice-depth.result.now c.self.invariant c.skip-bytes.ensures c.as_slice.ensures.value c.top_of-top.ensures c.bracket_of.ensures c.as_slice-depth.ensures.value) (rw c.in-Ok-None.field-0-is at c.in-Ok-None.ensures.next);
    }

pub returns-in-Ok-Some : goal.returns-in-Ok-Some
returns-in-Ok-Some c =
    let look = looked c.as_slice.result.now c.as_slice-depth.result.now c.self.invariant c.skip-bytes.ensures c.as_slice.ensures.value c.top_of-top.ensures c.bracket_of.ensures c.as_slice-depth.ensures.value in
    record {
      text = ap (λ (p : List ℕ × List ℕ). p.0) c.self.view_is;
      span = spanned c.args.self.now c.in-Ok-Some.sort c.kind_of.result c.self.view_is look (rw c.in-Ok-Some.field-0-is at c.in-Ok-Some.ensures.next);
      reached = stood c.args.self.now c.self.view_is c.self.invariant;
      next = given c.args.self.now c.in-Ok-Some.sort c.kind_of.result c.self.view_is look (rw c.in-Ok-Some.field-0-is at c.in-Ok-Some.ensures.next) c.kind_of.ensures;
    }
