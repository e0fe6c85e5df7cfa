-- The same fault again.
use Rattle.std.proofs.Common.{◌≡◌, ℕ, List, Some, None, Ok, Err, length, refl, sym, ◌∙◌, ap, subst}
use Rattle.module_spec.specs.Tokens.{Lexeme, Next, IsNext, fault_of}
use Rattle.module_spec.specs.Tokens.Next.{Ends, Faults, Gives}
use Rattle.module_spec.proofs.TokenLaws.{one_next}
use Rattle.es_lexer.specs.Again.{SameFaultAgain}

at_rest : (before : List Lexeme) (rest after : List ℕ) (out : Next) → after ≡ rest → IsNext before after out → IsNext before rest out
at_rest before rest after out e n = subst (λ r. IsNext before r out) e n

pub same_fault_again : SameFaultAgain
same_fault_again text before rest after later fault (Ok None) a b =
    let e = one_next before rest (Faults a.0 fault.kind) Ends a.1 (at_rest before rest after Ends a.3 b.0) in cc
same_fault_again text before rest after later fault (Ok (Some token)) a b =
    let e = one_next before rest (Faults a.0 fault.kind) (Gives b.lexeme later) a.1 (at_rest before rest after (Gives b.lexeme later) a.3 b.next) in cc
same_fault_again text before rest after later fault (Err answer) a b =
    let e = one_next before rest (Faults a.0 fault.kind) (Faults b.0 answer.kind) a.1 (at_rest before rest after (Faults b.0 answer.kind) a.3 b.1) in
    let lefts : a.0 ≡ b.0 = cc in
    let kinds : fault.kind ≡ answer.kind = cc in
    let first : fault ≡ fault_of (length text) a.0 fault.kind = a.2 in
    let second : answer ≡ fault_of (length text) b.0 answer.kind = b.2 in
    let f : fault_of (length text) b.0 answer.kind ≡ fault_of (length text) a.0 fault.kind = rw (lefts, kinds) refl in
    ap (λ x. Err x) (second ∙ (f ∙ sym first))
