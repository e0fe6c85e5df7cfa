-- How scopes are put one by one.
use Rattle.std.proofs.Common.{◌≡◌, ◌<◌, ◌+◌, ℕ, List, [], ◌∷◌, ◌++◌, drop, length, reverse, ap, sym, ◌∙◌, subst}
use Rattle.std.specs.FinMap.{empty}
use Rattle.std.specs.Prelude.{Result, Ok, MatchResult, slice_index_or}
use Rattle.std.proofs.lemmas.List.{drop_more, reverse-append}
use denote.Ref.{Bor}
use Rattle.json_spec.specs.PropertyOrder.{in_property_order}
use Rattle.json_spec.specs.Value.{Json, an_object, Members, a_member}
use Rattle.url_spec.specs.Parsing.{parse_against}
use Rattle.import_map_spec.specs.ParsedMap.{Addresses, Texts}
use Rattle.import_map_spec.specs.declared.MapPart.{MapPart}
use Rattle.ordered_json.specs.Shown.{json_of, members_of}
use Rattle.ordered_json.specs.declared.value.Value.{Value}
use Rattle.ordered_json.specs.Lent.{lent}
use Rattle.map_parse.specs.Faults.{FailsPart}
use Rattle.map_parse.specs.declared.fault.MapFault.{MapFault}
use Rattle.import_map_spec.specs.Parsing.{scopes_onto, normalized_scopes, with_scope, normalized_addresses}

pub scope_put : (base : List ℕ) (old new : Texts Addresses) (key : List ℕ) (value : Json) (ms more : Members) → value ≡ an_object ms
    → new ≡ with_scope (parse_against base key) (normalized_addresses base ms) old → scopes_onto base old (a_member key value more) ≡ scopes_onto base new more
scope_put base old new key value ms more object e = ap (λ v. scopes_onto base old (a_member key v more)) object ∙ ap (λ m. scopes_onto base m more) (sym e)

-- the fault of the next member is that of what is left
pub next_fails : (base : List ℕ) (m : Texts Addresses) (out : Result (Texts Addresses) MapPart) (fault : MapFault) (pairs : List (Bor (List ℕ × Value))) (i : ℕ) (pair : Bor (List ℕ × Value)) (key : List ℕ) (value : Json) → out ≡ scopes_onto base m (lent (drop i pairs))
    → i < length pairs → pair ≡ slice_index_or pairs i pair → ((ms : Members) → FailsPart fault (scopes_onto base m (a_member key value ms))) → key ≡ pair.now.0 → value ≡ json_of pair.now.1 → FailsPart fault out
next_fails base m out fault pairs i pair key value e inside here f same also =
    let split : drop i pairs ≡ pair ∷ drop (i + 1) pairs = drop_more pairs i pair inside ∙ ap (λ p. p ∷ drop (i + 1) pairs) (sym here) in
    subst (FailsPart fault)
    (sym (e ∙ (ap (λ ps. scopes_onto base m (lent ps)) split ∙ (sym (ap (λ k. scopes_onto base m (a_member k (json_of pair.now.1) (lent (drop (i + 1) pairs)))) same) ∙ sym (ap (λ v. scopes_onto base m (a_member key v (lent (drop (i + 1) pairs)))) also))))) (f (lent (drop (i + 1) pairs)))

-- the same of the last of pairs that stand the other way round
pub last_fails : (base : List ℕ) (m : Texts Addresses) (out : Result (Texts Addresses) MapPart) (fault : MapFault) (pairs left : List (List ℕ × Value)) (key written : List ℕ) (value : Value) → out ≡ scopes_onto base m (members_of (reverse pairs))
    → pairs ≡ left ++ (written, value) ∷ [] → key ≡ written → ((more : Members) → FailsPart fault (scopes_onto base m (a_member key (json_of value) more))) → FailsPart fault out
last_fails base m out fault pairs left key written value e last same f =
    subst (FailsPart fault)
    (sym (e ∙ ap (λ ps. scopes_onto base m (members_of ps)) (ap reverse last ∙ reverse-append left ((written, value) ∷ []))))
    (subst (λ k. FailsPart fault (scopes_onto base m (a_member k (json_of value) (members_of (reverse left))))) same (f (members_of (reverse left))))

-- scopes whose members stand in property order are put as they are written
pub put_as_written : (base : List ℕ) (ms : Members) (found : Result (Texts Addresses) MapFault) → in_property_order ms ≡ ms
    → MatchResult found (λ scopes. scopes_onto base empty ms ≡ Ok scopes) (λ fault. FailsPart fault (scopes_onto base empty ms))
    → MatchResult found (λ scopes. normalized_scopes base ms ≡ Ok scopes) (λ fault. FailsPart fault (normalized_scopes base ms))
put_as_written base ms found e h = subst (λ xs. MatchResult found (λ scopes. scopes_onto base empty xs ≡ Ok scopes) (λ fault. FailsPart fault (scopes_onto base empty xs))) (sym e) h
