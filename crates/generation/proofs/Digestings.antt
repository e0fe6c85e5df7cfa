-- How the digests of a trace are put together, from its last module on.
use Rattle.std.proofs.Common.{◌≡◌, ◌<◌, ◌≤◌, ℕ, zero, suc, List, [], ◌∷◌, length, drop, Some, Result, Ok, Err, refl, sym, ap, ◌∙◌, subst, arith}
use Rattle.std.specs.BTreeMap.{BTreeMap, Updates}
use Rattle.std.specs.Cmp.Lexicographic.{slice_cmp}
use Rattle.std.specs.FinMap.{entries, from_entries, insert}
use Rattle.std.proofs.lemmas.List.{drop_all}
use Rattle.std.specs.Ordering.{nat_cmp}
use Rattle.std.specs.Prelude.{map, slice_get, IfOk}
use Rattle.import_map_spec.specs.ParsedMap.{Texts}
use Rattle.trace_spec.specs.Modules.{Config, Module, web_name}
use Rattle.trace_spec.specs.Questions.{Source}
use Rattle.trace_spec.specs.Walking.{a_module}
use Rattle.generator_spec.specs.Digests.{digests, with_digest}
use Rattle.layout.proofs.Ordered.{entries_mapped}
use Rattle.layout.proofs.Updates.{finite_insert}
use Rattle.scope_builder.specs.Keys.{InKeyOrder}
use Rattle.generation.specs.Digesting.{kept_texts}

pub kept_inserted : (m n : BTreeMap (List ℕ) (List ℕ)) (key text digest : List ℕ) → text ≡ digest → Updates (slice_cmp nat_cmp) m n key (Some text) → kept_texts n ≡ insert (kept_texts m) key digest
kept_inserted m n key text digest t put = finite_insert (λ x. x) m n key text put ∙ ap (insert (kept_texts m) key) t

same_pairs : (es : List (List ℕ × List ℕ)) → map (λ e. (e.0, e.1)) es ≡ es
same_pairs [] = refl
same_pairs (e ∷ es) = ap (λ more. e ∷ more) (same_pairs es)

-- the pairs in the order of their keys are the entries
pub kept_entries : (kept : BTreeMap (List ℕ) (List ℕ)) → InKeyOrder kept.entries → kept.entries ≡ entries (kept_texts kept)
kept_entries kept order = sym (entries_mapped (λ x. x) kept.entries order ∙ same_pairs kept.entries)

-- none yet, behind the last module
pub no_digests : (config : Config) (modules : List Module) (sources : List Source) (n : ℕ) (kept : BTreeMap (List ℕ) (List ℕ)) → n ≡ length modules → n ≡ length sources → kept.entries ≡ [] → kept_texts kept ≡ digests config (drop n modules) (drop n sources)
no_digests config modules sources n kept all same none =
    (λ i. kept_texts_of (none i))
    ∙ sym (λ i. digests config (behind modules n all i) (behind sources n same i))
  where
    kept_texts_of : List (List ℕ × List ℕ) → Texts (List ℕ)
    kept_texts_of es = from_entries (map (λ e. (e.0, e.1)) es)

    behind : {A : Type 0} (xs : List A) (n : ℕ) → n ≡ length xs → drop n xs ≡ []
    behind xs n e = drop_all n xs (omega (arith, e))

-- the digest of the module at a place, before those behind it
next_digest : (config : Config) (modules : List Module) (sources : List Source) (place : ℕ) (before after : Texts (List ℕ)) → place < length modules → length modules ≡ length sources → before ≡ digests config (drop (suc place) modules) (drop (suc place) sources)
    → ((m : Module) (source : Source) → slice_get modules place ≡ Some m → slice_get sources place ≡ Some source → after ≡ with_digest (web_name config (a_module m)) source.bytes before)
    → after ≡ digests config (drop place modules) (drop place sources)
next_digest config [] sources place before after below same e put = absurd (omega (arith, below))
next_digest config (m ∷ modules) [] place before after below same e put = absurd (omega (arith, same))
next_digest config (m ∷ modules) (source ∷ sources) zero before after below same e put = put m source refl refl ∙ ap (with_digest (web_name config (a_module m)) source.bytes) e
next_digest config (m ∷ modules) (source ∷ sources) (suc place) before after below same e put =
    next_digest config modules sources place before after (omega (arith, below)) (omega (arith, same)) e (λ n own at there. put n own at there)

pub digest_before : (config : Config) (modules : List Module) (sources : List Source) (place now : ℕ) (before after : Texts (List ℕ)) → now ≡ suc place → now ≤ length modules → length modules ≡ length sources → before ≡ digests config (drop now modules) (drop now sources)
    → ((m : Module) (source : Source) → slice_get modules place ≡ Some m → slice_get sources place ≡ Some source → after ≡ with_digest (web_name config (a_module m)) source.bytes before)
    → after ≡ digests config (drop place modules) (drop place sources)
digest_before config modules sources place now before after is within same e put =
    next_digest config modules sources place before after (omega (arith, is, within)) same
    (e ∙ (λ i. digests config (drop (is i) modules) (drop (is i) sources))) put

-- the pairs of all modules
pub all_digests : {E : Type 0} (config : Config) (modules : List Module) (sources : List Source) (place : ℕ) (kept : BTreeMap (List ℕ) (List ℕ)) (result : Result (List (List ℕ × List ℕ)) E) → place ≡ 0 → kept_texts kept ≡ digests config (drop place modules) (drop place sources) → IfOk result (λ pairs. pairs ≡ kept.entries) → IfOk result InKeyOrder
    → IfOk result (λ pairs. pairs ≡ entries (digests config modules sources))
all_digests config modules sources place kept (Err fault) none same are order = tt
all_digests config modules sources place kept (Ok pairs) none same are order =
    are ∙ (kept_entries kept (subst InKeyOrder are order) ∙ (ap entries same ∙ (λ i. entries (digests config (drop (none i) modules) (drop (none i) sources)))))
