-- How the digests that are kept follow a trace.
use Rattle.std.proofs.Common.{◌≡◌, ◌+◌, ◌<◌, ◌≤◌, ℕ, zero, suc, Bool, true, false, cond, List, [], ◌∷◌, length, take, Option, Some, None, Result, Ok, Err, refl, sym, ap, ◌∙◌, subst, arith}
use Rattle.std.specs.Prelude.{T, ◌&&◌, IfOk, IsTrue, slice_get, slice_set, get_or, is_some, option_map, option_and_then, bytes_eq}
use Rattle.std.specs.Ordering.{nat_cmp, is_lt}
use Rattle.std.specs.Cmp.Lexicographic.{slice_cmp, nat_list_cmp_total, texts_ties}
use Rattle.std.specs.FinMap.{entries, find, get, insert, len, same_map, entries_sorted, get-entries, len-entries, len-empty, len-insert, slice_cmp-IsAntisymmetric, nat_cmp-IsAntisymmetric}
use Rattle.std.specs.FinMap.Entries.{below_all, is_sorted, same_entries}
use Rattle.std.proofs.lemmas.Bool.{cases_Bool, cases_lt, cond-true, cond-false, true≢false}
use Rattle.std.proofs.lemmas.List.{take_all}
use mathlib.Core.Logic.{inl, inr}
use Rattle.import_map_spec.specs.ParsedMap.{Texts}
use Rattle.import_map_spec.proofs.Entries.{same_key, same_key_is, same_key_itself, get_inserted, insert_again}
use Rattle.integrity_spec.specs.DigestTexts.{digest_text}
use Rattle.trace_spec.specs.Modules.{Config, Module, web_name}
use Rattle.trace_spec.specs.Questions.{Source}
use Rattle.trace_spec.specs.Walking.{a_module}
use Rattle.generator_spec.specs.Digests.{digests, with_digest}
use Rattle.scope_builder.specs.Keys.{with_value}
use Rattle.scope_builder.proofs.Values.{same_text}
use Rattle.generation.specs.Pairing.{UrlBytes, HasUrlAt, HasUrls, before_named, digests_of, named, turned, with_bytes, with_named}
use Rattle.generation.proofs.KeptNeeds.{got}

-- ---- a value at a key of a finite map

module _ (key : List ℕ) (value : List ℕ) where
  abbrev Pairs : Type 0
  Pairs = List (List ℕ × List ℕ)

  below_value : (first : List ℕ) (es : Pairs) → below_all (slice_cmp nat_cmp) first (with_value es key value) ≡ below_all (slice_cmp nat_cmp) first es
  below_value first [] = refl
  below_value first (e ∷ es) = ap (λ b. is_lt (slice_cmp nat_cmp first e.0) && b) (below_value first es)

  sorted_value : (es : Pairs) → is_sorted (slice_cmp nat_cmp) (with_value es key value) ≡ is_sorted (slice_cmp nat_cmp) es
  sorted_value [] = refl
  sorted_value (e ∷ es) = λ i. below_value e.0 es i && sorted_value es i

  abbrev valued : List ℕ → List ℕ → List ℕ
  valued q x = cond (bytes_eq q key) value x

  found_value : (q : List ℕ) (es : Pairs) → find (slice_cmp nat_cmp) q (with_value es key value) ≡ option_map (valued q) (find (slice_cmp nat_cmp) q es)
  found_value q [] = refl
  found_value q (e ∷ es) =
      elim (cases_Bool (same_key q e.0)) [
        | inl same ↦ cond-true _ _ _ same ∙ (ap (λ t. Some (valued t e.1)) (sym (same_key_is q e.0 same)) ∙ sym (ap (option_map (valued q)) (cond-true _ _ _ same)))
        | inr other ↦ cond-false _ _ _ other ∙ (found_value q es ∙ sym (ap (option_map (valued q)) (cond-false _ _ _ other)))
      ]

  all_valued : (b : Bool) (found : Option (List ℕ)) → (b ≡ true → is_some found ≡ true) → option_map (λ x. cond b value x) found ≡ cond b (Some value) found
  all_valued true None there = absurd (true≢false (sym (there refl)))
  all_valued true (Some x) there = refl
  all_valued false None there = refl
  all_valued false (Some x) there = refl

  pub value_entries : (m : Texts (List ℕ)) → is_some (get m key) ≡ true → with_value (entries m) key value ≡ entries (insert m key value)
  value_entries m there =
      same_entries (slice_cmp nat_cmp) nat_list_cmp_total (slice_cmp-IsAntisymmetric nat_cmp-IsAntisymmetric) (with_value (entries m) key value) (entries (insert m key value))
      (subst T (sym (sorted_value (entries m))) (entries_sorted m)) (entries_sorted (insert m key value)) (λ q. found q)
    where
      here : (q : List ℕ) → bytes_eq q key ≡ true → is_some (get m q) ≡ true
      here q same = subst (λ t. is_some (get m t) ≡ true) (sym (same_text q key same)) there

      found : (q : List ℕ) → find (slice_cmp nat_cmp) q (with_value (entries m) key value) ≡ find (slice_cmp nat_cmp) q (entries (insert m key value))
      found q =
          found_value q (entries m) ∙ (ap (option_map (valued q)) (sym (get-entries m q))
          ∙ (all_valued (bytes_eq q key) (get m q) (here q)
          ∙ (ap (λ b. cond b (Some value) (get m q)) (texts_ties q key)
          ∙ (sym (get_inserted m key value q) ∙ get-entries (insert m key value) q))))

  pub value_length : (es : Pairs) → length (with_value es key value) ≡ length es
  value_length [] = refl
  value_length (e ∷ es) = ap suc (value_length es)

-- ---- inserts at two keys

crossed : {X : Type 0} (a b : Bool) (x y : X) (o : Option X) → (a ≡ true → b ≡ true → ⊥) → cond a (Some x) (cond b (Some y) o) ≡ cond b (Some y) (cond a (Some x) o)
crossed true true x y o apart = absurd (apart refl refl)
crossed true false x y o apart = refl
crossed false b x y o apart = refl

insert_crossed : (m : Texts (List ℕ)) (one other x y : List ℕ) → (one ≡ other → ⊥) → insert (insert m other y) one x ≡ insert (insert m one x) other y
insert_crossed m one other x y apart =
    same_map nat_list_cmp_total (slice_cmp-IsAntisymmetric nat_cmp-IsAntisymmetric) _ _
    (λ q. get_inserted (insert m other y) one x q
    ∙ (ap (cond (same_key q one) (Some x)) (get_inserted m other y q)
    ∙ (crossed (same_key q one) (same_key q other) x y (get m q) (λ s t. apart (sym (same_key_is q one s) ∙ same_key_is q other t))
    ∙ (sym (ap (cond (same_key q other) (Some y)) (get_inserted m one x q)) ∙ sym (get_inserted (insert m one x) other y q)))))

-- ---- URLs that stand once

some_either : {X : Type 0} (b : Bool) (x : X) (o : Option X) → is_some o ≡ true → is_some (cond b (Some x) o) ≡ true
some_either true x o some = refl
some_either false x o some = some

contained : (ms : List UrlBytes) (place : ℕ) (e : UrlBytes) → slice_get ms place ≡ Some e → is_some (get (digests_of ms) e.url) ≡ true
contained [] place e at = absurd (cc)
contained (m ∷ ms) zero e at =
    let same : m ≡ e = cc in
    ap is_some (get_inserted (digests_of ms) m.url (digest_text m.bytes) e.url)
    ∙ ap is_some (cond-true (same_key e.url m.url) (Some (digest_text m.bytes)) (get (digests_of ms) e.url) (subst (λ (k : UrlBytes). same_key e.url k.url ≡ true) (sym same) (same_key_itself e.url)))
contained (m ∷ ms) (suc place) e at =
    ap is_some (get_inserted (digests_of ms) m.url (digest_text m.bytes) e.url)
    ∙ some_either (same_key e.url m.url) (digest_text m.bytes) (get (digests_of ms) e.url) (contained ms place e at)

no_more : (b : Bool) (a n : ℕ) → a ≤ n → cond b a (a + 1) ≤ suc n
no_more true a n at_most = omega (arith, at_most)
no_more false a n at_most = omega (arith, at_most)

at_most : (ms : List UrlBytes) → len (digests_of ms) ≤ length ms
at_most [] = let none = len-empty (slice_cmp nat_cmp) (List ℕ) in omega (arith, none)
at_most (m ∷ ms) =
    subst (λ n. n ≤ suc (length ms)) (sym (len-insert nat_list_cmp_total (digests_of ms) m.url (digest_text m.bytes))) (no_more (is_some (get (digests_of ms) m.url)) _ _ (at_most ms))

one_new : (b : Bool) (a n : ℕ) → a ≤ n → cond b a (a + 1) ≡ suc n → (b ≡ false) × (a ≡ n)
one_new true a n at_most same = absurd (omega (arith, at_most, same))
one_new false a n at_most same = (refl, omega (arith, same))

first_once : (m : UrlBytes) (ms : List UrlBytes) → len (digests_of (m ∷ ms)) ≡ suc (length ms) → (is_some (get (digests_of ms) m.url) ≡ false) × (len (digests_of ms) ≡ length ms)
first_once m ms once = one_new _ _ _ (at_most ms) (sym (len-insert nat_list_cmp_total (digests_of ms) m.url (digest_text m.bytes)) ∙ once)

-- the bytes at a place are others
changed : (ms : List UrlBytes) (place : ℕ) (e : UrlBytes) (bytes : List ℕ) → len (digests_of ms) ≡ length ms → slice_get ms place ≡ Some e → digests_of (with_bytes ms place bytes) ≡ insert (digests_of ms) e.url (digest_text bytes)
changed [] place e bytes once at = absurd (cc)
changed (m ∷ ms) zero e bytes once at =
    let same : m ≡ e = cc in
    sym (insert_again (digests_of ms) m.url (digest_text m.bytes) (digest_text bytes)) ∙ ap (λ (k : UrlBytes). insert (digests_of (m ∷ ms)) k.url (digest_text bytes)) same
changed (m ∷ ms) (suc place) e bytes once at =
    let alone = first_once m ms once in
    let apart : m.url ≡ e.url → ⊥ =
    λ same. true≢false (sym (contained ms place e at) ∙ (ap (λ t. is_some (get (digests_of ms) t)) (sym same) ∙ alone.0)) in
    ap (λ others. insert others m.url (digest_text m.bytes)) (changed ms place e bytes alone.1 at) ∙ insert_crossed (digests_of ms) m.url e.url (digest_text m.bytes) (digest_text bytes) apart

-- ---- one place

set_bytes : (ms : List UrlBytes) (place : ℕ) (e : UrlBytes) (bytes : List ℕ) → slice_get ms place ≡ Some e → slice_set ms place (record { url = e.url; bytes = bytes }) ≡ with_bytes ms place bytes
set_bytes [] place e bytes at = absurd (cc)
set_bytes (m ∷ ms) zero e bytes at = let same : m ≡ e = cc in ap (λ (k : UrlBytes). (record { url = k.url; bytes = bytes }) ∷ ms) (sym same)
set_bytes (m ∷ ms) (suc place) e bytes at = ap (λ more. m ∷ more) (set_bytes ms place e bytes at)

-- the module at a place is written anew
pub written : (ms after : List UrlBytes) (place : ℕ) (e : UrlBytes) (url bytes : List ℕ) → place < length ms → e ≡ get_or ms place e → url ≡ e.url → after ≡ slice_set ms place (record { url = url; bytes = bytes }) → after ≡ with_bytes ms place bytes
written ms after place e url bytes within is own wrote =
    wrote ∙ (ap (λ u. slice_set ms place (record { url = u; bytes = bytes })) own ∙ set_bytes ms place e bytes (got ms place e within is))

pub repaired : (ms now : List UrlBytes) (before after : List (List ℕ × List ℕ)) (place : ℕ) (e : UrlBytes) (url text bytes : List ℕ)
    → before ≡ entries (digests_of ms) → length before ≡ length ms → place < length ms → e ≡ get_or ms place e → url ≡ e.url → text ≡ digest_text bytes
    → after ≡ with_value before url text → now ≡ with_bytes ms place bytes → after ≡ entries (digests_of now)
repaired ms now before after place e url text bytes pairs once within is own digest put wrote =
    let at = got ms place e within is in
    let lengths : len (digests_of ms) ≡ length ms = len-entries (digests_of ms) ∙ (ap length (sym pairs) ∙ once) in
    put ∙ ((λ i. with_value (pairs i) (own i) (digest i))
    ∙ (value_entries e.url (digest_text bytes) (digests_of ms) (contained ms place e at)
    ∙ ap entries (sym (changed ms place e bytes lengths at) ∙ ap digests_of (sym wrote))))

bytes_length : (ms : List UrlBytes) (place : ℕ) (bytes : List ℕ) → length (with_bytes ms place bytes) ≡ length ms
bytes_length [] place bytes = refl
bytes_length (m ∷ ms) zero bytes = refl
bytes_length (m ∷ ms) (suc place) bytes = ap suc (bytes_length ms place bytes)

pub still_once : (ms now : List UrlBytes) (before after : List (List ℕ × List ℕ)) (place : ℕ) (url text bytes : List ℕ) → length before ≡ length ms → after ≡ with_value before url text → now ≡ with_bytes ms place bytes → length after ≡ length now
still_once ms now before after place url text bytes once put wrote =
    ap length put ∙ (value_length url text before ∙ (once ∙ (sym (bytes_length ms place bytes) ∙ ap length (sym wrote))))

same_bytes : (ms : List UrlBytes) (place : ℕ) (e : UrlBytes) (bytes : List ℕ) → slice_get ms place ≡ Some e → e.bytes ≡ bytes → ms ≡ with_bytes ms place bytes
same_bytes [] place e bytes at same = refl
same_bytes (m ∷ ms) zero e bytes at same = let own : m ≡ e = cc in ap (λ b. (record { url = m.url; bytes = b }) ∷ ms) (ap (λ (k : UrlBytes). k.bytes) own ∙ same)
same_bytes (m ∷ ms) (suc place) e bytes at same = ap (λ more. m ∷ more) (same_bytes ms place e bytes at same)

pub stayed : (ms : List UrlBytes) (place : ℕ) (e : UrlBytes) (own bytes : List ℕ) (b : Bool) → place < length ms → e ≡ get_or ms place e → own ≡ e.bytes → b ≡ bytes_eq own bytes → b ≡ true → ms ≡ with_bytes ms place bytes
stayed ms place e own bytes b within is are test same =
    same_bytes ms place e bytes (got ms place e within is) (sym are ∙ same_text own bytes (sym test ∙ same))

-- ---- all places

pub whole : (ms : List UrlBytes) → turned ms [] ≡ ms
whole [] = refl
whole (m ∷ ms) = refl

next_turned : (ms : List UrlBytes) (sources : List Source) (place : ℕ) (source : Source) → slice_get sources place ≡ Some source → with_bytes (turned ms (take place sources)) place source.bytes ≡ turned ms (take (suc place) sources)
next_turned [] sources place source at = refl
next_turned (m ∷ ms) [] place source at = absurd (cc)
next_turned (m ∷ ms) (s ∷ sources) zero source at =
    let same : s ≡ source = cc in λ i. (record { url = m.url; bytes = (sym same i).bytes }) ∷ sym (whole ms) i
next_turned (m ∷ ms) (s ∷ sources) (suc place) source at = ap (λ more. (record { url = m.url; bytes = s.bytes }) ∷ more) (next_turned ms sources place source at)

pub one_turned : (ms before after : List UrlBytes) (sources : List Source) (place : ℕ) (source : Source) → slice_get sources place ≡ Some source → before ≡ turned ms (take place sources) → after ≡ with_bytes before place source.bytes → after ≡ turned ms (take (place + 1) sources)
one_turned ms before after sources place source at done put =
    let next : place + 1 ≡ suc place = omega arith in
    put ∙ (ap (λ now. with_bytes now place source.bytes) done ∙ (next_turned ms sources place source at ∙ ap (λ n. turned ms (take n sources)) (sym next)))

pub all_turned : (ms after : List UrlBytes) (sources : List Source) (place : ℕ) → length sources ≤ place → after ≡ turned ms (take place sources) → after ≡ turned ms sources
all_turned ms after sources place past done = done ∙ ap (turned ms) (take_all place sources past)

-- ---- the digests of a trace

pub turned_digests : (config : Config) (modules : List Module) (sources : List Source) (kept : List UrlBytes) → length modules ≡ length kept → length sources ≡ length kept → HasUrls config modules kept → digests_of (turned kept sources) ≡ digests config modules sources
turned_digests config [] sources [] lengths also urls = refl
turned_digests config [] sources (k ∷ kept) lengths also urls = absurd (omega arith)
turned_digests config (m ∷ modules) sources [] lengths also urls = absurd (omega arith)
turned_digests config (m ∷ modules) [] (k ∷ kept) lengths also urls = absurd (omega arith)
turned_digests config (m ∷ modules) (source ∷ sources) (k ∷ kept) lengths also urls =
    let first : Some (web_name config (a_module m)) ≡ Some (Some k.url) = urls 0 (omega arith) in
    let own : web_name config (a_module m) ≡ Some k.url = cc in
    let rest : digests_of (turned kept sources) ≡ digests config modules sources =
    turned_digests config modules sources kept (omega arith) (omega arith) (λ place l. urls (suc place) (omega arith)) in
    ap (λ others. with_digest (Some k.url) source.bytes others) rest ∙ ap (λ url. with_digest url source.bytes (digests config modules sources)) (sym own)

first_digest : (url : Option (List ℕ)) (bytes : List ℕ) (others : List UrlBytes) → digests_of (before_named url bytes others) ≡ with_digest url bytes (digests_of others)
first_digest None bytes others = refl
first_digest (Some url) bytes others = refl

pub named_digests : (config : Config) (modules : List Module) (sources : List Source) → digests_of (named config modules sources) ≡ digests config modules sources
named_digests config [] sources = refl
named_digests config (m ∷ modules) [] = refl
named_digests config (m ∷ modules) (source ∷ sources) =
    first_digest (web_name config (a_module m)) source.bytes (named config modules sources) ∙ ap (with_digest (web_name config (a_module m)) source.bytes) (named_digests config modules sources)

-- ---- their URLs

single : (url : Option (List ℕ)) (bytes : List ℕ) → before_named url bytes [] ≡ with_named url bytes []
single None bytes = refl
single (Some url) bytes = refl

both_ends : (one : Option (List ℕ)) (these : List ℕ) (other : Option (List ℕ)) (those : List ℕ) (between : List UrlBytes) → before_named one these (with_named other those between) ≡ with_named other those (before_named one these between)
both_ends None these other those between = refl
both_ends (Some one) these None those between = refl
both_ends (Some one) these (Some other) those between = refl

next_named : (config : Config) (modules : List Module) (sources : List Source) (place : ℕ) (m : Module) (source : Source) → slice_get modules place ≡ Some m → slice_get sources place ≡ Some source → with_named (web_name config (a_module m)) source.bytes (named config (take place modules) (take place sources)) ≡ named config (take (suc place) modules) (take (suc place) sources)
next_named config [] sources place m source own at = absurd (cc)
next_named config (n ∷ modules) [] place m source own at = absurd (cc)
next_named config (n ∷ modules) (s ∷ sources) zero m source own at =
    let same : n ≡ m = cc in
    let also : s ≡ source = cc in
    sym (single (web_name config (a_module m)) source.bytes) ∙ (λ i. before_named (web_name config (a_module (sym same i))) (sym also i).bytes [])
next_named config (n ∷ modules) (s ∷ sources) (suc place) m source own at =
    sym (both_ends (web_name config (a_module n)) s.bytes (web_name config (a_module m)) source.bytes (named config (take place modules) (take place sources)))
    ∙ ap (before_named (web_name config (a_module n)) s.bytes) (next_named config modules sources place m source own at)

at_place : {A : Type 0} (xs : List A) (place : ℕ) → place < length xs → (x : A) × (slice_get xs place ≡ Some x)
at_place [] place within = absurd (omega arith)
at_place (x ∷ xs) zero within = (x, refl)
at_place (x ∷ xs) (suc place) within = at_place xs place (omega arith)

pub one_named : (config : Config) (modules : List Module) (sources : List Source) (place : ℕ) (before after : List UrlBytes) → place < length modules → length modules ≡ length sources → before ≡ named config (take place modules) (take place sources)
    → ((m : Module) (source : Source) → slice_get modules place ≡ Some m → slice_get sources place ≡ Some source → after ≡ with_named (web_name config (a_module m)) source.bytes before)
    → after ≡ named config (take (place + 1) modules) (take (place + 1) sources)
one_named config modules sources place before after within same done put =
    let next : place + 1 ≡ suc place = omega arith in
    let own = at_place modules place within in
    let at = at_place sources place (omega (arith, within, same)) in
    put own.0 at.0 own.1 at.1 ∙ (ap (with_named (web_name config (a_module own.0)) at.0.bytes) done
    ∙ (next_named config modules sources place own.0 at.0 own.1 at.1 ∙ (λ i. named config (take (sym next i) modules) (take (sym next i) sources))))

pub all_named : (config : Config) (modules : List Module) (sources : List Source) (place : ℕ) (all : List UrlBytes) → length modules ≤ place → length modules ≡ length sources → all ≡ named config (take place modules) (take place sources) → all ≡ named config modules sources
all_named config modules sources place all past same done =
    done ∙ (λ i. named config (take_all place modules past i) (take_all place sources (omega (arith, past, same)) i))

-- ---- the kept URLs

pub further : (P : ℕ → Type 0) (place : ℕ) → ((k : ℕ) → k < place → P k) → P place → (k : ℕ) → k < place + 1 → P k
further P place before here k within =
    elim (cases_lt k place) [
      | inl less ↦ before k less
      | inr behind ↦ let same : place ≡ k = omega (arith, within, behind) in subst P same here
    ]

found_url : (f : Module → Option (List ℕ)) (found : Option Module) (url : List ℕ) → Some url ≡ option_and_then f found → option_map f found ≡ Some (Some url)
found_url f None url is = absurd (cc)
found_url f (Some m) url is = ap Some (sym is)

pub url_at : (config : Config) (modules : List Module) (kept : List UrlBytes) (place : ℕ) (e : UrlBytes) (url : List ℕ) (b : Bool) → place < length kept → e ≡ get_or kept place e → Some url ≡ option_and_then (λ m. web_name config (a_module m)) (slice_get modules place) → b ≡ bytes_eq url e.url → b ≡ true → HasUrlAt config modules kept place
url_at config modules kept place e url b within is found test same =
    found_url (λ m. web_name config (a_module m)) (slice_get modules place) url found
    ∙ (ap (λ u. Some (Some u)) (same_text url e.url (sym test ∙ same)) ∙ sym (ap (option_map (λ (k : UrlBytes). Some k.url)) (got kept place e within is)))

pub of_named : (config : Config) (modules : List Module) (sources : List Source) (kept : List UrlBytes) (pairs : List (List ℕ × List ℕ)) → pairs ≡ entries (digests config modules sources) → kept ≡ named config modules sources → pairs ≡ entries (digests_of kept)
of_named config modules sources kept pairs are all = are ∙ ap entries (sym (ap digests_of all ∙ named_digests config modules sources))

pub all_digested : (config : Config) (modules : List Module) (sources : List Source) (kept : List UrlBytes) → kept ≡ named config modules sources → digests_of kept ≡ digests config modules sources
all_digested config modules sources kept all = ap digests_of all ∙ named_digests config modules sources

follows : (config : Config) (modules : List Module) (sources : List Source) (kept now : List UrlBytes) → length modules ≡ length kept → length sources ≡ length kept → HasUrls config modules kept → now ≡ turned kept sources → digests_of now ≡ digests config modules sources
follows config modules sources kept now lengths also urls is = ap digests_of is ∙ turned_digests config modules sources kept lengths also urls

turned_length : (ms : List UrlBytes) (sources : List Source) → length (turned ms sources) ≡ length ms
turned_length [] sources = refl
turned_length (m ∷ ms) [] = refl
turned_length (m ∷ ms) (source ∷ sources) = ap suc (turned_length ms sources)

pub still_within : (ms now : List UrlBytes) (sources : List Source) (place count : ℕ) → place < count → count ≡ length ms → now ≡ turned ms (take place sources) → place < length now
still_within ms now sources place count within all is =
    let long : length now ≡ length ms = ap length is ∙ turned_length ms (take place sources) in
    omega (arith, within, all, long)

pub followed : {E : Type 0} (config : Config) (modules : List Module) (sources : List Source) (kept now : List UrlBytes) (result : Result Bool E) → length modules ≡ length kept → length sources ≡ length kept → HasUrls config modules kept
    → IfOk result (λ done. IsTrue done → now ≡ turned kept sources) → IfOk result (λ done. IsTrue done → digests_of now ≡ digests config modules sources)
followed config modules sources kept now (Err fault) lengths also urls is = tt
followed config modules sources kept now (Ok done) lengths also urls is = λ t. follows config modules sources kept now lengths also urls (is t)
