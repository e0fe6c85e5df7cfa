-- What look-ups come to is what the cases of resolution say.
use Rattle.import_map_spec.proofs.Entries.{cases_option}
use Rattle.std.specs.Prelude.{◌≡◌, ◌≢◌, ◌≤◌, ◌<◌, ◌⊎◌, ℕ, zero, suc, true, false, List, [], ◌∷◌, ◌++◌, take, drop, length, Option, Some, None, option_map, if◌then◌else◌}
use Rattle.std.specs.FinMap.{get}
use Rattle.std.specs.Option.{option_or}
use Rattle.std.proofs.Common.{refl, ap, sym, ◌∙◌, subst, arith, append-nil, length-append}
use Rattle.std.proofs.Math.Seq.{take-append_seam, drop-append_seam}
use Rattle.std.proofs.lemmas.Bool.{cond-true, cond-false, cases_Bool, cases_eq, cases_lt, true≢false}
use Rattle.std.proofs.lemmas.List.{take-append-drop, length-take-le}
use Rattle.std.proofs.lemmas.Option.{none-some}
use mathlib.Core.Logic.{inl, inr}
use Rattle.url_spec.specs.Parsing.{parse_against}
use Rattle.url_spec.specs.Specifiers.{begins, ends_in_slash, as_url, normalized}
use Rattle.import_map_spec.specs.ParsedMap.{Texts, Addresses, ParsedMap}
use Rattle.import_map_spec.specs.Resolving.{Resolution, Blocked, takes_prefixes, KeyApplies, itself, prefix, Answers, MatchesImports, no_key, null_address, at_key, bad_rest, backtrack, below_key, ScopeApplies, own, above, AnswersInScope, MatchesScopes, no_scope, in_scope, ResolvesAs, by_scopes, by_imports, by_url, bare}
use Rattle.import_map_spec.specs.LookUps.{longest_front, exact_match, below_address, prefix_match, prefix_key, resolve_imports_match, scope_match, prefix_scope, resolve_scopes_match, unmatched, answer_or, resolve_normalized, scope_addresses, resolve_in}
use Rattle.import_map_spec.specs.Laws.{IsFolderFront, NoneAbove, ResolvesByCases}
use Rattle.import_map_spec.proofs.LongestKey.{key_order, is_some_match}

-- ---- fronts of a text

front_length : (text key rest : List ℕ) → text ≡ key ++ rest → length key ≤ length text
front_length text key rest e = omega (arith, ap length e, length-append key rest)

front_taken : (text key rest : List ℕ) → text ≡ key ++ rest → take (length key) text ≡ key
front_taken text key rest e = ap (take (length key)) e ∙ take-append_seam key rest

front_dropped : (text key rest : List ℕ) → text ≡ key ++ rest → drop (length key) text ≡ rest
front_dropped text key rest e = ap (drop (length key)) e ∙ drop-append_seam key rest

slash_some : (key : List ℕ) → ends_in_slash key ≡ true → 0 < length key
slash_some [] e = absurd (true≢false (sym e))
slash_some (b ∷ key) e = omega arith

folder_front : (text key rest : List ℕ) → text ≡ key ++ rest → ends_in_slash key ≡ true → IsFolderFront text (length key)
folder_front text key rest e slash = record { some = slash_some key slash; within = front_length text key rest e; slash = ap ends_in_slash (front_taken text key rest e) ∙ slash }

whole_or_more : (text key rest : List ℕ) → text ≡ key ++ rest → ((rest ≡ []) × (key ≡ text)) ⊎ ((rest ≢ []) × (length key < length text))
whole_or_more text key [] e = inl (refl, sym (e ∙ append-nil key))
whole_or_more text key (b ∷ rest) e = inr ((λ none. cc), omega (arith, ap length e, length-append key (b ∷ rest)))

-- ---- the longest front that answers

module _ {A : Type 0} (answer : List ℕ → List ℕ → Option A) (text : List ℕ) where
  record FoundFront (n : ℕ) : Type 0 where
    k : ℕ
    found : A
    some : 0 < k
    within : k ≤ n
    here : answer (take k text) (drop k text) ≡ Some found
    none : (j : ℕ) → k < j → j ≤ n → answer (take j text) (drop j text) ≡ None
    is : longest_front answer text n ≡ Some found

  record NoFront (n : ℕ) : Type 0 where
    none : (j : ℕ) → 0 < j → j ≤ n → answer (take j text) (drop j text) ≡ None
    is : longest_front answer text n ≡ None

  none_more : (n k : ℕ) → answer (take (suc n) text) (drop (suc n) text) ≡ None → ((j : ℕ) → k < j → j ≤ n → answer (take j text) (drop j text) ≡ None) → (j : ℕ) → k < j → j ≤ suc n → answer (take j text) (drop j text) ≡ None
  none_more n k e none j l m =
      elim (cases_eq j (suc n)) [
        | inl same ↦ subst (λ i. answer (take i text) (drop i text) ≡ None) (sym same) e
        | inr other ↦ none j l (omega arith)
      ]

  searched : (n : ℕ) → FoundFront n ⊎ NoFront n
  searched zero = inr (record { none = λ j l m. absurd (omega arith); is = refl })
  searched (suc n) =
      elim (cases_option (answer (take (suc n) text) (drop (suc n) text))) [
        | inr (x, e) ↦ inl (record {
          k = suc n;
          found = x;
          some = omega arith;
          within = omega arith;
          here = e;
          none = λ j l m. absurd (omega arith);
          is = ap (λ o. option_or o (longest_front answer text n)) e;
        })
        | inl e ↦ elim (searched n) [
          | inl f ↦ inl (record {
            k = f.k;
            found = f.found;
            some = f.some;
            within = (let w = f.within in omega arith);
            here = f.here;
            none = none_more n f.k e f.none;
            is = ap (λ o. option_or o (longest_front answer text n)) e ∙ f.is;
          })
          | inr f ↦ inr (record { none = none_more n 0 e f.none; is = ap (λ o. option_or o (longest_front answer text n)) e ∙ f.is })
        ]
      ]

-- ---- a module specifier map

module _ (addresses : Addresses) (url : Option (List ℕ)) (text : List ℕ) where
  abbrev answer_here : Option Resolution
  answer_here = resolve_imports_match url text (get addresses)

  -- what a key that is a prefix comes to
  below_meets : (key rest address : List ℕ) → Answers addresses url text key (Some address) → text ≡ key ++ rest → rest ≢ [] → (parsed : Option (List ℕ)) → parse_against address rest ≡ parsed → MatchesImports addresses url text (Some (below_address address parsed))
  below_meets key rest address answers split some None e = bad_rest key rest address answers split some e
  below_meets key rest address answers split some (Some below) e =
      elim (cases_Bool (begins below address)) [
        | inl t ↦ subst (λ r. MatchesImports addresses url text (Some r)) (sym (cond-true _ _ _ t)) (below_key key rest address below answers split some e t)
        | inr f ↦ subst (λ r. MatchesImports addresses url text (Some r)) (sym (cond-false _ _ _ f)) (backtrack key rest address below answers split some e f)
      ]

  prefix_meets : (key rest : List ℕ) (address : Option (List ℕ)) → Answers addresses url text key address → text ≡ key ++ rest → rest ≢ [] → MatchesImports addresses url text (prefix_match (Some address) rest)
  prefix_meets key rest None answers split some = null_address key answers
  prefix_meets key rest (Some address) answers split some = below_meets key rest address answers split some (parse_against address rest) refl

  exact_meets : (address : Option (List ℕ)) → get addresses text ≡ Some address → MatchesImports addresses url text (exact_match (Some address))
  exact_meets address e = go address (record { stands = e; applies = itself refl; longest = λ other found f applies. shorter other applies })
    where
      shorter : (other : List ℕ) → KeyApplies url text other → length other ≤ length text
      shorter other (itself same) = omega (arith, ap length same)
      shorter other (prefix rest t s split) = front_length text other rest split

      go : (a : Option (List ℕ)) → Answers addresses url text text a → MatchesImports addresses url text (exact_match (Some a))
      go None answers = null_address text answers
      go (Some address) answers = at_key address answers

  -- where the text itself is no key, only prefixes apply
  not_itself : (key : List ℕ) (address : Option (List ℕ)) → get addresses text ≡ None → get addresses key ≡ Some address → key ≡ text → ⊥
  not_itself key address none e same = none-some address (sym none ∙ (subst (λ k. get addresses k ≡ Some address) same e))

  none_without_prefixes : get addresses text ≡ None → takes_prefixes url ≡ false → MatchesImports addresses url text None
  none_without_prefixes none f = no_key (λ key address e applies. go key address e applies)
    where
      go : (key : List ℕ) (address : Option (List ℕ)) → get addresses key ≡ Some address → KeyApplies url text key → ⊥
      go key address e (itself same) = not_itself key address none e same
      go key address e (prefix rest t s split) = true≢false (sym t ∙ f)

  -- what is asked at a front that is a prefix
  at_front : (key rest : List ℕ) (address : Option (List ℕ)) → text ≡ key ++ rest → ends_in_slash key ≡ true → get addresses key ≡ Some address → prefix_key (get addresses) (take (length key) text) (drop (length key) text) ≡ prefix_match (Some address) rest
  at_front key rest address split slash e =
      (λ i. prefix_key (get addresses) (front_taken text key rest split i) (front_dropped text key rest split i)) ∙ (cond-true _ _ _ slash ∙ ap (λ o. prefix_match o rest) e)

  none_at_front : (key rest : List ℕ) (address : Option (List ℕ)) → text ≡ key ++ rest → ends_in_slash key ≡ true → get addresses key ≡ Some address → prefix_key (get addresses) (take (length key) text) (drop (length key) text) ≡ None → ⊥
  none_at_front key rest address split slash e none =
      let some = is_some_match address rest in
      none-some some.0 (sym none ∙ (at_front key rest address split slash e ∙ some.1))

  none_with_prefixes : get addresses text ≡ None → ((j : ℕ) → 0 < j → j ≤ length text → prefix_key (get addresses) (take j text) (drop j text) ≡ None) → MatchesImports addresses url text None
  none_with_prefixes none fronts = no_key (λ key address e applies. go key address e applies)
    where
      go : (key : List ℕ) (address : Option (List ℕ)) → get addresses key ≡ Some address → KeyApplies url text key → ⊥
      go key address e (itself same) = not_itself key address none e same
      go key address e (prefix rest t s split) = none_at_front key rest address split s e (fronts (length key) (slash_some key s) (front_length text key rest split))

  record AtPrefix (k : ℕ) (found : Resolution) : Type 0 where
    slash : ends_in_slash (take k text) ≡ true
    address : Option (List ℕ)
    stands : get addresses (take k text) ≡ Some address
    matches : prefix_match (Some address) (drop k text) ≡ Some found

  from_front : (k : ℕ) (found : Resolution) → prefix_key (get addresses) (take k text) (drop k text) ≡ Some found → AtPrefix k found
  from_front k found here =
      elim (cases_Bool (ends_in_slash (take k text))) [
        | inr f ↦ absurd (none-some found (sym (cond-false _ _ _ f) ∙ here))
        | inl t ↦ (let matched : prefix_match (get addresses (take k text)) (drop k text) ≡ Some found = sym (cond-true _ _ _ t) ∙ here in
            elim (cases_option (get addresses (take k text))) [
              | inl none ↦ absurd (none-some found (sym (ap (λ o. prefix_match o (drop k text)) none) ∙ matched))
              | inr (address, e) ↦ record { slash = t; address = address; stands = e; matches = sym (ap (λ o. prefix_match o (drop k text)) e) ∙ matched }
            ])
      ]

  found_meets : (k : ℕ) (found : Resolution) → get addresses text ≡ None → takes_prefixes url ≡ true → k ≤ length text → prefix_key (get addresses) (take k text) (drop k text) ≡ Some found → ((j : ℕ) → k < j → j ≤ length text → prefix_key (get addresses) (take j text) (drop j text) ≡ None) → MatchesImports addresses url text (Some found)
  found_meets k found none takes within here longer =
      let at = from_front k found here in
      let split : text ≡ take k text ++ drop k text = sym (take-append-drop k text) in
      let some : drop k text ≢ [] = (λ empty. not_itself (take k text) at.address none at.stands (sym (split ∙ (ap (λ (xs : List ℕ). take k text ++ xs) empty ∙ append-nil (take k text))))) in
      subst (MatchesImports addresses url text) at.matches
      (prefix_meets (take k text) (drop k text) at.address (record { stands = at.stands; applies = prefix (drop k text) takes at.slash split; longest = λ other address e applies. shorter other address e applies }) split some)
    where
      shorter : (other : List ℕ) (address : Option (List ℕ)) → get addresses other ≡ Some address → KeyApplies url text other → length other ≤ length (take k text)
      shorter other address e (itself same) = absurd (not_itself other address none e same)
      shorter other address e (prefix rest t s split) =
          elim (cases_lt k (length other)) [
            | inl more ↦ absurd (none_at_front other rest address split s e (longer (length other) more (front_length text other rest split)))
            | inr most ↦ omega (arith, length-take-le k text within)
          ]

  imports_meet : MatchesImports addresses url text answer_here
  imports_meet =
      elim (cases_option (get addresses text)) [
        | inr (address, e) ↦ subst (MatchesImports addresses url text) (sym (key_order.exact (get addresses) url text address e)) (exact_meets address e)
        | inl none ↦ elim (cases_Bool (takes_prefixes url)) [
          | inr f ↦ subst (MatchesImports addresses url text) (sym (key_order.no_prefix (get addresses) url text none f)) (none_without_prefixes none f)
          | inl t ↦ by_search none t (searched (prefix_key (get addresses)) text (length text))
        ]
      ]
    where
      as_walk : get addresses text ≡ None → takes_prefixes url ≡ true → answer_here ≡ longest_front (prefix_key (get addresses)) text (length text)
      as_walk none t = ap (λ o. option_or (exact_match o) (if takes_prefixes url then longest_front (prefix_key (get addresses)) text (length text) else None)) none ∙ cond-true _ _ _ t

      by_search : get addresses text ≡ None → takes_prefixes url ≡ true → FoundFront (prefix_key (get addresses)) text (length text) ⊎ NoFront (prefix_key (get addresses)) text (length text) → MatchesImports addresses url text answer_here
      by_search none t (inl f) = subst (MatchesImports addresses url text) (sym (as_walk none t ∙ f.is)) (found_meets f.k f.found none t f.within f.here f.none)
      by_search none t (inr f) = subst (MatchesImports addresses url text) (sym (as_walk none t ∙ f.is)) (none_with_prefixes none f.none)

  -- and the other way: the key that answers is the one that the look-ups come to
  at_whole : (key : List ℕ) (address : Option (List ℕ)) → Answers addresses url text key address → key ≡ text → answer_here ≡ exact_match (Some address)
  at_whole key address answers same = key_order.exact (get addresses) url text address (subst (λ k. get addresses k ≡ Some address) same answers.stands)

  at_prefix : (key rest : List ℕ) (address : Option (List ℕ)) → Answers addresses url text key address → text ≡ key ++ rest → length key < length text → answer_here ≡ prefix_match (Some address) rest
  at_prefix key rest address answers split shorter = go answers.applies
    where
      text_no_key : get addresses text ≡ None
      text_no_key = elim (cases_option (get addresses text)) [
        | inl none ↦ none
        | inr (found, e) ↦ (let l = answers.longest text found e (itself refl) in absurd (omega arith))
      ]

      none_longer : takes_prefixes url ≡ true → NoneAbove (get addresses) text (length key)
      none_longer takes j more front = elim (cases_option (get addresses (take j text))) [
        | inl none ↦ none
        | inr (found, e) ↦ (let l = answers.longest (take j text) found e (prefix (drop j text) takes front.slash (sym (take-append-drop j text))) in absurd (omega (arith, length-take-le j text front.within)))
      ]

      go : KeyApplies url text key → answer_here ≡ prefix_match (Some address) rest
      go (itself same) = absurd (omega (arith, ap length same))
      go (prefix other takes slash parts) =
          key_order.prefix (get addresses) url text (length key) address text_no_key takes (folder_front text key rest split slash) (ap (get addresses) (front_taken text key rest split) ∙ answers.stands) (none_longer takes)
          ∙ ap (prefix_match (Some address)) (front_dropped text key rest split)

  at_rest : (key rest : List ℕ) (address : Option (List ℕ)) → Answers addresses url text key address → text ≡ key ++ rest → rest ≢ [] → answer_here ≡ prefix_match (Some address) rest
  at_rest key rest address answers split some =
      elim (whole_or_more text key rest split) [
        | inl (none, same) ↦ absurd (some none)
        | inr (more, shorter) ↦ at_prefix key rest address answers split shorter
      ]

  null_is : (key : List ℕ) → Answers addresses url text key None → answer_here ≡ Some Blocked
  null_is key answers = go answers.applies
    where
      go : KeyApplies url text key → answer_here ≡ Some Blocked
      go (itself same) = at_whole key None answers same
      go (prefix rest takes slash split) =
          elim (whole_or_more text key rest split) [
            | inl (none, same) ↦ at_whole key None answers same
            | inr (more, shorter) ↦ at_prefix key rest None answers split shorter
          ]

  none_is : ((key : List ℕ) (address : Option (List ℕ)) → get addresses key ≡ Some address → KeyApplies url text key → ⊥) → answer_here ≡ None
  none_is nothing =
      elim (cases_option (get addresses text)) [
        | inr (address, e) ↦ absurd (nothing text address e (itself refl))
        | inl none ↦ elim (cases_Bool (takes_prefixes url)) [
          | inr f ↦ key_order.no_prefix (get addresses) url text none f
          | inl t ↦ key_order.no_key (get addresses) url text none (λ j some front. front_none t j front (cases_option (get addresses (take j text))))
        ]
      ]
    where
      front_none : takes_prefixes url ≡ true → (j : ℕ) → IsFolderFront text j → (get addresses (take j text) ≡ None) ⊎ ((x : Option (List ℕ)) × (get addresses (take j text) ≡ Some x)) → get addresses (take j text) ≡ None
      front_none t j front (inl none) = none
      front_none t j front (inr (address, e)) = absurd (nothing (take j text) address e (prefix (drop j text) t front.slash (sym (take-append-drop j text))))

  imports_are : (answer : Option Resolution) → MatchesImports addresses url text answer → answer_here ≡ answer
  imports_are answer (no_key nothing) = none_is nothing
  imports_are answer (null_address key answers) = null_is key answers
  imports_are answer (at_key address answers) = at_whole text (Some address) answers refl
  imports_are answer (bad_rest key rest address answers split some e) = at_rest key rest (Some address) answers split some ∙ ap (λ parsed. Some (below_address address parsed)) e
  imports_are answer (backtrack key rest address below answers split some e f) =
      at_rest key rest (Some address) answers split some ∙ (ap (λ parsed. Some (below_address address parsed)) e ∙ ap Some (cond-false _ _ _ f))
  imports_are answer (below_key key rest address below answers split some e t) =
      at_rest key rest (Some address) answers split some ∙ (ap (λ parsed. Some (below_address address parsed)) e ∙ ap Some (cond-true _ _ _ t))

-- ---- the scopes

module _ (scopes : Texts Addresses) (referrer : List ℕ) (url : Option (List ℕ)) (text : List ℕ) where
  abbrev asked : List ℕ → Option Resolution
  asked key = scope_match url text (scope_addresses scopes key)

  abbrev Answering : List ℕ → Resolution → Type 0
  Answering key answer = AnswersInScope scopes referrer url text key answer

  abbrev scopes_answered : Option Resolution
  scopes_answered = resolve_scopes_match url text referrer (scope_addresses scopes)

  scope_asked : (key : List ℕ) (answer : Resolution) → Answering key answer → asked key ≡ Some answer
  scope_asked key answer answers = ap (λ (o : Option Addresses). scope_match url text (option_map get o)) answers.stands ∙ imports_are answers.addresses url text (Some answer) answers.matches

  scope_answers : (key : List ℕ) (answer : Resolution) → ScopeApplies referrer key → asked key ≡ Some answer → Answering key answer
  scope_answers key answer applies e =
      elim (cases_option (get scopes key)) [
        | inl none ↦ absurd (none-some answer (sym (ap (λ (o : Option Addresses). scope_match url text (option_map get o)) none) ∙ e))
        | inr (addresses, stands) ↦ record {
          addresses = addresses;
          stands = stands;
          applies = applies;
          matches = subst (MatchesImports addresses url text) (sym (ap (λ (o : Option Addresses). scope_match url text (option_map get o)) stands) ∙ e) (imports_meet addresses url text);
        }
      ]

  scope_at_front : (key rest : List ℕ) → referrer ≡ key ++ rest → ends_in_slash key ≡ true → prefix_scope url text (scope_addresses scopes) (take (length key) referrer) (drop (length key) referrer) ≡ asked key
  scope_at_front key rest split slash =
      (λ i. prefix_scope url text (scope_addresses scopes) (front_taken referrer key rest split i) (front_dropped referrer key rest split i)) ∙ cond-true _ _ _ slash

  not_at_referrer : (key : List ℕ) (answer : Resolution) → asked referrer ≡ None → Answering key answer → key ≡ referrer → ⊥
  not_at_referrer key answer none answers same = none-some answer (sym none ∙ (ap asked (sym same) ∙ scope_asked key answer answers))

  not_at_front : (key rest : List ℕ) (answer : Resolution) → referrer ≡ key ++ rest → ends_in_slash key ≡ true → Answering key answer → prefix_scope url text (scope_addresses scopes) (take (length key) referrer) (drop (length key) referrer) ≡ None → ⊥
  not_at_front key rest answer split slash answers none = none-some answer (sym none ∙ (scope_at_front key rest split slash ∙ scope_asked key answer answers))

  own_meets : (answer : Resolution) → asked referrer ≡ Some answer → MatchesScopes scopes referrer url text (Some answer)
  own_meets answer e = in_scope referrer answer (scope_answers referrer answer (own refl) e) (λ other found answers. shorter other answers.applies)
    where
      shorter : (other : List ℕ) → ScopeApplies referrer other → length other ≤ length referrer
      shorter other (own same) = omega (arith, ap length same)
      shorter other (above rest slash split) = front_length referrer other rest split

  above_meets : (k : ℕ) (answer : Resolution) → asked referrer ≡ None → k ≤ length referrer → prefix_scope url text (scope_addresses scopes) (take k referrer) (drop k referrer) ≡ Some answer → ((j : ℕ) → k < j → j ≤ length referrer → prefix_scope url text (scope_addresses scopes) (take j referrer) (drop j referrer) ≡ None) → MatchesScopes scopes referrer url text (Some answer)
  above_meets k answer none within here longer =
      elim (cases_Bool (ends_in_slash (take k referrer))) [
        | inr f ↦ absurd (none-some answer (sym (cond-false _ _ _ f) ∙ here))
        | inl t ↦ in_scope (take k referrer) answer (scope_answers (take k referrer) answer (above (drop k referrer) t (sym (take-append-drop k referrer))) (sym (cond-true _ _ _ t) ∙ here))
            (λ other found answers. shorter other found answers answers.applies)
      ]
    where
      shorter : (other : List ℕ) (found : Resolution) → Answering other found → ScopeApplies referrer other → length other ≤ length (take k referrer)
      shorter other found answers (own same) = absurd (not_at_referrer other found none answers same)
      shorter other found answers (above rest slash split) =
          elim (cases_lt k (length other)) [
            | inl more ↦ absurd (not_at_front other rest found split slash answers (longer (length other) more (front_length referrer other rest split)))
            | inr most ↦ omega (arith, length-take-le k referrer within)
          ]

  nowhere_meets : asked referrer ≡ None → ((j : ℕ) → 0 < j → j ≤ length referrer → prefix_scope url text (scope_addresses scopes) (take j referrer) (drop j referrer) ≡ None) → MatchesScopes scopes referrer url text None
  nowhere_meets none fronts = no_scope (λ key answer answers. go key answer answers answers.applies)
    where
      go : (key : List ℕ) (answer : Resolution) → Answering key answer → ScopeApplies referrer key → ⊥
      go key answer answers (own same) = not_at_referrer key answer none answers same
      go key answer answers (above rest slash split) = not_at_front key rest answer split slash answers (fronts (length key) (slash_some key slash) (front_length referrer key rest split))

  scopes_meet : MatchesScopes scopes referrer url text scopes_answered
  scopes_meet =
      elim (cases_option (asked referrer)) [
        | inr (answer, e) ↦ subst (MatchesScopes scopes referrer url text) (sym (key_order.own_scope (scope_addresses scopes) url text referrer answer e)) (own_meets answer e)
        | inl none ↦ by_search none (searched (prefix_scope url text (scope_addresses scopes)) referrer (length referrer))
      ]
    where
      as_walk : asked referrer ≡ None → scopes_answered ≡ longest_front (prefix_scope url text (scope_addresses scopes)) referrer (length referrer)
      as_walk none = ap (λ (o : Option Resolution). option_or o (longest_front (prefix_scope url text (scope_addresses scopes)) referrer (length referrer))) none

      by_search : asked referrer ≡ None → FoundFront (prefix_scope url text (scope_addresses scopes)) referrer (length referrer) ⊎ NoFront (prefix_scope url text (scope_addresses scopes)) referrer (length referrer) → MatchesScopes scopes referrer url text scopes_answered
      by_search none (inl f) = subst (MatchesScopes scopes referrer url text) (sym (as_walk none ∙ f.is)) (above_meets f.k f.found none f.within f.here f.none)
      by_search none (inr f) = subst (MatchesScopes scopes referrer url text) (sym (as_walk none ∙ f.is)) (nowhere_meets none f.none)

  front_silent : ((key : List ℕ) (answer : Resolution) → ScopeApplies referrer key → asked key ≡ Some answer → ⊥) → (j : ℕ) → IsFolderFront referrer j → asked (take j referrer) ≡ None
  front_silent nothing j front =
      elim (cases_option (asked (take j referrer))) [
        | inl none ↦ none
        | inr (answer, e) ↦ absurd (nothing (take j referrer) answer (above (drop j referrer) front.slash (sym (take-append-drop j referrer))) e)
      ]

  none_in_scopes : ((key : List ℕ) (answer : Resolution) → Answering key answer → ⊥) → scopes_answered ≡ None
  none_in_scopes nothing =
      elim (cases_option (asked referrer)) [
        | inr (answer, e) ↦ absurd (nothing referrer answer (scope_answers referrer answer (own refl) e))
        | inl none ↦ key_order.no_scope (scope_addresses scopes) url text referrer none
            (λ j some front. front_silent (λ key answer applies e. nothing key answer (scope_answers key answer applies e)) j front)
      ]

  scope_is : (key : List ℕ) (answer : Resolution) → Answering key answer → ((other : List ℕ) (found : Resolution) → Answering other found → length other ≤ length key) → scopes_answered ≡ Some answer
  scope_is key answer answers longest = go answers.applies
    where
      at_referrer : key ≡ referrer → scopes_answered ≡ Some answer
      at_referrer same = key_order.own_scope (scope_addresses scopes) url text referrer answer (ap asked (sym same) ∙ scope_asked key answer answers)

      none_longer : length key < length referrer → (j : ℕ) → length key < j → IsFolderFront referrer j → asked (take j referrer) ≡ None
      none_longer shorter j more front = elim (cases_option (asked (take j referrer))) [
        | inl none ↦ none
        | inr (found, e) ↦ (let l = longest (take j referrer) found (scope_answers (take j referrer) found (above (drop j referrer) front.slash (sym (take-append-drop j referrer))) e) in absurd (omega (arith, length-take-le j referrer front.within)))
      ]

      referrer_silent : length key < length referrer → asked referrer ≡ None
      referrer_silent shorter = elim (cases_option (asked referrer)) [
        | inl none ↦ none
        | inr (found, e) ↦ (let l = longest referrer found (scope_answers referrer found (own refl) e) in absurd (omega arith))
      ]

      go : ScopeApplies referrer key → scopes_answered ≡ Some answer
      go (own same) = at_referrer same
      go (above rest slash split) =
          elim (whole_or_more referrer key rest split) [
            | inl (none, same) ↦ at_referrer same
            | inr (more, shorter) ↦ key_order.scope (scope_addresses scopes) url text referrer (length key) answer (referrer_silent shorter) (folder_front referrer key rest split slash)
                (ap asked (front_taken referrer key rest split) ∙ scope_asked key answer answers) (none_longer shorter)
          ]

  scopes_are : (answer : Option Resolution) → MatchesScopes scopes referrer url text answer → scopes_answered ≡ answer
  scopes_are answer (no_scope nothing) = none_in_scopes nothing
  scopes_are answer (in_scope key found answers longest) = scope_is key found answers longest

-- ---- the whole

module _ (map : ParsedMap) (referrer : List ℕ) (url : Option (List ℕ)) (text : List ℕ) where
  whole_meets : (scopes imports : Option Resolution) (given : Option (List ℕ)) → url ≡ given → MatchesScopes map.scopes referrer url text scopes → MatchesImports map.imports url text imports → ResolvesAs map referrer url text (answer_or (option_or scopes imports) (unmatched given))
  whole_meets (Some answer) imports given e s i = by_scopes answer s
  whole_meets None (Some answer) given e s i = by_imports answer s i
  whole_meets None None (Some given) e s i = by_url given s i e
  whole_meets None None None e s i = bare s i e

  resolves_meet : ResolvesAs map referrer url text (resolve_normalized (get map.imports) (scope_addresses map.scopes) referrer url text)
  resolves_meet = whole_meets _ _ url refl (scopes_meet map.scopes referrer url text) (imports_meet map.imports url text)

  abbrev resolved : Option Resolution → Option Resolution → Option (List ℕ) → Resolution
  resolved scopes imports given = answer_or (option_or scopes imports) (unmatched given)

  resolves_are : (resolution : Resolution) → ResolvesAs map referrer url text resolution → resolve_normalized (get map.imports) (scope_addresses map.scopes) referrer url text ≡ resolution
  resolves_are resolution (by_scopes _ s) = ap (λ found. resolved found (resolve_imports_match url text (get map.imports)) url) (scopes_are map.scopes referrer url text (Some resolution) s)
  resolves_are resolution (by_imports _ s i) =
      (λ k. resolved (scopes_are map.scopes referrer url text None s k) (imports_are map.imports url text (Some resolution) i k) url)
  resolves_are resolution (by_url given s i e) = (λ k. resolved (scopes_are map.scopes referrer url text None s k) (imports_are map.imports url text None i k) (e k))
  resolves_are resolution (bare s i e) = (λ k. resolved (scopes_are map.scopes referrer url text None s k) (imports_are map.imports url text None i k) (e k))

pub resolves_by_cases : ResolvesByCases
unfolding resolve_in
resolves_by_cases map referrer specifier resolution =
    let url = as_url referrer specifier in
    let text = normalized referrer specifier in (
      (λ e. subst (ResolvesAs map referrer url text) e (resolves_meet map referrer url text)),
      (λ resolves. resolves_are map referrer url text resolution resolves),
    )
