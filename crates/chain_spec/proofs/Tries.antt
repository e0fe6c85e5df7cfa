-- What trying all chains finds is the shortest chain.
use Rattle.std.proofs.Common.{◌≡◌, ◌<◌, ◌≤◌, ◌+◌, ◌⊎◌, [], ◌∷◌, ℕ, zero, suc, Bool, true, List, Option, Some, None, refl, sym, ap, ◌∙◌, subst, inl, inr, length, arith}
use Rattle.std.specs.Prelude.{slice_get}
use Rattle.std.proofs.lemmas.Bool.{cond_both, true≢false}
use Rattle.std.proofs.lemmas.Bool.{cases_lt}
use Rattle.chain_spec.specs.Chains.{Asker, by_page, by_module, Targets, Leads, IsChain, Less, GoesBefore, IsShortest}
use Rattle.chain_spec.specs.Laws.{IsTried}
use Rattle.chain_spec.specs.Trying.{onto, or_else, first_of, least_of, tried_from, shortest_within}
use Rattle.chain_spec.proofs.Ways.{goes, goes_on}

abbrev UpTo : List ℕ → List ℕ → Type 0
UpTo numbers others = (numbers ≡ others) ⊎ Less numbers others

module _ {M : Type 0} (targets : Targets M) (is_wanted : Asker M → Bool) where
  -- ---- chains of one size

  record Way (size : ℕ) (from : Asker M) (numbers : List ℕ) : Type 0 where
    leads : Leads targets is_wanted from numbers
    long : length numbers ≡ size

  record LeastWay (size : ℕ) (from : Asker M) (numbers : List ℕ) : Type 0 where
    way : Way size from numbers
    least : (others : List ℕ) → Way size from others → UpTo numbers others

  abbrev IsLeast : ℕ → Asker M → Option (List ℕ) → Type 0
  IsLeast size from None = (numbers : List ℕ) → Way size from numbers → ⊥
  IsLeast size from (Some numbers) = LeastWay size from numbers

  -- ---- the same behind one of several requests

  record Tail (size : ℕ) (modules : List M) (offset : ℕ) (more : List ℕ) : Type 0 where
    m : M
    there : slice_get modules offset ≡ Some m
    way : Way size (by_module m) more

  abbrev NotAfter : ℕ → List ℕ → ℕ → List ℕ → Type 0
  NotAfter offset more other rest = (offset < other) ⊎ ((offset ≡ other) × UpTo more rest)

  record FirstTail (size start : ℕ) (modules : List M) (numbers : List ℕ) : Type 0 where
    offset : ℕ
    more : List ℕ
    is : numbers ≡ (start + offset) ∷ more
    tail : Tail size modules offset more
    first : (other : ℕ) (rest : List ℕ) → Tail size modules other rest → NotAfter offset more other rest

  abbrev IsFirst : ℕ → ℕ → List M → Option (List ℕ) → Type 0
  IsFirst size start modules None = (offset : ℕ) (more : List ℕ) → Tail size modules offset more → ⊥
  IsFirst size start modules (Some numbers) = FirstTail size start modules numbers

  no_tail : (size offset : ℕ) (more : List ℕ) → Tail size [] offset more → ⊥
  no_tail size offset more tail = let none = tail.there in absurd (cc)

  tail_here : (size : ℕ) (m : M) (modules : List M) (more : List ℕ) → Tail size (m ∷ modules) 0 more
      → Way size (by_module m) more
  tail_here size m modules more tail =
      let there = tail.there in
      let same : tail.m ≡ m = cc in
      subst (λ n. Way size (by_module n) more) same tail.way

  tail_later : (size : ℕ) (m : M) (modules : List M) (offset : ℕ) (more : List ℕ) → Tail size (m ∷ modules) (suc offset) more
      → Tail size modules offset more
  tail_later size m modules offset more tail = record { m = tail.m; there = tail.there; way = tail.way }

  none_joined : (size : ℕ) (m : M) (modules : List M) → ((numbers : List ℕ) → Way size (by_module m) numbers → ⊥)
      → ((offset : ℕ) (more : List ℕ) → Tail size modules offset more → ⊥)
      → (offset : ℕ) (more : List ℕ) → Tail size (m ∷ modules) offset more → ⊥
  none_joined size m modules one other zero more tail = one more (tail_here size m modules more tail)
  none_joined size m modules one other (suc offset) more tail =
      other offset more (tail_later size m modules offset more tail)

  first_here : (size : ℕ) (m : M) (modules : List M) (numbers : List ℕ) → LeastWay size (by_module m) numbers
      → (other : ℕ) (rest : List ℕ) → Tail size (m ∷ modules) other rest → NotAfter 0 numbers other rest
  first_here size m modules numbers least zero rest tail =
      inr (refl, least.least rest (tail_here size m modules rest tail))
  first_here size m modules numbers least (suc other) rest tail = inl (omega arith)

  first_later : (size start : ℕ) (m : M) (modules : List M) (numbers : List ℕ)
      → ((others : List ℕ) → Way size (by_module m) others → ⊥) → (found : FirstTail size start modules numbers)
      → (other : ℕ) (rest : List ℕ) → Tail size (m ∷ modules) other rest → NotAfter (suc found.offset) found.more other rest
  first_later size start m modules numbers none found zero rest tail =
      absurd (none rest (tail_here size m modules rest tail))
  first_later size start m modules numbers none found (suc other) rest tail =
      elim (found.first other rest (tail_later size m modules other rest tail)) [
        | inl less ↦ inl (omega (arith, less))
        | inr same ↦ inr (ap suc same.0, same.1)
      ]

  joined : (size start : ℕ) (m : M) (modules : List M) (one other : Option (List ℕ)) → IsLeast size (by_module m) one
      → IsFirst size (suc start) modules other → IsFirst size start (m ∷ modules) (onto start one other)
  joined size start m modules None None none rest = none_joined size m modules none rest
  joined size start m modules None (Some numbers) none found = record {
    offset = suc found.offset;
    more = found.more;
    is = found.is ∙ ap (λ n. n ∷ found.more) (let e : suc start + found.offset ≡ start + suc found.offset = omega arith in e);
    tail = record { m = found.tail.m; there = found.tail.there; way = found.tail.way };
    first = first_later size (suc start) m modules numbers none found;
  }
  joined size start m modules (Some numbers) other least rest = record {
    offset = 0;
    more = numbers;
    is = ap (λ n. n ∷ numbers) (let e : start ≡ start + 0 = omega arith in e);
    tail = record { m = m; there = refl; way = least.way };
    first = first_here size m modules numbers least;
  }

  first_is : (size : ℕ) (tried : M → Option (List ℕ)) → ((m : M) → IsLeast size (by_module m) (tried m)) → (start : ℕ)
      → (modules : List M) → IsFirst size start modules (first_of tried start modules)
  first_is size tried all start [] = no_tail size
  first_is size tried all start (m ∷ modules) =
      joined size start m modules (tried m) (first_of tried (suc start) modules) (all m)
      (first_is size tried all (suc start) modules)

  -- ---- one request more

  empty_from : (from : Asker M) → is_wanted from ≡ true → Way 0 from []
  empty_from from wanted = record { leads = record { last = from; leads = refl; wanted = wanted }; long = refl }

  of_none : (from : Asker M) (numbers : List ℕ) → Way 0 from numbers → (numbers ≡ []) × (is_wanted from ≡ true)
  of_none from [] way =
      let leads = way.leads.leads in
      let same : way.leads.last ≡ from = cc in
      (refl, ap is_wanted (sym same) ∙ way.leads.wanted)
  of_none from (number ∷ more) way = (let long = way.long in absurd (omega (arith, long)))

  tail_of : (size : ℕ) (from : Asker M) (number : ℕ) (more : List ℕ) → Way (suc size) from (number ∷ more)
      → Tail size (targets from) number more
  tail_of size from number more way =
      let gone = goes targets from number more way.leads.last way.leads.leads in
      let long = way.long in
      record {
        m = gone.m;
        there = gone.there;
        way = record {
          leads = record { last = way.leads.last; leads = gone.on; wanted = way.leads.wanted };
          long = omega (arith, long);
        };
      }

  way_of : (size : ℕ) (from : Asker M) (number : ℕ) (more : List ℕ) → Tail size (targets from) number more
      → Way (suc size) from (number ∷ more)
  way_of size from number more tail = record {
    leads = record {
      last = tail.way.leads.last;
      leads = goes_on targets from number more tail.m (Some tail.way.leads.last) tail.there tail.way.leads.leads;
      wanted = tail.way.leads.wanted;
    };
    long = ap suc tail.way.long;
  }

  no_way : (size : ℕ) (from : Asker M) → ((offset : ℕ) (more : List ℕ) → Tail size (targets from) offset more → ⊥)
      → (numbers : List ℕ) → Way (suc size) from numbers → ⊥
  no_way size from none [] way = (let long = way.long in absurd (omega (arith, long)))
  no_way size from none (number ∷ more) way = none number more (tail_of size from number more way)

  least_way : (size : ℕ) (from : Asker M) (offset : ℕ) (more : List ℕ)
      → ((other : ℕ) (rest : List ℕ) → Tail size (targets from) other rest → NotAfter offset more other rest)
      → (others : List ℕ) → Way (suc size) from others → UpTo (offset ∷ more) others
  least_way size from offset more first [] way = (let long = way.long in absurd (omega (arith, long)))
  least_way size from offset more first (other ∷ rest) way =
      elim (first other rest (tail_of size from other rest way)) [
        | inl less ↦ inr (inl less)
        | inr same ↦ elim same.1 [
          | inl all ↦ inl (λ i. same.0 i ∷ all i)
          | inr less ↦ inr (inr (same.0, less))
        ]
      ]

  more_is : (size : ℕ) (from : Asker M) (out : Option (List ℕ)) → IsFirst size 0 (targets from) out
      → IsLeast (suc size) from out
  more_is size from None none = no_way size from none
  more_is size from (Some numbers) found =
      let itself : found.offset ≡ 0 + found.offset = omega arith in
      let same : found.offset ∷ found.more ≡ numbers = ap (λ n. n ∷ found.more) itself ∙ sym found.is in
      subst (LeastWay (suc size) from) same (record {
        way = way_of size from found.offset found.more found.tail;
        least = least_way size from found.offset found.more found.first;
      })

  least_is : (size : ℕ) (from : Asker M) → IsLeast size from (least_of targets is_wanted size from)
  least_is zero from =
      cond_both (is_wanted from) (Some []) None (IsLeast 0 from)
      (λ wanted. record { way = empty_from from wanted; least = λ others way. inl (sym ((of_none from others way).0)) })
      (λ other numbers way. absurd (true≢false (sym ((of_none from numbers way).1) ∙ other)))
  least_is (suc size) from =
      more_is size from (first_of (λ m. least_of targets is_wanted size (by_module m)) 0 (targets from))
      (first_is size (λ m. least_of targets is_wanted size (by_module m)) (λ m. least_is size (by_module m)) 0 (targets from))

  -- ---- one size after another

  record Found (size : ℕ) (numbers : List ℕ) : Type 0 where
    is_chain : IsChain targets is_wanted numbers
    first :
        (others : List ℕ) → IsChain targets is_wanted others → size ≤ length others
        → (numbers ≡ others) ⊎ GoesBefore numbers others

  abbrev IsFound : ℕ → ℕ → Option (List ℕ) → Type 0
  IsFound left size None = (numbers : List ℕ) → IsChain targets is_wanted numbers → size ≤ length numbers → size + left ≤ length numbers
  IsFound left size (Some numbers) = Found size numbers

  next_size : (left size : ℕ) (one other : Option (List ℕ)) → IsLeast size by_page one → IsFound left (suc size) other
      → IsFound (suc left) size (or_else one other)
  next_size left size None None none rest = λ numbers chain from.
      elim (cases_lt size (length numbers)) [
        | inl longer ↦ (let all = rest numbers chain (omega (arith, longer)) in omega (arith, all))
        | inr not_longer ↦ absurd (none numbers (record { leads = chain; long = omega (arith, from, not_longer) }))
      ]
  next_size left size None (Some numbers) none found = record {
    is_chain = found.is_chain;
    first = λ others chain from.
        elim (cases_lt size (length others)) [
          | inl longer ↦ found.first others chain (omega (arith, longer))
          | inr not_longer ↦ absurd (none others (record { leads = chain; long = omega (arith, from, not_longer) }))
        ];
  }
  next_size left size (Some numbers) other least rest = record {
    is_chain = least.way.leads;
    first = λ others chain from.
        let long = least.way.long in
        elim (cases_lt size (length others)) [
          | inl longer ↦ inr (inl (omega (arith, long, longer)))
          | inr not_longer ↦
              elim (least.least others (record { leads = chain; long = omega (arith, from, not_longer) })) [
                | inl same ↦ inl same
                | inr less ↦ inr (inr (omega (arith, long, from, not_longer), less))
              ]
        ];
  }

  found_from : (left size : ℕ) → IsFound left size (tried_from targets is_wanted left size)
  found_from zero size = λ numbers chain from. omega (arith, from)
  found_from (suc left) size =
      next_size left size (least_of targets is_wanted size by_page) (tried_from targets is_wanted left (suc size))
      (least_is size by_page) (found_from left (suc size))

  is_tried : (most : ℕ) (out : Option (List ℕ)) → IsFound (suc most) 0 out → IsTried targets is_wanted most out
  is_tried most None none = λ numbers chain. (let all = none numbers chain (omega arith) in omega (arith, all))
  is_tried most (Some numbers) found = record {
    is_chain = found.is_chain;
    first = λ others chain. found.first others chain (omega arith);
  }

  pub tried : (most : ℕ) → IsTried targets is_wanted most (shortest_within targets is_wanted most)
  tried most = is_tried most (shortest_within targets is_wanted most) (found_from (suc most) 0)

  -- where there is a chain, trying up to its length finds one
  pub some_found : (numbers : List ℕ) → IsChain targets is_wanted numbers → (out : Option (List ℕ))
      → IsTried targets is_wanted (length numbers) out → (shortest : List ℕ) × IsShortest targets is_wanted shortest
  some_found numbers chain None none = (let longer = none numbers chain in absurd (omega (arith, longer)))
  some_found numbers chain (Some shortest) is = (shortest, is)
