-- A page takes each map, or keeps each out for one fault, and never for want of memory.
use Rattle.std.proofs.Common.{◌≡◌, ◌⊎◌, inl, inr, ℕ, ◌+◌, List, [], ◌∷◌, length, Bool, true, false, Option, Some, None, Result, Err, if◌then◌else◌, refl, subst}
use Rattle.std.specs.Prelude.{⊤, ◌||◌, ◌&&◌, option_map}
use Rattle.std.specs.Str.{is_utf8}
use Rattle.std.specs.Str.Lossy.{utf8_valid_len}
use Rattle.page_spec.specs.declared.kinds.InjectFault.{InjectFault}
use Rattle.page_spec.specs.declared.kinds.InjectFault.TheVariants.{PageUnclear, TwoMaps, NoPlace, Memory}
use Rattle.page_spec.specs.Pieces.{Part, Pieces}
use Rattle.page_spec.specs.ImportMaps.{is_script, raw_behind, begins_map}
use Rattle.page_spec.specs.Faults.{is_unclear, comment_at, raw_fault, fault_at, or_later, first_fault}
use Rattle.page_spec.specs.Injection.{map_span, place, put_into, unless_faulted, injected, Injection, TakesMaps}
use Rattle.page_spec.specs.Injection.Injection.{not_utf8, utf8}
use Rattle.page_spec.specs.Laws.{AreKeptOut, TakesOrKeepsOut}
use Rattle.page_spec.proofs.Existence.{some_pieces}

-- ---- one or the other

injected_by :
    (text page : List ℕ) (parts : List Part) (fault : Option InjectFault) (span : Option (ℕ × ℕ)) (n : Option ℕ)
    → first_fault 0 false parts ≡ fault → map_span 0 parts ≡ span → place 0 parts ≡ n
    → injected text page parts ≡ unless_faulted fault (put_into text page span n)
injected_by text page parts fault span n f s p = λ i. unless_faulted (f i) (put_into text page (s i) (p i))

module _ (page : List ℕ) (parts : List Part) (u : is_utf8 page ≡ true) (x : Pieces None page parts) where
  injection_by :
      (text : List ℕ) (fault : Option InjectFault) (span : Option (ℕ × ℕ)) (n : Option ℕ)
      → first_fault 0 false parts ≡ fault → map_span 0 parts ≡ span → place 0 parts ≡ n
      → Injection text page (unless_faulted fault (put_into text page span n))
  injection_by text fault span n f s p = subst (Injection text page) (injected_by text page parts fault span n f s p) (utf8 u x)

  by_outcome :
      (fault : Option InjectFault) (span : Option (ℕ × ℕ)) (n : Option ℕ) → first_fault 0 false parts ≡ fault
      → map_span 0 parts ≡ span → place 0 parts ≡ n → TakesMaps page ⊎ AreKeptOut page
  by_outcome (Some fault) span n f s p =
      inr (record { fault = fault; keeps = λ text. injection_by text (Some fault) span n f s p })
  by_outcome None (Some span) n f s p =
      inl (λ text. record { new = _; injection = injection_by text None (Some span) n f s p })
  by_outcome None None (Some n) f s p = inl (λ text. record { new = _; injection = injection_by text None None (Some n) f s p })
  by_outcome None None None f s p = inr (record { fault = NoPlace; keeps = λ text. injection_by text None None None f s p })

takes_or_not : (page : List ℕ) → TakesMaps page ⊎ AreKeptOut page
takes_or_not page = by_test (is_utf8 page) refl
  where
    by_test : (c : Bool) → is_utf8 page ≡ c → TakesMaps page ⊎ AreKeptOut page
    by_test false e = inr (record { fault = PageUnclear (utf8_valid_len page); keeps = λ text. not_utf8 e })
    by_test true e =
        let s = some_pieces page in
        by_outcome page s.parts e s.pieces (first_fault 0 false s.parts) (map_span 0 s.parts) (place 0 s.parts) refl
        refl refl

-- ---- no want of memory

-- nothing, or a fault with a place
abbrev IsPlaced : Option InjectFault → Type 0
IsPlaced None = ⊤
IsPlaced (Some (PageUnclear n)) = ⊤
IsPlaced (Some (TwoMaps n)) = ⊤
IsPlaced (Some NoPlace) = ⊥
IsPlaced (Some Memory) = ⊥

by_tests :
    (u c t : Bool) (n : ℕ) (o : Option InjectFault) → IsPlaced o
    → IsPlaced (if u then Some (PageUnclear n) else if c then Some (TwoMaps n) else if t then o else None)
by_tests true c t n o is = tt
by_tests false true t n o is = tt
by_tests false false true n o is = is
by_tests false false false n o is = tt

raw_placed : (n : ℕ) (raw : Option (List ℕ)) → IsPlaced (raw_fault n raw)
raw_placed n None = tt
raw_placed n (Some raw) = mapped (comment_at n raw)
  where
    mapped : (found : Option ℕ) → IsPlaced (option_map PageUnclear found)
    mapped None = tt
    mapped (Some k) = tt

later_placed : (first later : Option InjectFault) → IsPlaced first → IsPlaced later → IsPlaced (or_later first later)
later_placed None later is more = more
later_placed (Some fault) later is more = is

first_placed : (n : ℕ) (seen : Bool) (parts : List Part) → IsPlaced (first_fault n seen parts)
first_placed n seen [] = tt
first_placed n seen (p ∷ parts) =
    later_placed (fault_at n seen p parts) (first_fault (n + length p.text) (seen || begins_map p parts) parts)
    (by_tests (is_unclear p parts) (seen && begins_map p parts) (is_script p) n
    (raw_fault (n + length p.text) (raw_behind parts)) (raw_placed (n + length p.text) (raw_behind parts)))
    (first_placed (n + length p.text) (seen || begins_map p parts) parts)

put_is_no_memory :
    (text page : List ℕ) (fault : Option InjectFault) (span : Option (ℕ × ℕ)) (n : Option ℕ) → IsPlaced fault
    → unless_faulted fault (put_into text page span n) ≡ Err Memory → ⊥
put_is_no_memory text page (Some (PageUnclear k)) span n is e = absurd (cc)
put_is_no_memory text page (Some (TwoMaps k)) span n is e = absurd (cc)
put_is_no_memory text page (Some NoPlace) span n is e = is
put_is_no_memory text page (Some Memory) span n is e = is
put_is_no_memory text page None (Some span) n is e = absurd (cc)
put_is_no_memory text page None None (Some n) is e = absurd (cc)
put_is_no_memory text page None None None is e = absurd (cc)

no_memory_by :
    (text page : List ℕ) (out : Result (List ℕ) InjectFault) → Injection text page out → out ≡ Err Memory → ⊥
no_memory_by text page out (not_utf8 u) e = absurd (cc)
no_memory_by text page out (utf8 {parts} u x) e =
    put_is_no_memory text page (first_fault 0 false parts) (map_span 0 parts) (place 0 parts)
    (first_placed 0 false parts) e

pub takes_or_keeps_out : TakesOrKeepsOut
takes_or_keeps_out =
    record { either = takes_or_not; no_memory = λ text page i. no_memory_by text page (Err Memory) i refl }
