-- Pieces without a fault, in a form that no offset enters.
use Rattle.std.specs.Prelude.{◌&&◌, ◌||◌, codes, is_some, option_map, nat_eq}
use Rattle.std.specs.List.{starts_with}
use Rattle.std.proofs.Common.{◌≡◌, ℕ, ◌+◌, List, [], ◌∷◌, length, Bool, true, false, Option, Some, None, if◌then◌else◌, refl, ◌∙◌, ap, subst}
use Rattle.std.proofs.Math.Bool.{and-false}
use Rattle.std.proofs.lemmas.Option.{same_Some}
use Rattle.page_spec.specs.declared.kinds.InjectFault.{InjectFault}
use Rattle.page_spec.specs.declared.kinds.InjectFault.TheVariants.{PageUnclear, TwoMaps}
use Rattle.page_spec.specs.Pieces.{Part}
use Rattle.page_spec.specs.Attributes.{attribute_text}
use Rattle.page_spec.specs.ImportMaps.{is_broken, is_start_of, is_script, raw_behind, begins_map}
use Rattle.page_spec.specs.Faults.{holds_ampersand, is_unclear, comment_at, raw_fault, fault_at, or_later, first_fault}

-- the piece has no fault
pub record Fine (seen : Bool) (p : Part) (parts : List Part) : Type 0 where
  pub clear : is_unclear p parts ≡ false
  pub single : (seen && begins_map p parts) ≡ false
  pub uncommented : is_script p ≡ true → (raw : List ℕ) → raw_behind parts ≡ Some raw → comment_at 0 raw ≡ None

pub data Clean : Bool → List Part → Type 0 where
  no_more : {seen : Bool} → Clean seen []
  fine : {seen : Bool} {p : Part} {parts : List Part} → Fine seen p parts → Clean (seen || begins_map p parts) parts → Clean seen (p ∷ parts)

-- ---- from a page without a fault, and back

record Unfaulted (u c t : Bool) (o : Option InjectFault) : Type 0 where
  first : u ≡ false
  second : c ≡ false
  third : t ≡ true → o ≡ None

unfaulted : (u c t : Bool) (o : Option InjectFault) (f g : InjectFault) → (if u then Some f else if c then Some g else if t then o else None) ≡ None → Unfaulted u c t o
unfaulted true c t o f g e = absurd (cc)
unfaulted false true t o f g e = absurd (cc)
unfaulted false false true o f g e = record { first = refl; second = refl; third = λ t. e }
unfaulted false false false o f g e = record { first = refl; second = refl; third = λ t. absurd (cc) }

comment_moved : (m n : ℕ) (bytes : List ℕ) → comment_at m bytes ≡ None → comment_at n bytes ≡ None
comment_moved m n [] e = refl
comment_moved m n (b ∷ rest) e = by_test (starts_with nat_eq (b ∷ rest) (codes "<!--")) e (λ f. comment_moved (m + 1) (n + 1) rest f) where
  by_test : (c : Bool) → (if c then Some m else comment_at (m + 1) rest) ≡ None → (comment_at (m + 1) rest ≡ None → comment_at (n + 1) rest ≡ None) → (if c then Some n else comment_at (n + 1) rest) ≡ None
  by_test true e go = absurd (cc)
  by_test false e go = go e

raw_uncommented : (n : ℕ) (o : Option (List ℕ)) → raw_fault n o ≡ None → (raw : List ℕ) → o ≡ Some raw → comment_at 0 raw ≡ None
raw_uncommented n None e raw f = absurd (cc)
raw_uncommented n (Some r) e raw f = subst (λ r. comment_at 0 r ≡ None) (same_Some _ _ f) (comment_moved n 0 r (unmapped (comment_at n r) e)) where
  unmapped : (o : Option ℕ) → option_map PageUnclear o ≡ None → o ≡ None
  unmapped None e = refl
  unmapped (Some k) e = absurd (cc)

fine_from : (n : ℕ) (seen : Bool) (p : Part) (parts : List Part) → fault_at n seen p parts ≡ None → Fine seen p parts
fine_from n seen p parts e =
    let w = unfaulted (is_unclear p parts) (seen && begins_map p parts) (is_script p) (raw_fault (n + length p.text) (raw_behind parts)) (PageUnclear n) (TwoMaps n) e in
    record { clear = w.first; single = w.second; uncommented = λ s. raw_uncommented (n + length p.text) (raw_behind parts) (w.third s) }

record Neither (a b : Option InjectFault) : Type 0 where
  first : a ≡ None
  second : b ≡ None

neither : (a b : Option InjectFault) → or_later a b ≡ None → Neither a b
neither None None e = record { first = refl; second = refl }
neither None (Some f) e = absurd (cc)
neither (Some f) b e = absurd (cc)

pub clean_from : (n : ℕ) (seen : Bool) (parts : List Part) → first_fault n seen parts ≡ None → Clean seen parts
clean_from n seen [] e = no_more
clean_from n seen (p ∷ parts) e =
    let w = neither (fault_at n seen p parts) _ e in
    fine (fine_from n seen p parts w.first) (clean_from (n + length p.text) (seen || begins_map p parts) parts w.second)

no_raw_fault : (n : ℕ) (o : Option (List ℕ)) → ((raw : List ℕ) → o ≡ Some raw → comment_at 0 raw ≡ None) → raw_fault n o ≡ None
no_raw_fault n None go = refl
no_raw_fault n (Some raw) go = ap (λ o. option_map PageUnclear o) (comment_moved 0 n raw (go raw refl))

no_fault : (n : ℕ) (seen : Bool) (p : Part) (parts : List Part) → Fine seen p parts → fault_at n seen p parts ≡ None
no_fault n seen p parts f = joined (is_unclear p parts) (seen && begins_map p parts) (is_script p) (raw_fault (n + length p.text) (raw_behind parts)) (PageUnclear n) (TwoMaps n) f.clear f.single (λ s. no_raw_fault (n + length p.text) (raw_behind parts) (f.uncommented s)) where
  joined : (u c t : Bool) (o : Option InjectFault) (f g : InjectFault) → u ≡ false → c ≡ false → (t ≡ true → o ≡ None) → (if u then Some f else if c then Some g else if t then o else None) ≡ None
  joined true c t o f g e d go = absurd (cc)
  joined false true t o f g e d go = absurd (cc)
  joined false false true o f g e d go = go refl
  joined false false false o f g e d go = refl

pub clean_is : (n : ℕ) (seen : Bool) (parts : List Part) → Clean seen parts → first_fault n seen parts ≡ None
clean_is n seen parts no_more = refl
clean_is n seen parts (fine {p} {parts = more} f c) = ap (λ o. or_later o (first_fault (n + length p.text) (seen || begins_map p more) more)) (no_fault n seen p more f) ∙ clean_is (n + length p.text) (seen || begins_map p more) more c

-- ---- what is known of such pieces

pub whole_piece : (seen : Bool) (p : Part) (parts : List Part) → Fine seen p parts → is_broken p.kind ≡ false
whole_piece seen p parts f = first_of (is_broken p.kind) (is_start_of (codes "base") p) (is_script p && holds_ampersand (attribute_text (codes "type") p.text)) (begins_map p parts && is_some (attribute_text (codes "src") p.text)) f.clear where
  first_of : (a b c d : Bool) → (a || b || c || d) ≡ false → a ≡ false
  first_of true b c d e = absurd (cc)
  first_of false b c d e = refl

-- the parts behind it may be others that begin an import map element as well, and hide no comment in a script
pub fine_moved : (seen : Bool) (p : Part) (parts others : List Part) → begins_map p parts ≡ begins_map p others → ((raw : List ℕ) → is_script p ≡ true → raw_behind others ≡ Some raw → comment_at 0 raw ≡ None) → Fine seen p parts → Fine seen p others
fine_moved seen p parts others e uncommented f = record {
  clear = subst (λ c. (is_broken p.kind || is_start_of (codes "base") p || is_script p && holds_ampersand (attribute_text (codes "type") p.text) || c && is_some (attribute_text (codes "src") p.text)) ≡ false) e f.clear;
  single = subst (λ c. (seen && c) ≡ false) e f.single;
  uncommented = λ s raw r. uncommented raw s r;
}

-- an import map element that came before makes no fault of a piece that begins none
pub fine_seen : (seen more : Bool) (p : Part) (parts : List Part) → begins_map p parts ≡ false → Fine seen p parts → Fine more p parts
fine_seen seen more p parts n f = record { clear = f.clear; single = ap (λ c. more && c) n ∙ and-false more; uncommented = f.uncommented }
