-- What holds of what the URL parser gives, step by step.
use Rattle.std.proofs.Common.{◌≡◌, true, Bool, false, cond, refl, subst, ℕ, List, [], ◌++◌, ◌≤◌, ◌+◌, ◌∷◌, length, arith, None, Option, Some}
use Rattle.std.proofs.lemmas.Bool.{cond_both}
use Rattle.std.specs.List.{prefix_len}
use Rattle.std.specs.Prelude.{Ok, Err}
use Rattle.url.specs.Parser.{Parsed, and_then, parse_url}
use Rattle.url.specs.Parts.{Parts}
use Rattle.url_spec.specs.Parsing.{text_of, url_text, is_own_text, kept, parse_alone, IsUrl}

abbrev pub OnParsed : {A : Type 0} → (A → Type 0) → Parsed A → Type 0
OnParsed P (Ok x) = P x
OnParsed P (Err e) = Unit {0}

-- what is parsed has this property
pub record Gives {A : Type 0} (P : A → Type 0) (r : Parsed A) : Type 0 where
  pub holds : OnParsed P r

pub either : {A : Type 0} {P : A → Type 0} {r s : Parsed A} (test : Bool) → (test ≡ true → Gives P r) → (test ≡ false → Gives P s) → Gives P (cond test r s)
either true then_case else_case = then_case refl
either false then_case else_case = else_case refl

pub and_gives : {A B : Type 0} {P : A → Type 0} {Q : B → Type 0} {next : A → Parsed B} (r : Parsed A) → Gives P r → ((x : A) → P x → Gives Q (next x)) → Gives Q (and_then r next)
and_gives (Ok x) h k = k x h.holds
and_gives (Err e) h k = record { holds = tt }

pub any_gives : {A B : Type 0} {Q : B → Type 0} {next : A → Parsed B} (r : Parsed A) → ((x : A) → Gives Q (next x)) → Gives Q (and_then r next)
any_gives (Ok x) k = k x
any_gives (Err e) k = record { holds = tt }

pub gives_at : {A : Type 0} {P : A → Type 0} (r : Parsed A) (x : A) → Gives P r → r ≡ Ok x → P x
gives_at {P = P} r x h e = (subst (Gives P) e h).holds

-- ---- what the parser takes off first leaves the head

pub prefix_stops : (test : ℕ → Bool) (front rest : List ℕ) (c : ℕ) → test c ≡ false → prefix_len test (front ++ c ∷ rest) ≤ length front
prefix_stops test [] rest c stops = rw stops (omega arith)
prefix_stops test (x ∷ front) rest c stops =
    let more = prefix_stops test front rest c stops in
    cond_both (test x) (1 + prefix_len test (front ++ c ∷ rest)) 0 (λ n. n ≤ length (x ∷ front)) (λ _. omega (arith, more)) (λ _. omega arith)

pub cond_some : {A : Type 0} (test : Bool) (x y : A) → cond {A = Option A} test (Some x) None ≡ Some y → (test ≡ true) × (x ≡ y)
cond_some true x y e = (refl, cc)
cond_some false x y e = cc

pub record IsParsed (text : List ℕ) (r : Parsed Parts) : Type 0 where
  pub url : Parts
  pub parsed : r ≡ Ok url
  pub own : text_of url ≡ text

pub kept_parsed : (text : List ℕ) (r : Parsed Parts) → kept (url_text r) ≡ Some text → IsParsed text r
kept_parsed text (Ok url) e = record { url = url; parsed = refl; own = (cond_some (is_own_text (text_of url)) (text_of url) text e).1 }
kept_parsed text (Err fault) e = absurd (cc)

pub url_parsed : (text : List ℕ) → IsUrl text → IsParsed text (parse_url None text)
unfolding parse_alone
url_parsed text is = kept_parsed text (parse_url None text) is
