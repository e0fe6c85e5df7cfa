-- Walks: the requests of the page and of what they lead to are followed one after another, until one is refused. What
-- opens the visit of a referrer, and the checks of a request, are rules over tables of what came before.
--     Referrer M                       the page, or a module
--     Rules M B R Q A                  modules `M`, tables of what came before `B`, refusals `R`, questions `Q` and
--                                      their answers
--     new_modules same seen targets    the targets that don't stand among those that were seen, each once, at its
--                                      first place
--     followed rules before referrer specifiers      requests of a referrer, in order
--     visited rules before referrer    a referrer's visit: its opening, and then its requests
--     walked rules room before place   the visits of the modules from a place on, in the order of the table
--     walk rules                       the visit of the page, and then those of the modules
--     where_some none some found       `some` of what was found, or `none` where nothing was
use Rattle.std.specs.Prelude.{ℕ, zero, suc, Bool, List, [], ◌∷◌, ◌++◌, slice_get, Option, Some, None, Result, Ok, Err}
use Rattle.std.specs.Prelude.{if◌then◌else◌}
use Rattle.std.specs.List.{list_any}
use Rattle.asking_spec.specs.Askings.{Asking, answered, and_ok}

pub data Referrer (M : Type 0) : Type 0 where
  the_page : Referrer M
  a_module : M → Referrer M

-- own: what a visit begins with: the referrer's requests, and the tables with what the opening puts there
pub record Opened (B : Type 0) : Type 0 where
  pub specifiers : List (List ℕ)
  pub after : B

-- own: when two modules are one; the tables at the start, and the modules in them; the most modules, and what is
-- refused above them; what opens a visit, and what all checks of a request do, in their order
pub record Rules (M B R Q : Type 0) (A : Q → Type 0) : Type 0 where
  pub same : M → M → Bool
  pub start : B
  pub modules : B → List M
  pub most : ℕ
  pub above : R
  pub opens : B → Referrer M → Asking Q A (Result (Opened B) R)
  pub follows : B → Referrer M → List ℕ → Asking Q A (Result B R)

abbrev pub new_modules : {M : Type 0} → (M → M → Bool) → List M → List M → List M
new_modules same seen [] = []
new_modules same seen (target ∷ more) =
    if list_any (same target) seen
    then new_modules same seen more
    else target ∷ new_modules same (seen ++ target ∷ []) more

abbrev pub followed : {M B R Q : Type 0} {A : Q → Type 0} → Rules M B R Q A → B → Referrer M → List (List ℕ)
    → Asking Q A (Result B R)
followed rules before referrer [] = answered (Ok before)
followed rules before referrer (specifier ∷ more) =
    and_ok (rules.follows before referrer specifier) (λ after. followed rules after referrer more)

abbrev pub visited : {M B R Q : Type 0} {A : Q → Type 0} → Rules M B R Q A → B → Referrer M → Asking Q A (Result B R)
visited rules before referrer =
    and_ok (rules.opens before referrer) (λ opened. followed rules opened.after referrer opened.specifiers)

abbrev pub where_some : {M X : Type 0} → X → (M → X) → Option M → X
where_some none some None = none
where_some none some (Some found) = some found

-- own: with room for so many visits; a law says that the walk of a config never uses it up
abbrev pub walked : {M B R Q : Type 0} {A : Q → Type 0} → Rules M B R Q A → ℕ → B → ℕ → Asking Q A (Result B R)
walked rules zero before place = answered (Err rules.above)
walked rules (suc room) before place =
    where_some
    (answered (Ok before))
    (λ found. and_ok (visited rules before (a_module found)) (λ after. walked rules room after (suc place)))
    (slice_get (rules.modules before) place)

abbrev pub walk : {M B R Q : Type 0} {A : Q → Type 0} → Rules M B R Q A → Asking Q A (Result B R)
walk rules = and_ok (visited rules rules.start the_page) (λ after. walked rules (suc rules.most) after 0)
