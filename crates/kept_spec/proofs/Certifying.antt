-- What certifies an answer, and what a certificate gives.
use Rattle.std.proofs.Common.{◌≡◌, ℕ, List, [], ◌∷◌, refl, sym, ap, ◌∙◌, subst}
use Rattle.std.specs.Prelude.{All}
use Rattle.std.proofs.lemmas.List.Elements.{All-nil, All-cons, All-head, All-tail}
use Rattle.asking_spec.specs.Askings.{outcome}
use Rattle.asking_spec.specs.Evaluation.{evaluated}
use Rattle.tree_spec.proofs.Footprints.{same_by_footprint}
use Rattle.tree_spec.proofs.LimitedLooks.{ends_counted}
use Rattle.tree_spec.specs.LookAskings.{Sights, LookAsking, footprint}
use Rattle.tree_spec.specs.LookLimits.{begun, limited}
use Rattle.kept_spec.specs.Certificates.{LookSeen, paths_of, looks_seen, AreSeen, IsCertified}
use Rattle.kept_spec.specs.Laws.{OutcomeIsCertified, EndIsCertified, CertifiedIsAsked, OneCertified, SeenIfAgreed}
use Rattle.kept_spec.specs.Replays.{replayed}
use Rattle.kept_spec.proofs.Replaying.{replays_footprint}

abbrev pub Shows : Sights → LookSeen → Type 0
Shows sights look = sights look.path ≡ look.found

-- two that show the same looks agree at their paths
pub agree : (one other : Sights) (looks : List LookSeen) → AreSeen one looks → AreSeen other looks
    → All (λ path. one path ≡ other path) (paths_of looks)
agree one other [] here there = All-nil (λ path. one path ≡ other path)
agree one other (look ∷ more) here there =
    All-cons (λ path. one path ≡ other path) look.path (paths_of more)
    (All-head (Shows one) look more here ∙ sym (All-head (Shows other) look more there))
    (agree one other more (All-tail (Shows one) look more here) (All-tail (Shows other) look more there))

paths_seen : (sights : Sights) (paths : List (List ℕ)) → paths_of (looks_seen sights paths) ≡ paths
paths_seen sights [] = refl
paths_seen sights (path ∷ more) = ap (λ ps. path ∷ ps) (paths_seen sights more)

pub are_seen : (sights : Sights) (paths : List (List ℕ)) → AreSeen sights (looks_seen sights paths)
are_seen sights [] = All-nil (Shows sights)
are_seen sights (path ∷ more) =
    All-cons (Shows sights) (record { path = path; found = sights path }) (looks_seen sights more) refl
    (are_seen sights more)

-- looks at the footprint certify the outcome
by_looks : {X : Type 0} (one : Sights) (asking : LookAsking X) (looks : List LookSeen)
    → footprint one asking ≡ paths_of looks → AreSeen one looks → IsCertified asking (outcome one asking) looks
by_looks one asking looks paths here = record {
  each = λ other there.
      let same = same_by_footprint one other asking
      (record { each = subst (All (λ path. one path ≡ other path)) (sym paths) (agree one other looks here there) }) in
      record { comes = sym same.outcome; paths = sym same.footprint ∙ paths };
}

pub outcome_is_certified : {X : Type 0} → OutcomeIsCertified X
outcome_is_certified sights asking =
    by_looks sights asking (looks_seen sights (footprint sights asking))
    (sym (paths_seen sights (footprint sights asking))) (are_seen sights (footprint sights asking))

pub end_is_certified : {X : Type 0} → EndIsCertified X
end_is_certified limits sights before asking value after looks e question here =
    let counted = ends_counted limits sights (begun before) asking value after e in
    subst (λ v. IsCertified asking v looks) (sym counted.is)
    (by_looks sights asking looks (sym counted.counts.question ∙ sym question) here)

pub certified_is_asked : {X : Type 0} → CertifiedIsAsked X
certified_is_asked limits sights trail asking value looks certified here =
    let is = certified.each sights here in
    replays_footprint limits sights trail asking
    ∙ (λ i. evaluated (limited limits sights) (begun trail) (replayed (is.paths i) (is.comes i)))

pub one_certified : {X : Type 0} → OneCertified X
one_certified sights asking one other looks here a b =
    sym (a.each sights here).comes ∙ (b.each sights here).comes

-- ---- behind a change

agreed_are_seen : (before after : Sights) (paths : List (List ℕ)) → All (λ path. before path ≡ after path) paths
    → AreSeen after (looks_seen before paths)
agreed_are_seen before after [] each = All-nil (Shows after)
agreed_are_seen before after (path ∷ more) each =
    All-cons (Shows after) (record { path = path; found = before path }) (looks_seen before more)
    (sym (All-head (λ p. before p ≡ after p) path more each))
    (agreed_are_seen before after more (All-tail (λ p. before p ≡ after p) path more each))

seen_are_agreed : (before after : Sights) (paths : List (List ℕ)) → AreSeen after (looks_seen before paths)
    → All (λ path. before path ≡ after path) paths
seen_are_agreed before after [] seen = All-nil (λ p. before p ≡ after p)
seen_are_agreed before after (path ∷ more) seen =
    let look : LookSeen = record { path = path; found = before path } in
    All-cons (λ p. before p ≡ after p) path more
    (sym (All-head (Shows after) look (looks_seen before more) seen))
    (seen_are_agreed before after more (All-tail (Shows after) look (looks_seen before more) seen))

pub seen_if_agreed : SeenIfAgreed
seen_if_agreed before after paths = (
  (λ seen. record { each = seen_are_agreed before after paths seen }),
  (λ agrees. agreed_are_seen before after paths agrees.each),
)
