-- The worked examples of certificates, by computation.
use Rattle.std.proofs.Common.{◌≡◌, [], ◌∷◌, refl}
use Rattle.std.specs.Prelude.{codes, Some, None, replicate}
use Rattle.std.proofs.lemmas.List.Elements.{All-nil, All-cons, All-head, All-tail}
use Rattle.tree_spec.specs.LookAskings.{Sights}
use Rattle.tree_spec.specs.LookExamples.{stands}
use Rattle.tree_spec.specs.declared.Entry.TheVariants.{Stored, Directory}
use Rattle.kept_spec.specs.Certificates.{LookSeen, AreSeen}
use Rattle.kept_spec.specs.CertificateExamples.{nearer, before, decided, CertificateExamples}
use Rattle.kept_spec.proofs.Certifying.{outcome_is_certified}

abbrev Shows : Sights → LookSeen → Type 0
Shows sights look = sights look.path ≡ look.found

abbrev at_nearer : LookSeen
at_nearer = record { path = codes "/a/p"; found = None }

abbrev at_farther : LookSeen
at_farther = record { path = codes "/p"; found = Some (Stored (replicate 1 7)) }

seen_both : (sights : Sights) → Shows sights at_nearer → Shows sights at_farther → AreSeen sights decided
seen_both sights one other =
    All-cons (Shows sights) at_nearer (at_farther ∷ []) one
    (All-cons (Shows sights) at_farther [] other (All-nil (Shows sights)))

seen_nearer : (sights : Sights) → AreSeen sights decided → Shows sights at_nearer
seen_nearer sights all = All-head (Shows sights) at_nearer (at_farther ∷ []) all

seen_farther : (sights : Sights) → AreSeen sights decided → Shows sights at_farther
seen_farther sights all =
    All-head (Shows sights) at_farther [] (All-tail (Shows sights) at_nearer (at_farther ∷ []) all)

pub certificate_examples : CertificateExamples
certificate_examples = record {
  looks = refl;
  certified = outcome_is_certified before nearer;
  beside =
      seen_both (stands (("/p", Stored (replicate 1 7)) ∷ ("/a", Directory) ∷ ("/q", Stored []) ∷ [])) refl refl;
  nearer_file = λ all. (let e = seen_nearer (stands (("/p", Stored (replicate 1 7)) ∷ ("/a/p", Stored []) ∷ [])) all in absurd (cc));
  nearer_folder = λ all. (let e = seen_nearer (stands (("/p", Stored (replicate 1 7)) ∷ ("/a/p", Directory) ∷ [])) all in absurd (cc));
  other_bytes = λ all. (let e = seen_farther (stands (("/p", Stored (replicate 1 8)) ∷ [])) all in absurd (cc));
  dropped = λ all. (let e = seen_farther (stands []) all in absurd (cc));
  counted = refl;
  one_too_many = refl;
}
