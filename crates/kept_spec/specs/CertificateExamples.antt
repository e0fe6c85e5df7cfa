-- Worked examples of certificates: a search for the nearer of two files.
--     nearer                     it looks at one path, and where no file stands there at another
--     before                     the farther file stands alone
--     decided                    what certifies the answer
--     CertificateExamples        the examples
use Rattle.std.specs.Prelude.{◌≡◌, [], ◌∷◌, ℕ, List, codes, replicate, Option, Some, None}
use Rattle.asking_spec.specs.Askings.{answered, ask}
use Rattle.asking_spec.specs.Evaluation.{ends, stopped, evaluated}
use Rattle.tree_spec.specs.LookAskings.{Sights, LookAsking, footprint}
use Rattle.tree_spec.specs.LookExamples.{few, stands, trail}
use Rattle.tree_spec.specs.LookLimits.{limited}
use Rattle.tree_spec.specs.declared.Entry.{Entry}
use Rattle.tree_spec.specs.declared.Entry.TheVariants.{Stored, Directory}
use Rattle.tree_spec.specs.declared.LimitName.TheVariants.{Looks}
use Rattle.kept_spec.specs.Certificates.{LookSeen, paths_of, looks_seen, AreSeen, IsCertified}
use Rattle.kept_spec.specs.Replays.{replayed}

abbrev pub found_file : List ℕ → Option Entry → LookAsking (Option (List ℕ)) → LookAsking (Option (List ℕ))
found_file path None next = next
found_file path (Some Directory) next = next
found_file path (Some (Stored bytes)) next = answered (Some path)

abbrev pub nearer : LookAsking (Option (List ℕ))
nearer =
    ask (codes "/a/p")
    (λ found. found_file (codes "/a/p") found
    (ask (codes "/p") (λ other. found_file (codes "/p") other (answered None))))

abbrev pub before : Sights
before = stands (("/p", Stored (replicate 1 7)) ∷ [])

abbrev pub decided : List LookSeen
decided =
    record { path = codes "/a/p"; found = None }
    ∷ record { path = codes "/p"; found = Some (Stored (replicate 1 7)) }
    ∷ []

pub record CertificateExamples : Type 0 where
  pub looks : looks_seen before (footprint before nearer) ≡ decided
  pub certified : IsCertified nearer (Some (codes "/p")) decided
  -- a file beside the search, and a folder above the nearer path, change nothing that was seen
  pub beside :
      AreSeen (stands (("/p", Stored (replicate 1 7)) ∷ ("/a", Directory) ∷ ("/q", Stored []) ∷ [])) decided
  -- a nearer file does, and so does a folder in its place
  pub nearer_file : AreSeen (stands (("/p", Stored (replicate 1 7)) ∷ ("/a/p", Stored []) ∷ [])) decided → ⊥
  pub nearer_folder : AreSeen (stands (("/p", Stored (replicate 1 7)) ∷ ("/a/p", Directory) ∷ [])) decided → ⊥
  -- and so do other bytes, and none
  pub other_bytes : AreSeen (stands (("/p", Stored (replicate 1 8)) ∷ [])) decided → ⊥
  pub dropped : AreSeen (stands []) decided → ⊥
  -- looks again are counted: two paths that were counted already and one that is new
  pub counted :
      evaluated (limited few before) (trail ("/p" ∷ []) 1 []) (replayed (paths_of decided) (Some (codes "/p")))
      ≡ ends (Some (codes "/p")) (trail ("/p" ∷ "/a/p" ∷ []) 1 ("/a/p" ∷ "/p" ∷ []))
  pub one_too_many :
      evaluated (limited few before) (trail ("/x" ∷ []) 0 []) (replayed (paths_of decided) (Some (codes "/p")))
      ≡ stopped Looks (trail ("/x" ∷ "/a/p" ∷ []) 0 ("/a/p" ∷ []))
