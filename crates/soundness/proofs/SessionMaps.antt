-- The maps of a session serve wherever it stands.
use Rattle.std.proofs.Common.{ℕ, List}
use Rattle.session_spec.proofs.Talking.{talks_stay_current}
use Rattle.session_spec.specs.Openings.{opens}
use Rattle.session_spec.specs.SessionStates.{SessionState}
use Rattle.session_spec.specs.Talks.{begun}
use Rattle.soundness.proofs.Smallest.{generated_is_smallest}
use Rattle.soundness.proofs.Sound.{sound, modules_are_known}
use Rattle.soundness.specs.Soundness.{SessionMapsServe}

pub session_maps_serve : SessionMapsServe
session_maps_serve tree input _ out later (opens config map counts is generated) talks =
    let state : SessionState = record { tree = tree; config = config; map = map; counts = counts } in
    let current = talks_stay_current (begun state input) later out generated talks in
    let last = later.state in (
      current,
      record {
        serves = sound last.tree last.config last.map current.generates;
        knows = modules_are_known last.tree last.config last.map current.generates;
        smallest = generated_is_smallest last.tree last.config last.map current.generates;
      },
    )
