-- How a reading begins and ends.
use Rattle.std.proofs.Common.{◌≡◌, ℕ, List, [], sym, subst}
use Rattle.grammar_spec.specs.declared.names.Context.{Context}
use Rattle.grammar_spec.specs.declared.names.Rule.TheVariants.{Module}
use Rattle.grammar_spec.specs.Sights.{Sight}
use Rattle.grammar_spec.specs.Statements.{body}
use Rattle.grammar_spec.specs.Readings.{Place, stays, takes, misses, faults, too_deep, start, nothing_open, ReadsModule}
use Rattle.grammar_spec.specs.Readings.Reads.{reads_rule}
use Rattle.grammar_table.specs.declared.node.Node.{Node}
use Rattle.es_grammar.specs.declared.stack.Frame.{Frame}
use Rattle.es_grammar.specs.declared.reader.End.TheVariants as end
use Rattle.grammar_table.specs.NodeForms.{form_of}
use Rattle.es_grammar.specs.Unwinding.{Enters, Leaves, Took, TellsOf}
use Rattle.es_grammar.specs.Unwinding.Unwinds.{done}
use Rattle.es_grammar.specs.Unwinding.Tells.{nothing, matches, missing, faulty, deep}

module _ {tokens : List Sight} {fs : List Frame} {c : Context} {p : Place} where
  pub ends_staying : {asked : List ℕ} → fs ≡ [] → Leaves tokens fs c p stays → TellsOf tokens end.Nothing asked
  ends_staying empty l =
      record { outcome = stays; reads = subst (λ z. Leaves tokens z c p stays) empty l stays done; tells = nothing }

  pub ends_missing : {asked : List ℕ} → fs ≡ [] → Leaves tokens fs c p misses → TellsOf tokens end.Misses asked
  ends_missing empty l =
      record { outcome = misses; reads = subst (λ z. Leaves tokens z c p misses) empty l misses done; tells = missing }

  pub ends_taking : fs ≡ [] → Took tokens fs c p → TellsOf tokens end.Matches p.asked
  ends_taking empty t =
      record { outcome = takes p; reads = subst (λ z. Took tokens z c p) empty t p (takes p) done; tells = matches }

pub ends_at : {tokens : List Sight} {asked : List ℕ} (at : ℕ) → ReadsModule tokens (faults at) → TellsOf tokens (end.Faults at) asked
ends_at at r = record { outcome = faults at; reads = r; tells = faulty }

pub ends_deep : {tokens : List Sight} {asked : List ℕ} → ReadsModule tokens too_deep → TellsOf tokens end.TooDeep asked
ends_deep r = record { outcome = too_deep; reads = r; tells = deep }

-- nothing is to be done behind the whole
whole_enters : {tokens : List Sight} → Enters tokens [] nothing_open start (body Module)
whole_enters out answer r done = reads_rule r

pub begins : {tokens : List Sight} (n : Node) (fs : List Frame) (asked : List ℕ) → form_of n ≡ body Module → fs ≡ [] → asked ≡ []
    → Enters tokens fs nothing_open (record { at = 0; asked = asked }) (form_of n)
begins {tokens} n fs asked is empty none =
    subst (λ f. Enters tokens fs nothing_open (record { at = 0; asked = asked }) f) (sym is)
    (subst (λ z. Enters tokens z nothing_open (record { at = 0; asked = asked }) (body Module)) (sym empty)
    (subst (λ z. Enters tokens [] nothing_open (record { at = 0; asked = z }) (body Module)) (sym none) whole_enters))
