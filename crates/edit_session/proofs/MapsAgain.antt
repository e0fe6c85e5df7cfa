-- A generation by kept answers.
--     stopped_if, mapped_if      where a trace by kept answers stops, and the map of one
--     learns_if                  what is learned of a folder, whether or not what is kept is right
--     looks_if                   the folder is only looked at
--     right_empty                where nothing is kept, all that is kept is right
--     leaves_answers             what is kept of a trace
--     keeps_ok, on_ok            of one that leads somewhere
--     plans_so                   the plan to show a trace
use Rattle.std.proofs.Common.{◌≡◌, ◌++◌, ℕ, List, Option, Some, None, IfSome, Result, Ok, Err, sym, ap, ◌∙◌, subst}
use Rattle.std.specs.Prelude.{All, OnOk, length}
use Rattle.std.specs.FinMap.{get}
use Rattle.std.proofs.lemmas.List.{append_cancel_left}
use Rattle.std.proofs.lemmas.List.Elements.{All-contains}
use Rattle.asking_spec.specs.Askings.{questions}
use Rattle.tree_spec.proofs.Contained.{all_contained}
use Rattle.tree_spec.specs.LookAskings.{Sights}
use Rattle.tree_spec.specs.States.{FolderState, OnlyLooks}
use Rattle.trace_spec.specs.Checks.{Gathered}
use Rattle.trace_spec.specs.Modules.{Config}
use Rattle.trace_spec.specs.Questions.{always}
use Rattle.trace_spec.specs.Traces.{trace, traced}
use Rattle.trace_graph.specs.Links.{Links}
use Rattle.trace_spec.specs.declared.TraceFault.{TraceFault}
use Rattle.package_lookup.specs.Answered.{AsksOnce}
use Rattle.package_lookup.specs.Learning.{Learns}
use Rattle.package_lookup.specs.Looked.{Sees}
use Rattle.package_lookup.specs.declared.known.Known.{Known}
use Rattle.request_trace.specs.Showing.{Traced}
use Rattle.request_trace.specs.Tracing.{known_of, IsOfFootprint}
use Rattle.kept_answers.specs.RightAnswers.{untold}
use Rattle.kept_trace.specs.Ready.{AreAllRight, IsEmptyUnder}
use Rattle.kept_trace.specs.Keeping.{KeepsTraced}
use Rattle.kept_trace.specs.Tracing.{KeepsAsked, TracesIf}
use Rattle.kept_trace.specs.declared.kept.Kept.{Kept}
use Rattle.kept_trace.specs.declared.kept.TraceAnswers.{TraceAnswers}
use Rattle.generation.specs.Generating.{IfSeen, StopsAs}
use Rattle.generation.specs.Mapping.{MapsTrace}
use Rattle.generation.specs.declared.generated.Generated.{Generated}
use Rattle.generation.specs.declared.stop.Stop.{Stop}
use Rattle.generation.specs.declared.stop.Stop.TheVariants.{ReadFault, Memory}
use Rattle.generation.proofs.Generatings.{stopped, traced_there, refused_so, mapped}
use Rattle.edit_session.specs.Mapping.{GeneratesIf, IfKnown, IsKeptFor, LeavesAnswers}
use Rattle.edit_session.specs.Shown.{Shows, KeepsShown, TracedSo, IsPlannedBy, PlansFor}
use Rattle.edit_session.proofs.LookedOn.{some_told, all_told}

module _ (right : Type 0) (config : Config) (before after : FolderState) (known later : Known) where
  abbrev from : FolderState
  from = untold before

  abbrev to : FolderState
  to = untold after

  pub stopped_if : (why : TraceFault) (stop : Stop) → TracesIf right config before known (Err why) after later
      → StopsAs why stop → GeneratesIf right config before known (Err stop) after later
  stopped_if why stop traces stops = record {
    is = λ holds.
        refused_so config before after known later stop
        (stopped config before after known later why stop (traces.is holds) stops);
    always = refused_so config from to known later stop (stopped config from to known later why stop traces.always stops);
    tree = traces.tree;
    same = traces.same;
  }

  pub mapped_if : (all : Gathered) (result : Result Generated Stop)
      → TracesIf right config before known (Ok all) after later → MapsTrace config all result
      → GeneratesIf right config before known result after later
  mapped_if all result traces maps = record {
    is = λ holds.
        mapped config before after known later all result
        (traced_there config before after known later all (traces.is holds)) maps;
    always = mapped config from to known later all result (traced_there config from to known later all traces.always)
        maps;
    tree = traces.tree;
    same = traces.same;
  }

  -- ---- what is learned

  -- the paths that were asked for are told once
  same_more : (asked : Option (List (List ℕ))) (old one other : List (List ℕ)) → asked ≡ Some (old ++ one)
      → asked ≡ Some (old ++ other) → one ≡ other
  same_more asked old one other first last =
      append_cancel_left old one other (let both : Some (old ++ one) ≡ Some (old ++ other) = sym first ∙ last in cc)

  abbrev IsOfRight : List ℕ → Type 0
  IsOfRight path = right → IsOfFootprint config before known path

  module _ (result : Result Generated Stop) (generates : GeneratesIf right config before known result after later) where
    asks_if : (old : List (List ℕ)) → before.asked ≡ Some old
        → AsksOnce old (known_of before known) (known_of after later) (result ≡ Err Memory) IsOfRight
    asks_if old tells =
        let mine = some_told
        (λ o. AsksOnce o (known_of from known) (known_of to later) (result ≡ Err Memory)
        (IsOfFootprint config from known)) before.asked old tells generates.always.learns.asked in
        record {
          more = mine.more;
          asked = mine.asked;
          once = mine.once;
          new = mine.new;
          held = mine.held;
          front = mine.front;
          among = all_contained IsOfRight mine.more
              (λ path held holds.
              let theirs = some_told
              (λ o. AsksOnce o (known_of before known) (known_of after later) (result ≡ Err Memory)
              (IsOfFootprint config before known)) before.asked old tells (generates.is holds).learns.asked in
              All-contains (IsOfFootprint config before known) mine.more path
              (subst (All (IsOfFootprint config before known))
              (same_more after.asked old theirs.more mine.more theirs.asked mine.asked) theirs.among) held);
        }

    pub learns_if : Learns (known_of before known) (known_of after later) (result ≡ Err Memory) IsOfRight
    learns_if = record {
      tree = generates.tree;
      same = generates.same;
      known = generates.always.learns.known;
      asked = all_told
          (λ o. AsksOnce o (known_of before known) (known_of after later) (result ≡ Err Memory) IsOfRight) before.asked
          asks_if;
    }

    pub looks_if : OnlyLooks before after (result ≡ Err ReadFault)
    looks_if = record {
      tree = generates.tree;
      writes = generates.always.looks.writes;
      later = generates.always.looks.later;
      cause = generates.always.looks.cause;
      quiet = generates.always.looks.quiet;
    }

-- ---- where nothing is kept

pub right_empty : (conditions : List (List ℕ)) (kept : Kept) → IsEmptyUnder conditions kept → AreAllRight kept
right_empty conditions kept empty = record {
  modules = record {
    each = λ path found is. (let no : None ≡ Some found = sym (empty.modules path) ∙ is in absurd (cc));
  };
  requests = record {
    each = λ request found is. (let no : None ≡ Some found = sym (empty.requests request) ∙ is in absurd (cc));
  };
}

-- ---- what is kept

pub leaves_answers : (config : Config) (before : FolderState) (known : Known) (old : Kept) (new : TraceAnswers)
    → new.kept ≡ old → (AreAllRight old → KeepsTraced config before known new.next)
    → IfSome before.holds (λ tree. AreAllRight old → AreAllRight new.next)
    → LeavesAnswers old config before known new.next
leaves_answers config before known old new same keeps right holds =
    all_told (λ tree. IfSeen tree known (IsKeptFor old config new.next)) before.holds
    (λ tree e seen sees under.
    let named : new.next.requests.names ≡ config.conditions =
    sym new.under ∙ (ap (λ (k : Kept). k.requests.names) same ∙ under) in
    record {
      right = some_told (λ tree. AreAllRight old → AreAllRight new.next) before.holds tree e right holds;
      under = named;
      complete = some_told
          (λ tree. (sights : Sights) → Sees tree known sights → new.next.requests.names ≡ config.conditions
          → KeepsAsked sights (questions (always sights) (trace config)) new.next)
          before.holds tree e (keeps holds).asked (get seen) sees named;
    })

pub keeps_ok : {A E P Q : Type 0} (result : Result A E) → (P → Q) → OnOk result P → OnOk result Q
keeps_ok (Ok value) goes holds = goes holds
keeps_ok (Err fault) goes holds = tt

pub on_ok : {A E P : Type 0} (result : Result A E) → P → OnOk result P
on_ok (Ok value) holds = holds
on_ok (Err fault) holds = tt

-- ---- the plan

pub plans_so : {A : Type 0} (right : Type 0) (config : Config) (before after : FolderState) (known later : Known) (trace : Traced) (old : Links)
    (now : Shows) (result : Result A Stop) → TracesIf right config before known (Ok trace.gathered) after later
    → length trace.links.roots ≡ length config.entries → KeepsShown old now.links
    → OnOk result (IsPlannedBy (length old.graph) trace now) → OnOk result (PlansFor (IfKnown right before known) config now)
plans_so right config before after known later trace old now (Err stop) traces entries keeps planned = tt
plans_so right config before after known later trace old now (Ok found) traces entries keeps by = record {
  plan = by.plan;
  is_there = by.is_there;
  made = length old.graph;
  within = keeps.same.no_fewer;
  links = trace.links;
  planned = by.planned;
  linked = by.linked;
  entries = entries;
  traced_so = λ holds.
      all_told (λ tree. IfSeen tree known (λ seen. TracedSo seen config trace.links)) before.holds
      (λ tree told seen sees all is.
      (let mine : traced (get seen) config ≡ Ok trace.gathered =
      some_told (λ tree. IfSeen tree known (λ seen. traced (get seen) config ≡ Ok trace.gathered)) before.holds tree told
      (traced_there config before after known later trace.gathered (traces.is holds)).traces seen sees in
      let both : Ok trace.gathered ≡ Ok all = sym mine ∙ is in
      let same : trace.gathered ≡ all = cc in
      record {
        modules = by.shows.modules_are ∙ ap (λ (g : Gathered). g.modules) same;
        sources = by.shows.sources_are ∙ ap (λ (g : Gathered). g.sources) same;
        targets = by.shows.targets_are ∙ ap (λ (g : Gathered). g.targets) same;
      }));
}
