use Rattle.std.proofs.Common.{◌≡◌, ◌++◌, ℕ, List, [], ◌∷◌, length, length-append, map, reverse, Some, sym, ap, ◌∙◌, subst, arith, append-nil}
use Rattle.std.specs.Prelude.{All}
use Rattle.std.specs.Map.{keys_of}
use Rattle.std.proofs.lemmas.List.Elements.{All-nil, All-push, All-pop}
use Rattle.module_graph.specs.Modules.{IsModule}
use Rattle.module_sources.specs.Shown as walk
use Rattle.module_sources.specs.Shown.{AreInside}
use Rattle.module_sources.specs.declared.source.Source.{Source}
use Rattle.trace_graph.specs.Links.{module_of, source_of}
use Rattle.trace_spec.specs.Modules.{Module}
use Rattle.trace_walk.specs.declared.tables.Name.{Name}
use Rattle.request_trace.proofs.JoinedTables.{moved, no_entries, nothing_left}
use Rattle.request_trace.proofs.vertices.join.Invariants.{text_in}
use Rattle.request_trace.proofs.vertices.join.Goals as goal

abbrev Inside : Source → Type 0
Inside source = AreInside source.bytes.value source.requests.value

pub loop-module-init : goal.loop-module-init
loop-module-init c = record {
  modules = ap (λ vs. keys_of c.args.modules.entries ++ map module_of (reverse vs)) c.in_ok-vertices.ensures.items ∙ append-nil _;
  sources = ap (λ vs. map walk.source_of c.args.sources.items ++ map source_of (reverse vs)) c.in_ok-vertices.ensures.items ∙ append-nil _;
  names = ap (λ (ns : List (List ℕ)). map text_in c.args.modules.entries ++ map Some (reverse ns)) c.in_ok-names.ensures.items ∙ append-nil _;
  beside = c.requires.beside;
  inside = c.requires.inside;
  well_made = subst (All IsModule) (sym c.in_ok-vertices.ensures.items) (All-nil IsModule);
  vertices_room = (let a = c.in_ok-vertices.ensures.len in let b = c.in_ok-vertices.ensures.capacity in let n = c.len.ensures.len in omega (arith, a, b, n));
  names_room = (let a = c.in_ok-names.ensures.len in let b = c.in_ok-names.ensures.capacity in let n = c.len-2.ensures.len in omega (arith, a, b, n));
}

pub last_of-source-requires : goal.last_of-source-requires
last_of-source-requires c =
    let taken = ap length c.in-Some.ensures.entries in
    let more = length-append c.pop.new.self.entries ((c.in-Some.module, c.in-Some.name) ∷ []) in
    let beside = c.loop-module.invariant.beside in
    omega (arith, taken, more, beside)

abbrev taken_inside : (all rest : List Source) (source : Source) → all ≡ rest ++ source ∷ [] → All Inside all → All Inside rest × Inside source
taken_inside all rest source is every = All-pop Inside all rest (Some source) is every

pub vertex-requires : goal.vertex-requires
vertex-requires c =
    (taken_inside c.loop-module.unread.items c.last_of-source.new.sources.items c.last_of-source.result c.last_of-source.ensures c.loop-module.invariant.inside).1

pub push_reserved-requires : goal.push_reserved-requires
push_reserved-requires c =
    let taken = ap length c.in-Some.ensures.entries in
    let more = length-append c.pop.new.self.entries ((c.in-Some.module, c.in-Some.name) ∷ []) in
    let room = c.loop-module.invariant.vertices_room in
    omega (arith, taken, more, room)

pub push_reserved-requires-in-Some : goal.push_reserved-requires-in-Some
push_reserved-requires-in-Some c =
    let taken = ap length c.in-Some.ensures.entries in
    let more = length-append c.pop.new.self.entries ((c.in-Some.module, c.in-Some.name) ∷ []) in
    let room = c.loop-module.invariant.names_room in
    omega (arith, taken, more, room)

pub loop-module-preserved : goal.loop-module-preserved
loop-module-preserved c =
    let entry : Module × Name = (c.in-Some.module, c.in-Some.name) in
    let popped = c.in-Some.ensures.entries in
    let read = c.last_of-source.ensures in
    let before = c.loop-module.invariant in
    let made = c.in_ok-vertex.ensures in
    let taken = ap length popped in
    let more = length-append c.pop.new.self.entries (entry ∷ []) in
    let fewer = ap length read in
    let less = length-append c.last_of-source.new.sources.items (c.last_of-source.result ∷ []) in
    record {
      modules = moved (λ (e : Module × Name). e.0) module_of c.loop-module.waiting.entries c.pop.new.self.entries entry c.loop-module.vertices.items c.push_reserved.new.self.items c.in_ok-vertex.field-0 _ popped c.push_reserved.ensures.items made.module_is before.modules;
      sources = moved walk.source_of source_of c.loop-module.unread.items c.last_of-source.new.sources.items c.last_of-source.result c.loop-module.vertices.items c.push_reserved.new.self.items c.in_ok-vertex.field-0 _ read c.push_reserved.ensures.items made.source_is before.sources;
      names = moved text_in Some c.loop-module.waiting.entries c.pop.new.self.entries entry c.loop-module.names.items c.push_reserved-in-Some.new.self.items c.text_of.result _ popped c.push_reserved-in-Some.ensures.items (ap Some c.text_of.ensures) before.names;
      beside = (let beside = before.beside in omega (arith, taken, more, fewer, less, beside));
      inside = (taken_inside c.loop-module.unread.items c.last_of-source.new.sources.items c.last_of-source.result read before.inside).0;
      well_made = subst (All IsModule) (sym c.push_reserved.ensures.items) (All-push IsModule c.loop-module.vertices.items c.in_ok-vertex.field-0 before.well_made made.well_made);
      vertices_room = (let room = before.vertices_room in let len = c.push_reserved.ensures.len in let capacity = c.push_reserved.ensures.capacity in omega (arith, taken, more, room, len, capacity));
      names_room = (let room = before.names_room in let len = c.push_reserved-in-Some.ensures.len in let capacity = c.push_reserved-in-Some.ensures.capacity in omega (arith, taken, more, room, len, capacity));
    }

pub returns : goal.returns
returns c =
    let before = c.loop-module.invariant in
    let waiting : c.loop-module.waiting.entries ≡ [] = no_entries c.loop-module.waiting.entries (λ some. (let none = c.in_default.ensures.found.1 some in cc)) in
    let beside = before.beside in
    let count = ap length waiting in
    let unread : c.loop-module.unread.items ≡ [] = nothing_left c.loop-module.unread.items (omega (arith, beside, count)) in
    record {
      well_made = before.well_made;
      modules_are = ap (λ (es : List (Module × Name)). map (λ (e : Module × Name). e.0) es ++ map module_of (reverse c.loop-module.vertices.items)) (sym waiting) ∙ before.modules;
      sources_are = ap (λ (ss : List Source). map walk.source_of ss ++ map source_of (reverse c.loop-module.vertices.items)) (sym unread) ∙ before.sources;
      names_are = ap (map Some) c.reverse.ensures.items ∙ (ap (λ (es : List (Module × Name)). map text_in es ++ map Some (reverse c.loop-module.names.items)) (sym waiting) ∙ before.names);
    }
