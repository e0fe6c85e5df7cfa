-- The source and the sink in memory: as they are made, and what each call of them does.
--     left_of source                                 the bytes still to come
--     IsFreshSource source bytes numbers             these bytes are to come, and takes with these numbers fail
--     IsTakeOf before into filled result after       what was moved from the source into a slice
--     IsEmptySink sink numbers                       it took nothing yet, and gives with these numbers fail
--     IsGiveOf before bytes result after             bytes that were given to the sink
use Rattle.std.specs.Prelude.{◌≡◌, ◌≤◌, ◌<◌, ◌↔◌, ◌++◌, [], ℕ, List, length, take, drop, min, Result}
use Rattle.std.specs.Prelude.{IfOk, OnOk, OnErr, IsErr}
use Rattle.std.specs.List.{Contains}
use Rattle.tree_spec.specs.Counts.{following}
use Rattle.tree_spec.specs.States.{brought}
use Rattle.tree_model.specs.declared.mem_source.MemSource.{MemSource}
use Rattle.tree_model.specs.declared.mem_sink.MemSink.{MemSink}

-- own: the bytes still to come
abbrev pub left_of : MemSource → List ℕ
left_of source = drop source.at source.bytes

-- own: before the first take
pub record IsFreshSource (source : MemSource) (bytes numbers : List ℕ) : Type 0 where
  pub left : left_of source ≡ bytes
  pub takes : source.takes ≡ 0
  pub latest : source.latest ≡ 0
  pub faults : source.faults ≡ 0
  pub failing : source.failing ≡ numbers

-- own: a front of what is left was moved, as long as the slice allows; or the take failed, exactly where its number is
-- listed, and counted that
pub record IsTakeOf {E : Type 0} (before : MemSource) (into filled : List ℕ) (result : Result ℕ E)
    (after : MemSource) : Type 0 where
  pub within : IfOk result (λ count. count ≤ length into)
  pub most : IfOk result (λ count. count ≡ min (length (left_of before)) (length into))
  pub few : IfOk result (λ count. count ≤ length (left_of before))
  pub bytes : IfOk result (λ count. take count filled ≡ take count (left_of before))
  pub left : IfOk result (λ count. left_of after ≡ drop count (left_of before))
  pub end : IfOk result (λ count. count ≡ 0 → 0 < length into → left_of before ≡ [])
  pub behind : IfOk result (λ count. drop count filled ≡ drop count into)
  pub untouched : OnErr result (filled ≡ into)
  pub stays : OnErr result (left_of after ≡ left_of before)
  pub number : after.takes ≡ following before.takes
  pub latest : after.latest ≡ brought result
  pub listed : IsErr result ↔ Contains before.failing (following before.takes)
  pub failed : OnErr result (after.faults ≡ following before.faults)
  pub quiet : OnOk result (after.faults ≡ before.faults)
  pub later : before.faults ≤ after.faults
  pub failing : after.failing ≡ before.failing

-- own: before the first give
pub record IsEmptySink (sink : MemSink) (numbers : List ℕ) : Type 0 where
  pub got : sink.bytes.items ≡ []
  pub gives : sink.gives ≡ 0
  pub faults : sink.faults ≡ 0
  pub failing : sink.failing ≡ numbers

-- own: all bytes were taken; or none was, as where the give's number is listed, and that was counted
pub record IsGiveOf {E : Type 0} (before : MemSink) (bytes : List ℕ) (result : Result (Unit {0}) E)
    (after : MemSink) : Type 0 where
  pub given : OnOk result (after.bytes.items ≡ before.bytes.items ++ bytes)
  pub part : OnErr result ((count : ℕ) × (after.bytes.items ≡ before.bytes.items ++ take count bytes))
  pub kept : OnErr result (after.bytes.items ≡ before.bytes.items)
  pub number : after.gives ≡ following before.gives
  pub listed : Contains before.failing (following before.gives) → IsErr result
  pub failed : OnErr result (after.faults ≡ following before.faults)
  pub quiet : OnOk result (after.faults ≡ before.faults)
  pub later : before.faults ≤ after.faults
  pub failing : after.failing ≡ before.failing
