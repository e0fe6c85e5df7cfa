-- What waits in a reader of lines, and what a call of it does.
--     Waiting                         bytes that were taken and not read, the number of the first unread line, and how
--                                     many bytes may still be taken
--     waiting reader                  what waits in this reader
--     IsFresh reader                  nothing was taken yet
--     Grows before more after         more bytes wait, and as many fewer may be taken
--     Fills before most filled result after     a take into the front of a slice
--     ComesBeyond before after result           a take of one byte
--     IsPiece more                    these bytes were taken at once
--     Comes before after source later result    what a take brings to what waits
--     FindsEnd unread result          where the first line ends
--     order_of order                  an order as the lines' definition has it
--     IsRead reading before taken order after   so the first unread line is read, and what is behind it waits
--     Stays reading outcome before after        it is read with this outcome, and the bytes go on waiting
--     ReadsAs reading before after result       one of both
--     IsPassed before taken lines after         so many bytes and lines don't wait any longer
--     IsWithin before taken reading   these bytes may be taken, and with them the first line is read so
--     IsBeyond before taken           no line is whole in the bytes that may be taken, and one more was
--     Reads before after taken later result     what is read, when these bytes were taken
--     IsNeeded before source taken later      no line was whole before any take
--     ReadsNext before after source later result      so, with bytes of the source that were needed
--     TurnsTo before after source later result        one look at what waits, and where that isn't enough one take
--     Gains before after source later                 what was taken as long as no line was whole
use Rattle.std.specs.Prelude.{◌≡◌, ◌≤◌, ◌<◌, ◌+◌, ◌++◌, ◌∷◌, [], ℕ, List, length, take, drop, Result, Ok, Err}
use Rattle.std.specs.Prelude.{Option, Some, None, MatchOption}
use Rattle.tree_spec.specs.Counts.{Rose}
use Rattle.tree_spec.specs.Limits.{limit_number}
use Rattle.tree_spec.specs.States.{SourceState}
use Rattle.tree_spec.specs.declared.LimitName.TheVariants.{Session}
use Rattle.session_spec.specs.SessionLines as lines
use Rattle.session_spec.specs.SessionLines.{Rest, changes, begins, commits, shows_map, ends_session}
use Rattle.session_spec.specs.SessionLines.{reads, malformed, unfinished, read_line, cut_first}
use Rattle.session_spec.specs.TakenInput.{Takes, LastBrought, TakesWhile, IsSpent, taken_at_once}
use Rattle.session_input.specs.Cuts.{cut_at}
use Rattle.session_input.specs.declared.reader.SessionInput.{SessionInput}
use Rattle.session_input.specs.declared.takes.Came.{Came}
use Rattle.session_input.specs.declared.takes.Came.TheVariants as came
use Rattle.session_input.specs.declared.reading.InputFault.{InputFault}
use Rattle.session_input.specs.declared.reading.InputFault.TheVariants.{ReadFault, Memory}
use Rattle.session_input.specs.declared.reading.Order.{Order}
use Rattle.session_input.specs.declared.reading.Order.TheVariants as order
use Rattle.session_input.specs.declared.reading.Reading.{Reading}
use Rattle.session_input.specs.declared.reading.Reading.TheVariants as reading

pub record Waiting : Type 0 where
  pub unread : List ℕ
  pub number : ℕ
  pub room : ℕ

abbrev pub waiting : SessionInput → Waiting
waiting reader =
    record { unread = drop reader.start reader.held.items; number = reader.number; room = reader.room }

pub record IsFresh (reader : SessionInput) : Type 0 where
  pub unread : (waiting reader).unread ≡ []
  pub number : (waiting reader).number ≡ 1
  pub room : (waiting reader).room ≡ limit_number Session

pub record Grows (before : Waiting) (more : List ℕ) (after : Waiting) : Type 0 where
  pub unread : after.unread ≡ before.unread ++ more
  pub number : after.number ≡ before.number
  pub room : before.room ≡ length more + after.room

-- ---- a take

pub record FillsFront (before : SourceState) (most : ℕ) (filled : List ℕ) (count : ℕ)
    (after : SourceState) : Type 0 where
  pub few : count ≤ most
  pub within : count ≤ length filled
  pub takes : Takes before (take count filled) after
  pub spent : count ≡ 0 → IsSpent after
  pub latest : LastBrought before (length (take count filled)) after
  pub quiet : after.faults ≡ before.faults

pub record Fails (before after : SourceState) : Type 0 where
  pub takes : Takes before [] after
  pub latest : LastBrought before 0 after
  pub rose : Rose before.faults after.faults

abbrev pub Fills : SourceState → ℕ → List ℕ → Result ℕ InputFault → SourceState → Type 0
Fills before most filled (Ok count) after = FillsFront before most filled count after
Fills before most filled (Err ReadFault) after = Fails before after
Fills before most filled (Err Memory) after = ⊥

pub record TakesSome (before : SourceState) (more : List ℕ) (after : SourceState) : Type 0 where
  pub takes : Takes before more after
  pub latest : LastBrought before (length more) after
  pub quiet : after.faults ≡ before.faults

pub record TakesNothing (before after : SourceState) : Type 0 where
  pub takes : Takes before [] after
  pub latest : LastBrought before 0 after
  pub spent : IsSpent after
  pub quiet : after.faults ≡ before.faults

abbrev pub ComesBeyond : SourceState → SourceState → Result Came InputFault → Type 0
ComesBeyond before after (Ok came.Bytes) = ⊥
ComesBeyond before after (Ok came.Nothing) = TakesNothing before after
ComesBeyond before after (Ok came.Beyond) = (byte : ℕ) × TakesSome before (byte ∷ []) after
ComesBeyond before after (Err ReadFault) = Fails before after
ComesBeyond before after (Err Memory) = ⊥

-- some bytes, no more than are taken at once
pub record IsPiece (more : List ℕ) : Type 0 where
  pub some : 0 < length more
  pub short : length more ≤ taken_at_once

pub record Brings (before after : Waiting) (source later : SourceState) : Type 0 where
  pub more : List ℕ
  pub piece : IsPiece more
  pub grows : Grows before more after
  pub takes : TakesSome source more later

pub record BringsNothing (before after : Waiting) (source later : SourceState) : Type 0 where
  pub same : after ≡ before
  pub takes : TakesNothing source later

-- one byte behind all that may be read
pub record BringsBeyond (before after : Waiting) (source later : SourceState) : Type 0 where
  pub same : after ≡ before
  pub full : before.room ≡ 0
  pub byte : ℕ
  pub takes : TakesSome source (byte ∷ []) later

pub record FailsToBring (before after : Waiting) (source later : SourceState) : Type 0 where
  pub same : after ≡ before
  pub fails : Fails source later

-- they came, and aren't kept
pub record LosesPiece (before : Waiting) (source later : SourceState) : Type 0 where
  pub more : List ℕ
  pub piece : IsPiece more
  pub few : length more ≤ before.room
  pub takes : TakesSome source more later

abbrev pub Comes : Waiting → Waiting → SourceState → SourceState → Result Came InputFault → Type 0
Comes before after source later (Ok came.Bytes) = Brings before after source later
Comes before after source later (Ok came.Nothing) = BringsNothing before after source later
Comes before after source later (Ok came.Beyond) = BringsBeyond before after source later
Comes before after source later (Err ReadFault) = FailsToBring before after source later
Comes before after source later (Err Memory) = LosesPiece before source later

-- ---- a line

pub record EndsAt (unread : List ℕ) (end : ℕ) : Type 0 where
  pub within : end < length unread
  pub first : cut_first 10 unread ≡ Some (cut_at end unread)

abbrev pub FindsEnd : List ℕ → Option ℕ → Type 0
FindsEnd unread found = MatchOption found (cut_first 10 unread ≡ None) (EndsAt unread)

abbrev pub order_of : Order → lines.Order
order_of (order.Change change) = changes change
order_of order.Begin = begins
order_of order.Commit = commits
order_of order.Map = shows_map
order_of order.End = ends_session

pub record IsRead (outcome : lines.Reading) (before : Waiting) (taken : List ℕ) (read : Order)
    (after : Waiting) : Type 0 where
  pub rest : Rest
  pub is : outcome ≡ reads (order_of read) rest
  pub unread : after.unread ≡ rest.behind
  pub number : after.number ≡ before.number + rest.lines
  pub room : before.room ≡ length taken + after.room

pub record Stays (outcome wanted : lines.Reading) (before after : Waiting) : Type 0 where
  pub same : after ≡ before
  pub is : outcome ≡ wanted

abbrev pub ReadsAs : lines.Reading → Waiting → Waiting → Option Reading → Type 0
ReadsAs outcome before after (Some (reading.Ordered read)) = IsRead outcome before [] read after
ReadsAs outcome before after (Some reading.Malformed) = Stays outcome malformed before after
ReadsAs outcome before after (Some reading.Ended) = ⊥
ReadsAs outcome before after (Some reading.TooLong) = ⊥
ReadsAs outcome before after None = Stays outcome unfinished before after

pub record IsPassed (before : Waiting) (taken lines : ℕ) (after : Waiting) : Type 0 where
  pub unread : after.unread ≡ drop taken before.unread
  pub number : after.number ≡ before.number + lines
  pub room : after.room ≡ before.room

-- ---- all that is taken for a line

pub record IsWithin (before : Waiting) (taken : List ℕ) (wanted : lines.Reading) : Type 0 where
  pub is : read_line (before.unread ++ taken) ≡ wanted
  pub few : length taken ≤ before.room

pub record IsBeyond (before : Waiting) (taken : List ℕ) : Type 0 where
  pub front : List ℕ
  pub byte : ℕ
  pub whole : taken ≡ front ++ byte ∷ []
  pub full : length front ≡ before.room
  pub is : read_line (before.unread ++ front) ≡ unfinished

abbrev pub Reads : Waiting → Waiting → List ℕ → SourceState → Result Reading InputFault → Type 0
Reads before after taken later (Ok (reading.Ordered read)) =
    IsRead (read_line (before.unread ++ taken)) before taken read after
Reads before after taken later (Ok reading.Malformed) = IsWithin before taken malformed
Reads before after taken later (Ok reading.Ended) = IsWithin before taken unfinished × IsSpent later
Reads before after taken later (Ok reading.TooLong) = IsBeyond before taken
Reads before after taken later (Err ReadFault) = IsWithin before taken unfinished
Reads before after taken later (Err Memory) = Unit {0}

abbrev pub FaultsBy : SourceState → SourceState → Result Reading InputFault → Type 0
FaultsBy source later (Ok read) = later.faults ≡ source.faults
FaultsBy source later (Err ReadFault) = Rose source.faults later.faults
FaultsBy source later (Err Memory) = later.faults ≡ source.faults

-- own: before each take the line wasn't whole
abbrev pub IsNeeded : Waiting → SourceState → List ℕ → SourceState → Type 0
IsNeeded before source taken later = TakesWhile (λ front. IsWithin before front unfinished) source taken later

pub record ReadsNext (before after : Waiting) (source later : SourceState)
    (result : Result Reading InputFault) : Type 0 where
  pub taken : List ℕ
  pub takes : Takes source taken later
  pub needed : IsNeeded before source taken later
  pub few : length taken ≤ before.room + 1
  pub reads : Reads before after taken later result
  pub faults : FaultsBy source later result

-- ---- one turn of the reader

pub record GoesOn (before after : Waiting) (source later : SourceState) : Type 0 where
  pub waits : read_line before.unread ≡ unfinished
  pub brings : Brings before after source later

abbrev pub TurnsTo : Waiting → Waiting → SourceState → SourceState → Result (Option Reading) InputFault → Type 0
TurnsTo before after source later (Ok (Some read)) = ReadsNext before after source later (Ok read)
TurnsTo before after source later (Ok None) = GoesOn before after source later
TurnsTo before after source later (Err fault) = ReadsNext before after source later (Err fault)

pub record Gains (before after : Waiting) (source later : SourceState) : Type 0 where
  pub taken : List ℕ
  pub takes : Takes source taken later
  pub needed : IsNeeded before source taken later
  pub grows : Grows before taken after
  pub quiet : later.faults ≡ source.faults
