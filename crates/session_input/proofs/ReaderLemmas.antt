-- What a reader took, one take after another.
use Rattle.std.proofs.Common.{◌≡◌, ◌<◌, ◌≤◌, ◌+◌, ◌++◌, ◌∷◌, [], ℕ, List, length, Option, Some, None, Result, Ok, Err, refl, sym, ap, ◌∙◌, subst, inr, arith}
use Rattle.std.proofs.lemmas.List.{append-nil, append_assoc, length-append}
use Rattle.std.specs.Prelude.{IfSome}
use Rattle.tree_spec.specs.Counts.{Rose}
use Rattle.tree_spec.specs.States.{SourceState}
use Rattle.session_spec.specs.SessionLines as lines
use Rattle.session_spec.specs.SessionLines.{malformed, unfinished, read_line}
use Rattle.session_spec.specs.TakenInput.{IsFront, Takes, LastBrought, taken_at_once}
use Rattle.session_spec.proofs.TakenFronts.{untaken, takes_behind}
use Rattle.session_input.specs.declared.reading.InputFault.{InputFault}
use Rattle.session_input.specs.declared.reading.InputFault.TheVariants.{ReadFault, Memory}
use Rattle.session_input.specs.declared.reading.Reading.{Reading}
use Rattle.session_input.specs.declared.reading.Reading.TheVariants as reading
use Rattle.session_input.specs.Readers.{Waiting, Grows, Brings, BringsNothing, BringsBeyond, FailsToBring, LosesPiece}
use Rattle.session_input.specs.Readers.{Stays, ReadsAs, IsWithin, IsBeyond, Reads, FaultsBy, IsNeeded, ReadsNext, GoesOn, Gains}

-- ---- takes

nothing_came : (left : Option (List ℕ)) → IfSome left (λ input. IsFront [] input left)
nothing_came None = tt
nothing_came (Some input) = record { rest = input; whole = refl; told = refl }

pub takes_none : (source : SourceState) → Takes source [] source
takes_none source = record { came = nothing_came source.left; untold = λ e. e; later = omega arith }

front_then : (left middle last : Option (List ℕ)) (some more : List ℕ) → IfSome left (λ input. IsFront some input middle) → IfSome middle (λ input. IsFront more input last)
    → IfSome left (λ input. IsFront (some ++ more) input last)
front_then None middle last some more a b = tt
front_then (Some input) middle last some more a b =
    let then : IsFront more a.rest last = subst (λ (m : Option (List ℕ)). IfSome m (λ input. IsFront more input last)) a.told b in
    record { rest = then.rest; whole = a.whole ∙ ap (λ (back : List ℕ). some ++ back) then.whole ∙ sym (append_assoc some more then.rest); told = then.told }

pub takes_then : (source middle later : SourceState) (some more : List ℕ) → Takes source some middle → Takes middle more later → Takes source (some ++ more) later
takes_then source middle later some more a b = record {
  came = front_then source.left middle.left later.left some more a.came b.came;
  untold = λ e. b.untold (a.untold e);
  later = let first = a.later in let second = b.later in omega (arith, first, second);
}

grows_then : (before middle after : Waiting) (some more : List ℕ) → Grows before some middle → Grows middle more after → Grows before (some ++ more) after
grows_then before middle after some more a b = record {
  unread = b.unread ∙ ap (λ (front : List ℕ). front ++ more) a.unread ∙ append_assoc before.unread some more;
  number = b.number ∙ a.number;
  room = let first = a.room in let second = b.room in let both = length-append some more in omega (arith, first, second, both);
}

-- ---- what is read with more

module _ (before middle : Waiting) (front more : List ℕ) (grows : Grows before front middle) where
  same_bytes : middle.unread ++ more ≡ before.unread ++ (front ++ more)
  same_bytes = ap (λ (bytes : List ℕ). bytes ++ more) grows.unread ∙ append_assoc before.unread front more

  read_further : (outcome : lines.Reading) → read_line (middle.unread ++ more) ≡ outcome → read_line (before.unread ++ (front ++ more)) ≡ outcome
  read_further outcome e = sym (ap read_line same_bytes) ∙ e

  longer : length (front ++ more) ≡ length front + length more
  longer = length-append front more

  within_further : (outcome : lines.Reading) → IsWithin middle more outcome → IsWithin before (front ++ more) outcome
  within_further outcome is = record {
    is = read_further outcome is.is;
    few = let few = is.few in let room = grows.room in let long = longer in omega (arith, few, room, long);
  }

needed_further : (before middle : Waiting) (source between later : SourceState) (front more : List ℕ) → Grows before front middle → IsNeeded before source front between → IsNeeded middle between more later
    → IsNeeded before source (front ++ more) later
needed_further before middle source between later front more grows =
    takes_behind (λ taken. IsWithin before taken unfinished) (λ taken. IsWithin middle taken unfinished) source between later front more (λ taken is. within_further before middle front taken grows unfinished is)

-- the first take
first_needed : (before : Waiting) (source later : SourceState) (more : List ℕ) → length more ≤ taken_at_once → LastBrought source (length more) later → read_line before.unread ≡ unfinished → IsNeeded before source more later
first_needed before source later more short latest waits = inr (record {
  front = [];
  last = more;
  whole = refl;
  short = short;
  latest = latest;
  held = record { is = ap read_line (append-nil before.unread) ∙ waits; few = omega arith };
})

few_further : (before middle : Waiting) (front more : List ℕ) → Grows before front middle → length more ≤ middle.room + 1 → length (front ++ more) ≤ before.room + 1
few_further before middle front more grows few =
    let room = grows.room in
    let long = length-append front more in
    omega (arith, few, room, long)

beyond_further : (before middle : Waiting) (front more : List ℕ) → Grows before front middle → IsBeyond middle more → IsBeyond before (front ++ more)
beyond_further before middle front more grows is = record {
  front = front ++ is.front;
  byte = is.byte;
  whole = ap (λ (m : List ℕ). front ++ m) is.whole ∙ sym (append_assoc front is.front (is.byte ∷ []));
  full = let long = length-append front is.front in let full = is.full in let room = grows.room in omega (arith, long, full, room);
  is = read_further before middle front is.front grows unfinished is.is;
}

reads_after : (before middle after : Waiting) (front more : List ℕ) (later : SourceState) (result : Result Reading InputFault) → Grows before front middle
    → Reads middle after more later result → Reads before after (front ++ more) later result
reads_after before middle after front more later (Ok (reading.Ordered read)) grows is = record {
  rest = is.rest;
  is = sym (ap read_line (same_bytes before middle front more grows)) ∙ is.is;
  unread = is.unread;
  number = is.number ∙ ap (λ (n : ℕ). n + is.rest.lines) grows.number;
  room = let long = length-append front more in let first = grows.room in let second = is.room in omega (arith, long, first, second);
}
reads_after before middle after front more later (Ok reading.Malformed) grows is = within_further before middle front more grows malformed is
reads_after before middle after front more later (Ok reading.Ended) grows is = (within_further before middle front more grows unfinished is.0, is.1)
reads_after before middle after front more later (Ok reading.TooLong) grows is = beyond_further before middle front more grows is
reads_after before middle after front more later (Err ReadFault) grows is = within_further before middle front more grows unfinished is
reads_after before middle after front more later (Err Memory) grows is = tt

faults_after : (source middle later : SourceState) (result : Result Reading InputFault) → middle.faults ≡ source.faults → FaultsBy middle later result → FaultsBy source later result
faults_after source middle later (Ok read) e is = is ∙ e
faults_after source middle later (Err ReadFault) e is = subst (λ (n : ℕ). Rose n later.faults) e is
faults_after source middle later (Err Memory) e is = is ∙ e

-- ---- what was gained so far

pub gains_none : (before : Waiting) (source : SourceState) → Gains before before source source
gains_none before source = record {
  taken = [];
  takes = takes_none source;
  needed = untaken (λ taken. IsWithin before taken unfinished) source;
  grows = record { unread = sym (append-nil before.unread); number = refl; room = omega arith };
  quiet = refl;
}

pub gains_more : (before middle after : Waiting) (source between later : SourceState) → Gains before middle source between → GoesOn middle after between later → Gains before after source later
gains_more before middle after source between later gains goes =
    let more = goes.brings.more in
    let takes = goes.brings.takes in
    record {
      taken = gains.taken ++ more;
      takes = takes_then source between later gains.taken more gains.takes takes.takes;
      needed = needed_further before middle source between later gains.taken more gains.grows gains.needed
          (first_needed middle between later more goes.brings.piece.short takes.latest goes.waits);
      grows = grows_then before middle after gains.taken more gains.grows goes.brings.grows;
      quiet = takes.quiet ∙ gains.quiet;
    }

pub less_room : (before after : Waiting) (source later : SourceState) → GoesOn before after source later → after.room < before.room
less_room before after source later goes =
    let some = goes.brings.piece.some in
    let room = goes.brings.grows.room in
    omega (arith, some, room)

pub reads_further : (before middle after : Waiting) (source between later : SourceState) (result : Result Reading InputFault) → Gains before middle source between
    → ReadsNext middle after between later result → ReadsNext before after source later result
reads_further before middle after source between later result gains next = record {
  taken = gains.taken ++ next.taken;
  takes = takes_then source between later gains.taken next.taken gains.takes next.takes;
  needed = needed_further before middle source between later gains.taken next.taken gains.grows gains.needed next.needed;
  few = few_further before middle gains.taken next.taken gains.grows next.few;
  reads = reads_after before middle after gains.taken next.taken later result gains.grows next.reads;
  faults = faults_after source between later result gains.quiet next.faults;
}

-- ---- one turn

module _ (before : Waiting) where
  no_more : read_line (before.unread ++ []) ≡ read_line before.unread
  no_more = ap read_line (append-nil before.unread)

  hand_reads : (after : Waiting) (later : SourceState) (read : Reading) → ReadsAs (read_line before.unread) before after (Some read) → Reads before after [] later (Ok read)
  hand_reads after later (reading.Ordered read) is =
      record { rest = is.rest; is = no_more ∙ is.is; unread = is.unread; number = is.number; room = is.room }
  hand_reads after later reading.Malformed is = record { is = no_more ∙ is.is; few = omega arith }
  hand_reads after later reading.Ended is = absurd is
  hand_reads after later reading.TooLong is = absurd is

  none_needed : (source : SourceState) → IsNeeded before source [] source
  none_needed source = untaken (λ taken. IsWithin before taken unfinished) source

  pub reads_at_hand : (after : Waiting) (source : SourceState) (read : Reading) → ReadsAs (read_line before.unread) before after (Some read) → ReadsNext before after source source (Ok read)
  reads_at_hand after source read is =
      record { taken = []; takes = takes_none source; needed = none_needed source; few = omega arith; reads = hand_reads after source read is; faults = refl }

  pub no_memory_at_hand : (after : Waiting) (source : SourceState) → ReadsNext before after source source (Err Memory)
  no_memory_at_hand after source = record { taken = []; takes = takes_none source; needed = none_needed source; few = omega arith; reads = tt; faults = refl }

  module _ (middle after : Waiting) (source later : SourceState) (stays : Stays (read_line before.unread) unfinished before middle) where
    within_none : IsWithin before [] unfinished
    within_none = record { is = no_more ∙ stays.is; few = omega arith }

    pub goes_on : Brings middle after source later → GoesOn before after source later
    goes_on brings = record { waits = stays.is; brings = subst (λ (w : Waiting). Brings w after source later) stays.same brings }

    now_needed : (more : List ℕ) → length more ≤ taken_at_once → LastBrought source (length more) later → IsNeeded before source more later
    now_needed more short latest = first_needed before source later more short latest stays.is

    pub ends_here : BringsNothing middle after source later → ReadsNext before after source later (Ok reading.Ended)
    ends_here brings = record {
      taken = [];
      takes = brings.takes.takes;
      needed = now_needed [] (omega arith) brings.takes.latest;
      few = omega arith;
      reads = (within_none, brings.takes.spent);
      faults = brings.takes.quiet;
    }

    pub is_too_long : BringsBeyond middle after source later → ReadsNext before after source later (Ok reading.TooLong)
    is_too_long brings = record {
      taken = brings.byte ∷ [];
      takes = brings.takes.takes;
      needed = now_needed (brings.byte ∷ []) (omega arith) brings.takes.latest;
      few = omega arith;
      reads = record { front = []; byte = brings.byte; whole = refl; full = sym (ap (λ (w : Waiting). w.room) (sym stays.same) ∙ brings.full); is = no_more ∙ stays.is };
      faults = brings.takes.quiet;
    }

    pub take_fails : FailsToBring middle after source later → ReadsNext before after source later (Err ReadFault)
    take_fails fails = record {
      taken = [];
      takes = fails.fails.takes;
      needed = now_needed [] (omega arith) fails.fails.latest;
      few = omega arith;
      reads = within_none;
      faults = fails.fails.rose;
    }

    pub no_memory_for_more : LosesPiece middle source later → ReadsNext before after source later (Err Memory)
    no_memory_for_more loses = record {
      taken = loses.more;
      takes = loses.takes.takes;
      needed = now_needed loses.more loses.piece.short loses.takes.latest;
      few = let few = loses.few in let same = ap (λ (w : Waiting). w.room) stays.same in omega (arith, few, same);
      reads = tt;
      faults = loses.takes.quiet;
    }

pub ruleset nexts = (gains_none, gains_more, less_room, reads_further)

pub ruleset turns = (reads_at_hand, no_memory_at_hand, goes_on, ends_here, is_too_long, take_fails, no_memory_for_more)
