-- The reader's turns as a function of its state, by which it is shown to end.
--     next tokens state      the state behind one turn, or none where the reading ends
--     state_of reader step      what the reader stands at
--     Leads tokens state other      the other state is reached behind one turn or some
--     Absent tokens context at form      by the token at the place alone, the form misses
--     TurnsTo tokens state reader turn      where it goes on, it stands at what the state leads to
use Rattle.std.specs.Prelude.{◌≡◌, ◌<◌, ℕ, suc, Bool, true, false, nat_le, List, [], ◌∷◌, map, Option, Some, None, if◌then◌else◌}
use Rattle.grammar_spec.specs.declared.names.Context.{Context}
use Rattle.grammar_spec.specs.declared.names.Test.{Test}
use Rattle.grammar_spec.specs.declared.names.Guard.{Guard}
use Rattle.grammar_spec.specs.declared.names.Rule.{Rule}
use Rattle.grammar_spec.specs.Sights.{Sight, passes, is_quoted, holds, depth_at}
use Rattle.grammar_spec.specs.Forms.{Form, quoted, one, ahead, ◌▸◌, ◌∣◌, maybe, many, rule, asks, nested, headed}
use Rattle.grammar_spec.specs.Statements.{body}
use Rattle.grammar_spec.specs.Readings.{most_open, deeper}
use Rattle.grammar_table.specs.NodeForms.{form_of}
use Rattle.es_grammar.specs.declared.stack.Frame.{Frame}
use Rattle.es_grammar.specs.declared.stack.Frame.TheVariants as frame
use Rattle.es_grammar.specs.declared.reader.Reader.{Reader}
use Rattle.es_grammar.specs.declared.reader.Step.{Step}
use Rattle.es_grammar.specs.declared.reader.Step.TheVariants as step
use Rattle.es_grammar.specs.declared.reader.Turn.{Turn}
use Rattle.es_grammar.specs.declared.reader.Turn.TheVariants as turn
use Rattle.es_grammar.specs.Pending.{pending}

-- what is to be done behind a form
pub data Job : Type 0 where
  read_then : Form → Job
  read_or : Form → Job
  may_come : Job
  may_come_again : Form → Job
  came_before : Form → Job
  has_taken : Job
  may_ask : Job
  goes_back : Context → Job

-- what is done now
pub data Doing : Type 0 where
  reads : Form → Doing
  stayed : Doing
  took : Doing
  missed : Doing
  over : Doing

pub record State : Type 0 where
  pub jobs : List Job
  pub context : Context
  pub at : ℕ
  pub doing : Doing

abbrev pub state : List Job → Context → ℕ → Doing → State
state jobs context at doing = record { jobs = jobs; context = context; at = at; doing = doing }

-- the token at the place is taken, or the form misses
abbrev pub tested : List Job → Context → ℕ → Bool → State
tested jobs c at true = state jobs c (suc at) took
tested jobs c at false = state jobs c at missed

abbrev pub looked : List Job → Context → ℕ → Bool → State
looked jobs c at true = state jobs c at stayed
looked jobs c at false = state jobs c at missed

abbrev pub entered : List Sight → List Job → Context → ℕ → Form → State
entered tokens jobs c at (quoted word) = tested jobs c at (is_quoted word tokens at)
entered tokens jobs c at (one test) = tested jobs c at (passes test c.head tokens at)
entered tokens jobs c at (ahead guard) = looked jobs c at (holds guard tokens at)
entered tokens jobs c at (a ▸ b) = state (read_then b ∷ jobs) c at (reads a)
entered tokens jobs c at (a ∣ b) = state (read_or b ∷ jobs) c at (reads a)
entered tokens jobs c at (maybe a) = state (may_come ∷ jobs) c at (reads a)
entered tokens jobs c at (many a) = state (may_come_again a ∷ jobs) c at (reads a)
entered tokens jobs c at (rule r) = state jobs c at (reads (body r))
entered tokens jobs c at (asks a) = state (may_ask ∷ jobs) c at (reads a)
entered tokens jobs c at (nested a) =
    if nat_le most_open c.opened then state jobs c at over else state (goes_back c ∷ jobs) (deeper c) at (reads a)
entered tokens jobs c at (headed a) =
    state (goes_back c ∷ jobs) (record { opened = c.opened; head = depth_at tokens at }) at (reads a)

abbrev pub behind_stay : Job → List Job → Context → ℕ → State
behind_stay (read_then b) jobs c at = state jobs c at (reads b)
behind_stay (read_or b) jobs c at = state jobs c at stayed
behind_stay may_come jobs c at = state jobs c at stayed
behind_stay (may_come_again a) jobs c at = state jobs c at stayed
behind_stay (came_before a) jobs c at = state jobs c at took
behind_stay has_taken jobs c at = state jobs c at took
behind_stay may_ask jobs c at = state jobs c at stayed
behind_stay (goes_back before) jobs c at = state jobs before at stayed

abbrev pub behind_miss : Job → List Job → Context → ℕ → State
behind_miss (read_then b) jobs c at = state jobs c at missed
behind_miss (read_or b) jobs c at = state jobs c at (reads b)
behind_miss may_come jobs c at = state jobs c at stayed
behind_miss (may_come_again a) jobs c at = state jobs c at stayed
behind_miss (came_before a) jobs c at = state jobs c at took
behind_miss has_taken jobs c at = state jobs c at over
behind_miss may_ask jobs c at = state jobs c at missed
behind_miss (goes_back before) jobs c at = state jobs before at missed

abbrev pub behind_take : Job → List Job → Context → ℕ → State
behind_take (read_then b) jobs c at = state (has_taken ∷ jobs) c at (reads b)
behind_take (read_or b) jobs c at = state jobs c at took
behind_take may_come jobs c at = state jobs c at took
behind_take (may_come_again a) jobs c at = state (came_before a ∷ jobs) c at (reads a)
behind_take (came_before a) jobs c at = state (came_before a ∷ jobs) c at (reads a)
behind_take has_taken jobs c at = state jobs c at took
behind_take may_ask jobs c at = state jobs c at took
behind_take (goes_back before) jobs c at = state jobs before at took

-- one turn
abbrev pub turned : List Sight → List Job → Context → ℕ → Doing → Option State
turned tokens jobs c at (reads form) = Some (entered tokens jobs c at form)
turned tokens [] c at stayed = None
turned tokens (job ∷ jobs) c at stayed = Some (behind_stay job jobs c at)
turned tokens [] c at took = None
turned tokens (job ∷ jobs) c at took = Some (behind_take job jobs c at)
turned tokens [] c at missed = None
turned tokens (job ∷ jobs) c at missed = Some (behind_miss job jobs c at)
turned tokens jobs c at over = None

abbrev pub next : List Sight → State → Option State
next tokens s = turned tokens s.jobs s.context s.at s.doing

pub data Leads (tokens : List Sight) : State → State → Type 0 where
  once : {s t : State} → next tokens s ≡ Some t → Leads tokens s t
  further : {s t u : State} → next tokens s ≡ Some t → Leads tokens t u → Leads tokens s u

-- ---- what can't begin here

pub data Absent (tokens : List Sight) : Context → ℕ → Form → Type 0 where
  no_word : {c : Context} {at : ℕ} {word : List ℕ} → is_quoted word tokens at ≡ false → Absent tokens c at (quoted word)
  no_one : {c : Context} {at : ℕ} {test : Test} → passes test c.head tokens at ≡ false → Absent tokens c at (one test)
  no_guard : {c : Context} {at : ℕ} {guard : Guard} → holds guard tokens at ≡ false → Absent tokens c at (ahead guard)
  no_first : {c : Context} {at : ℕ} {a b : Form} → Absent tokens c at a → Absent tokens c at (a ▸ b)
  no_maybe : {c : Context} {at : ℕ} {a b : Form} → Absent tokens c at a → Absent tokens c at b
      → Absent tokens c at (maybe a ▸ b)
  no_many : {c : Context} {at : ℕ} {a b : Form} → Absent tokens c at a → Absent tokens c at b
      → Absent tokens c at (many a ▸ b)
  no_choice : {c : Context} {at : ℕ} {a b : Form} → Absent tokens c at a → Absent tokens c at b
      → Absent tokens c at (a ∣ b)
  no_rule : {c : Context} {at : ℕ} {r : Rule} → Absent tokens c at (body r) → Absent tokens c at (rule r)
  no_nested : {c : Context} {at : ℕ} {a : Form} → c.opened < most_open → Absent tokens (deeper c) at a
      → Absent tokens c at (nested a)

-- ---- the reader

abbrev pub job_of : Frame → Job
job_of (frame.Then b) = read_then (form_of b.now)
job_of (frame.Or b) = read_or (form_of b.now)
job_of frame.Maybe = may_come
job_of (frame.Many a) = may_come_again (form_of a.now)
job_of (frame.More a) = came_before (form_of a.now)
job_of frame.Behind = has_taken
job_of (frame.Asks start) = may_ask
job_of (frame.Back before) = goes_back before

abbrev pub jobs_of : Reader → List Job
jobs_of r = map job_of (pending r.stack)

abbrev pub doing_of : Step → Doing
doing_of (step.Enter node) = reads (form_of node.now)
doing_of step.Stays = stayed
doing_of step.Takes = took
doing_of step.Misses = missed
doing_of (step.Faults at) = over
doing_of step.TooDeep = over

abbrev pub state_of : Reader → Step → State
state_of r now = state (jobs_of r) r.context r.at (doing_of now)

abbrev pub TurnsTo : List Sight → State → Reader → Turn → Type 0
TurnsTo tokens before r (turn.Goes now) = Leads tokens before (state_of r now)
TurnsTo tokens before r (turn.Ends told) = Unit {0}
