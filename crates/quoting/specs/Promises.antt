-- What a quote promises (docs/QUOTE.md): its figures are those of the plain machine that is fed the scenario's posts.
use Rattle.std.specs.Prelude.{◌≡◌, List, ℕ, ◌+◌, ◌*◌, ◌≤◌, ◌<◌, length, get_or, Result, Ok, Err}
use Rattle.refusal.specs.declared.Refusal.{Refusal}
use Rattle.line.specs.declared.Event.{Event}
use Rattle.rules.specs.Machine.{Machine, start, Runs}
use Rattle.rules.specs.Demand.{Made}
use Rattle.plan_format.specs.Line.{line_of}
use Rattle.engine_answers.specs.declared.UntilError.{UntilError}
use Rattle.engine_until.specs.Promises.{Works, Reaches, RunsUntil}
use Rattle.figure.specs.Figure.{StandsAt}
use Rattle.scenario.specs.Scenario.{scenario_events}
use Rattle.scenario_posting.specs.Promises.{LineRefused}
use Rattle.scenario_posting.specs.declared.LineRefused.{LineRefused as RefusedLine}
use Rattle.quote_setup.specs.declared.SetUpError.TheVariants.{Plan, Line, Reading}
use Rattle.quote_setup.specs.Promises.{OpensQuote, IsReady, RefusedReading}
use Rattle.quoting.specs.declared.QuoteError.{QuoteError}
use Rattle.quoting.specs.declared.QuoteError.TheVariants.{Short, SetUp, Stopped}

-- the table has two numbers an hour: what the collector has heard and lost by the end of hour h, counted from 0, is that of the plain machine that is fed
-- these events and has run all before that time
pub record HourIs (plan : List ℕ) (events : List Event) (table : List ℕ) (h : ℕ) : Type 0 where
  pub machine : Machine
  pub runs : Runs (line_of plan) (3600000 * (h + 1)) (start (line_of plan) events) machine
  pub one : (k : Machine) → Runs (line_of plan) (3600000 * (h + 1)) (start (line_of plan) events) k → k ≡ machine
  pub heard : get_or table (2 * h) 0 ≡ (machine.states 0).heard
  pub lost : get_or table (2 * h + 1) 0 ≡ (machine.states 0).lost

-- the plan is opened in the lent buffer, every line of the scenario is an order, and what they ask is posted, all of it accepted. After so many days every
-- record of the buffer is then the machine's, and so is every hour of the table; the frames of an hour or of a day are the difference of two hours of it
pub record Quoted (plan text : List ℕ) (days : ℕ) (xs ys table : List ℕ) : Type 0 where
  pub opened : List ℕ
  pub opening : OpensQuote plan xs (Ok tt) opened
  pub begun : List ℕ
  pub ready : IsReady plan text days opened begun
  pub stands : StandsAt plan (86400000 * days) (scenario_events (line_of plan) ready.orders) ys
  pub hours : (h : ℕ) → h < 24 * days → HourIs plan (scenario_events (line_of plan) ready.orders) table h

-- after the hours before it, which are done, the run to the end of an hour is not done, for the reason u
pub record StoppedAt (plan text : List ℕ) (u : UntilError) (xs os ys ps : List ℕ) : Type 0 where
  pub opened : List ℕ
  pub opening : OpensQuote plan xs (Ok tt) opened
  pub days : ℕ
  pub begun : List ℕ
  pub ready : IsReady plan text days opened begun
  pub hour : ℕ
  pub within : hour < 24 * days
  pub calls : List Made
  pub before : List ℕ
  pub output : List ℕ
  pub works : Works begun os calls before output
  pub reached : 1 ≤ hour → Reaches (3600000 * hour) calls
  pub until : RunsUntil (3600000 * (hour + 1)) 18446744073709551615 before output (Err u) ys ps

-- of the plan, the scenario's text, the buffer xs, the output os and the table ts at entry, the answer r, and the three at exit
pub record Quotes (plan text xs os ts : List ℕ) (r : Result ℕ QuoteError) (ys ps us : List ℕ) : Type 0 where
  pub short : length ts < 17568 → (r ≡ Err Short) × (ys ≡ xs) × (ps ≡ os) × (us ≡ ts)
  pub room : 17568 ≤ length ts → r ≡ Err Short → ⊥
  pub done : (days : ℕ) → r ≡ Ok days → Quoted plan text days xs ys us
  pub unopened : (e : Refusal) → r ≡ Err (SetUp (Plan e)) → OpensQuote plan xs (Err e) ys
  pub line : (l : RefusedLine) → r ≡ Err (SetUp (Line l)) → (zs : List ℕ) × OpensQuote plan xs (Ok tt) zs × LineRefused text l.line l.refusal zs ys
  pub reading : (e : Refusal) → r ≡ Err (SetUp (Reading e)) → (zs : List ℕ) × OpensQuote plan xs (Ok tt) zs × RefusedReading text (line_of plan).count e zs ys
  pub stopped : (u : UntilError) → r ≡ Err (Stopped u) → StoppedAt plan text u xs os ys ps
