-- The stations get their numbers and first states one after the other, and what is written of one leaves those before it.
use mathlib.Core.Path.{◌≡◌, refl, sym, ◌∙◌}
use mathlib.Core.Logic.{◌≢◌, inr}
use mathlib.Core.List.{List}
use Prim.Native.Nat.{ℕ, ◌+◌, ◌≤◌, ◌<◌}
use native.Mathlib.Decide.{ℕ_discrete}
use native.Mathlib.Omega.{arith}
use lib.ListN.{length, get_or}
use Rattle.words.proofs.Laws.{load_lt}
use Rattle.line.specs.declared.Config.{Config}
use Rattle.line.specs.declared.State.{State}
use Rattle.line.specs.Station.{first_state, initial}
use Rattle.line.proofs.SendFits.{first_fits}
use Rattle.plan_format.specs.Plan as plan
use Rattle.plan_format.specs.Plan.{offset_of, station_at}
use Rattle.engine_rows.specs.Layout.{station_row, slot_row}
use Rattle.engine_records.specs.Records.{state_at, put_state, stored_config, put_config}
use Rattle.line.specs.Widths.{ConfigFits}
use Rattle.engine_records.proofs.Cells.{length_write, read_written, read_beside}
use Rattle.engine_rows.proofs.Rows.{config_of, state_of, config_in, state_in, stations, row_other, station_room}
use Rattle.plan_format.specs.Line.{line_of}
use Rattle.engine_opening.specs.Steps.{StationsBegun}

-- stations 0 to s - 1 have them
pub record BegunTo (bytes : List ℕ) (n s : ℕ) (xs ys : List ℕ) : Type 0 where
  pub size : length ys ≡ length xs
  pub configs : slot_row n 0 ≤ length xs → (t : ℕ) → t < s → stored_config (station_row n t) ys ≡ (line_of bytes).config t
  pub states : slot_row n 0 ≤ length xs → (t : ℕ) → t < s → state_at (station_row n t + 32) ys ≡ initial (line_of bytes) t

pub begun_none : (bytes : List ℕ) (n : ℕ) (xs : List ℕ) → BegunTo bytes n 0 xs xs
begun_none bytes n xs = record { size = refl; configs = λ l t h. absurd (omega arith); states = λ l t h. absurd (omega arith) }

pub begun_all : {bytes : List ℕ} {n s : ℕ} {xs ys : List ℕ} → n ≤ s → BegunTo bytes n s xs ys → StationsBegun bytes n xs ys
begun_all h B = record { size = B.size; configs = λ l t k. B.configs l t (omega arith); states = λ l t k. B.states l t (omega arith) }

config_is : (bytes : List ℕ) (s : ℕ) → plan.config_at bytes (offset_of bytes s) ≡ (line_of bytes).config s
unfolding line_of station_at
config_is bytes s = refl

-- numbers of the plan fit their widths
plan_fits : (bytes : List ℕ) (at : ℕ) → ((j : ℕ) → get_or bytes j 0 < 256) → ConfigFits (plan.config_at bytes at)
unfolding plan.config_at
plan_fits bytes at low = record {
  parent = load_lt 2 at bytes low;
  calm = load_lt 4 (at + 2) bytes low;
  spring = load_lt 4 (at + 6) bytes low;
  threshold = load_lt 4 (at + 10) bytes low;
  hop = load_lt 4 (at + 14) bytes low;
  noise = load_lt 4 (at + 18) bytes low;
  seed = load_lt 4 (at + 22) bytes low;
}

first_is : (bytes : List ℕ) (s : ℕ) (g : Config) → g ≡ (line_of bytes).config s → first_state g ≡ initial (line_of bytes) s
unfolding initial
first_is bytes s g e = rw e

module _ {bytes : List ℕ} {n s : ℕ} {xs ys : List ℕ} (B : BegunTo bytes n s xs ys) (l : s < n) (g : Config) (e : g ≡ plan.config_at bytes (offset_of bytes s))
    (fits : ConfigFits g) where
  abbrev with_config : List ℕ
  with_config = put_config (station_row n s) g ys

  abbrev with_both : List ℕ
  with_both = put_state (station_row n s + 32) (first_state g) with_config

  size_config : length with_config ≡ length ys
  size_config = length_write (config_of n s) g ys

  config_old : (t : ℕ) → t ≢ s → stored_config (station_row n t) with_both ≡ stored_config (station_row n t) ys
  config_old t d =
      row_other (state_in n s) (config_in n t) (stations n s t (λ q. d (sym q))) (first_state g) with_config
      ∙ row_other (config_in n s) (config_in n t) (stations n s t (λ q. d (sym q))) g ys

  state_old : (t : ℕ) → t ≢ s → state_at (station_row n t + 32) with_both ≡ state_at (station_row n t + 32) ys
  state_old t d =
      row_other (state_in n s) (state_in n t) (stations n s t (λ q. d (sym q))) (first_state g) with_config
      ∙ row_other (config_in n s) (state_in n t) (stations n s t (λ q. d (sym q))) g ys

  config_new : slot_row n 0 ≤ length xs → stored_config (station_row n s) with_both ≡ g
  config_new h =
      read_beside (state_of n s) (config_of n s) (first_state g) with_config (inr (omega arith))
      ∙ read_written (config_of n s) g ys (station_room n s (length ys) l (omega (arith, B.size)) (config_in n s)) fits

  state_new : slot_row n 0 ≤ length xs → state_at (station_row n s + 32) with_both ≡ first_state g
  state_new h =
      read_written (state_of n s) (first_state g) with_config (station_room n s (length with_config) l (omega (arith, B.size, size_config)) (state_in n s))
      (first_fits g fits)

  begun_next : BegunTo bytes n (s + 1) xs with_both
  begun_next = record {
    size = length_write (state_of n s) (first_state g) with_config ∙ size_config ∙ B.size;
    configs = λ h t k. config_at_lem h t k (ℕ_discrete t s);
    states = λ h t k. state_at_lem h t k (ℕ_discrete t s);
  }
    where
      config_at_lem : slot_row n 0 ≤ length xs → (t : ℕ) → t < s + 1 → Dec (t ≡ s) → stored_config (station_row n t) with_both ≡ (line_of bytes).config t
      config_at_lem h t k (yes q) = rw q (config_new h ∙ e ∙ config_is bytes s)
      config_at_lem h t k (no d) = config_old t d ∙ B.configs h t (omega arith)

      state_at_lem : slot_row n 0 ≤ length xs → (t : ℕ) → t < s + 1 → Dec (t ≡ s) → state_at (station_row n t + 32) with_both ≡ initial (line_of bytes) t
      state_at_lem h t k (yes q) = rw q (state_new h ∙ first_is bytes s g (e ∙ config_is bytes s))
      state_at_lem h t k (no d) = state_old t d ∙ B.states h t (omega arith)

-- as the code writes them
pub begun_on : {bytes : List ℕ} {n s : ℕ} {xs ys us zs : List ℕ} {g : Config} {v : State} → BegunTo bytes n s xs ys → s < n → ((j : ℕ) → get_or bytes j 0 < 256)
    → g ≡ plan.config_at bytes (offset_of bytes s) → us ≡ put_config (station_row n s) g ys → v ≡ first_state g → zs ≡ put_state (station_row n s + 32) v us
    → BegunTo bytes n (s + 1) xs zs
begun_on {bytes} {n} {s} {g = g} B l low e p f q =
    let fits : ConfigFits g = rw e (plan_fits bytes (offset_of bytes s) low) in
    rw (q, f, p) (begun_next B l g e fits)
