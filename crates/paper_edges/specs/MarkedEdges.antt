-- The edges marked * in document 01 ("Edges"), as one table over the definitions of generator, line, calendar and plan.
use Rattle.std.specs.Prelude.{◌≡◌, List, [], ℕ, suc, ◌≤◌, length, Ok}
use Rattle.refusal.specs.Tests.{horizon, refused}
use Rattle.generator.specs.Draw.{next_draw}
use Rattle.line.specs.declared.Config.{Config}
use Rattle.line.specs.declared.State.{State}
use Rattle.line.specs.Station.{period, run_read, run_frame}
use Rattle.calendar_ring.specs.Ring.{leaf_at, ring_end, leaf_for}
use Rattle.plan_format.specs.Plan.{offset_of}
use Rattle.plan_format.specs.Numbers.{read_says}
use Rattle.plan_format.specs.Reading.{judging}

-- the leaf of a time, at a floor: 4096 is the overflow table
abbrev pub leaf_seen : ℕ → ℕ → ℕ
leaf_seen floor time = leaf_for 16 64 (ring_end 16 64 floor) time

pub record Marked : Type 0 where
  -- "Draw 1 gives 16807, 16807 gives 282475249, 2147483646 gives 2147466840."
  pub draw_1 : next_draw 1 ≡ 16807
  pub draw_16807 : next_draw 16807 ≡ 282475249
  pub draw_2147483646 : next_draw 2147483646 ≡ 2147466840
  -- "Draw 1, noise limit 16806: heard; 16807: lost.": at every station and time, of every origin, whatever repeats were made
  pub noise_16806 : (c : Config) (st : State) → c.noise ≡ 16806 → st.draw ≡ 1 → (s t origin repeats : ℕ)
      → ((run_frame c s t origin repeats st).after.heard ≡ suc st.heard) × ((run_frame c s t origin repeats st).after.lost ≡ st.lost)
  pub noise_16807 : (c : Config) (st : State) → c.noise ≡ 16807 → st.draw ≡ 1 → (s t origin repeats : ℕ)
      → ((run_frame c s t origin repeats st).after.heard ≡ st.heard) × ((run_frame c s t origin repeats st).after.lost ≡ suc st.lost)
  -- "Threshold 5000: level 4999 calm, 5000 spring."
  pub level_4999 : (c : Config) (st : State) → c.threshold ≡ 5000 → st.level ≡ 4999 → period c st ≡ c.calm
  pub level_5000 : (c : Config) (st : State) → c.threshold ≡ 5000 → st.level ≡ 5000 → period c st ≡ c.spring
  -- "A reading at H sends nothing.": "Periods and hop delay are 1 or more."
  pub reading_at_horizon : (c : Config) (st : State) → 1 ≤ c.calm → 1 ≤ c.spring → 1 ≤ c.hop → (s : ℕ) → (run_read c s horizon st).sends ≡ []
  -- "w = 64, floor 0 or 16383: time 262143 is slot 15, leaf 255; 262144 overflows. Floor 16384: 262144 is slot 0, leaf 0."
  pub ring_0 : (leaf_seen 0 262143 ≡ leaf_at 16 15 255) × (leaf_seen 0 262144 ≡ 4096)
  pub ring_16383 : (leaf_seen 16383 262143 ≡ leaf_at 16 15 255) × (leaf_seen 16383 262144 ≡ 4096)
  pub ring_16384 : leaf_seen 16384 262144 ≡ leaf_at 16 0 0
  -- "No bytes: 1. One station: offset 10, 36 bytes at least."
  pub no_bytes : read_says (judging []) ≡ refused 1
  pub one_station : (p : List ℕ) → judging p ≡ Ok 1 → (offset_of p 0 ≡ 10) × (36 ≤ length p)
