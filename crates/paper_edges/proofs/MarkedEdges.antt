-- Each marked edge is computed from the definitions, or is a law of its crate.
use mathlib.Core.Path.{◌≡◌, refl}
use mathlib.Core.Bool.{Bool, true, false, cond}
use mathlib.Core.List.{[]}
use Prim.Native.Nat.{ℕ, suc, ◌+◌, ◌≤◌}
use native.Mathlib.Omega.{arith}
use lib.Dec.{ltb, leb, eqb, leb→le}
use Rattle.refusal.specs.Tests.{horizon}
use Rattle.generator.specs.Draw.{next_draw}
use Rattle.generator.proofs.Edges.{after_1, after_16807, after_2147483646}
use Rattle.line.specs.declared.Config.{Config}
use Rattle.line.specs.declared.Matter.{Matter}
use Rattle.line.specs.declared.State.{State}
use Rattle.line.specs.Station.{Outcome, silent, send, repeat, pass, lose, hear, drawn_state, period, run_read, run_frame}
use Rattle.line.proofs.Either.{either}
use Rattle.calendar_ring.specs.Ring.{leaf_for}
use Rattle.plan_format.proofs.Edges as plan
use Rattle.paper_edges.specs.MarkedEdges.{Marked}

-- ---- frames

abbrev Counts : Outcome → State → Type 0
Counts o st = (o.after.heard ≡ st.heard) × (o.after.lost ≡ st.lost)

-- a send keeps heard and lost
send_counts : (s t to : ℕ) (m : Matter) (o : Outcome) → Counts (send s t to m o) o.after
unfolding send
send_counts s t to m o = either (λ r. Counts r o.after) (leb t horizon) _ o (refl, refl) (refl, refl)

pass_counts : (c : Config) (s t origin : ℕ) (o : Outcome) → Counts (pass c s t origin o) o.after
unfolding pass
pass_counts c s t origin o = either (λ r. Counts r o.after) (eqb s 0) o _ (refl, refl) (send_counts s (t + c.hop) c.parent (Matter.Frame origin 0) o)

repeat_counts : (c : Config) (s t origin repeats : ℕ) (o : Outcome) → Counts (repeat c s t origin repeats o) o.after
unfolding repeat
repeat_counts c s t origin repeats o = either (λ r. Counts r o.after) (ltb repeats 3) _ o (send_counts s (t + c.hop) s (Matter.Frame origin (suc repeats)) o) (refl, refl)

heard_test : (c : Config) (st : State) → c.noise ≡ 16806 → st.draw ≡ 1 → leb (next_draw st.draw) c.noise ≡ false
heard_test c st n d = rw (n, d, after_1)

lost_test : (c : Config) (st : State) → c.noise ≡ 16807 → st.draw ≡ 1 → leb (next_draw st.draw) c.noise ≡ true
lost_test c st n d = rw (n, d, after_1)

heard : (c : Config) (st : State) → c.noise ≡ 16806 → st.draw ≡ 1 → (s t origin repeats : ℕ)
    → ((run_frame c s t origin repeats st).after.heard ≡ suc st.heard) × ((run_frame c s t origin repeats st).after.lost ≡ st.lost)
unfolding run_frame silent hear drawn_state
heard c st n d s t origin repeats = rw (heard_test c st n d) (pass_counts c s t origin (silent (hear t (drawn_state st))))

lost : (c : Config) (st : State) → c.noise ≡ 16807 → st.draw ≡ 1 → (s t origin repeats : ℕ)
    → ((run_frame c s t origin repeats st).after.heard ≡ st.heard) × ((run_frame c s t origin repeats st).after.lost ≡ suc st.lost)
unfolding run_frame silent lose drawn_state
lost c st n d s t origin repeats = rw (lost_test c st n d) (repeat_counts c s t origin repeats (silent (lose (drawn_state st))))

-- ---- periods

calm : (c : Config) (st : State) → c.threshold ≡ 5000 → st.level ≡ 4999 → period c st ≡ c.calm
unfolding period
calm c st t l = rw (t, l)

spring : (c : Config) (st : State) → c.threshold ≡ 5000 → st.level ≡ 5000 → period c st ≡ c.spring
unfolding period
spring c st t l = rw (t, l)

-- ---- a reading at the horizon

late : (k : ℕ) → 1 ≤ k → leb (horizon + k) horizon ≡ false
late k l = go (leb (horizon + k) horizon) refl
  where
    go : (v : Bool) → leb (horizon + k) horizon ≡ v → v ≡ false
    go false e = refl
    go true e = absurd (omega (arith, l, leb→le (horizon + k) horizon (rw e tt)))

late_send : (s k to : ℕ) (m : Matter) (o : Outcome) → 1 ≤ k → send s (horizon + k) to m o ≡ o
unfolding send
late_send s k to m o l = rw (late k l)

period_some : (c : Config) (st : State) → 1 ≤ c.calm → 1 ≤ c.spring → 1 ≤ period c st
unfolding period
period_some c st a b = either (λ n. 1 ≤ n) (leb c.threshold st.level) c.spring c.calm b a

last_reading : (c : Config) (st : State) → 1 ≤ c.calm → 1 ≤ c.spring → 1 ≤ c.hop → (s : ℕ) → (run_read c s horizon st).sends ≡ []
unfolding run_read silent
last_reading c st a b h s = go (eqb s 0)
  where
    go : (v : Bool)
        → (cond v (silent st) (send s (horizon + c.hop) c.parent (Matter.Frame s 0) (send s (horizon + period c st) s Matter.Read (silent st)))).sends ≡ []
    go true = refl
    go false =
        rw (
          late_send s c.hop c.parent (Matter.Frame s 0) (send s (horizon + period c st) s Matter.Read (silent st)) h,
          late_send s (period c st) s Matter.Read (silent st) (period_some c st a b),
        )

-- ---- the table

pub marked : Marked
unfolding leaf_for
marked = record {
  draw_1 = after_1;
  draw_16807 = after_16807;
  draw_2147483646 = after_2147483646;
  noise_16806 = heard;
  noise_16807 = lost;
  level_4999 = calm;
  level_5000 = spring;
  reading_at_horizon = last_reading;
  ring_0 = (refl, refl);
  ring_16383 = (refl, refl);
  ring_16384 = refl;
  no_bytes = plan.no_bytes;
  one_station = plan.one_station;
}
