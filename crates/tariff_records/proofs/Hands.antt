-- An event of a star that runs hands on what is due of it: to heard at station 0, or to its sends.
use mathlib.Core.Path.{◌≡◌, refl, sym, ap, ◌∙◌, subst}
use mathlib.Core.Logic.{◌≢◌}
use mathlib.Core.Bool.{Bool, true, false, cond}
use Prim.Native.Nat.{ℕ, ◌+◌, ◌≤◌, ◌<◌}
use native.Mathlib.Omega.{arith}
use lib.Dec.{leb}
use borrow.Author.Tests.{leb-false}
use Rattle.generator.specs.Schrage.{IsDraw}
use Rattle.generator.proofs.Schrage.{schrage}
use Rattle.refusal.specs.Tests.{horizon}
use Rattle.line.specs.declared.Config.{Config}
use Rattle.line.specs.declared.Event.{Event}
use Rattle.line.specs.declared.Matter.{Matter}
use Rattle.line.specs.declared.Matter.TheVariants.{Read, Frame, Level}
use Rattle.line.specs.declared.State.{State}
use Rattle.line.specs.Order.{All}
use Rattle.line.specs.Station.{Plan, Outcome, send, silent, period, drawn_state, hear, run_matter, run_at, run_event}
use Rattle.line.proofs.All.{all_snoc}
use Rattle.line.proofs.Either.{either}
use Rattle.line.proofs.Order.{Which, this, other, which}
use Rattle.line.proofs.Outcomes.{first_reads, other_reads, first_hears}
use Rattle.line.proofs.Sends.{sending, made}
use Rattle.tariff_records.proofs.StarFacts.{Star}
use Rattle.tariff_records.proofs.Due.{brings, due, due_all, due_last, first_read_due, read_due, frame_due, early_frame_due, late_due, brings_step}

-- what a star's events are: readings anywhere, and frames to station 0
abbrev Fine : Matter → ℕ → Type 0
Fine Read s = Unit {0}
Fine (Frame origin repeats) s = s ≡ 0
Fine (Level mm) s = ⊥

-- such an event, where it lies before c
pub record Good (p : Plan) (c : ℕ) (x : Event) : Type 0 where
  pub inside : x.target < p.count
  pub fine : x.time < c → Fine x.matter x.target

pub reading_good : (p : Plan) (c : ℕ) (x : Event) → x.target < p.count → (x.time < c → x.matter ≡ Read) → Good p c x
reading_good p c x h r = record { inside = h; fine = λ l. subst (λ m. Fine m x.target) (sym (r l)) tt }

-- station s in the state b runs the matter m at time t, with the outcome o
pub record Hands (p : Plan) (c t s : ℕ) (m : Matter) (b : State) (o : Outcome) : Type 0 where
  pub here : s ≡ 0 → o.after.heard + due_all p c o.sends ≡ b.heard + due p c t s m
  pub there : s ≢ 0 → due_all p c o.sends ≡ due p c t s m
  pub drawn : s ≡ 0 → IsDraw o.after.draw
  pub sent : All (Good p c) o.sends

module _ (p : Plan) (T : Star p) (c : ℕ) (ends : c ≤ horizon + 1) where
  -- ---- a send, made or not: one that is not made lies after c

  send_due : (s u to : ℕ) (m : Matter) (o : Outcome) → to < p.count → due_all p c (send s u to m o).sends ≡ due_all p c o.sends + due p c u to m
  unfolding send
  send_due s u to m o h = go (leb u horizon) refl
    where
      go : (v : Bool) → leb u horizon ≡ v → due_all p c (cond v (made s u to m o) o).sends ≡ due_all p c o.sends + due p c u to m
      go true e = due_last p c o.sends (sending s u to m o)
      go false e = omega (arith, late_due p T c u to m h (omega (arith, leb-false u horizon e, ends)))

  send_good : (s u to : ℕ) (m : Matter) (o : Outcome) → to < p.count → Fine m to → All (Good p c) o.sends → All (Good p c) (send s u to m o).sends
  unfolding send
  send_good s u to m o h f a =
      either (λ r. All (Good p c) r.sends) (leb u horizon) (made s u to m o) o
      (all_snoc (Good p c) o.sends (sending s u to m o) a (record { inside = h; fine = λ _. f })) a

  -- ---- station 0

  first_read_hands : (t : ℕ) (b : State) → IsDraw b.draw → Hands p c t 0 Read b (run_matter (p.config 0) 0 t Read b)
  unfolding silent due_all
  first_read_hands t b d =
      rw (first_reads (p.config 0) t b)
      (record { here = λ _. omega (arith, first_read_due p c t); there = λ n. absurd (n refl); drawn = λ _. d; sent = tt })

  first_frame_hands : (t origin repeats : ℕ) (b : State) → t < c → IsDraw b.draw
      → Hands p c t 0 (Frame origin repeats) b (run_matter (p.config 0) 0 t (Frame origin repeats) b)
  unfolding silent due_all hear drawn_state
  first_frame_hands t origin repeats b l d =
      let k = (schrage b.draw d).again in
      rw (first_hears (p.config 0) t origin repeats b (omega (arith, (T.each 0 T.some).quiet, k.0)))
      (record { here = λ _. omega (arith, early_frame_due p c t 0 origin repeats l); there = λ n. absurd (n refl); drawn = λ _. k; sent = tt })

  -- ---- the others

  period_is : (s : ℕ) (b : State) → s < p.count → period (p.config s) b ≡ (p.config s).calm
  unfolding period
  period_is s b h =
      either (λ n. n ≡ (p.config s).calm) (leb (p.config s).threshold b.level) (p.config s).spring (p.config s).calm (T.each s h).even refl

  other_read_hands : (t s : ℕ) (b : State) → s < p.count → s ≢ 0 → Hands p c t s Read b (run_matter (p.config s) s t Read b)
  unfolding silent due_all
  other_read_hands t s b h n = rw (other_reads g s t b n) (record {
    here = λ e. absurd (n e);
    there = λ _. sum;
    drawn = λ e. absurd (n e);
    sent = send_good s (t + g.hop) g.parent (Frame s 0) o root (T.each s h).to_first (send_good s (t + period g b) s Read (silent b) h tt tt);
  })
    where
      g : Config
      g = p.config s

      o : Outcome
      o = send s (t + period g b) s Read (silent b)

      root : g.parent < p.count
      root = rw (T.each s h).to_first T.some

      next_due : due p c (t + period g b) s Read ≡ brings p c (t + g.calm) s
      next_due = ap (λ u. due p c (t + u) s Read) (period_is s b h) ∙ read_due p c (t + g.calm) s n

      sum : due_all p c (send s (t + g.hop) g.parent (Frame s 0) o).sends ≡ due p c t s Read
      sum =
          let a = send_due s (t + g.hop) g.parent (Frame s 0) o root in
          let f = send_due s (t + period g b) s Read (silent b) h in
          omega (arith, a, f, next_due, brings_step p T c t s h, read_due p c t s n, frame_due p c (t + g.hop) g.parent s 0)

  -- ---- any event

  matter_hands : (t s : ℕ) (m : Matter) (b : State) → s < p.count → Fine m s → t < c → (s ≡ 0 → IsDraw b.draw)
      → Hands p c t s m b (run_matter (p.config s) s t m b)
  matter_hands t s Read b h f l d = go (which s 0)
    where
      go : Which s 0 → Hands p c t s Read b (run_matter (p.config s) s t Read b)
      go (this e _) = subst (λ k. Hands p c t k Read b (run_matter (p.config k) k t Read b)) (sym e) (first_read_hands t b (d e))
      go (other n _) = other_read_hands t s b h n
  matter_hands t s (Frame origin repeats) b h f l d =
      subst (λ k. Hands p c t k (Frame origin repeats) b (run_matter (p.config k) k t (Frame origin repeats) b)) (sym f)
      (first_frame_hands t origin repeats b l (d f))
  matter_hands t s (Level mm) b h f l d = absurd f

  pub event_hands : (x : Event) (b : State) → Good p c x → x.time < c → (x.target ≡ 0 → IsDraw b.draw)
      → Hands p c x.time x.target x.matter b (run_event p b x)
  unfolding run_event run_at
  event_hands x b g l d = matter_hands x.time x.target x.matter b g.inside (g.fine l) l d
