-- The plain machine of a star: heard at station 0, where it has run all events before c, is what was due of the events that it was fed.
use mathlib.Core.Path.{◌≡◌, sym, ap, ◌∙◌}
use mathlib.Core.List.{List, ◌++◌}
use Prim.Native.Nat.{ℕ, ◌+◌, ◌≤◌}
use native.Mathlib.Omega.{arith}
use Rattle.generator.specs.Schrage.{IsDraw}
use Rattle.refusal.specs.Tests.{horizon}
use Rattle.line.specs.declared.Event.{Event}
use Rattle.line.specs.Order.{All}
use Rattle.line.specs.Station.{Plan, States, update, initial, Outcome, run_event}
use Rattle.line.proofs.All.{all_map}
use Rattle.line.proofs.Members.{in_all, all_append}
use Rattle.line.proofs.Order.{Which, this, other, which}
use Rattle.rules.specs.Machine.{Machine, start, step, Runs, halt, more}
use Rattle.rules.proofs.Machine.Plain.{takes_all}
use Rattle.rules.proofs.Update.{update_at, update_other}
use Rattle.tariff_records.proofs.StarFacts.{Star}
use Rattle.tariff_records.proofs.Due.{due_of, due_all, due_join, due_takes, all_late_due}
use Rattle.tariff_records.proofs.Hands.{Good, Hands, event_hands}

module _ (p : Plan) (T : Star p) (c : ℕ) (ends : c ≤ horizon + 1) where
  -- the event x runs, and vs wait beside it: heard and what is due are together as before
  record Stepped (x : Event) (vs : List Event) (st : States) (o : Outcome) : Type 0 where
    kept : (update st x.target o.after 0).heard + due_all p c (vs ++ o.sends) ≡ (st 0).heard + (due_of p c x + due_all p c vs)
    drawn : IsDraw (update st x.target o.after 0).draw

  stepped : (x : Event) (vs : List Event) (st : States) (o : Outcome) → Hands p c x.time x.target x.matter (st x.target) o
      → IsDraw (st 0).draw → Stepped x vs st o
  stepped x vs st o h d = go (which 0 x.target)
    where
      go : Which 0 x.target → Stepped x vs st o
      go (this e _) =
          let u : update st x.target o.after 0 ≡ o.after = update_at st o.after e in
          let q : (st x.target).heard ≡ (st 0).heard = ap (λ t. (st t).heard) (sym e) in
          record { kept = rw u (omega (arith, h.here (sym e), due_join p c vs o.sends, q)); drawn = rw u (h.drawn (sym e)) }
      go (other n _) =
          let u : update st x.target o.after 0 ≡ st 0 = update_other st o.after n in
          record { kept = rw u (omega (arith, h.there (λ k. n (sym k)), due_join p c vs o.sends)); drawn = rw u d }

  runs_heard : {m k : Machine} → Runs p c m k → All (Good p c) m.waiting → IsDraw (m.states 0).draw
      → (k.states 0).heard ≡ (m.states 0).heard + due_all p c m.waiting
  unfolding step
  runs_heard {m = m} (halt i) g d =
      omega (arith, all_late_due p T c m.waiting (all_map (λ x k. k.inside) m.waiting g) (in_all (λ x. c ≤ x.time) m.waiting i))
  runs_heard {m = m} (more {x = x} {vs = vs} t _ l r) g d =
      let o : Outcome = run_event p (m.states x.target) x in
      let a = takes_all (Good p c) t g in
      let h = event_hands p T c ends x (m.states x.target) a.0 l (λ e. rw e d) in
      let s = stepped x vs m.states o h d in
      runs_heard r (all_append (Good p c) vs o.sends a.1 h.sent) s.drawn ∙ s.kept
      ∙ ap (λ n. (m.states 0).heard + n) (sym (due_takes p c t))

  pub machine_heard : (posts : List Event) (k : Machine) → All (Good p c) posts → Runs p c (start p posts) k → (k.states 0).heard ≡ due_all p c posts
  unfolding start initial
  machine_heard posts k g r =
      let f = (T.each 0 T.some).numbers in
      runs_heard r g (f.seed_least, omega (arith, f.seed_most)) ∙ omega arith
