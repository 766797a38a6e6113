-- What holds of every engine that calls have left: its held events are a replay of the plain machine, which was fed the posts that stand and has
-- come to the commit time. So they are neat, and a new post and the sends of a run are new to them.
use mathlib.Core.Path.{◌≡◌, refl, sym, ◌∙◌, subst}
use mathlib.Core.Logic.{◌⊎◌, inl, inr}
use mathlib.Core.Bool.{Bool, true, false, cond, ◌&&◌, false≢true}
use mathlib.Core.List.{List, [], ◌∷◌, Memᴰ}
use Prim.Native.Nat.{ℕ, ◌≤◌, ◌<◌}
use native.Mathlib.Omega.{arith}
use lib.Dec.{eqb}
use Rattle.line.specs.declared.Event.{Event}
use Rattle.line.specs.declared.State.{State}
use Rattle.line.specs.Event.{posted}
use Rattle.line.specs.Station.{Plan, InRange, States, initial}
use Rattle.line.specs.Order.{Lt, Ge, Differ, fst, snd, All}
use Rattle.line.proofs.Fits.{and_true}
use Rattle.line.proofs.Order.{clash, differ_number, differ_source, Which, this, other, which}
use Rattle.line.proofs.All.{all_map}
use Rattle.line.proofs.Sends.{Sent, event_good}
use Rattle.rules.specs.Machine.{Machine}
use Rattle.rules.specs.Held.{Held, unrun, ran, event, some, least_unrun, held_post}
use Rattle.rules.specs.Engine.{Setting, Engine, opened}
use Rattle.entry.specs.Entry.{entries}
use Rattle.rules.specs.Demand.{without}
use Rattle.rules.specs.Replay.{insert_all_sorted, Replay, InOrder, Replayed, Strict, Neat}
use Rattle.rules.proofs.Machine.Sorted.{sorted_start, Idle, SortedRuns, rest}
use Rattle.line.proofs.Members.{all_in, in_all}
use Rattle.rules.proofs.Replay.Replay.{sends_of, after_of}
use Rattle.rules.proofs.Replay.Mark as C
use Rattle.rules.proofs.Replay.Mark.{First}
use Rattle.rules.proofs.Undo.Cascade.{replay_blocked}
use Rattle.rules.proofs.Calls.Commit.{above_late}
use Rattle.rules.proofs.Machine.Feed.{Inside, sends_inside, runs_all, replay_all, all_insert_all, runs_idle}
use Rattle.rules.proofs.Replay.Unique.{Unique, Low, Keyed, keyed_insert_all, replay_unique, replay_low, runs_keyed}
use Rattle.rules.proofs.Undo.Agree.{New}
use Rattle.rules.proofs.Calls.Posts.{IsPost, Numbered, numbered_distinct, without_all, without_numbered}

-- the posts so far with the numbers retracted so far, and the bytes of the joined logs
pub record Inv (p : Plan) (e : Engine) (posts : List Event) (gone : List ℕ) (log : List ℕ) : Type 0 where
  pub machine : Machine
  pub steps : SortedRuns p e.now (sorted_start p (without gone posts)) machine
  pub log_is : entries machine.log ≡ log
  pub ok : Replayed p machine.waiting machine.states e.queue
  pub are_posts : All (IsPost p e.next) posts
  pub numbered : Numbered posts
  pub passed : All (λ n. n < e.next) gone

pub opened_inv : (p : Plan) (setting : Setting) → Inv p (opened p setting) [] [] []
unfolding opened sorted_start insert_all_sorted Idle without entries
opened_inv p setting = record {
  machine = sorted_start p [];
  steps = rest tt;
  log_is = refl;
  ok = record { replay = (refl, λ s. refl); sorted = tt };
  are_posts = tt;
  numbered = tt;
  passed = tt;
}

-- ---- the held post with a number, and the least unrun event of a station

eq_of : (m n : ℕ) → eqb m n ≡ true → m ≡ n
eq_of m n e = go (which m n)
  where
    go : Which m n → m ≡ n
    go (this h _) = h
    go (other h f) = absurd (false≢true (sym f ∙ e))

pub held_post_lem : (P : Event → Type 0) (n : ℕ) (h : List Held) (x : Event) → held_post n h ≡ some x → All (λ y. P (event y)) h
    → P x × (x.source ≡ posted) × (x.number ≡ n)
unfolding held_post
held_post_lem P n [] x e a = let z : ◌≡◌ {A = ℕ} 0 1 = cc in absurd (omega arith)
held_post_lem P n (y ∷ h) x e a = go (eqb (event y).source posted && eqb (event y).number n) refl e (λ k. held_post_lem P n h x k a.1)
  where
    go : (v : Bool) → (eqb (event y).source posted && eqb (event y).number n) ≡ v → cond v (some (event y)) (held_post n h) ≡ some x
        → (held_post n h ≡ some x → P x × (x.source ≡ posted) × (x.number ≡ n))
        → P x × (x.source ≡ posted) × (x.number ≡ n)
    go false t f ih = ih f
    go true t f ih =
        let q : event y ≡ x = cc in
        let b = and_true (eqb (event y).source posted) (eqb (event y).number n) t in
        (subst P q a.0, rw q at (eq_of (event y).source posted b.0), rw q at (eq_of (event y).number n b.1))

pub least_first : (s : ℕ) (h : List Held) (x : Event) → least_unrun s h ≡ some x → First s x h
unfolding least_unrun
least_first s [] x e = let z : ◌≡◌ {A = ℕ} 0 1 = cc in absurd (omega arith)
least_first s (ran y b ∷ h) x e = C.past_ran (least_first s h x e)
least_first s (unrun y ∷ h) x e = go (which y.target s) (λ k. least_first s h x k)
  where
    go : Which y.target s → (least_unrun s h ≡ some x → First s x h) → First s x (unrun y ∷ h)
    go (this i t) ih =
        let f : some y ≡ some x = rw t at e in
        let q : y ≡ x = cc in
        subst (λ v. First s v (unrun y ∷ h)) q (C.here i)
    go (other i t) ih = C.past_unrun i (ih (rw t at e))

-- ---- what follows

module _ (p : Plan) (S : InRange p) (e : Engine) (posts : List Event) (gone log : List ℕ) (i : Inv p e posts gone log) where
  abbrev fed_now : List Event
  fed_now = without gone posts

  pub fed_posts : All (IsPost p e.next) fed_now
  fed_posts = without_all (IsPost p e.next) gone posts i.are_posts

  pub fed_keyed : Keyed p S fed_now (initial p)
  fed_keyed = record {
    distinct = numbered_distinct fed_now (without_numbered gone posts i.numbered);
    low = all_map (λ x w k. absurd (omega (arith, k, w.outer, S.most))) fed_now fed_posts;
  }

  pub fed_inside : All (Inside p S) fed_now
  fed_inside = all_map (λ x w. w.inside) fed_now fed_posts

  pub start_inside : All (Inside p S) (insert_all_sorted fed_now [])
  start_inside = all_insert_all (Inside p S) fed_now [] fed_inside tt

  start_keyed : Keyed p S (insert_all_sorted fed_now []) (initial p)
  start_keyed = keyed_insert_all p S fed_now [] (initial p) fed_keyed (record { distinct = tt; low = tt }) (in_all (λ x. Unit {0}) fed_now (λ x m. tt))

  pub machine_keyed : Keyed p S i.machine.waiting i.machine.states
  unfolding sorted_start
  machine_keyed = runs_keyed p S i.steps start_inside start_keyed

  -- a held event is at a station, and was sent by a station or is a post that stands
  abbrev pub Known : Event → Type 0
  Known y = (y.target < p.count) × ((y.source < p.count) ⊎ Memᴰ y fed_now)

  sends_known : (b : State) (y : Event) → y.target < p.count → All Known (sends_of p b y)
  sends_known b y h = all_map (λ z w. (w.0, inl w.1)) (sends_of p b y) (sends_inside p S b y h)

  pub held_known : All (λ z. Known (event z)) e.queue.held
  unfolding sorted_start
  held_known =
      replay_all p S Known sends_known i.machine.waiting i.machine.states e.queue.states e.queue.held i.ok.replay
      (runs_all p S Known sends_known (λ y w. w.0) i.steps (all_insert_all Known fed_now [] (in_all Known fed_now (λ y m. (all_in (Inside p S) m fed_inside, inr m))) tt))

  -- no held event lies before the commit time
  replay_late : (c : ℕ) (ws : List Event) (st cur : States) (h : List Held) → Idle c ws → InOrder h → Replay p ws st cur h → All (λ z. c ≤ (event z).time) h
  unfolding Idle
  replay_late c ws st cur [] j o r = tt
  replay_late c ws st cur (unrun x ∷ h) j o r = let k : c ≤ x.time = rw r.1 at j in (k, above_late c x h k o.0)
  replay_late c ws st cur (ran x b ∷ h) j o r = let k : c ≤ x.time = rw r.1 at j in (k, above_late c x h k o.0)

  pub held_late : All (λ z. e.now ≤ (event z).time) e.queue.held
  held_late =
      replay_late e.now i.machine.waiting i.machine.states e.queue.states e.queue.held (runs_idle i.steps) i.ok.sorted
      i.ok.replay

  later : {x y : Event} → Ge y x → Differ x y → Lt x y
  later g (fst l) = l
  later g (snd l) = absurd (clash l g)

  -- in order and different: in strict order
  strict_of : (h : List Held) → InOrder h → Unique h → Strict h
  strict_of [] o u = tt
  strict_of (y ∷ h) o u = (in_all (λ z. Lt (event y) (event z)) h (λ z m. later (all_in (λ v. Ge (event v) (event y)) m o.0) (all_in (λ v. Differ (event y) (event v)) m u.0)), strict_of h o.1 u.1)

  pub held_neat : Neat p e.queue.held
  held_neat = record {
    strict =
        strict_of e.queue.held i.ok.sorted
        (replay_unique p S i.machine.waiting i.machine.states e.queue.states e.queue.held machine_keyed i.ok.sorted i.ok.replay);
    blocked = replay_blocked p i.machine.waiting i.machine.states e.queue.states e.queue.held i.ok.replay;
    inside = all_map (λ z w. w.0) e.queue.held held_known;
  }

  -- a post with the next number is new to them
  pub post_new : (x : Event) → x.source ≡ posted → x.number ≡ e.next → New x e.queue.held
  post_new x o n = all_map (λ z w. differs (event z) w.1) e.queue.held held_known
    where
      differs : (y : Event) → (y.source < p.count) ⊎ Memᴰ y fed_now → Differ x y
      differs y (inl k) = differ_source x y (omega (arith, S.most))
      differs y (inr m) = differ_number x y (omega (arith, (all_in (IsPost p e.next) m fed_posts).numbered))

  -- and so are the sends of an event that runs
  pub sends_new : (x : Event) → x.target < p.count → All (λ y. New y e.queue.held) (sends_of p (e.queue.states x.target) x)
  sends_new x h = all_map new (sends_of p b x) (event_good p S b x h).each
    where
      b : State
      b = e.queue.states x.target

      low : All (λ z. Low p S e.queue.states (event z)) e.queue.held
      low = replay_low p S i.machine.waiting i.machine.states e.queue.states e.queue.held machine_keyed i.ok.replay

      differs : (y z : Event) → Sent p.count x.target x.time b.sent (after_of p b x).sent y → Low p S e.queue.states z → Differ y z
      differs y z w l = go (which z.source x.target)
        where
          go : Which z.source x.target → Differ y z
          go (this k _) =
              let m : z.number < b.sent = rw k at (l (rw k h)) in
              differ_number y z (omega (arith, w.from, m))
          go (other k _) = differ_source y z (λ j. k (sym j ∙ w.source_is))

      new : (y : Event) → Sent p.count x.target x.time b.sent (after_of p b x).sent y → New y e.queue.held
      new y w = all_map (λ z l. differs y (event z) w l) e.queue.held low
