-- Where a calendar's times show the held events, what it says is what the rules ask for.
use mathlib.Core.Path.{◌≡◌, refl, sym, ap, ◌∙◌}
use mathlib.Core.Logic.{◌≢◌, ◌⊎◌, inl, inr}
use mathlib.Core.Bool.{Bool, true, false}
use mathlib.Core.Option.{Option, none, some}
use mathlib.Core.List.Memᴰ
use mathlib.Core.List.{List, []}
use Prim.Native.Nat.{ℕ, ◌≤◌, ◌<◌}
use native.Mathlib.Nat.{zero-add}
use native.Mathlib.Omega.{arith}
use lib.ListN.{get_or, replicate, length-replicate, get_or-replicate, get_or-eq_default}
use lib.Seq.{ext_get_or}
use Rattle.rules.specs.Held.{Held, Registered, absent, at, registered, as_time, registered_from, Lowest, none_unrun}
use Rattle.rules.proofs.Replay.LeastUnrun.{NoUnrun, in_unrun}
use Rattle.rules.proofs.Replay.Registered.{registered_absent, from_length, from_at}
use Rattle.rules.proofs.Calls.Tests.{none_registered_lem, some_registered}
use Rattle.words.proofs.Cases.{lt_or}
use Rattle.calendar_header.specs.Rules.{LeastAt, none_registered}
use Rattle.calendar_header.proofs.Tests.{none_true, none_false}
use Rattle.engine_events.specs.Shows.{Inside, Shows}

-- ---- one time

pub time_at : (r : Registered) (t : ℕ) → as_time r ≡ some t → r ≡ at t
unfolding as_time
time_at absent t e = let z : ◌≡◌ {A = ℕ} 0 1 = cc in absurd (omega arith)
time_at (at u) t e = let z : u ≡ t = cc in ap at z

pub at_time : (r : Registered) (t : ℕ) → r ≡ at t → as_time r ≡ some t
unfolding as_time
at_time r t e = rw e

pub absent_time : (r : Registered) → r ≡ absent → as_time r ≡ none
unfolding as_time
absent_time r e = rw e

-- ---- every station, and not only those below n

pub outside_none : (n : ℕ) (h : List Held) (s : ℕ) → Inside n h → n ≤ s → NoUnrun s h
outside_none n h s i l = in_unrun (λ x. x.target ≢ s) h (λ x m e. omega (arith, i _ m))

pub shows_every : {n : ℕ} {ts : List (Option ℕ)} {h : List Held} → Shows n ts h → (s : ℕ) → get_or ts s none ≡ as_time (registered h s)
shows_every {n} {ts} {h} a s = go (lt_or s n)
  where
    go : (s < n) ⊎ (n ≤ s) → get_or ts s none ≡ as_time (registered h s)
    go (inl l) = a.each s l
    go (inr l) =
        get_or-eq_default ts none (omega (arith, a.length_is))
        ∙ sym (absent_time (registered h s) (registered_absent s h (outside_none n h s a.inside l)))

pub has_registered : {n : ℕ} {ts : List (Option ℕ)} {h : List Held} (s t : ℕ) → Shows n ts h → get_or ts s none ≡ some t → registered h s ≡ at t
has_registered {h = h} s t a e = time_at (registered h s) t (sym (shows_every a s) ∙ e)

pub registered_has : {n : ℕ} {ts : List (Option ℕ)} {h : List Held} (s t : ℕ) → Shows n ts h → registered h s ≡ at t → get_or ts s none ≡ some t
registered_has {h = h} s t a e = shows_every a s ∙ at_time (registered h s) t e

-- its times are the registered ones
pub shows_times : {n : ℕ} {ts : List (Option ℕ)} {h : List Held} → Shows n ts h → ts ≡ registered_from h 0 n
shows_times {n} {ts} {h} a =
    ext_get_or none ts (registered_from h 0 n) (a.length_is ∙ sym (from_length h 0 n)) (λ s l.
    let k : s < n = omega (arith, a.length_is) in
    a.each s k ∙ ap (λ t. as_time (registered h t)) (sym (zero-add s)) ∙ sym (from_at h 0 n s k))

-- ---- what the calendar says

-- the station that it names is the lowest-numbered one of least registered time
pub named_lowest : {n : ℕ} {ts : List (Option ℕ)} {h : List Held} {s t : ℕ} → Shows n ts h → LeastAt ts s t → Lowest h s
named_lowest {s = s} {t = t} a l =
    record {
      time = t;
      is = has_registered s t a l.has;
      least = λ x u e. l.least x u (registered_has x u a e);
      first = λ x e. l.first x (registered_has x t a e);
    }

pub named_time : {n : ℕ} {ts : List (Option ℕ)} {h : List Held} {s t : ℕ} (a : Shows n ts h) (l : LeastAt ts s t) → (named_lowest a l).time ≡ t
unfolding named_lowest
named_time a l = refl

pub none_shows : {n : ℕ} {ts : List (Option ℕ)} {h : List Held} → Shows n ts h → none_registered ts ≡ none_unrun h
none_shows {n} {ts} {h} a = go (none_unrun h) refl
  where
    go : (v : Bool) → none_unrun h ≡ v → none_registered ts ≡ v
    go true e = none_true ts (λ x. shows_every a x ∙ absent_time (registered h x) (none_registered_lem h x e))
    go false e = let r = some_registered h e in none_false ts r.0 r.1 (registered_has r.0 r.1 a r.2)

-- ---- the same of other events

-- nothing held, nothing registered
pub opened_shows : (n : ℕ) → Shows n (replicate n none) []
opened_shows n = record {
  length_is = length-replicate n none;
  each = λ s l. get_or-replicate n s none none l ∙ sym (absent_time (registered [] s) (registered_absent s [] tt));
  inside = λ y m. absurd (Memᴰ.not-nil m);
}

-- the same is registered
pub same_shows : {n : ℕ} {ts : List (Option ℕ)} {h : List Held} (k : List Held) → Shows n ts h → Inside n k
    → ((x : ℕ) → registered k x ≡ registered h x) → Shows n ts k
same_shows k a i f = record { length_is = a.length_is; each = λ x l. a.each x l ∙ ap as_time (sym (f x)); inside = i }
