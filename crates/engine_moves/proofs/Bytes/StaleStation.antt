-- What the calendar still shows after a change before it: all but the station of the event that changed.
use mathlib.Core.Path.{◌≡◌}
use mathlib.Core.Logic.{◌≢◌}
use mathlib.Core.List.{List}
use Prim.Native.Nat.{ℕ}
use Rattle.rules.specs.Held.{Held, registered}
use Rattle.rules.specs.Engine.{Setting}
use Rattle.engine_events.specs.Shows.{Inside}
use Rattle.engine_events.proofs.CalendarShown.{same_shows}
use Rattle.engine_events.specs.Represents.{part, Calendared, Untold}

module _ {setting : Setting} {n c now : ℕ} {xs ys : List ℕ} {h : List Held} (k : List Held) (C : Calendared setting n c now xs h)
    (e : part n c ys ≡ part n c xs) (i : Inside n k) where
  pub untold : (s : ℕ) → ((t : ℕ) → t ≢ s → registered k t ≡ registered h t) → Untold setting n c now s ys k
  untold s f = record {
    sound = rw e C.sound;
    arity = rw e C.arity;
    width = rw e C.width;
    floor = rw e C.floor;
    size = rw e C.shows.length_is;
    others = λ t l d. rw (e, f t d) (C.shows.each t l);
    inside = i;
  }

  pub still_told : ((t : ℕ) → registered k t ≡ registered h t) → Calendared setting n c now ys k
  still_told f = record {
    sound = rw e C.sound;
    arity = rw e C.arity;
    width = rw e C.width;
    floor = rw e C.floor;
    shows = rw e (same_shows k C.shows i f);
  }
