-- The calendar takes a new floor that lies after no held event.
use mathlib.Core.Path.{◌≡◌, ◌∙◌}
use mathlib.Core.Logic.{inr}
use mathlib.Core.List.{List}
use Prim.Native.Nat.{ℕ, ◌-◌, ◌≤◌}
use native.Mathlib.Omega.{arith}
use borrow.Rule.Slice.PartMut.{put_mid}
use lib.ListN.{length, take, drop}
use Rattle.line.specs.Station.{Plan}
use Rattle.rules.specs.Held.{Held, unrun, event, In, Queue}
use Rattle.rules.proofs.Undo.RunFirst.{first_in}
use Rattle.rules.proofs.Replay.Registered.{registered_first}
use Rattle.std.specs.Prelude.{Result}
use Rattle.refusal.specs.declared.Refusal.{Refusal}
use Rattle.calendar_header.specs.Rules.{advance_checks, advanced}
use Rattle.calendar_header.specs.Bytes.{state_of}
use Rattle.calendar_header.specs.Promises.{Obeys}
use Rattle.calendar_header.proofs.Tests.{any_false}
use Rattle.engine_events.proofs.CalendarShown.{has_registered}
use Rattle.engine_index.specs.Represents.{Cell}
use Rattle.engine_events.specs.Represents.{calendar_at, part, Stores}
use Rattle.engine_events.specs.Promises.{AfterHeader}
use Rattle.engine_moves.specs.Promises.{Raises}
use Rattle.engine_events.proofs.AfterHeader.{after_header, after_header_same}
use Rattle.engine_events.proofs.CalendarPart.{Put, part_put}
use Rattle.engine_events.proofs.StationsKept.{stores_kept}
use Rattle.engine_events.proofs.CalendarAccepts.{accepted_done, advance_accepted}
use Rattle.engine_events.proofs.LeastStation.{Nothing}

stores_at : {p : Plan} {n c now : ℕ} {xs : List ℕ} {q : Queue} {cells : List Cell} (floor : ℕ) → ((y : Held) → In y q.held → floor ≤ (event y).time)
    → Stores p n c now xs q cells → Stores p n c floor xs q cells
stores_at floor f S =
    record {
      count = S.count;
      some = S.some;
      long = S.long;
      configs = S.configs;
      states = S.states;
      free = S.free;
      stands = S.stands;
      places = S.places;
      held = S.held;
      times = λ y m. (f y m, (S.times y m).1);
      kids = S.kids;
    }

pub raised : (n c floor : ℕ) {start : ℕ} (xs zs : List ℕ) {r : Result Unit Refusal} → start ≡ calendar_at n c → start ≤ length xs
    → length zs ≡ length (take (length xs - start) (drop start xs))
    → Obeys (λ q. advance_checks q floor) (λ q. advanced q floor) (take (length xs - start) (drop start xs)) r zs
    → AfterHeader xs (put_mid start (length xs - start) xs zs) × Raises n c floor xs (put_mid start (length xs - start) xs zs)
raised n c floor {start} xs zs {r} ls long size O = (
  after_header (omega arith) put.1.1,
  λ p setting now q cells H a b f.
      let C = H.calendar in
      let O : Obeys (λ q. advance_checks q floor) (λ q. advanced q floor) (part n c xs) r zs = rw put.0 at O in
      let early = any_false floor (state_of (part n c xs)).times
      (λ x u e. let g = registered_first x q.held u (has_registered x u C.shows e) in omega (arith, f (unrun g.0) (first_in g.1), g.2)) in
      let done = accepted_done r (O.answer C.sound ∙ advance_accepted (state_of (part n c xs)) floor b (omega (arith, C.floor)) early) in
      let state : state_of zs ≡ advanced (state_of (part n c xs)) floor = rw done at (O.state C.sound) in
      record {
        stores = stores_at floor f (stores_kept put.1.1 (inr (omega arith)) H.stores);
        calendar = record {
          sound = rw put.1.0 (O.sound C.sound);
          arity = rw (put.1.0, state) C.arity;
          width = rw (put.1.0, state) C.width;
          floor = rw (put.1.0, state);
          shows = rw (put.1.0, state) C.shows;
        };
      },
)
  where
    put : (take (length xs - start) (drop start xs) ≡ part n c xs) × Put n c xs zs (put_mid start (length xs - start) xs zs)
    put = part_put n c xs zs ls long size

pub raises_none : (n c floor : ℕ) (xs : List ℕ) → Nothing n c xs → AfterHeader xs xs × Raises n c floor xs xs
raises_none n c floor xs N = (after_header_same xs, λ p setting now q cells H _ _ _. absurd (N p setting now q cells H))
