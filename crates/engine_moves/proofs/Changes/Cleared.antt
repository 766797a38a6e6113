-- A new calendar and an index with all slots free hold no event.
use mathlib.Core.Path.{◌≡◌, refl, sym, ◌∙◌}
use mathlib.Core.Bool.{Bool, false, true≢false}
use mathlib.Core.Logic.{inr}
use mathlib.Core.List.Memᴰ
use mathlib.Core.List.{List, [], ◌∷◌}
use Prim.Native.Nat.{ℕ, zero, suc, ◌+◌, ◌-◌, ◌*◌, ◌≤◌}
use native.Mathlib.Omega.{arith}
use borrow.Rule.Slice.PartMut.{put_mid}
use lib.ListN.{length, take, drop, length-append, length-drop}
use Rattle.rules.specs.Engine.{opened}
use Rattle.rings.specs.Table.{Frame}
use Rattle.engine_rows.specs.Layout.{slot_row}
use Rattle.engine_rows.proofs.Rows.{config_in, state_in}
use Rattle.std.specs.Prelude.{Result}
use Rattle.refusal.specs.declared.Refusal.{Refusal}
use Rattle.calendar_header.specs.Rules as calendar
use Rattle.calendar_header.specs.Bytes.{state_of}
use Rattle.calendar_header.specs.Promises.{OpensCalendar}
use Rattle.engine_events.proofs.CalendarShown.{opened_shows}
use Rattle.engine_index.specs.Layout.{index_bytes}
use Rattle.engine_index.proofs.CellFrames.{row_kept}
use Rattle.engine_index.specs.Promises as index
use Rattle.engine_index.specs.Promises.{places}
use Rattle.engine_events.specs.Represents.{fits_in, calendar_at, part}
use Rattle.refusal.specs.Tests.{calendar_bytes}
use Rattle.engine_events.specs.Promises.{AfterHeader}
use Rattle.engine_moves.specs.Promises.{ClearsEvents}
use Rattle.engine_events.proofs.AfterHeader.{after_header, after_header_same, after_header_on}
use Rattle.engine_events.proofs.CalendarPart.{Put, part_put, part_kept}
use Rattle.engine_events.proofs.CalendarAccepts.{accepted_done, open_accepted}
use Rattle.engine_events.proofs.Fitting.{fits_in_lem, calendar_room}

length_places : (n c : ℕ) → length (places n c) ≡ c
unfolding places
length_places n zero = refl
length_places n (suc c) = length-append (places n c) ((2 * n + 1 + c) ∷ []) ∙ (let h : length (places n c) ≡ c = length_places n c in omega arith)

pub cleared : (n c arity width : ℕ) {start : ℕ} (xs zs ys : List ℕ) {r : Result Unit Refusal} → start ≡ calendar_at n c → start ≤ length xs → length zs ≡ length (take (length xs - start) (drop start xs)) → OpensCalendar n arity width (take (length xs - start) (drop start xs)) r zs
    → Frame (slot_row n 0) (index_bytes n c) (put_mid start (length xs - start) xs zs) ys → index.Clears n c (put_mid start (length xs - start) xs zs) ys
    → AfterHeader xs ys × ClearsEvents n c arity width xs ys
unfolding opened
cleared n c arity width {start} xs zs ys {r} ls within size O F K = (
  after_header_on (after_header (omega arith) G) (after_header (omega arith) F),
  λ p count a few b slots in_table long w v configs states.
      let O : OpensCalendar n arity width (part n c xs) r zs = rw put.0 at O in
      let room = calendar_room arity n c b in
      let long-part : calendar_bytes arity n ≤ length (part n c xs) = omega (arith, room, length-drop (calendar_at n c) xs) in
      let done = accepted_done r (O.answer ∙ open_accepted n arity width (length (part n c xs)) in_table a few w v long-part) in
      let left : part n c ys ≡ zs = part_kept n c F (omega arith) ∙ put.1.0 in
      let state : state_of zs ≡ calendar.opened_calendar n arity width = rw done at O.state in
      record {
        stores = record {
          count = count;
          some = b;
          long = omega (arith, F.size, G.size);
          configs = λ s l. row_kept (config_in n s) F (inr (omega arith)) ∙ row_kept (config_in n s) G (inr (omega arith)) ∙ configs s l;
          states = λ s l. row_kept (state_in n s) F (inr (omega arith)) ∙ row_kept (state_in n s) G (inr (omega arith)) ∙ states s l;
          free = places n c;
          stands = K few slots (omega (arith, G.size));
          places = omega (arith, length_places n c);
          held = refl;
          times = λ y m. absurd (Memᴰ.not-nil m);
          kids = λ x e b m. absurd (Memᴰ.not-nil m);
        };
        calendar = record {
          sound = rw left (rw done at O.sound);
          arity = rw (left, state);
          width = rw (left, state);
          floor = rw (left, state);
          shows = rw (left, state) (opened_shows n);
        };
      },
)
  where
    put : (take (length xs - start) (drop start xs) ≡ part n c xs) × Put n c xs zs (put_mid start (length xs - start) xs zs)
    put = part_put n c xs zs ls within size

    G : Frame (calendar_at n c) (length xs) xs (put_mid start (length xs - start) xs zs)
    G = put.1.1

pub clears_none : (n c arity width : ℕ) (xs : List ℕ) {r : Bool} → r ≡ fits_in n c (length xs) → r ≡ false → AfterHeader xs xs × ClearsEvents n c arity width xs xs
clears_none n c arity width xs e z = (
  after_header_same xs,
  λ p _ _ few b slots _ long _ _ _ _.
      let room = calendar_room arity n c b in
      absurd (true≢false (sym (fits_in_lem n c (length xs) few slots (omega (arith, room))) ∙ sym e ∙ z)),
)
