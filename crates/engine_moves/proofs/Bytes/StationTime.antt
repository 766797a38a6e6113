-- A station's first unrun node tells the time at which the calendar has to have the station.
use mathlib.Core.Path.{◌≡◌, refl, sym, ap, ◌∙◌, subst}
use mathlib.Core.Logic.{◌≢◌, inr}
use mathlib.Core.Option.{Option, none, some}
use mathlib.Core.List.{List, [], ◌∷◌, ◌++◌}
use Prim.Native.Nat.{ℕ, ◌+◌, ◌-◌, ◌≤◌, ◌<◌}
use native.Mathlib.Omega.{arith}
use borrow.Rule.Slice.PartMut.{put_mid}
use lib.ListN.{length, take, drop, get_or, set, length-set}
use lib.Seq.{get_or-set_same, get_or-set_other}
use Rattle.words.specs.Le.{load_at}
use Rattle.line.specs.declared.Event.{Event}
use Rattle.rules.specs.Held.{Held, unrun, event, absent, at, time_of, registered, as_time, least_unrun, Found}
use Rattle.rules.specs.Engine.{Setting}
use Rattle.line.proofs.Order.{Which, this, other, which}
use Rattle.rules.proofs.Undo.RunFirst.{first_in as held_in}
use Rattle.rules.proofs.Replay.Registered.{registered_at_lem, registered_first}
use Rattle.rings.specs.Table.{Frame}
use Rattle.engine_rows.specs.Layout.{slot_row}
use Rattle.entry.proofs.EntryLaws.{event_time}
use Rattle.std.specs.Prelude.{Result}
use Rattle.refusal.specs.declared.Refusal.{Refusal}
use Rattle.calendar_header.specs.Rules.{with_time, register_checks, registered_at as entered, unregister_checks, unregistered}
use Rattle.calendar_header.specs.Bytes.{Sound, state_of}
use Rattle.calendar_header.specs.Promises.{Obeys}
use Rattle.engine_events.proofs.CalendarShown.{at_time, absent_time}
use Rattle.engine_index.specs.Layout.{slot_of}
use Rattle.engine_index.specs.Represents.{Cell, cell, ring_of, Stands, NoneIn}
use Rattle.engine_index.proofs.Slots.SlotBytes.{held_event}
use Rattle.engine_index.proofs.Changes.Mark.{node_of}
use Rattle.engine_ends.specs.Ends.{first_unrun}
use Rattle.engine_ends.proofs.Ends.{first_unrun_is, first_unrun_none}
use Rattle.engine_index.proofs.Rings.RingSearches as search
use Rattle.engine_index.proofs.Rings.RingSearches.{First, first, waits}
use Rattle.engine_index.proofs.Changes.ToRules as rules
use Rattle.engine_index.proofs.Changes.ToRules.{least_some, least_none}
use Rattle.engine_events.specs.Represents.{calendar_at, part, held_of, Calendared, Untold}
use Rattle.engine_moves.specs.Steps.{Tells}
use Rattle.engine_events.proofs.CalendarPart.{Put, part_put}
use Rattle.engine_events.proofs.StationsKept.{stores_kept}
use Rattle.engine_events.proofs.CalendarAccepts.{accepted_done, register_accepted, unregister_accepted}

pub held_same : (cells : List Cell) → rules.held_of cells ≡ held_of cells
held_same [] = refl
held_same (y ∷ ys) = ap (λ (l : List Held). y.held ∷ l) (held_same ys)

-- ---- the first unrun node

module _ {n c : ℕ} {xs : List ℕ} {free : List ℕ} (s : ℕ) (l : s < n) where
  -- the first cell that waits at s
  at_first : (A : List Cell) (y : Cell) (B : List Cell) → Stands n c xs (A ++ y ∷ B) free → NoneIn n s A → ring_of n y.held ≡ s
      → (first_unrun xs n c s ≡ y.node) × (0 < y.node)
      × (registered (held_of (A ++ y ∷ B)) s ≡ at (load_at 8 (slot_row n (slot_of n y.node)) xs))
  at_first A y B S z e =
      let w = node_of A y B S in
      let h = waits n s l y.held e in
      let next : first_unrun xs n c s ≡ y.node = first_unrun_is A y B S s l e z in
      let none : NoneIn n (event y.held).target A = subst (λ (u : ℕ). NoneIn n u A) (sym h.1) z in
      let same : held_of (A ++ y ∷ B) ≡ rules.held_of (A ++ cell y.node (unrun (event y.held)) ∷ B) =
      ap (λ (g : Held). held_of (A ++ cell y.node g ∷ B)) h.0 ∙ sym (held_same (A ++ cell y.node (unrun (event y.held)) ∷ B)) in
      let least : least_unrun s (held_of (A ++ y ∷ B)) ≡ Found.some (event y.held) =
      ap (least_unrun s) same
      ∙ subst (λ (u : ℕ). least_unrun u (rules.held_of (A ++ cell y.node (unrun (event y.held)) ∷ B)) ≡ Found.some (event y.held)) h.1
      (least_some n y.node (event y.held) A B none) in
      let time : load_at 8 (slot_row n (slot_of n y.node)) xs ≡ (event y.held).time =
      event_time (slot_row n (slot_of n y.node)) xs ∙ ap (λ (x : Event). x.time) (held_event n xs y.node y.held w.0) in
      (next, omega (arith, w.1), registered_at_lem s (held_of (A ++ y ∷ B)) (event y.held) least ∙ ap at (sym time))

  -- there is none: no event waits there
  none_waits : (cells : List Cell) → Stands n c xs cells free → first_unrun xs n c s ≡ 0 → registered (held_of cells) s ≡ absent
  unfolding registered time_of
  none_waits cells S e = go (first n s cells) S
    where
      go : {cells : List Cell} → First n s cells → Stands n c xs cells free → registered (held_of cells) s ≡ absent
      go (search.none {cells = cells} z) S = rw (← held_same cells, least_none n s cells z)
      go (search.some A y B z q) S = let f = at_first A y B S z q in absurd (omega (arith, e, f.0, f.1))

  -- it is that of the first event that waits there
  first_waits : (cells : List Cell) → Stands n c xs cells free → first_unrun xs n c s ≢ 0
      → registered (held_of cells) s ≡ at (load_at 8 (slot_row n (slot_of n (first_unrun xs n c s))) xs)
  first_waits cells S d = go (first n s cells) S
    where
      go : {cells : List Cell} → First n s cells → Stands n c xs cells free
          → registered (held_of cells) s ≡ at (load_at 8 (slot_row n (slot_of n (first_unrun xs n c s))) xs)
      go (search.none z) S = absurd (d (first_unrun_none S s l z))
      go (search.some A y B z q) S = let f = at_first A y B S z q in rw f.0 f.2

-- ---- the calendar is told

module _ {setting : Setting} {n c now s : ℕ} {xs : List ℕ} {h : List Held} (o : Option ℕ) (l : s < n) (U : Untold setting n c now s xs h)
    (r : as_time (registered h s) ≡ o) where
  each_told : (t : ℕ) → t < n → Which t s → get_or (set (state_of (part n c xs)).times s o) t none ≡ as_time (registered h t)
  each_told t m (this e _) =
      subst (λ (u : ℕ). get_or (set (state_of (part n c xs)).times s o) u none ≡ as_time (registered h u)) (sym e)
      (get_or-set_same (state_of (part n c xs)).times s o none (omega (arith, U.size)) ∙ sym r)
  each_told t m (other d _) = get_or-set_other (state_of (part n c xs)).times s t o none d ∙ U.others t m d

  pub told : {zs : List ℕ} (ys : List ℕ) → part n c ys ≡ zs → Sound zs → state_of zs ≡ with_time (state_of (part n c xs)) s o
      → Calendared setting n c now ys h
  told ys P Z q =
      record {
        sound = rw P Z;
        arity = rw (P, q) U.arity;
        width = rw (P, q) U.width;
        floor = rw (P, q) U.floor;
        shows = rw (P, q) record {
          length_is = length-set (state_of (part n c xs)).times s o ∙ U.size;
          each = λ t m. each_told t m (which t s);
          inside = U.inside;
        };
      }

-- ---- the two ways of the code

abbrev After : ℕ → ℕ → ℕ → ℕ → List ℕ → List ℕ → Type 0
After n c s start xs zs =
    Frame (calendar_at n c) (length xs) xs (put_mid start (length xs - start) xs zs) × Tells n c s xs (put_mid start (length xs - start) xs zs)

module _ (n c s : ℕ) {start x : ℕ} (xs zs : List ℕ) (b : s < n) (ls : start ≡ calendar_at n c) (long : start ≤ length xs)
    (size : length zs ≡ length (take (length xs - start) (drop start xs))) (next : x ≡ first_unrun xs n c s) where
  pub tell_none : {r : Result Unit Refusal} → x ≡ 0 → Obeys (λ q. unregister_checks q s) (λ q. unregistered q s) (take (length xs - start) (drop start xs)) r zs → After n c s start xs zs
  tell_none {r} e O = (
    put.1.1,
    λ p setting now q cells S U.
        let O : Obeys (λ q. unregister_checks q s) (λ q. unregistered q s) (part n c xs) r zs = rw put.0 at O in
        let done = accepted_done r (O.answer U.sound ∙ unregister_accepted (state_of (part n c xs)) s (omega (arith, U.size))) in
        let gone : registered q.held s ≡ absent = rw S.held at (none_waits s b cells S.stands (sym next ∙ e)) in
        record {
          stores = stores_kept put.1.1 (inr (omega arith)) S;
          calendar =
              told none b U (absent_time (registered q.held s) gone) (put_mid start (length xs - start) xs zs) put.1.0 (O.sound U.sound) (rw done at (O.state U.sound));
        },
  )
    where
      put : (take (length xs - start) (drop start xs) ≡ part n c xs) × Put n c xs zs (put_mid start (length xs - start) xs zs)
      put = part_put n c xs zs ls long size

  pub tell_time : {r : Result Unit Refusal} {i t : ℕ} → x ≢ 0 → i ≡ slot_of n x → t ≡ load_at 8 (slot_row n i) xs
      → Obeys (λ q. register_checks q s t) (λ q. entered q s t) (take (length xs - start) (drop start xs)) r zs → After n c s start xs zs
  tell_time {r} {i} {t} d ei et O = (
    put.1.1,
    λ p setting now q cells S U.
        let O : Obeys (λ q. register_checks q s t) (λ q. entered q s t) (part n c xs) r zs = rw put.0 at O in
        let time : t ≡ load_at 8 (slot_row n (slot_of n (first_unrun xs n c s))) xs = et ∙ rw (ei, next) in
        let is : registered q.held s ≡ at t = rw (S.held, ← time) at (first_waits s b cells S.stands (λ z. d (next ∙ z))) in
        let f = registered_first s q.held t is in
        let k = S.times (unrun f.0) (held_in f.1) in
        let done = accepted_done r (O.answer U.sound
        ∙ register_accepted (state_of (part n c xs)) s t (omega (arith, U.size)) (omega (arith, k.1, f.2)) (omega (arith, k.0, f.2, U.floor))) in
        record {
          stores = stores_kept put.1.1 (inr (omega arith)) S;
          calendar =
              told (some t) b U (at_time (registered q.held s) t is) (put_mid start (length xs - start) xs zs) put.1.0 (O.sound U.sound) (rw done at (O.state U.sound));
        },
  )
    where
      put : (take (length xs - start) (drop start xs) ≡ part n c xs) × Put n c xs zs (put_mid start (length xs - start) xs zs)
      put = part_put n c xs zs ls long size
