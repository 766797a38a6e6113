-- A slot that passes the test is that of a held post with the number, and where none passes no post with it is held.
use mathlib.Core.Path.{◌≡◌, refl, sym, ◌∙◌}
use mathlib.Core.Logic.{◌≢◌, ◌⊎◌, inl, inr}
use mathlib.Core.Bool.{Bool, true, false, true≢false, ◌&&◌}
use mathlib.Core.List.Memᴰ
use mathlib.Core.List.{List, [], ◌∷◌}
use Prim.Native.Nat.{ℕ, ◌+◌, ◌*◌, ◌<◌}
use native.Mathlib.Omega.{arith}
use borrow.Author.Tests.{eq-eqb, ne_eqb, eqb-true}
use lib.Dec.{eqb}
use Rattle.std.specs.Prelude.{Some, None}
use Rattle.words.specs.Le.{load_at}
use Rattle.line.specs.declared.Event.{Event}
use Rattle.line.specs.Event.{posted}
use Rattle.line.specs.Station.{Plan}
use Rattle.rules.specs.Held.{Held, unrun, ran, event, Queue, Found, held_post}
use Rattle.rules.specs.Engine.{Setting}
use Rattle.engine_rows.specs.Layout.{slot_row}
use Rattle.entry.specs.Entry.{event_at}
use Rattle.engine_index.specs.Layout.{slot_of}
use Rattle.engine_index.specs.Represents.{Cell, cell, status_at, HeldAt}
use Rattle.engine_events.specs.Represents.{held_of, Has, Holds}
use Rattle.engine_moves.proofs.Cells.Members.{member, member_slot}
use Rattle.engine_posting.specs.Steps.{is_post_at, FindsPost}
use Rattle.engine_posting.proofs.EverySlot.{cell_or_free}

-- ---- the test

-- is the event a post with that number?
abbrev is_post : ℕ → Event → Bool
is_post number x = eqb x.source posted && eqb x.number number

-- what a held event's slot says
held_event : (n x : ℕ) (xs : List ℕ) (h : Held) → HeldAt n xs x h → (event_at (slot_row n (slot_of n x)) xs ≡ event h) × (status_at n x xs ≢ 0)
held_event n x xs (unrun e) H = (H.0, λ z. omega (arith, H.1))
held_event n x xs (ran e b) H = (H.0, λ z. omega (arith, H.1))

test_held : (n x number : ℕ) (xs : List ℕ) (h : Held) → HeldAt n xs x h → is_post_at xs n (slot_of n x) number ≡ is_post number (event h)
unfolding is_post_at
test_held n x number xs h H =
    let r = held_event n x xs h H in
    rw (ne_eqb (status_at n x xs) 0 r.1, r.0)

-- a free slot does not pass
test_free : (n i number : ℕ) (xs : List ℕ) → load_at 2 (slot_row n i + 60) xs ≡ 0 → is_post_at xs n i number ≡ false
unfolding is_post_at
test_free n i number xs e = rw (eq-eqb (load_at 2 (slot_row n i + 60) xs) 0 e)

is_post_lem : (number : ℕ) (x : Event) → is_post number x ≡ true → (x.source ≡ posted) × (x.number ≡ number)
is_post_lem number x e = go (eqb x.source posted) (eqb x.number number) refl refl e
  where
    go : (u v : Bool) → eqb x.source posted ≡ u → eqb x.number number ≡ v → (u && v) ≡ true → (x.source ≡ posted) × (x.number ≡ number)
    go true true p q z = (eqb-true x.source posted p, eqb-true x.number number q)
    go true false p q z = absurd (true≢false (sym z))
    go false v p q z = absurd (true≢false (sym z))

-- ---- no post

none_held : (number : ℕ) (cells : List Cell) → ((y : Cell) → Has y cells → is_post number (event y.held) ≡ false)
    → held_post number (held_of cells) ≡ Found.none
unfolding held_post
none_held number [] f = refl
none_held number (y ∷ ys) f = rw (f y (Memᴰ.head refl)) (none_held number ys (λ z m. f z (Memᴰ.tail m)))

module _ {p : Plan} {setting : Setting} {n c now : ℕ} {xs : List ℕ} {q : Queue} {cells : List Cell} (H : Holds p setting n c now xs q cells)
    (number : ℕ) where
  pub no_post : ((i : ℕ) → i < c → is_post_at xs n i number ≡ false) → held_post number q.held ≡ Found.none
  no_post f =
      rw (sym H.stores.held)
      (none_held number cells (λ y m.
      sym (test_held n y.node number xs y.held (member H.stores.stands y m).0) ∙ f (slot_of n y.node) (member_slot H.stores.stands y m)))

  -- ---- a post

  pub a_post : (i : ℕ) → i < c → is_post_at xs n i number ≡ true
      → (h : Held) × Has (cell (2 * n + 1 + i) h) cells × ((event h).source ≡ posted) × ((event h).number ≡ number)
  a_post i l t = go (cell_or_free H.stores.stands H.stores.places (2 * n + 1 + i) (omega arith) (omega arith))
    where
      here : slot_of n (2 * n + 1 + i) ≡ i
      here = omega arith

      go : ((h : Held) × Has (cell (2 * n + 1 + i) h) cells) ⊎ (status_at n (2 * n + 1 + i) xs ≡ 0)
          → (h : Held) × Has (cell (2 * n + 1 + i) h) cells × ((event h).source ≡ posted) × ((event h).number ≡ number)
      go (inr z) = absurd (true≢false (sym t ∙ test_free n i number xs (rw here at z)))
      go (inl (h, m)) =
          let e = rw here at (test_held n (2 * n + 1 + i) number xs h (member H.stores.stands (cell (2 * n + 1 + i) h) m).0) in
          let r = is_post_lem number (event h) (sym e ∙ t) in
          (h, m, r.0, r.1)

-- ---- the search

pub finds_none : (n c number : ℕ) (xs : List ℕ) → ((i : ℕ) → i < c → is_post_at xs n i number ≡ false) → FindsPost n c number xs None
finds_none n c number xs f = record { none = λ p setting now q cells H e. no_post H number f; some = λ p setting now q cells H x d. let z : ◌≡◌ {A = ℕ} 0 1 = cc in absurd (omega arith) }

pub finds_at : (n c number : ℕ) (xs : List ℕ) (i : ℕ) {x : ℕ} → x ≡ 2 * n + 1 + i → i < c → is_post_at xs n i number ≡ true → FindsPost n c number xs (Some x)
finds_at n c number xs i {x} e l t = record {
  none = λ p setting now q cells H y. let z : ◌≡◌ {A = ℕ} 0 1 = cc in absurd (omega arith);
  some = λ p setting now q cells H y d. let z : y ≡ 2 * n + 1 + i = cc in rw z (a_post H number i l t);
}
