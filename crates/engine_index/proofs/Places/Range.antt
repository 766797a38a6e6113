-- The numbers are in range: then the counts fit their bits, and the log is what stands there.
use mathlib.Core.Path.{◌≡◌, refl, sym, ap, ◌∙◌}
use mathlib.Core.Bool.{Bool, true, false, true≢false, ◌&&◌}
use mathlib.Core.List.{List}
use Prim.Native.Nat.{ℕ, ◌+◌, ◌*◌, ◌%◌, ◌≤◌, ◌<◌}
use native.Mathlib.Omega.{arith}
use borrow.Author.Tests.{le-leb, leb-true}
use lib.Dec.{leb}
use Rattle.rings.specs.Table.{next_of}
use Rattle.engine_index.specs.Layout.{run_ring, free_ring, node_of, nodes_of, links_at, log_at, in_range, next_logged}

module _ (n c : ℕ) where
  in_range_lem : n ≤ 256 → c ≤ 4096 → in_range n c ≡ true
  in_range_lem h k = rw (le-leb n 256 h, le-leb c 4096 k)

  pub range_true : {r : Bool} → r ≡ in_range n c → r ≡ true → (n ≤ 256) × (c ≤ 4096)
  range_true e h = go (leb n 256) (leb c 4096) refl refl (sym e ∙ h)
    where
      go : (a b : Bool) → leb n 256 ≡ a → leb c 4096 ≡ b → (a && b) ≡ true → (n ≤ 256) × (c ≤ 4096)
      go true true p q z = (leb-true n 256 p, leb-true c 4096 q)
      go true false p q z = absurd (true≢false (sym z))
      go false b p q z = absurd (true≢false (sym z))

  pub range_gone : {r : Bool} → r ≡ in_range n c → r ≡ false → n ≤ 256 → c ≤ 4096 → ⊥
  range_gone e z h k = true≢false (sym (in_range_lem h k) ∙ sym e ∙ z)

  pub run_ring_in : n ≤ 256 → (s : ℕ) → s < n → {r : ℕ} → r ≡ run_ring n s % 65536 → r ≡ run_ring n s
  run_ring_in h s l e = omega arith

  pub free_ring_in : n ≤ 256 → {r : ℕ} → r ≡ free_ring n % 65536 → r ≡ free_ring n
  free_ring_in h e = omega arith

  module _ (h : n ≤ 256) (k : c ≤ 4096) where
    pub nodes_in : {r : ℕ} → r ≡ nodes_of n c % 65536 → r ≡ nodes_of n c
    nodes_in e = omega arith

    pub log_in : {r : ℕ} → r ≡ links_at n c + 4 * (nodes_of n c % 65536) → r ≡ log_at n c
    log_in e = omega arith

    pub node_in : (i : ℕ) → i ≤ c → {r : ℕ} → r ≡ node_of n i % 65536 → r ≡ node_of n i
    node_in i l e = omega arith

    pub logged_in : (xs : List ℕ) (x : ℕ) → next_logged xs n c x ≡ next_of xs (log_at n c) x
    unfolding next_logged
    logged_in xs x = rw (le-leb n 256 h, le-leb c 4096 k)

-- ---- the log

module _ (xs : List ℕ) (n c x : ℕ) {v : Bool} (e : v ≡ in_range n c) where
  pub next_in_range : {o r : ℕ} → v ≡ true → o ≡ links_at n c + 4 * (nodes_of n c % 65536) → r ≡ next_of xs o x → r ≡ next_logged xs n c x
  next_in_range {o} z eo er =
      let r = range_true n c e z in
      let q : o ≡ log_at n c = log_in n c r.0 r.1 eo in
      er ∙ ap (λ (l : ℕ). next_of xs l x) q ∙ sym (logged_in n c r.0 r.1 xs x)

  pub next_out_of_range : v ≡ false → 0 ≡ next_logged xs n c x
  unfolding next_logged
  next_out_of_range z = let t : in_range n c ≡ false = sym e ∙ z in rw t

-- as a call of next_logged ensures it
pub logged_at : (xs : List ℕ) (n c x : ℕ) {r : ℕ} → r ≡ next_logged xs n c x → n ≤ 256 → c ≤ 4096 → r ≡ next_of xs (log_at n c) x
logged_at xs n c x e h k = e ∙ logged_in n c h k xs x
