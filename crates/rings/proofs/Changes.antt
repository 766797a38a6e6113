-- Rings over any reading of the links: what an insertion and a removal make of a ring, and which rings a change leaves as they were.
-- nx, pv are the links before the change, nx', pv' those after it.
use mathlib.Core.Path.{◌≡◌, refl, ◌∙◌, sym, subst}
use mathlib.Core.List.{List, [], ◌∷◌, ◌++◌, append_assoc}
use Prim.Native.Nat.{ℕ, ◌+◌, ◌<◌, ◌≤◌}
use native.Mathlib.Decide.{ℕ_discrete}
use native.Mathlib.Omega.{arith}
use Rattle.rings.specs.Ring.{hit, occurs, last_of, head_of, Run, Ring}
use Rattle.rings.proofs.Counts.{hit_same, hit_ne, other, occurs_append, occurs_last, under}
use Rattle.rings.proofs.Runs.{run_join}
use Rattle.rings.proofs.Places.{parted}
use Rattle.rings.proofs.Links.{Only, Linked, Bridged}

-- ---- a ring that the change does not meet

module _ {nx pv nx' pv' : ℕ → ℕ} {a b x : ℕ} (only : Only nx pv nx' pv' a b x) where
  -- the part up to a
  keep_left : (s : ℕ) (ys : List ℕ) → last_of s ys ≡ a → occurs a (s ∷ ys) ≤ 1 → occurs x (s ∷ ys) ≡ 0 → occurs b ys ≡ 0
      → Run nx pv s ys → Run nx' pv' s ys
  keep_left s [] e o m k r = tt
  keep_left s (y ∷ ys) e o m k r =
      let l : 1 ≤ occurs a (y ∷ ys) = subst (λ j. 1 ≤ occurs j (y ∷ ys)) e (occurs_last y ys) in (
        only.nexts s (other (omega arith)) (other (omega arith)) ∙ r.0,
        only.prevs y (other (omega arith)) (other (omega arith)) ∙ r.1,
        keep_left y ys e (omega arith) (omega arith) (omega arith) r.2,
      )

  -- a part that does not pass a
  keep_right : (c : ℕ) (zs : List ℕ) (e : ℕ) → occurs a (c ∷ zs) ≡ 0 → occurs x (c ∷ zs) ≡ 0 → hit x e ≡ 0
      → occurs b zs + hit b e ≡ 0 → Run nx pv c (zs ++ e ∷ []) → Run nx' pv' c (zs ++ e ∷ [])
  keep_right c [] e o m xe k r =
      (only.nexts c (other (omega arith)) (other (omega arith)) ∙ r.0, only.prevs e (other (omega arith)) (other xe) ∙ r.1, tt)
  keep_right c (z ∷ zs) e o m xe k r = (
    only.nexts c (other (omega arith)) (other (omega arith)) ∙ r.0,
    only.prevs z (other (omega arith)) (other (omega arith)) ∙ r.1,
    keep_right z zs e (omega arith) (omega arith) xe (omega arith) r.2,
  )

  pub ring_apart : {n s : ℕ} {xs : List ℕ} → occurs a (s ∷ xs) ≡ 0 → occurs b (s ∷ xs) ≡ 0 → occurs x (s ∷ xs) ≡ 0
      → Ring nx pv n s xs → Ring nx' pv' n s xs
  ring_apart {n} {s} {xs} ha hb hx R =
      record {
        run = keep_right s xs s ha hx (omega arith) (omega arith) R.run;
        once = R.once;
        within = R.within;
      }

-- a ring needs the links of nodes below n alone
module _ {nx pv nx' pv' : ℕ → ℕ} {n : ℕ} (nexts : (u : ℕ) → u < n → nx' u ≡ nx u) (prevs : (u : ℕ) → u < n → pv' u ≡ pv u) where
  run_same : (a : ℕ) (xs : List ℕ) → ((i : ℕ) → n ≤ i → occurs i (a ∷ xs) ≡ 0) → Run nx pv a xs → Run nx' pv' a xs
  run_same a [] w r = tt
  run_same a (x ∷ xs) w r = (
    nexts a (under n (a ∷ x ∷ xs) w a (omega (arith, hit_same a))) ∙ r.0,
    prevs x (under n (a ∷ x ∷ xs) w x (omega (arith, hit_same x))) ∙ r.1,
    run_same x xs (λ i h. omega (arith, w i h)) r.2,
  )

  pub ring_same : {s : ℕ} {xs : List ℕ} → Ring nx pv n s xs → Ring nx' pv' n s xs
  ring_same {s} {xs} R =
      record {
        run = run_same s (xs ++ s ∷ []) (λ i h. omega (arith, R.within i h, occurs_append i xs (s ∷ []))) R.run;
        once = R.once;
        within = R.within;
      }

-- ---- the ring that is changed

-- the parts before and after the place stay as they were, and the part after it may have a new node q before it
module _ {nx pv nx' pv' : ℕ → ℕ} (s : ℕ) (ys : List ℕ) (x : ℕ) where
  seam : (zs : List ℕ) → Only nx pv nx' pv' (last_of s ys) (head_of zs s) x → ((i : ℕ) → occurs i (s ∷ ys ++ zs) ≤ 1) → occurs x (s ∷ ys ++ zs) ≡ 0
      → (p q : ℕ) → nx' q ≡ head_of zs s → pv' (head_of zs s) ≡ q
      → Run nx pv s ys → Run nx pv p (zs ++ s ∷ []) → Run nx' pv' s ys × Run nx' pv' q (zs ++ s ∷ [])
  seam [] only once out p q en ep l r = (
    keep_left only s ys refl
        (omega (arith, once (last_of s ys), occurs_append (last_of s ys) ys []))
        (omega (arith, occurs_append x ys []))
        (omega (arith, once s, hit_same s, occurs_append s ys [])) l,
    (en, ep, tt),
  )
  seam (z ∷ zs) only once out p q en ep l r = (
    keep_left only s ys refl
        (omega (arith, once (last_of s ys), occurs_append (last_of s ys) ys (z ∷ zs)))
        (omega (arith, occurs_append x ys (z ∷ zs)))
        (omega (arith, once z, hit_same z, occurs_append z ys (z ∷ zs))) l,
    (
      en,
      ep,
      keep_right only z zs s
          (omega (arith, once (last_of s ys), occurs_last s ys, occurs_append (last_of s ys) ys (z ∷ zs)))
          (omega (arith, occurs_append x ys (z ∷ zs)))
          (omega (arith, occurs_append x ys (z ∷ zs)))
          (omega (arith, once z, hit_same z, occurs_append z ys (z ∷ zs))) r.2,
    ),
  )

module _ {nx pv nx' pv' : ℕ → ℕ} {n s : ℕ} (ys zs : List ℕ) (x : ℕ) where
  pub inserted : Linked nx pv nx' pv' (last_of s ys) (head_of zs s) x → occurs x (s ∷ ys ++ zs) ≡ 0 → x < n
      → Ring nx pv n s (ys ++ zs) → Ring nx' pv' n s (ys ++ x ∷ zs)
  inserted L out hx R =
      let r = parted ys zs R in
      let m = seam s ys x zs L.only R.once out (last_of s ys) x L.out_x L.into_b r.0 r.1 in
      record {
        run = rw append_assoc (run_join nx' pv' s ys (x ∷ zs ++ s ∷ []) m.0 (L.out_a, L.into_x, m.1));
        once = λ i. one i (ℕ_discrete i x);
        within = λ i h. omega (arith, R.within i h, hit_ne i x (omega arith), occurs_append i ys zs, occurs_append i ys (x ∷ zs));
      }
    where
      one : (i : ℕ) → Dec (i ≡ x) → occurs i (s ∷ ys ++ x ∷ zs) ≤ 1
      one i (yes e) =
          let same : occurs x (s ∷ ys ++ x ∷ zs) ≤ 1 = omega (arith, hit_same x, occurs_append x ys zs, occurs_append x ys (x ∷ zs)) in
          subst (λ j. occurs j (s ∷ ys ++ x ∷ zs) ≤ 1) (sym e) same
      one i (no f) = omega (arith, R.once i, hit_ne i x f, occurs_append i ys zs, occurs_append i ys (x ∷ zs))

  pub removed : Bridged nx pv nx' pv' (last_of s ys) (head_of zs s) x → Ring nx pv n s (ys ++ x ∷ zs) → Ring nx' pv' n s (ys ++ zs)
  removed B R =
      let r = parted ys (x ∷ zs) R in
      let once : (i : ℕ) → occurs i (s ∷ ys ++ zs) ≤ 1 =
      λ i. omega (arith, R.once i, occurs_append i ys zs, occurs_append i ys (x ∷ zs)) in
      let out : occurs x (s ∷ ys ++ zs) ≡ 0 = omega (arith, R.once x, hit_same x, occurs_append x ys zs, occurs_append x ys (x ∷ zs)) in
      let m = seam s ys x zs B.only once out x (last_of s ys) B.out_a B.into_b r.0 r.1.2 in
      record {
        run = rw append_assoc (run_join nx' pv' s ys (zs ++ s ∷ []) m.0 m.1);
        once = once;
        within = λ i h. omega (arith, R.within i h, occurs_append i ys zs, occurs_append i ys (x ∷ zs));
      }
