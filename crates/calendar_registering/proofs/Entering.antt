-- A station that is taken or put leaves a calendar in which only its due number is changed.
use mathlib.Core.Path.{◌≡◌, refl, sym, ap, ◌∙◌, subst}
use mathlib.Core.Logic.{◌⊎◌, inl, inr}
use mathlib.Core.List.{List}
use Prim.Native.Nat.{ℕ, suc, ◌+◌, ◌-◌, ◌≤◌, ◌<◌}
use native.Mathlib.Omega.{arith}
use Rattle.calendar_cells.specs.Table.{arity_of, due_of, bucket_of, Due}
use Rattle.calendar_buckets.specs.Promises.{bucket_for, Kept, Changed, Gone, Placed}
use Rattle.calendar_buckets.proofs.Takes.{kept_same}
use Rattle.words.proofs.Cases.{eq_or}
use Rattle.calendar_ring.specs.Ring.{leaf_for}
use Rattle.calendar_header.specs.Bytes.{width_of, floor_of, limit_of, count_of, home_of, SoundAt, time_for, times_from, state_of}
use Rattle.calendar_registering.specs.Steps.{Entered}
use lib.ListN.{set}
use Rattle.calendar_header.specs.Rules.{with_time}
use Rattle.calendar_header.proofs.Times.{times_set}
use Rattle.calendar_header.proofs.Kept.{kept_header, kept_home}

-- ---- one station changed

module _ {a : ℕ} (xs ys : List ℕ) (S : SoundAt a xs) (K : Kept xs ys) (s : ℕ) (C : Changed a s xs ys) where
  -- the calendar is sound where the changed station is
  module _
      (counted : count_of xs ≤ s → due_of ys s ≡ 0) (later : Due ys s → floor_of xs < due_of ys s)
      (home : Due ys s → bucket_of ys s ≡ bucket_for a (leaf_for a (width_of xs) (limit_of xs) (due_of ys s - 1)) s)
    where
      absent_in : (x : ℕ) → x < 256 → count_of xs ≤ x → (x ≡ s) ⊎ (x ≡ s → ⊥) → due_of ys x ≡ 0
      absent_in x l h (inl e) = ap (due_of ys) e ∙ counted (subst (λ (y : ℕ). count_of xs ≤ y) e h)
      absent_in x l h (inr e) = C.dues x l e ∙ S.absent x l h

      since_in : (x : ℕ) → x < 256 → Due ys x → (x ≡ s) ⊎ (x ≡ s → ⊥) → floor_of xs < due_of ys x
      since_in x l r (inl e) = subst (λ (y : ℕ). floor_of xs < due_of ys y) (sym e) (later (λ z. r (ap (due_of ys) e ∙ z)))
      since_in x l r (inr e) = rw (C.dues x l e) (S.since x l (λ z. r (C.dues x l e ∙ z)))

      home_in : (x : ℕ) → x < 256 → Due ys x → (x ≡ s) ⊎ (x ≡ s → ⊥) → bucket_of ys x ≡ home_of a ys x
      home_in x l r (inl e) =
          ap (bucket_of ys) e ∙ home (λ z. r (ap (due_of ys) e ∙ z)) ∙ sym (kept_home a xs ys K (due_of ys s) s) ∙ ap (home_of a ys) (sym e)
      home_in x l r (inr e) =
          C.buckets x l e ∙ S.homes x l (λ z. r (C.dues x l e ∙ z))
          ∙ ap (λ (d : ℕ). bucket_for a (leaf_for a (width_of xs) (limit_of xs) (d - 1)) x) (sym (C.dues x l e))
          ∙ sym (kept_home a xs ys K (due_of ys x) x)

      sound_changed : SoundAt a ys
      sound_changed = record {
        long = rw K.size S.long;
        header = kept_header a xs ys K S.header;
        table = C.table;
        absent = λ x l h. absent_in x l (subst (λ (y : ℕ). y ≤ x) (K.words 6 (omega arith)) h) (eq_or x s);
        since = λ x l r. rw (K.words 1 (omega arith)) (since_in x l r (eq_or x s));
        homes = λ x l r. home_in x l r (eq_or x s);
      }

-- ---- the steps

module _ {a : ℕ} (xs ys : List ℕ) (S : SoundAt a xs) (K : Kept xs ys) (s : ℕ) where
  -- a station that is gone
  pub entered_gone : Gone a s xs ys → Entered a s 0 xs ys
  entered_gone G = record {
    sound = sound_changed xs ys S K s G.changed (λ _. G.due_is) (λ r. absurd (r G.due_is)) (λ r. absurd (r G.due_is));
    kept = K;
    due_is = G.due_is;
    dues = G.changed.dues;
  }

  -- a station that is put into the bucket of its time
  pub entered_placed : (t l : ℕ) → s < count_of xs → floor_of xs ≤ t → l ≡ leaf_for a (width_of xs) (limit_of xs) t → Placed a s (t + 1) (bucket_for a l s) xs ys
      → Entered a s (suc t) xs ys
  entered_placed t l ls lf el P =
      let d : due_of ys s ≡ suc t = P.due_is ∙ omega arith in
      let back : due_of ys s - 1 ≡ t = omega arith in
      record {
        sound = sound_changed xs ys S K s P.changed (λ h. absurd (omega arith)) (λ r. omega arith)
            (λ r. P.bucket_is ∙ ap (λ (u : ℕ). bucket_for a u s) (el ∙ ap (leaf_for a (width_of xs) (limit_of xs)) (sym back)));
        kept = K;
        due_is = d;
        dues = P.changed.dues;
      }

-- a station that has that due number already
pub entered_already : {a : ℕ} (xs : List ℕ) (s d : ℕ) → SoundAt a xs → due_of xs s ≡ d → Entered a s d xs xs
entered_already xs s d S e = record { sound = S; kept = kept_same xs; due_is = e; dues = λ x l ne. refl }

-- ---- the state

module _ {a : ℕ} (xs ys : List ℕ) (S : SoundAt a xs) where
  pub state_entered : (s d : ℕ) → s < count_of xs → Entered a s d xs ys → state_of ys ≡ with_time (state_of xs) s (time_for d)
  unfolding state_of
  state_entered s d l E =
      let a : arity_of ys ≡ arity_of xs = sym E.sound.table.arity_is ∙ S.table.arity_is in
      let w : width_of ys ≡ width_of xs = E.kept.words 0 (omega arith) in
      let f : floor_of ys ≡ floor_of xs = E.kept.words 1 (omega arith) in
      let n : count_of ys ≡ count_of xs = E.kept.words 6 (omega arith) in
      let t : times_from (due_of ys) 0 (count_of ys) ≡ set (times_from (due_of xs) 0 (count_of xs)) s (time_for d) =
      ap (times_from (due_of ys) 0) n
      ∙ times_set (due_of xs) (due_of ys) (count_of xs) s d l E.due_is (λ x lx ne. E.dues x (omega (arith, S.header.count_most)) ne) in
      λ i. record { arity = a i; width = w i; floor = f i; times = t i }
