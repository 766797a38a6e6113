-- What `lowest` answers for the first station.
use mathlib.Core.Path.{◌≡◌, refl, sym, ap, ◌∙◌, subst}
use mathlib.Core.Bool.{Bool, true, false}
use mathlib.Core.Logic.{◌⊎◌, inl, inr}
use mathlib.Core.Option.{none, some}
use mathlib.Core.List.{List}
use Prim.Native.Nat.{ℕ, suc, ◌+◌, ◌-◌, ◌*◌, ◌≤◌, ◌<◌}
use native.Mathlib.Omega.{arith}
use lib.ListN.{get_or}
use Rattle.refusal.specs.declared.Refusal.TheVariants.{Idle}
use Rattle.refusal.specs.Tests.{accepted, refused, or_next, judged}
use Rattle.refusal.proofs.CheckingOrder.{not_both}
use Rattle.calendar_cells.specs.Lists.{rank_of}
use Rattle.calendar_cells.specs.Table.{arity_of, due_of}
use Rattle.calendar_cells.proofs.Places.{rank_station}
use Rattle.words.proofs.Cases.{lt_or}
use Rattle.calendar_ring.specs.Ring.{block_of, ring_end}
use Rattle.calendar_ring.specs.WordsRead.{words_read}
use Rattle.calendar_ring.proofs.WordLaws.{words_ring, words_over}
use Rattle.std.specs.Prelude.{None, Ok, Err}
use Rattle.calendar_answers.specs.declared.Least.{Least}
use Rattle.calendar_header.specs.Rules.{none_registered, lowest_checks, LeastAt, words_of}
use Rattle.calendar_header.specs.Bytes.{width_of, floor_of, limit_of, count_of, Sound, times_from, state_of}
use Rattle.calendar_header.specs.Promises.{Names}
use Rattle.calendar_naming.specs.Steps.{FirstAt, FirstOf}
use Rattle.calendar_header.proofs.Homes.{arity_pos}
use Rattle.calendar_header.proofs.Tests.{none_false}
use Rattle.calendar_header.proofs.States.{time_at, time_of, none_due}

-- ---- the verdict

idle : (xs : List ℕ) → none_registered (state_of xs).times ≡ true → refused 14 ≡ judged (lowest_checks (state_of xs))
unfolding judged or_next
idle xs h = rw h

busy : (xs : List ℕ) → none_registered (state_of xs).times ≡ false → accepted ≡ judged (lowest_checks (state_of xs))
unfolding judged or_next
busy xs h = rw h

-- a refusal says that nothing is registered
pub refused_idle : (xs : List ℕ) (n : ℕ) → refused n ≡ judged (lowest_checks (state_of xs)) → none_registered (state_of xs).times ≡ true
unfolding judged or_next
refused_idle xs n e = go (none_registered (state_of xs).times) refl
  where
    go : (b : Bool) → none_registered (state_of xs).times ≡ b → b ≡ true
    go true q = refl
    go false q = absurd (not_both (sym (busy xs q)) (sym e))

-- ---- lowest

names_none : (xs : List ℕ) → (Sound xs → none_registered (state_of xs).times ≡ true) → Names xs (Err Idle)
names_none xs h = record { idle = refl; station = tt; most = tt; answer = λ S. idle xs (h S); least = λ S. tt; words = λ S. tt }

-- no station is registered
pub names_idle : (xs : List ℕ) (words : ℕ) → (Sound xs → FirstOf (arity_of xs) xs None words) → Names xs (Err Idle)
names_idle xs words F = names_none xs (λ S. none_due xs S (F S))

module _ (xs : List ℕ) (h words : ℕ) (F : Sound xs → FirstAt xs (arity_of xs) h words) (lh : h < 256) (d : ℕ) (due_is : d ≡ due_of xs h) where
  -- on a calendar's bytes the first station is registered
  pub names_lost : d ≡ 0 → Names xs (Err Idle)
  names_lost z = names_none xs (λ S. absurd ((F S).due (sym due_is ∙ z)))

  pub names_at : words ≤ 17 → (d ≡ 0 → ⊥) → Names xs (Ok (record { station = h; time = d - 1; words = words }))
  unfolding state_of
  names_at lw dz = record {
    idle = tt;
    station = lh;
    most = lw;
    answer = λ S. busy xs (none_false (state_of xs).times h (d - 1) (has S));
    least = leads;
    words = count;
  }
    where
      has : Sound xs → get_or (state_of xs).times h none ≡ some (d - 1)
      has S = time_at xs S h lh (λ z. dz (due_is ∙ z)) ∙ ap (λ (y : ℕ). some (y - 1)) (sym due_is)

      leads : Sound xs → LeastAt (state_of xs).times h (d - 1)
      leads S = record {
        has = has S;
        least = λ x u e. omega (arith, ranked x u e, (time_of xs S x u e).1);
        first = λ x e. omega (arith, ranked x (d - 1) e);
      }
        where
          -- no registered station is before it by time and number
          ranked : (x u : ℕ) → get_or (state_of xs).times x none ≡ some u → (d - 1) * 256 + h ≤ u * 256 + x
          ranked x u e =
              let k = time_of xs S x u e in
              let r : rank_of (due_of xs) h ≤ rank_of (due_of xs) x = (F S).least x k.1 (λ z. absurd (omega (arith, k.2))) in
              omega (arith, due_is, k.2, rank_station (due_of xs) h lh, rank_station (due_of xs) x k.1)

      -- the count is that of the least time
      count : Sound xs → words ≡ words_of (state_of xs)
      count S = go (lt_or (d - 1) (limit_of xs))
        where
          L : LeastAt (state_of xs).times h (d - 1)
          L = leads S

          up : floor_of xs ≤ d - 1
          up = omega (arith, due_is, S.since h lh (λ z. dz (due_is ∙ z)))

          end : limit_of xs ≡ ring_end (arity_of xs) (width_of xs) (floor_of xs)
          end = S.header.limit_is

          go : (d - 1 < limit_of xs) ⊎ (limit_of xs ≤ d - 1) → words ≡ words_read (arity_of xs) (width_of xs) (floor_of xs) (times_from (due_of xs) 0 (count_of xs))
          go (inl l) =
              (F S).ring (subst (λ (y : ℕ). y - 1 < limit_of xs) due_is l)
              ∙ ap (λ (y : ℕ). block_of (arity_of xs) (width_of xs) (y - 1) - block_of (arity_of xs) (width_of xs) (floor_of xs) + 2) (sym due_is)
              ∙ sym (words_ring (arity_of xs) (width_of xs) (floor_of xs) (arity_pos xs S) S.header.width_pos _ h (d - 1) L.has L.least up
              (subst (λ (y : ℕ). d - 1 < y) end l))
          go (inr l) =
              (F S).over (subst (λ (y : ℕ). limit_of xs ≤ y - 1) due_is l)
              ∙ sym (words_over (arity_of xs) (width_of xs) (floor_of xs) (arity_pos xs S) S.header.width_pos _ h (d - 1) L.has L.least up
              (subst (λ (y : ℕ). y ≤ d - 1) end l))
