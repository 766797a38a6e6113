-- Calls after a commit at c change none of the posts before c: a new post is at or after the commit time, and so is a held one, which alone is retracted.
use mathlib.Core.Path.{◌≡◌, refl, sym, ap, ◌∙◌, subst}
use mathlib.Core.Logic.{◌≢◌, ◌⊎◌, inl, inr}
use mathlib.Core.Bool.{false, cond, ◌||◌}
use mathlib.Core.List.{List, [], ◌∷◌, ◌++◌, append-nil, append_assoc, Memᴰ}
use Prim.Native.Nat.{ℕ, ◌+◌, ◌≤◌, ◌<◌}
use native.Mathlib.Nat.{le_refl, le_trans}
use native.Mathlib.Omega.{arith}
use lib.ListN.{length}
use lib.Dec.{eqb}
use Rattle.line.specs.declared.Event.{Event}
use Rattle.line.specs.Event.{posted}
use Rattle.line.specs.Order.{All}
use Rattle.line.specs.Station.{Plan, InRange}
use Rattle.line.proofs.All.{all_map}
use Rattle.line.proofs.Members.{all_in}
use Rattle.line.proofs.Order.{Which, this, other, which}
use Rattle.rules.specs.Held.{some, held_post}
use Rattle.rules.specs.Engine.{Setting, Engine, opened, Call, Answer}
use Rattle.rules.specs.Calls.{post_of, with, Answers, refuse, post, retract, run, lowest, lowest_refused, commit, recorded}
use Rattle.rules.specs.Demand.{Made, Calls, end, next, is_refused, post_in, posts, named_in, retracted, among, without, fed, last_commit, log_in}
use Rattle.rules.proofs.Calls.Invariant.{Inv, opened_inv, Known, held_known, held_late, held_post_lem}
use Rattle.rules.proofs.Calls.Posts.{Numbered, without_append, without_snoc, without_numbered}
use Rattle.rules.proofs.Calls.Step.{post_passed, commit_passed, call_next}
use Rattle.tariff_records.specs.StarPosts.{earlier}
use Rattle.tariff_records.proofs.Earlier.{late_one, early_next, late_last}

-- ---- a number left out whose event is late

late_out : (c n : ℕ) (xs : List Event) → All (λ x. x.number ≡ n → c ≤ x.time) xs → earlier c (without (n ∷ []) xs) ≡ earlier c xs
unfolding without among
late_out c n [] a = refl
late_out c n (x ∷ xs) a = go (which x.number n) (late_out c n xs a.1)
  where
    go : Which x.number n → earlier c (without (n ∷ []) xs) ≡ earlier c xs
        → earlier c (cond (eqb x.number n || false) (without (n ∷ []) xs) (x ∷ without (n ∷ []) xs)) ≡ earlier c (x ∷ xs)
    go (this k e) ih = rw e (ih ∙ sym (late_one c x xs (a.0 k)))
    go (other _ e) ih = rw e (early_next c x (without (n ∷ []) xs) xs ih)

-- no other event has the number of x
number_late : (c : ℕ) (x : Event) (xs : List Event) → Memᴰ x xs → Numbered xs → c ≤ x.time → All (λ y. y.number ≡ x.number → c ≤ y.time) xs
number_late c x [] m d l = elim m [ ]
number_late c x (y ∷ xs) (Memᴰ.head q) d l =
    (λ _. subst (λ z. c ≤ z.time) q l, all_map (λ z n k. absurd (n (ap (λ (v : Event). v.number) (sym q) ∙ sym k))) xs d.0)
number_late c x (y ∷ xs) (Memᴰ.tail m) d l = (λ k. absurd (all_in (λ z. y.number ≢ z.number) m d.0 k), number_late c x xs m d.1 l)

-- ---- the posts that stand

-- those of ps without the numbers gone, and then those of the calls ms, numbered from n on
abbrev standing : Plan → ℕ → List Event → List ℕ → List Made → List Event
standing p n ps gone ms = without (gone ++ retracted ms) (ps ++ posts p n ms)

standing_end : (p : Plan) (n : ℕ) (ps : List Event) (gone : List ℕ) → standing p n ps gone [] ≡ without gone ps
unfolding posts retracted
standing_end p n ps gone = rw (append-nil ps, append-nil gone)

abbrev posts_of : Plan → ℕ → Made → List Event
posts_of p n m = cond (is_refused m.said) [] (post_in p n m.asked)

abbrev named_of : Made → List ℕ
named_of m = cond (is_refused m.said) [] (named_in m.asked)

standing_next : (p : Plan) (n : ℕ) (ps : List Event) (gone : List ℕ) (m : Made) (ms : List Made) {k : ℕ} → k ≡ n + length (posts_of p n m)
    → standing p n ps gone (m ∷ ms) ≡ standing p k (ps ++ posts_of p n m) (gone ++ named_of m) ms
unfolding posts retracted
standing_next p n ps gone m ms h = rw (append_assoc gone (named_of m) (retracted ms), append_assoc ps (posts_of p n m), h)

-- ---- one call

time_rises : {p : Plan} {e f : Engine} {asked : Call} {said : Answer} → Answers p e asked said f → e.now ≤ f.now
unfolding with
time_rises (refuse j) = le_refl _
time_rises (post j m d) = le_refl _
time_rises (retract j m d) = le_refl _
time_rises (run j m d) = le_refl _
time_rises (lowest l d) = time_rises d
time_rises (lowest_refused l d) = time_rises d
time_rises {p} (commit {e = e} {c = c} {output = output} j) = (commit_passed p e c output j).0
time_rises (recorded j) = le_refl _

module _ (p : Plan) (S : InRange p) (c : ℕ) where
  module _ (e : Engine) (ps : List Event) (gone log : List ℕ) (i : Inv p e ps gone log) (l : c ≤ e.now) where
    -- the post that a retract names
    named_late : (n : ℕ) (x : Event) → held_post n e.queue.held ≡ some x → All (λ y. y.number ≡ n → c ≤ y.time) (without gone ps)
    named_late n x k =
        subst (λ j. All (λ y. y.number ≡ j → c ≤ y.time) (without gone ps)) f.2
        (number_late c x (without gone ps) (mem f.0.1) (without_numbered gone ps i.numbered) (le_trans l late))
      where
        f : Known p S e ps gone log i x × (x.source ≡ posted) × (x.number ≡ n)
        f = held_post_lem (Known p S e ps gone log i) n e.queue.held x k (held_known p S e ps gone log i)

        late : e.now ≤ x.time
        late = (held_post_lem (λ y. e.now ≤ y.time) n e.queue.held x k (held_late p S e ps gone log i)).0

        mem : (x.source < p.count) ⊎ Memᴰ x (without gone ps) → Memᴰ x (without gone ps)
        mem (inl h) = absurd (omega (arith, h, f.1, S.most))
        mem (inr m) = m

  -- what a call adds and takes out is at or after c
  call_stands : {e f : Engine} {asked : Call} {said : Answer} (ps : List Event) (gone log : List ℕ) → Inv p e ps gone log → c ≤ e.now
      → Answers p e asked said f
      → earlier c (without (gone ++ cond (is_refused said) [] (named_in asked)) (ps ++ cond (is_refused said) [] (post_in p e.next asked)))
      ≡ earlier c (without gone ps)
  unfolding post_in named_in post_of
  call_stands ps gone log i l (refuse j) = rw (append-nil ps, append-nil gone)
  call_stands ps gone log i l (post {e = e} {s = s} {t = t} {kind = kind} {value = value} {m = m} j k d) =
      let x : Event = post_of e.next s t m in
      rw (k, append-nil gone)
      (ap (earlier c) (without_snoc gone ps x i.passed) ∙ late_last c (without gone ps) x (le_trans l (post_passed p e s t kind value j).2))
  call_stands ps gone log i l (retract {e = e} {n = n} {x = x} j k d) =
      rw (append-nil ps) (ap (earlier c) (without_append gone (n ∷ []) ps) ∙ late_out c n (without gone ps) (named_late e ps gone log i l n x k))
  call_stands ps gone log i l (run j k d) = rw (append-nil ps, append-nil gone)
  call_stands ps gone log i l (lowest k d) = rw (append-nil ps, append-nil gone)
  call_stands ps gone log i l (lowest_refused k d) = rw (append-nil ps, append-nil gone)
  call_stands ps gone log i l (commit j) = rw (append-nil ps, append-nil gone)
  call_stands ps gone log i l (recorded j) = rw (append-nil ps, append-nil gone)

  later_stand : {e f : Engine} {ms : List Made} (ps : List Event) (gone log : List ℕ) → Inv p e ps gone log → c ≤ e.now → Calls p e ms f
      → earlier c (standing p e.next ps gone ms) ≡ earlier c (without gone ps)
  later_stand ps gone log i l (end {e = e}) = ap (earlier c) (standing_end p e.next ps gone)
  later_stand ps gone log i l (next {e = e} {m = m} {ms = ms} d k) =
      let n = call_next p S ps gone log d i in
      ap (earlier c) (standing_next p e.next ps gone m ms n.number)
      ∙ later_stand (ps ++ posts_of p e.next m) (gone ++ named_of m) (log ++ log_in m.said) n.inv (le_trans l (time_rises d)) k
      ∙ call_stands ps gone log i l d

-- ---- behind the first calls bs

module _ (p : Plan) (S : InRange p) where
  abbrev Same : ℕ → ℕ → List Event → List ℕ → List Made → List Made → Type 0
  Same now n ps gone bs ms = earlier (last_commit now bs) (standing p n ps gone (bs ++ ms)) ≡ earlier (last_commit now bs) (standing p n ps gone bs)

  same_posts : {e f : Engine} (bs ms : List Made) (ps : List Event) (gone log : List ℕ) → Inv p e ps gone log → Calls p e (bs ++ ms) f
      → Same e.now e.next ps gone bs ms
  unfolding last_commit
  same_posts {e} [] ms ps gone log i k =
      later_stand p S e.now ps gone log i (le_refl _) k ∙ sym (ap (earlier e.now) (standing_end p e.next ps gone))
  same_posts (b ∷ bs) ms ps gone log i (next {e = e} d k) =
      let n = call_next p S ps gone log d i in
      let ih = same_posts bs ms (ps ++ posts_of p e.next b) (gone ++ named_of b) (log ++ log_in b.said) n.inv k in
      rw (standing_next p e.next ps gone b (bs ++ ms) n.number, standing_next p e.next ps gone b bs n.number, sym n.time) ih

  pub first_posts : (setting : Setting) (bs ms : List Made) {f : Engine} → Calls p (opened p setting) (bs ++ ms) f
      → earlier (last_commit 0 bs) (fed p (bs ++ ms)) ≡ earlier (last_commit 0 bs) (fed p bs)
  unfolding fed opened
  first_posts setting bs ms k = same_posts bs ms [] [] [] (opened_inv p setting) k
