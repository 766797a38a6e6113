-- A post is judged: each number refuses what the rules say, in their order, and else the event is the post's.
use mathlib.Core.Path.{◌≡◌, sym, ap, ◌∙◌, subst}
use mathlib.Core.Bool.{true, false}
use mathlib.Core.List.{List}
use Prim.Native.Nat.{ℕ, ◌≤◌, ◌<◌}
use native.Mathlib.Omega.{arith}
use borrow.Author.Tests.{leb-true, leb-false}
use lib.ListN.{length}
use Rattle.std.specs.Prelude.{[], ◌∷◌, Ok, Err}
use Rattle.words.specs.Le.{load_at}
use Rattle.refusal.specs.Tests.{horizon, refused, says, or_next, judged}
use Rattle.refusal.specs.declared.Refusal.{Refusal}
use Rattle.refusal.specs.Numbers.{number_of}
use Rattle.line.specs.declared.Matter.{Matter}
use Rattle.line.specs.Event.{posted}
use Rattle.line.specs.Matter.{matter_of, meant_says, unsuited}
use Rattle.line.specs.Station.{Plan}
use Rattle.rules.specs.Engine.{Engine, Post}
use Rattle.rules.specs.Calls.{post_of}
use Rattle.engine_rollback.proofs.Cells.{held_length}
use Rattle.engine_promises.specs.Represents.{Represents}
use Rattle.engine_promises.specs.Steps.{at_most, JudgesCall, Full}
use Rattle.engine_promises.proofs.Header.{fits_read}
use Rattle.engine_promises.proofs.Refused.{judges_refusal}
use Rattle.engine_promises.proofs.PostRunChecks.{post_9, post_10, post_11, post_12, post_16, post_17, post_accepted}
use Rattle.engine_posting.specs.declared.NewPost.{NewPost}
use Rattle.engine_posting.specs.Steps.{JudgesPost}

module _ {xs : List ℕ} {n c : ℕ} (S : n ≡ at_most 256 (load_at 8 0 xs)) (K : c ≡ at_most 4096 (load_at 8 8 xs)) (s t kind value : ℕ) where
  stations_are : {p : Plan} {e : Engine} → Represents p e xs → p.count ≡ n
  stations_are R = (fits_read R S K).0

  capacity_is : {p : Plan} {e : Engine} → Represents p e xs → e.setting.capacity ≡ c
  capacity_is R = (fits_read R S K).1

  pub station_out : n ≤ s → JudgesCall (Post s t kind value) (refused 9) xs
  station_out h = record { says = λ p e R. post_9 p e s t kind value (omega (arith, stations_are R)) }

  module _ (h : s < n) where
    matter_unsuited : (r : Refusal) → matter_of n kind value ≡ Err r → JudgesCall (Post s t kind value) (refused 10) xs
    matter_unsuited r k =
        record { says = λ p e R. post_10 p e s t kind value (omega (arith, stations_are R)) r (rw (stations_are R) k) }

    pub matter_refused : {e : Refusal} → Err e ≡ matter_of n kind value → meant_says (Err e) ≡ judged (says 10 (unsuited (matter_of n kind value)) ∷ [])
        → JudgesPost s t kind value xs (Err e)
    unfolding judged or_next
    matter_refused {e} k j =
        let q : refused (number_of e) ≡ refused 10 = j ∙ ap (λ a. judged (says 10 (unsuited a) ∷ [])) (sym k) in
        judges_refusal (Post s t kind value) e (subst (λ v. JudgesCall (Post s t kind value) v xs) (sym q) (matter_unsuited e (sym k)))

    module _ (m : Matter) (k : matter_of n kind value ≡ Ok m) where
      pub time_late : horizon < t → JudgesCall (Post s t kind value) (refused 11) xs
      time_late l =
          record { says = λ p e R. post_11 p e s t kind value (omega (arith, stations_are R)) m (rw (stations_are R) k) l }

      module _ (l : t ≤ horizon) {now : ℕ} (i : now ≡ load_at 8 16 xs) where
        pub time_early : t < now → JudgesCall (Post s t kind value) (refused 12) xs
        time_early w =
            record { says = λ p e R. post_12 p e s t kind value (omega (arith, stations_are R)) m (rw (stations_are R) k) l (omega (arith, i, R.now)) }

        module _ (w : now ≤ t) {number : ℕ} (j : number ≡ load_at 8 24 xs) where
          pub number_over : 4294967295 < number → JudgesCall (Post s t kind value) (refused 16) xs
          number_over z =
              record {
                says = λ p e R.
                    post_16 p e s t kind value (omega (arith, stations_are R)) m (rw (stations_are R) k) l (omega (arith, i, R.now)) (omega (arith, j, R.next));
              }

          module _ (z : number ≤ 4294967295) where
            pub none_free : Full n c xs true → JudgesCall (Post s t kind value) (refused 17) xs
            none_free f =
                record {
                  says = λ p e R.
                      let a = stations_are R in
                      let b = capacity_is R in
                      let g : Full p.count e.setting.capacity xs true = rw (a, b) f in
                      let y = leb-true e.setting.capacity (length R.cells) (sym (g p e.setting e.now e.queue R.cells R.holds)) in
                      post_17 p e s t kind value (omega arith) m (rw a k) l (omega (arith, i, R.now)) (omega (arith, j, R.next))
                      (omega (arith, y, held_length R.cells, ap length R.holds.stores.held));
                }

            pub post_judged : Full n c xs false → JudgesPost s t kind value xs (Ok (record { n = n; c = c; event = record { time = t; target = s; source = posted; number = number; matter = m } }))
            unfolding post_of
            post_judged f = record {
              number = record {
                says = λ p e R.
                    let a = stations_are R in
                    let b = capacity_is R in
                    let g : Full p.count e.setting.capacity xs false = rw (a, b) f in
                    let y = leb-false e.setting.capacity (length R.cells) (sym (g p e.setting e.now e.queue R.cells R.holds)) in
                    post_accepted p e s t kind value (omega arith) m (rw a k) l (omega (arith, i, R.now)) (omega (arith, j, R.next))
                    (omega (arith, y, held_length R.cells, ap length R.holds.stores.held));
              };
              found = λ f' q p e R.
                  let z : ◌≡◌ {A = NewPost} (record { n = n; c = c; event = record { time = t; target = s; source = posted; number = number; matter = m } }) f' = cc in
                  rw (← z)
                  (record {
                    stations = stations_are R;
                    capacity = capacity_is R;
                    matter = m;
                    means = rw (stations_are R) k;
                    is = ap (λ (v : ℕ). record { time = t; target = s; source = posted; number = v; matter = m }) (j ∙ R.next);
                  });
            }
