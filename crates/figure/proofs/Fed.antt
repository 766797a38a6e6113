-- Calls and a run to a time after them: they are one list of calls, and the run feeds the machine nothing.
use mathlib.Core.Path.{◌≡◌, refl, ap}
use mathlib.Core.Bool.{Bool, true, false, cond}
use mathlib.Core.List.{List, [], ◌∷◌, ◌++◌}
use Prim.Native.Nat.{ℕ, ◌+◌}
use lib.ListN.{length}
use Rattle.line.specs.declared.Event.{Event}
use Rattle.line.specs.Station.{Plan}
use Rattle.rules.specs.Demand.{Made, is_refused, post_in, posts, named_in, retracted, fed}
use Rattle.engine_promises.specs.Answers.{lowest_said, commit_said}
use Rattle.engine.specs.Session.{Chain, end, post, retract, run_station, run_lowest, commit, record_call}
use Rattle.engine_until.specs.Promises as W
use Rattle.engine_until.specs.Promises.{Works}

-- ---- the list of calls

pub works_chain : {xs os ys ps : List ℕ} {ms : List Made} → Works xs os ms ys ps → Chain xs ms ys
works_chain W.none = end
works_chain (W.run r a w) = run_lowest r a (works_chain w)
works_chain (W.commit c r a w) = commit r a (works_chain w)

pub chain_join : {xs ys zs : List ℕ} {ms ns : List Made} → Chain xs ms ys → Chain ys ns zs → Chain xs (ms ++ ns) zs
chain_join end d = d
chain_join (post r a c) d = post r a (chain_join c d)
chain_join (retract r a c) d = retract r a (chain_join c d)
chain_join (run_station r a c) d = run_station r a (chain_join c d)
chain_join (run_lowest r a c) d = run_lowest r a (chain_join c d)
chain_join (commit r a c) d = commit r a (chain_join c d)
chain_join (record_call r a c) d = record_call r a (chain_join c d)

-- ---- what it feeds

neither : {A : Type 0} (b : Bool) → cond {A = List A} b [] [] ≡ []
neither true = refl
neither false = refl

works_post_nothing : (p : Plan) (n : ℕ) {ms : List Made} {xs os ys ps : List ℕ} → Works xs os ms ys ps → posts p n ms ≡ []
unfolding posts post_in
works_post_nothing p n W.none = refl
works_post_nothing p n (W.run r a w) = rw (neither {A = Event} (is_refused (lowest_said r))) (works_post_nothing p (n + 0) w)
works_post_nothing p n (W.commit {ns = left} c r a w) = rw (neither {A = Event} (is_refused (commit_said r left))) (works_post_nothing p (n + 0) w)

works_retract_nothing : {ms : List Made} {xs os ys ps : List ℕ} → Works xs os ms ys ps → retracted ms ≡ []
unfolding retracted named_in
works_retract_nothing W.none = refl
works_retract_nothing (W.run r a w) = rw (neither {A = ℕ} (is_refused (lowest_said r))) (works_retract_nothing w)
works_retract_nothing (W.commit {ns = left} c r a w) = rw (neither {A = ℕ} (is_refused (commit_said r left))) (works_retract_nothing w)

module _ {ns : List Made} {xs os ys ps : List ℕ} (w : Works xs os ns ys ps) where
  same_posts : (p : Plan) (n : ℕ) (ms : List Made) → posts p n (ms ++ ns) ≡ posts p n ms
  unfolding posts
  same_posts p n [] = works_post_nothing p n w
  same_posts p n (m ∷ ms) =
      let xs : List Event = cond (is_refused m.said) [] (post_in p n m.asked) in
      ap (λ l. xs ++ l) (same_posts p (n + length xs) ms)

  same_retracted : (ms : List Made) → retracted (ms ++ ns) ≡ retracted ms
  unfolding retracted
  same_retracted [] = works_retract_nothing w
  same_retracted (m ∷ ms) = ap (λ l. cond (is_refused m.said) [] (named_in m.asked) ++ l) (same_retracted ms)

pub works_feed_nothing : (p : Plan) (ms ns : List Made) {xs os ys ps : List ℕ} → Works xs os ns ys ps → fed p (ms ++ ns) ≡ fed p ms
unfolding fed
works_feed_nothing p ms ns w = rw (same_retracted w ms, same_posts w p 0 ms)
