-- Lists of calls joined: what they do to the buffer and the output, where their last commit is, and how they end.
use mathlib.Core.Path.{◌≡◌, refl, sym, ◌∙◌, ap, subst}
use mathlib.Core.Bool.{cond}
use mathlib.Core.List.{List, [], ◌∷◌, ◌++◌, append_assoc}
use mathlib.Core.Logic.{inl, inr}
use Prim.Native.Nat.{ℕ}
use Rattle.rules.specs.Engine.{RunLowest, Commit, Refused, Committed}
use Rattle.rules.specs.Demand.{Made, last_commit, time_in, is_refused}
use Rattle.engine.specs.Session.{made}
use Rattle.engine_until.specs.Promises.{Works, none, run, commit, Reaches, Met, EndsBusy}

pub works_join : {xs ys zs os ps qs : List ℕ} {ms ns : List Made} → Works xs os ms ys ps → Works ys ps ns zs qs → Works xs os (ms ++ ns) zs qs
works_join none v = v
works_join (run r a u) v = run r a (works_join u v)
works_join (commit c r a u) v = commit c r a (works_join u v)

-- ---- the last commit

pub last_join : (now : ℕ) (ms ns : List Made) → last_commit now (ms ++ ns) ≡ last_commit (last_commit now ms) ns
unfolding last_commit
last_join now [] ns = refl
last_join now (m ∷ ms) ns = last_join (cond (is_refused m.said) now (time_in now m.asked)) ms ns

pub reach_join : {c : ℕ} (ms ns : List Made) → Reaches c ns → Reaches c (ms ++ ns)
reach_join ms ns r now = last_join now ms ns ∙ r (last_commit now ms)

pub reach_commit : (c n : ℕ) (output left : List ℕ) → Reaches c (made (Commit c output) (Committed n left) ∷ [])
unfolding last_commit time_in
reach_commit c n output left now = refl

-- ---- a number that was met

pub met_first : (n : ℕ) (ms ns : List Made) → Met n ms → Met n (ms ++ ns)
met_first n [] ns m = absurd m
met_first n (x ∷ ms) ns (inl e) = inl e
met_first n (x ∷ ms) ns (inr m) = inr (met_first n ms ns m)

pub met_last : (n : ℕ) (ms ns : List Made) → Met n ns → Met n (ms ++ ns)
met_last n [] ns m = m
met_last n (x ∷ ms) ns m = inr (met_last n ms ns m)

-- ---- busy

pub busy_join : {t : ℕ} {xs ys os ps : List ℕ} (ms ns : List Made) → Works xs os ms ys ps → EndsBusy t ys ps ns → EndsBusy t xs os (ms ++ ns)
busy_join {t} {xs} {os = os} ms ns w b = record {
  before = ms ++ b.before;
  full = b.full;
  output = b.output;
  works =
      subst (λ l. Works xs os l b.full b.output) (sym (append_assoc ms b.before (made RunLowest (Refused 17) ∷ []))) (works_join w b.works);
  station = b.station;
  least = b.least;
  left = b.left;
  ends =
      let ends : List Made = made RunLowest (Refused 17) ∷ made (Commit t b.output) (Committed 0 b.left) ∷ [] in
      ap (λ l. ms ++ l) b.ends ∙ rw (append_assoc ms b.before ends);
}
