-- Accepted posts as a list of calls: what they feed the machine.
use mathlib.Core.Path.{◌≡◌, refl, sym, ap, ◌∙◌}
use mathlib.Core.Bool.{Bool, true, false, cond}
use mathlib.Core.List.{List, [], ◌∷◌, ◌++◌, append_assoc}
use Prim.Native.Nat.{ℕ, ◌+◌}
use native.Mathlib.Omega.{arith}
use lib.ListN.{length, length-append}
use Rattle.line.specs.declared.Event.{Event}
use Rattle.line.specs.Station.{Plan}
use Rattle.rules.specs.Engine.{Call, Post}
use Rattle.rules.specs.Demand.{Made, is_refused, post_in, posts, named_in, retracted, among, without, fed}
use Rattle.engine_promises.specs.Answers.{post_said}
use Rattle.engine.specs.Session.{made, Chain, end, post}
use Rattle.figure.proofs.Fed.{chain_join}
use Rattle.scenario.specs.Scenario.{numbered}
use Rattle.scenario_posting.specs.Promises.{AllPosted, none, more}

-- ---- one more

posts_snoc : (p : Plan) (n : ℕ) (ms : List Made) (m : Made) → posts p n (ms ++ (m ∷ [])) ≡ posts p n ms ++ posts p (n + length (posts p n ms)) (m ∷ [])
unfolding posts
posts_snoc p n [] m = ap (λ (k : ℕ). posts p k (m ∷ [])) (let z : n ≡ n + 0 = omega arith in z)
posts_snoc p n (x ∷ ms) m =
    let es : List Event = cond (is_refused x.said) [] (post_in p n x.asked) in
    let k : n + length es + length (posts p (n + length es) ms) ≡ n + length (es ++ posts p (n + length es) ms) = omega (arith, length-append es (posts p (n + length es) ms)) in
    ap (λ l. es ++ l) (posts_snoc p (n + length es) ms m ∙ ap (λ (j : ℕ). posts p (n + length es) ms ++ posts p j (m ∷ [])) k)
    ∙ sym (append_assoc es (posts p (n + length es) ms) (posts p (n + length (es ++ posts p (n + length es) ms)) (m ∷ [])))

numbered_snoc : (p : Plan) (n : ℕ) (cs : List Call) (c : Call) → numbered p n (cs ++ (c ∷ [])) ≡ numbered p n cs ++ numbered p (n + length (numbered p n cs)) (c ∷ [])
unfolding numbered
numbered_snoc p n [] c = ap (λ (k : ℕ). numbered p k (c ∷ [])) (let z : n ≡ n + 0 = omega arith in z)
numbered_snoc p n (x ∷ cs) c =
    let es : List Event = post_in p n x in
    let k : n + length es + length (numbered p (n + length es) cs) ≡ n + length (es ++ numbered p (n + length es) cs) = omega (arith, length-append es (numbered p (n + length es) cs)) in
    ap (λ l. es ++ l) (numbered_snoc p (n + length es) cs c ∙ ap (λ (j : ℕ). numbered p (n + length es) cs ++ numbered p j (c ∷ [])) k)
    ∙ sym (append_assoc es (numbered p (n + length es) cs) (numbered p (n + length (es ++ numbered p (n + length es) cs)) (c ∷ [])))

one_post : (p : Plan) (n : ℕ) (m : Made) → is_refused m.said ≡ false → posts p n (m ∷ []) ≡ numbered p n (m.asked ∷ [])
unfolding posts numbered
one_post p n m e = rw e

retracted_snoc : (ms : List Made) (m : Made) → retracted ms ≡ [] → named_in m.asked ≡ [] → retracted (ms ++ (m ∷ [])) ≡ []
unfolding retracted
retracted_snoc [] m e k = rw k (neither (is_refused m.said))
  where
    neither : (b : Bool) → cond {A = List ℕ} b [] [] ++ [] ≡ []
    neither true = refl
    neither false = refl
retracted_snoc (x ∷ ms) m e k = rest (cond (is_refused x.said) [] (named_in x.asked)) (retracted ms) e (λ j. retracted_snoc ms m j k)
  where
    rest : (ks bs : List ℕ) → ks ++ bs ≡ [] → (bs ≡ [] → retracted (ms ++ (m ∷ [])) ≡ []) → ks ++ retracted (ms ++ (m ∷ [])) ≡ []
    rest [] bs j f = f j
    rest (k ∷ ks) bs j f = absurd (let z : length ((k ∷ ks) ++ bs) ≡ 0 = ap length j in omega (arith, z))

post_names : (s t kind value : ℕ) → named_in (Post s t kind value) ≡ []
unfolding named_in
post_names s t kind value = refl

-- ---- all

-- the calls of accepted posts: nothing is retracted, and they feed these events
pub record PostsMade (cs : List Call) (xs ys : List ℕ) : Type 0 where
  pub calls : List Made
  pub chain : Chain xs calls ys
  pub feeds : (p : Plan) → posts p 0 calls ≡ numbered p 0 cs
  pub names : retracted calls ≡ []

pub posts_made : {xs ys : List ℕ} {cs : List Call} → AllPosted xs cs ys → PostsMade cs xs ys
unfolding posts numbered retracted
posts_made none = record { calls = []; chain = end; feeds = λ p. refl; names = refl }
posts_made {xs} {ys} (more {ys = ws} {cs = cs} {s = s} {t = t} {kind = kind} {value = value} r a w e) = one (posts_made a)
  where
    m : Made
    m = made (Post s t kind value) (post_said r)

    one : PostsMade cs xs ws → PostsMade (cs ++ (Post s t kind value ∷ [])) xs ys
    one d = record {
      calls = d.calls ++ (m ∷ []);
      chain = chain_join d.chain (post r w end);
      feeds = λ p.
          posts_snoc p 0 d.calls m
          ∙ ap (λ (l : List Event). l ++ posts p (0 + length l) (m ∷ [])) (d.feeds p)
          ∙ ap (λ (l : List Event). numbered p 0 cs ++ l) (one_post p (0 + length (numbered p 0 cs)) m e)
          ∙ sym (numbered_snoc p 0 cs (Post s t kind value));
      names = retracted_snoc d.calls m d.names (post_names s t kind value);
    }

without_none : (xs : List Event) → without [] xs ≡ xs
unfolding without among
without_none [] = refl
without_none (x ∷ xs) = ap (λ l. x ∷ l) (without_none xs)

pub posts_feed : {xs ys : List ℕ} {cs : List Call} (d : PostsMade cs xs ys) (p : Plan) → fed p d.calls ≡ numbered p 0 cs
unfolding fed
posts_feed d p = rw d.names (without_none (posts p 0 d.calls) ∙ d.feeds p)
