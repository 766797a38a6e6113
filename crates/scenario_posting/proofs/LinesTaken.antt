-- Line by line: what has been taken of a scenario's text up to a place.
use mathlib.Core.Path.{◌≡◌, refl, sym, ap, ◌∙◌, subst}
use mathlib.Core.Logic.{◌≢◌, ◌⊎◌, inl, inr}
use mathlib.Core.Bool.{Bool, true, false, cond, ◌||◌}
use mathlib.Core.List.{List, [], ◌∷◌, ◌++◌, append-nil, append_assoc}
use Prim.Native.Nat.{ℕ, suc, ◌+◌, ◌-◌, ◌≤◌, ◌<◌}
use native.Mathlib.Omega.{arith}
use lib.Dec.{ltb}
use lib.ListN.{length, get_or, take, drop, length-append, length-drop, take-append-drop, drop_of_length-le}
use lib.Seq.{take_all, take-suc, take-add, get_or-take, get_or-drop, drop-cons, drop-drop, length-take-le}
use borrow.Author.Tests.{ltb-true, ltb-false}
use Rattle.std.specs.Prelude.{Result, Ok, Err}
use Rattle.refusal.specs.declared.Refusal.{Refusal}
use Rattle.refusal.specs.Numbers.{number_of}
use Rattle.rules.specs.Engine.{Refused}
use Rattle.engine_promises.specs.Promises.{Answered}
use Rattle.line.proofs.All.{all_snoc}
use Rattle.scenario.specs.declared.Order.{Order}
use Rattle.scenario.specs.Orders.{order_line, FitsOrder}
use Rattle.scenario.proofs.Lines.{order_lines_snoc, order_calls_snoc, days_from_snoc, has_read_snoc}
use Rattle.scenario.proofs.Lines as Of
use Rattle.scenario.specs.Scenario.{order_lines, AllFit, days_in, days_from, days_of, order_calls, is_read, has_read}
use Rattle.scenario_posting.specs.declared.Asked.{Asked}
use Rattle.scenario_posting.specs.declared.LineRefused.{LineRefused as RefusedLine}
use Rattle.scenario_posting.specs.Promises.{AllPosted, none, FirstLine, NoOrder, PostRefused, AllTaken, LineRefused, TakesLines}
use Rattle.scenario_posting.specs.Steps.{EndsLine, next_line, IsOrder, Unread, RefusesOrder, OrderObeyed, TakesLine}
use Rattle.scenario_posting.proofs.Posts.{posted_join}
use Rattle.scenario_posting.proofs.FirstLines.{Unended, one_line, unended_at}

-- ---- a line of the text

-- the bytes from one place up to another
abbrev part : ℕ → ℕ → List ℕ → List ℕ
part from end text = take (end - from) (drop from text)

module _ {text : List ℕ} {from end : ℕ} (E : EndsLine text from end) where
  size : from + (end - from) ≡ end
  size = let a = E.after in omega arith

  -- the text up to its end
  up_to : take end text ≡ take from text ++ part from end text
  up_to = ap (λ (n : ℕ). take n text) (sym size) ∙ take-add from (end - from) text

  -- the text from its begin on
  from_there : drop from text ≡ part from end text ++ drop end text
  from_there =
      sym (take-append-drop (end - from) (drop from text))
      ∙ ap (λ (r : List ℕ). part from end text ++ r) (drop-drop (end - from) from text ∙ ap (λ (n : ℕ). drop n text) size)

  unended : Unended (part from end text)
  unended = unended_at (part from end text) (λ i h q. at i h q)
    where
      at : (i : ℕ) → i < length (part from end text) → get_or (part from end text) i 0 ≡ 10 → ⊥
      at i h q =
          let w = E.within in
          let m = length-drop from text in
          let k = length-take-le (end - from) (drop from text) (omega (arith, w, m)) in
          let l : i < end - from = omega (arith, k, h) in
          let e : get_or (part from end text) i 0 ≡ get_or text (from + i) 0 = get_or-take (end - from) (drop from text) i 0 l ∙ get_or-drop from text i 0 in
          E.unended (from + i) (omega arith) (omega (arith, l)) (sym e ∙ q)

  first : FirstLine (part from end text) (drop from text)
  first = go (ltb end (length text)) refl
    where
      go : (b : Bool) → ltb end (length text) ≡ b → FirstLine (part from end text) (drop from text)
      go true e =
          let l = ltb-true end (length text) e in
          inr (drop (suc end) text, from_there ∙ ap (λ (r : List ℕ). part from end text ++ r) (drop-cons text end 0 l ∙ ap (λ (b : ℕ). b ∷ drop (suc end) text) (E.ended l)))
      go false e =
          let l = ltb-false end (length text) e in
          inl (from_there ∙ ap (λ (r : List ℕ). part from end text ++ r) (drop_of_length-le text l) ∙ append-nil (part from end text))

-- ---- up to a place

-- so many lines are orders, and are obeyed; the place is after the byte that ends the last, or the text's end
pub record Begun (text : List ℕ) (from k days : ℕ) (read : Bool) (xs ys : List ℕ) : Type 0 where
  pub orders : List Order
  pub fit : AllFit orders
  pub counts : k ≡ length orders
  pub for_days : days ≡ days_of orders
  pub asks : read ≡ has_read orders
  pub posted : AllPosted xs (order_calls orders) ys
  pub few : k ≤ from
  pub within : from ≤ length text
  pub lines : (take from text ≡ order_lines orders) ⊎ ((from ≡ length text) × ((text ++ 10 ∷ []) ≡ order_lines orders))

pub none_begun : {text xs : List ℕ} → Begun text 0 0 1 false xs xs
unfolding days_from has_read order_calls order_lines
none_begun = record {
  orders = [];
  fit = tt;
  counts = refl;
  for_days = refl;
  asks = refl;
  posted = none;
  few = omega arith;
  within = omega arith;
  lines = inl refl;
}

module _ {text : List ℕ} {from k days : ℕ} {read : Bool} {xs ys : List ℕ} (B : Begun text from k days read xs ys) where
  pub all_taken : length text ≤ from → AllTaken text days read xs ys
  all_taken h = record {
    orders = B.orders;
    says = record { fit = B.fit; lines = go B.lines };
    for_days = B.for_days;
    asks = B.asks;
    posted = B.posted;
  }
    where
      go : (take from text ≡ order_lines B.orders) ⊎ ((from ≡ length text) × ((text ++ 10 ∷ []) ≡ order_lines B.orders))
          → (text ≡ order_lines B.orders) ⊎ ((text ++ 10 ∷ []) ≡ order_lines B.orders)
      go (inl e) = inl (sym (take_all from text h) ∙ e)
      go (inr e) = inr e.1

  module _ (l : from < length text) where
    so_far : take from text ≡ order_lines B.orders
    so_far = go B.lines
      where
        go : (take from text ≡ order_lines B.orders) ⊎ ((from ≡ length text) × ((text ++ 10 ∷ []) ≡ order_lines B.orders)) → take from text ≡ order_lines B.orders
        go (inl e) = e
        go (inr e) = absurd (omega (arith, e.0))

    module _ {end : ℕ} (E : EndsLine text from end) {r : Result Asked Refusal} {zs : List ℕ} (K : TakesLine days read (part from end text) ys r zs) where
      -- the text up to the line's end
      joined : {o : Order} → IsOrder o (part from end text) → take end text ≡ order_lines B.orders ++ order_line o
      joined {o} i = up_to E ∙ ap (λ (a : List ℕ). a ++ part from end text) so_far ∙ ap (λ (a : List ℕ). order_lines B.orders ++ a) i.line_is

      with_end : {o : Order} {t : List ℕ} → IsOrder o (part from end text) → t ≡ take end text ++ (10 ∷ []) → t ≡ order_lines (B.orders ++ (o ∷ []))
      with_end {o} {t} i e =
          e
          ∙ ap (λ (a : List ℕ). a ++ (10 ∷ [])) (joined i)
          ∙ append_assoc (order_lines B.orders) (order_line o) (10 ∷ [])
          ∙ sym (order_lines_snoc B.orders o)

      lines_on : {o : Order} → IsOrder o (part from end text)
          → (take (next_line end (length text)) text ≡ order_lines (B.orders ++ (o ∷ [])))
          ⊎ ((next_line end (length text) ≡ length text) × ((text ++ 10 ∷ []) ≡ order_lines (B.orders ++ (o ∷ []))))
      lines_on {o} i = go (ltb end (length text)) refl
        where
          go : (b : Bool) → ltb end (length text) ≡ b
              → (take (cond b (end + 1) end) text ≡ order_lines (B.orders ++ (o ∷ [])))
              ⊎ ((cond b (end + 1) end ≡ length text) × ((text ++ 10 ∷ []) ≡ order_lines (B.orders ++ (o ∷ []))))
          go true e =
              let h = ltb-true end (length text) e in
              inl (with_end i (ap (λ (n : ℕ). take n text) (let z : end + 1 ≡ suc end = omega arith in z) ∙ take-suc text end 0 h ∙ ap (λ (b : ℕ). take end text ++ (b ∷ [])) (E.ended h)))
          go false e =
              let h = ltb-false end (length text) e in
              inr (let w = E.within in omega (arith, w, h), with_end i (ap (λ (t : List ℕ). t ++ (10 ∷ [])) (sym (take_all end text h))))

      some_on : k + 1 ≤ next_line end (length text)
      some_on = go (ltb end (length text)) refl
        where
          go : (b : Bool) → ltb end (length text) ≡ b → k + 1 ≤ cond b (end + 1) end
          go true e = omega (arith, B.few, E.after)
          go false e = omega (arith, B.few, ltb-false end (length text) e, l)

      in_text : next_line end (length text) ≤ length text
      in_text = go (ltb end (length text)) refl
        where
          go : (b : Bool) → ltb end (length text) ≡ b → cond b (end + 1) end ≤ length text
          go true e = omega (arith, ltb-true end (length text) e)
          go false e = E.within

      pub line_on : {a : Asked} → r ≡ Ok a → Begun text (next_line end (length text)) (k + 1) a.days a.read xs zs
      line_on {a} q = on (K.on a q)
        where
          on : (o : Order) × IsOrder o (part from end text) × OrderObeyed days read o ys a.days a.read zs
              → Begun text (next_line end (length text)) (k + 1) a.days a.read xs zs
          on w =
              let o : Order = w.0 in
              record {
                orders = B.orders ++ (o ∷ []);
                fit = all_snoc FitsOrder B.orders o B.fit w.1.fits;
                counts = omega (arith, B.counts, length-append B.orders (o ∷ []));
                for_days = w.2.days_then ∙ ap (λ (n : ℕ). days_in n o) B.for_days ∙ sym (days_from_snoc 1 B.orders o);
                asks = w.2.read_then ∙ ap (λ (a : Bool). a || is_read o) B.asks ∙ sym (has_read_snoc B.orders o);
                posted = subst (λ cs. AllPosted xs cs zs) (sym (order_calls_snoc B.orders o)) (posted_join (order_calls B.orders) B.posted w.2.posts);
                few = some_on;
                within = in_text;
                lines = lines_on w.1;
              }

      -- ---- a line that is refused

      refuses : {e : Refusal} → zs ≡ ys → NoOrder (drop from text) e ⊎ PostRefused (drop from text) e zs → LineRefused text (k + 1) e xs zs
      refuses same why = record {
        orders = B.orders;
        fit = B.fit;
        rest = drop from text;
        begins = sym (take-append-drop from text) ∙ ap (λ (a : List ℕ). a ++ drop from text) so_far;
        counts = omega (arith, B.counts);
        posted = subst (λ l. AllPosted xs (order_calls B.orders) l) (sym same) B.posted;
        reason = why;
      }

      left : drop from text ≢ []
      left e = let z : length (drop from text) ≡ 0 = ap length e in absurd (omega (arith, length-drop from text, z, l))

      pub line_refused : {e : Refusal} → r ≡ Err e → LineRefused text (k + 1) e xs zs
      line_refused {e} q = go (K.refused e q)
        where
          go : Unread (part from end text) e ys zs ⊎ ((o : Order) × IsOrder o (part from end text) × RefusesOrder o e ys zs) → LineRefused text (k + 1) e xs zs
          go (inl u) =
              refuses u.same (inl (record {
                some = left;
                none = λ o f p. u.none o f (one_line (part from end text) (order_line o) (drop from text) (unended E) (unended_at (order_line o) (Of.unended o)) (first E) p);
                number = u.number;
              }))
          go (inr w) =
              refuses w.2.same (inr (record {
                order = w.0;
                fits = w.1.fits;
                first = subst (λ m. FirstLine m (drop from text)) w.1.line_is (first E);
                call = w.2.call;
                asks = w.2.asks;
                refused = subst (λ m. Answered w.2.call (Refused (number_of e)) m m) (sym w.2.same) w.2.refused;
              }))

-- ---- the answers

pub later : {text : List ℕ} {from end : ℕ} → from < length text → EndsLine text from end → from < next_line end (length text)
later {text} {from} {end} l E = go (ltb end (length text)) refl
  where
    go : (b : Bool) → ltb end (length text) ≡ b → from < cond b (end + 1) end
    go true e = omega (arith, E.after)
    go false e = omega (arith, ltb-false end (length text) e, l)

pub lines_all : {text xs ys : List ℕ} {a : Asked} → AllTaken text a.days a.read xs ys → TakesLines text xs (Ok a) ys
lines_all {text} {xs} {ys} {a} t = record {
  all = λ b q. let h : a ≡ b = cc in subst (λ (c : Asked). AllTaken text c.days c.read xs ys) h t;
  refused = λ l q. cc;
}

pub lines_refused : {text xs ys : List ℕ} {l : RefusedLine} → LineRefused text l.line l.refusal xs ys → TakesLines text xs (Err l) ys
lines_refused {text} {xs} {ys} {l} t = record {
  all = λ b q. cc;
  refused = λ m q. let h : l ≡ m = cc in subst (λ (n : RefusedLine). LineRefused text n.line n.refusal xs ys) h t;
}
