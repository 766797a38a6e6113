-- Log parts read one after the other, each read known by its promise alone: the bytes stand for the costs of the log read so far.
use mathlib.Core.Path.{◌≡◌, refl, sym, ap, ◌∙◌, subst}
use mathlib.Core.Bool.{false}
use mathlib.Core.List.{List, [], ◌∷◌, ◌++◌, append-nil, append_assoc}
use Prim.Native.Nat.{ℕ, ◌+◌, ◌%◌, ◌<◌}
use native.Mathlib.Omega.{arith}
use borrow.Author.Tests.{lt-leb}
use lib.ListN.{length, length-append}
use Rattle.std.specs.Prelude.{Result, Ok, Err, ⊤}
use Rattle.words.proofs.Sums.{sum_same}
use Rattle.refusal.specs.declared.Refusal.{Refusal}
use Rattle.refusal.specs.declared.Refusal.TheVariants.{Space, Part}
use Rattle.refusal.specs.Tests.{account_space_out}
use Rattle.refusal.specs.Cases.{first_of}
use Rattle.line.specs.Order.{All}
use Rattle.line.proofs.Members.{all_append}
use Rattle.account_parts.specs.Part.{first_entries, entries_of, any_entry_out, part_out}
use Rattle.account_parts.specs.Cost.{cost_at}
use Rattle.account_parts.proofs.Costs.{cost_join, targets_in, sum_costs}
use Rattle.account_parts.proofs.Joined.{entries_join}
use Rattle.account_parts.proofs.WholeParts.{part_whole}
use Rattle.account.specs.Account.{reading_cost, frame_cost, charge_at, charged, part_cases}
use Rattle.account.specs.Promises.{HoldsAccount, ReadsPart, charge_of}
use Rattle.account.specs.Session.{Handed, PartsRead, end, next, taken_of, log_read, AccountClaim}
use Rattle.account.proofs.Adding.{passes_same}
use Rattle.account.proofs.Answers.{passed, said_number}

-- ---- a part that is taken has whole entries, and 19 refuses none of them

taken_whole : (n bytes a b : ℕ) (f : ℕ → ℕ) (part : List ℕ) → ◌≡◌ {A = Result ⊤ Refusal} (Ok tt) (first_of Err (part_cases n bytes a b f part) (Ok tt))
    → (length part % 24 ≡ 0) × (any_entry_out n (entries_of part) ≡ false)
taken_whole n bytes a b f part h = part_whole n part (passed (part_out n part) Part _ (passed (account_space_out n bytes) Space _ h).1).0

-- ---- the bytes between two parts

-- they stand for the costs a and b and the log
record Stands (n a b bytes : ℕ) (log xs : List ℕ) : Type 0 where
  size : length xs ≡ bytes
  reading : reading_cost xs ≡ a
  frame : frame_cost xs ≡ b
  charges : (s : ℕ) → s < n → charge_at xs s ≡ cost_at a b s (entries_of log)
  whole : length log % 24 ≡ 0
  targets : All (λ e. e.target < n) (entries_of log)

module _ (n a b bytes : ℕ) where
  judged_by : (log xs : List ℕ) (h : Handed) (ys : List ℕ) → Stands n a b bytes log xs → ReadsPart n h.part xs h.said ys
      → h.said ≡ first_of Err (part_cases n bytes a b (λ s. cost_at a b s (entries_of log)) h.part) (Ok tt)
  judged_by log xs h ys k r =
      r.answer
      ∙ rw (k.size, k.reading, k.frame, passes_same n (charged a b (charge_at xs) (entries_of h.part)) (charged a b (λ s. cost_at a b s (entries_of log)) (entries_of h.part)) (λ s l. ap (λ v. v + cost_at a b s (entries_of h.part)) (k.charges s l)))

  stands_next : (log xs : List ℕ) (h : Handed) (ys : List ℕ) → Stands n a b bytes log xs → ReadsPart n h.part xs h.said ys
      → Stands n a b bytes (log ++ taken_of h.part h.said) ys
  stands_next log xs h ys k r = go h.said refl
    where
      go : (v : Result ⊤ Refusal) → h.said ≡ v → Stands n a b bytes (log ++ taken_of h.part v) ys
      go (Err e) q = rw (append-nil log, r.refusal e q) k
      go (Ok _) q = record {
        size = t.size ∙ k.size;
        reading = t.reading ∙ k.reading;
        frame = t.frame ∙ k.frame;
        charges = λ s l. t.charges s l ∙ rw (k.reading, k.frame, k.charges s l, joined) (sym (cost_join a b s (entries_of log) (entries_of h.part)));
        whole = omega (arith, k.whole, p.0, length-append log h.part);
        targets = rw joined (all_append (λ e. e.target < n) (entries_of log) (entries_of h.part) k.targets (targets_in n (entries_of h.part) p.1));
      }
        where
          t : HoldsAccount n (reading_cost xs) (frame_cost xs) (charged (reading_cost xs) (frame_cost xs) (charge_at xs) (entries_of h.part)) xs ys
          t = r.takes q

          p : (length h.part % 24 ≡ 0) × (any_entry_out n (entries_of h.part) ≡ false)
          p = taken_whole n bytes a b (λ s. cost_at a b s (entries_of log)) h.part (sym q ∙ judged_by log xs h ys k r)

          joined : entries_of (log ++ h.part) ≡ entries_of log ++ entries_of h.part
          joined = entries_join log h.part k.whole

  parts_stand : (log : List ℕ) {xs ys : List ℕ} {hs : List Handed} → Stands n a b bytes log xs → PartsRead n xs hs ys → Stands n a b bytes (log ++ log_read hs) ys
  unfolding log_read
  parts_stand log k end = rw (append-nil log) k
  parts_stand log k (next {xs = xs} {ys = ys} {zs = zs} {h = h} {hs = hs} r c) =
      subst (λ l. Stands n a b bytes l zs) (append_assoc log (taken_of h.part h.said) (log_read hs))
      (parts_stand (log ++ taken_of h.part h.said) (stands_next log xs h ys k r) c)

  -- a part in the middle of the list
  parts_judged : (log : List ℕ) {xs ys : List ℕ} (bs : List Handed) (h : Handed) (cs : List Handed) → Stands n a b bytes log xs → PartsRead n xs (bs ++ (h ∷ cs)) ys
      → h.said ≡ first_of Err (part_cases n bytes a b (λ s. cost_at a b s (entries_of (log ++ log_read bs))) h.part) (Ok tt)
  unfolding log_read
  parts_judged log [] h cs k (next {xs = xs} {ys = ys} r c) = rw (append-nil log) (judged_by log xs h ys k r)
  parts_judged log (d ∷ bs) h cs k (next {xs = xs} {ys = ys} r c) =
      subst (λ l. h.said ≡ first_of Err (part_cases n bytes a b (λ s. cost_at a b s (entries_of l)) h.part) (Ok tt)) (append_assoc log (taken_of d.part d.said) (log_read bs))
      (parts_judged (log ++ taken_of d.part d.said) bs h cs (stands_next log xs d ys k r) c)

-- ---- the claim

units_same : {v w : ℕ} → ◌≡◌ {A = Result ℕ Refusal} (Ok v) (Ok w) → v ≡ w
units_same q = cc

pub account_claim : AccountClaim
unfolding cost_at entries_of first_entries charge_of
account_claim n a b before xs ys hs o c = record {
  sum = λ f h. sum_same n f (λ s. cost_at a b s (entries_of (log_read hs))) (λ s l. units_same (sym (h s l) ∙ each s l)) ∙ sum_costs n a b (entries_of (log_read hs)) w.targets;
  each = each;
  judges = judges;
  numbers = λ bs h cs e. said_number (part_cases n (length before) a b (λ s. cost_at a b s (entries_of (log_read bs))) h.part) h.said (judges bs h cs e);
}
  where
    t : HoldsAccount n a b (λ s. 0) before xs
    t = o.opens refl

    first : Stands n a b (length before) [] xs
    first = record { size = t.size; reading = t.reading; frame = t.frame; charges = λ s l. t.charges s l; whole = refl; targets = tt }

    w : Stands n a b (length before) (log_read hs) ys
    w = parts_stand n a b (length before) [] first c

    each : (s : ℕ) → s < n → charge_of n s ys ≡ Ok (cost_at a b s (entries_of (log_read hs)))
    each s l = rw (w.size, (passed (account_space_out n (length before)) Space (Ok tt) o.answer).0, lt-leb n s l, w.charges s l)

    judges : (bs : List Handed) (h : Handed) (cs : List Handed) → hs ≡ bs ++ (h ∷ cs)
        → h.said ≡ first_of Err (part_cases n (length before) a b (λ s. cost_at a b s (entries_of (log_read bs))) h.part) (Ok tt)
    judges bs h cs e = parts_judged n a b (length before) [] bs h cs first (subst (λ l. PartsRead n xs l ys) e c)
