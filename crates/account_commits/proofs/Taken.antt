-- Parts of whole entries that 19 does not refuse are taken one after the other, where no charge for all of them passes 64 bits.
use mathlib.Core.Path.{◌≡◌, refl, sym, ap, ◌∙◌}
use mathlib.Core.Bool.{false}
use mathlib.Core.List.{List, [], ◌∷◌, ◌++◌, append-nil, append_assoc, map, flatten}
use Prim.Native.Nat.{ℕ, ◌+◌, ◌%◌, ◌≤◌, ◌<◌}
use native.Mathlib.Omega.{arith}
use borrow.Author.Tests.{ltb-false}
use lib.ListN.{length, length-append}
use Rattle.std.specs.Prelude.{Ok}
use Rattle.refusal.specs.Tests.{account_space_out, charge_passes}
use Rattle.line.specs.Order.{All}
use Rattle.account_parts.specs.Part.{entries_of, part_out}
use Rattle.account_parts.specs.Cost.{cost_at}
use Rattle.account_parts.proofs.Costs.{cost_join}
use Rattle.account_parts.proofs.Joined.{entries_join}
use Rattle.account_parts.proofs.WholeParts.{part_whole}
use Rattle.account.specs.Account.{charged}
use Rattle.account.specs.Session.{Handed, taken_of, log_read, AccountSession}
use Rattle.account.proofs.Adding.{none_passes}

-- ---- the log read

abbrev joined : List Handed → List ℕ
joined hs = flatten (map (λ h. h.part) hs)

read_one : (h : Handed) → h.said ≡ Ok tt → taken_of h.part h.said ≡ h.part
read_one h d = rw d

read_more : (hs : List Handed) (h : Handed) → h.said ≡ Ok tt → log_read (hs ++ (h ∷ [])) ≡ log_read hs ++ h.part
unfolding log_read
read_more [] h d = append-nil _ ∙ read_one h d
read_more (k ∷ hs) h d = ap (λ l. taken_of k.part k.said ++ l) (read_more hs h d) ∙ sym (append_assoc (taken_of k.part k.said) (log_read hs) h.part)

read_all : (hs : List Handed) → All (λ h. h.said ≡ Ok tt) hs → log_read hs ≡ joined hs
unfolding log_read flatten
read_all [] a = refl
read_all (h ∷ hs) a = rw (read_one h a.0, read_all hs a.1)

-- ---- part after part

-- what two parts cost is at most what they cost with a third
cost_front : (a b s : ℕ) (xs ys zs : List ℕ) → length xs % 24 ≡ 0 → length ys % 24 ≡ 0
    → cost_at a b s (entries_of xs) + cost_at a b s (entries_of ys) ≤ cost_at a b s (entries_of (xs ++ (ys ++ zs)))
cost_front a b s xs ys zs h k =
    rw (entries_join xs (ys ++ zs) h, entries_join ys zs k)
    (omega (arith, cost_join a b s (entries_of xs) (entries_of ys ++ entries_of zs), cost_join a b s (entries_of ys) (entries_of zs)))

module _ (n a b bytes : ℕ) (hs : List Handed) (ys : List ℕ) (c : AccountSession n a b bytes hs ys) (space : account_space_out n bytes ≡ false) (log : List ℕ)
    (low : (s : ℕ) → s < n → charge_passes (cost_at a b s (entries_of log)) ≡ false) where
  -- those after the first ones, where these are taken
  taken_after : (before after : List Handed) → hs ≡ before ++ after → log ≡ log_read before ++ joined after → length (log_read before) % 24 ≡ 0
      → All (λ part. part_out n part ≡ false) (map (λ h. h.part) after) → All (λ h. h.said ≡ Ok tt) after
  unfolding flatten
  taken_after before [] e j w f = tt
  taken_after before (h ∷ after) e j w f =
      (done, taken_after (before ++ (h ∷ [])) after (e ∙ sym (append_assoc before (h ∷ []) after)) next whole_now f.1)
    where
      whole : length h.part % 24 ≡ 0
      whole = (part_whole n h.part f.0).0

      room : (s : ℕ) → s < n → charged a b (λ s. cost_at a b s (entries_of (log_read before))) (entries_of h.part) s ≤ 18446744073709551615
      room s l =
          omega (
            arith,
            ltb-false 18446744073709551615 (cost_at a b s (entries_of log)) (low s l),
            ap (λ x. cost_at a b s (entries_of x)) j,
            cost_front a b s (log_read before) h.part (joined after) w whole,
          )

      done : h.said ≡ Ok tt
      done = c.judges before h after e ∙ rw (space, f.0, none_passes n _ room)

      whole_now : length (log_read (before ++ (h ∷ []))) % 24 ≡ 0
      whole_now = rw (read_more before h done) (omega (arith, length-append (log_read before) h.part, whole))

      next : log ≡ log_read (before ++ (h ∷ [])) ++ joined after
      next = rw (read_more before h done) (j ∙ sym (append_assoc (log_read before) h.part (joined after)))

  pub all_taken : log ≡ joined hs → All (λ part. part_out n part ≡ false) (map (λ h. h.part) hs) → All (λ h. h.said ≡ Ok tt) hs × (log_read hs ≡ log)
  unfolding log_read
  all_taken j f =
      let d = taken_after [] hs refl j refl f in
      (d, read_all hs d ∙ sym j)
