-- The bytes that have room stand after what the line had: the front of both, 192 bytes at most.
use Rattle.std.proofs.Common.{◌≡◌, ◌≤◌, ◌+◌, ◌-◌, ℕ, List, ◌++◌, length, take, min, arith, sym, ap, ◌∙◌}
use Rattle.std.proofs.lemmas.List.{length-take, take_min}
use Rattle.std.proofs.lemmas.Slice.{take-put_mid}
use Rattle.std.proofs.Math.Seq.{take-append-add}
use borrow.Rule.Slice.PartMut.{put_mid}
use Rattle.quote_lines.proofs.LineWrite.write.Goals as goal

front_of_both : (l n k : ℕ) (xs now buf ys : List ℕ) → length xs ≡ 192 → l ≤ 192 → take l xs ≡ now → n ≡ min (length buf) (192 - l) → ys ≡ take n buf
    → take (l + n) (put_mid l k xs ys) ≡ take 192 (now ++ buf)
front_of_both l n k xs now buf ys size le is few put =
    let had : length now ≡ l = omega (arith, ap length is, length-take l xs) in
    let more : length ys ≡ n = omega (arith, ap length put, length-take n buf) in
    let fits : n ≡ min (192 - l) (length buf) = omega arith in
    let room : length now + (192 - l) ≡ 192 = omega arith in
    take-put_mid l k xs ys (l + n) (omega arith) (omega arith)
    ∙ ap (λ (a : List ℕ). a ++ ys) is
    ∙ ap (λ (a : List ℕ). now ++ a) (put ∙ ap (λ (i : ℕ). take i buf) fits ∙ take_min (192 - l) buf)
    ∙ sym (take-append-add now buf (192 - l))
    ∙ ap (λ (i : ℕ). take i (now ++ buf)) room

pub returns-clause-gathered : goal.returns-clause-gathered
returns-clause-gathered c =
    let l = c.self.inside in
    front_of_both l.len _ _ l.bytes _ _ _ c.self.told c.self.invariant c.self.view_is c.min-n.ensures c.copy_from_slice.ensures.after
