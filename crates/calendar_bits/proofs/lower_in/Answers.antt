-- A bucket that is filled is left; else the node's bit is cleared, and the root's where the node is 0 then.
use mathlib.Core.Path.{refl, sym, ◌∙◌}
use mathlib.Core.Logic.{inl, inr}
use native.Mathlib.Omega.{arith}
use Rattle.calendar_shapes.proofs.Powers.{row_sizes}
use Rattle.calendar_bits.proofs.Refreshes.{refresh_out, inside, lower_nothing, lower_one_at, lower_two_at}
use Rattle.calendar_bits.proofs.lower_in.Goals as goal

pub returns-then-leaves-list : goal.returns-then-leaves-list
returns-then-leaves-list c = record {
  lowered = refresh_out _ _ _ _ (inl (let e = c.leaves.ensures.0 in omega (arith, c.if-leaves-list.true)));
  none = λ h. refl;
}

pub returns-then-b-table_bytes : goal.returns-then-b-table_bytes
returns-then-b-table_bytes c = record {
  lowered = refresh_out _ _ _ _ (inr (let e = c.table_bytes.ensures.0 in omega (arith, c.if-b-table_bytes.true)));
  none = λ h. refl;
}

pub returns-then-link-ne0 : goal.returns-then-link-ne0
returns-then-link-ne0 c = record {
  lowered = lower_nothing _ _ _ (rw (← c.link.ensures) c.if-link-ne0.true);
  none = λ h. refl;
}

pub returns-then-y-eq0 : goal.returns-then-y-eq0
returns-then-y-eq0 c =
    let leaves = c.leaves in
    let if1 = c.if-leaves-list in
    let table-bytes = c.table_bytes in
    let if2 = c.if-b-table_bytes in
    let link = c.link in
    let if3 = c.if-link-ne0 in
    let arity = c.arity-a in
    let above = c.above-j in
    let nodes-at = c.nodes_at in
    let word = c.word in
    let child-of = c.child_of in
    let with-child = c.with_child-y in
    let set_word = c.set_word in
    let if4 = c.if-y-eq0 in
    let above2 = c.above-r in
    let word2 = c.word-then-y-eq0 in
    let child-of2 = c.child_of-then-y-eq0 in
    let with-child2 = c.with_child in
    let set-word2 = c.set_word-then-y-eq0 in record {
      lowered = lower_two_at _ (row_sizes _) _ _ _ _ _ _ _ _ (sym link.ensures ∙ if3.false) arity.ensures.0 nodes-at.ensures.0 above.ensures.0
          child-of.ensures.0 set_word.ensures (rw (← word.ensures) with-child.ensures.child) if4.true _ _ _ _ above2.ensures.0
          child-of2.ensures.0 set-word2.ensures (rw (← word2.ensures) with-child2.ensures.child);
      none = λ h. absurd (inside _ _ _ _ _ leaves.ensures.0 table-bytes.ensures.0 if1.false if2.false h);
    }

pub returns-else-y-eq0 : goal.returns-else-y-eq0
returns-else-y-eq0 c =
    let leaves = c.leaves in
    let if1 = c.if-leaves-list in
    let table-bytes = c.table_bytes in
    let if2 = c.if-b-table_bytes in
    let link = c.link in
    let if3 = c.if-link-ne0 in
    let arity = c.arity-a in
    let above = c.above-j in
    let nodes-at = c.nodes_at in
    let word = c.word in
    let child-of = c.child_of in
    let with-child = c.with_child-y in
    let set_word = c.set_word in record {
      lowered = lower_one_at _ (row_sizes _) _ _ _ _ _ _ _ _ (sym link.ensures ∙ if3.false) arity.ensures.0 nodes-at.ensures.0 above.ensures.0
          child-of.ensures.0 set_word.ensures (rw (← word.ensures) with-child.ensures.child) c.if-y-eq0.false;
      none = λ h. absurd (inside _ _ _ _ _ leaves.ensures.0 table-bytes.ensures.0 if1.false if2.false h);
    }
