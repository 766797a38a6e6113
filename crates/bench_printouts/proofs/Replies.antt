-- Two engines of one state reply the same to a command line, and are of one state then.
use mathlib.Core.Path.{◌≡◌, refl, sym, ap, ◌∙◌, subst}
use mathlib.Core.List.{List}
use Prim.Native.Nat.{ℕ}
use lib.ListN.{length, replicate}
use Rattle.line.specs.declared.Event.{Event}
use Rattle.line.specs.Station.{Plan}
use Rattle.rules.specs.Engine.{Engine, Call, Commit, Answer}
use Rattle.rules.specs.Alike.{blanked, trimmed}
use Rattle.rules.proofs.Calls.Invariant.{Inv}
use Rattle.rules.proofs.Calls.Step.{call_next}
use Rattle.rules.proofs.Calls.Alike.{same_answer}
use Rattle.engine_promises.specs.Represents.{Represents}
use Rattle.engine_promises.specs.Promises.{Answered}
use Rattle.bench_command.specs.declared.Command.{Command}
use Rattle.bench_command.specs.declared.Command.TheVariants as Line
use Rattle.bench_parsing.proofs.Inverse.{one_line}
use Rattle.bench_answers.specs.Shown.{call_of}
use Rattle.bench_answers.specs.Promises.{Obeyed, Replied, obeyed, unread}
use Rattle.bench_printouts.proofs.Lines.{same_lines}

-- two buffers stand for one engine that calls have left
pub record Twins (p : Plan) (xs ys : List ℕ) : Type 0 where
  pub engine : Engine
  pub posts : List Event
  pub gone : List ℕ
  pub log : List ℕ
  pub inv : Inv p engine posts gone log
  pub one : Represents p engine xs
  pub other : Represents p engine ys

-- ---- a call

answered_same : {p : Plan} {xs xs' ys ys' : List ℕ} {a b : Answer} (c d : Call) → blanked c ≡ blanked d → Twins p xs ys → Answered c a xs xs'
    → Answered d b ys ys' → (trimmed a ≡ trimmed b) × Twins p xs' ys'
answered_same {p} {ys' = ys'} c d k t x y =
    let S = t.one.range in
    let m = x.answer p t.engine t.one in
    let n = y.answer p t.engine t.other in
    let z = same_answer p S t.posts t.gone t.log t.inv c d k m.answers n.answers in (
      z.0,
      record {
        engine = m.after;
        posts = _;
        gone = _;
        log = _;
        inv = (call_next p S t.posts t.gone t.log m.answers t.inv).inv;
        one = m.represents;
        other = subst (λ e. Represents p e ys') (sym z.1) n.represents;
      },
    )

-- ---- a command

same_call : (c : Command) (output other : List ℕ) → length output ≡ length other → blanked (call_of c output) ≡ blanked (call_of c other)
unfolding blanked
same_call (Line.Post station time kind value) output other e = refl
same_call (Line.Retract number) output other e = refl
same_call Line.Run output other e = refl
same_call (Line.RunStation station) output other e = refl
same_call (Line.Commit time) output other e = ap (λ (n : ℕ). Commit time (replicate n 0)) e

obeyed_same : {p : Plan} {xs xs' ys ys' printed more : List ℕ} (c : Command) → Twins p xs ys → Obeyed c xs xs' printed → Obeyed c ys ys' more
    → (printed ≡ more) × Twins p xs' ys'
obeyed_same c t x y =
    let k = same_call c x.output y.output (x.size ∙ sym y.size) in
    let z = answered_same (call_of c x.output) (call_of c y.output) k t x.answered y.answered in
    (x.lines ∙ same_lines x.said y.said z.0 ∙ sym y.lines, z.1)

-- ---- a line

pub replied_same : {p : Plan} {line xs xs' ys ys' printed more : List ℕ} → Twins p xs ys → Replied line xs xs' printed → Replied line ys ys' more
    → (printed ≡ more) × Twins p xs' ys'
replied_same t (unread u) (unread v) = (refl, t)
replied_same t (unread u) (obeyed c f e o) = absurd (u c f e)
replied_same t (obeyed c f e o) (unread v) = absurd (v c f e)
replied_same {ys = ys} {ys' = ys'} {more = more} t (obeyed c f e o) (obeyed d g k q) =
    obeyed_same c t o (subst (λ h. Obeyed h ys ys' more) (sym (one_line c d f g (sym e ∙ k))) q)
